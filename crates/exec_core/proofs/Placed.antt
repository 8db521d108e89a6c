-- Each worker and each caller of an executor is at a place where it may be, by what holds of each worker and of all parties
-- together; and so holds what the laws of what is settled take for granted, of who waits for what. That no wake is lost rests on both.
use Rattle.std.proofs.{Common.{Bool, Contains, List, None, Option, Some, [], ap, arith, false, get_or, is_some, length, map, nat_lt, not, option_map, refl, slice_get, slice_index_or, subst, suc, sym, true, ℕ, ◌&&◌, ◌++◌, ◌+◌, ◌-◌, ◌<◌, ◌==◌, ◌∙◌, ◌∷◌, ◌≡◌}, lemmas.{Bool.{false_from_ne_true, false≢true, lt-ltb, ltb-true, not-true, or_parts, true≢false}, List.length-map, Option.slice_get-map}}
use Rattle.exec_core.{specs.{Words.{desk_at, no_request, Configuration, MailMessage, Request, Sleeper, Waiting, WorkerPhase, Plan, is_runnable, has_ended, is_open, is_done, is_closing, Task, Common, Seat, no_task, request_of, seat_of, sleeper_of, task_of, Reserved, Message, is_polled, Runnable, Phase, CallPlace, InClosing, Place, CallDesk, no_call, Playing, next_at, polls_at, IsPlaced, is_end, is_fed, is_idle, stays_closing, is_abed, is_in_call, Subject, Chair, TaskSlot, Worker, Record, SleeperRecord, closes_at, closing_in, has_shut, is_complete, root_over, has_left, Spot, Visible, desk_of, inbox_at, message_of, phase_seen, polls_seen, queue_at, task_seen, tasks_of, visible, word_at, own_of, numbers_held, Mail, AwaitsNap, AwaitsThing, IsHeldBy, MayHave, awaited_in, box_of, holder_of, holdings, nap_of, thing_of, under_way, begins_at, hands_on_at, has_loot_at, is_pooled_at, polled_in, AreHome, HasBatch, HasQueue, IsInHand, IsLoot, IsRunnable, one_of, root_in_hand, IsMyMail, Aims, hands_of, Caller, call_of, desk_of_caller, hands_on_in, IsOwnMessage, IsSleptBy, IsWaitedFor, WaitsFor, IsGiven, ends_in_search, value_at, Vacant, is_durable, is_gated, is_resolved, first_desk, Desk, gate_of, is_some_slot, slot_of, is_in_slots, numbers_in, InPoll, has_number, gives_up, in_line, passes_at, slots_from, gate_seen, number_of_key, open_seen, driver_of, number_in, AreLinedUp, key_for, line_at, JoinsGate, PassesPermit, Drops, joins_at}, Lift.{Stands, playing}, declared.executor.Core.Core}, proofs.{Lifting.{same_Some, there_within, unmapped, request_at, sleeper_at, box_there, now_done, my_mail, held_there, hold_once, held_number, holder_there, held_so, Said, asleep, owned, and_from, durable_of_file, slot_none, bed_named}, GivenParts.{root_here, stood, number_there, mapped, found_in_slots, who, by_place, drops, still_there, unfired, some_lives, none_plus, seat_is, numbered, line_seen, by_open, lined, all_over, by_worker, as_many_seats, first_holds, Sits, by_one, passes_same, mapped_within, Queue, all_have}}}

-- WHAT A PLACE SAYS

-- only a worker of the pool writes its run queue in a pick, a steal, or after a poll
fed_is_pooled : (p : Place) → is_fed p ≡ true → is_pooled_at p ≡ true
fed_is_pooled = grind arith

-- a worker that is closing stays so
closes_there : (p : Place) → stays_closing p ≡ true → closes_at p ≡ true
closes_there = grind arith

end_there : (p : Place) → closing_in p ≡ Some InClosing.End → is_end p ≡ true
end_there = grind arith

-- where it sleeps or has ended it has no runnable: in its hand, on their way between queues, aside
idle_hand : (p : Place) (hand : Option Runnable) → is_idle p ≡ true → IsInHand (begins_at p) (hands_on_at p) hand → hand ≡ None
idle_hand = grind arith

idle_lists : (p : Place) (loot : Reserved Runnable) (q : Queue Runnable) → is_idle p ≡ true → IsLoot (has_loot_at p) loot → HasQueue p q → (loot.values ≡ []) × (q.held ≡ [])
idle_lists = grind arith

-- nor has a caller that is in no call
free_hand : (p : CallPlace) (hand : Option Runnable) → is_in_call p ≡ false → IsInHand None (hands_on_in p) hand → hand ≡ None
free_hand = grind arith

-- at its end it takes no mail any more, and its root is over
end_shut : (p : Place) → is_end p ≡ true → (has_shut (closes_at p) (closing_in p) ≡ true) × (root_over (closes_at p) (closing_in p) ≡ true)
end_shut = grind arith

end_batch : (p : Place) (batch : List Mail) → is_end p ≡ true → HasBatch p batch → batch ≡ []
end_batch = grind arith

-- A TASK that is over; or that is to be polled or in a poll

module _ {B : Type 0} where
  over_for_good : (phase : Phase B) (i : ℕ) → is_complete phase ≡ true → is_runnable (phase_seen phase i) ≡ false
  over_for_good = grind arith

  -- that of a root is in the flag, where its worker sleeps
  abed_flag : (p : Place) (root : ℕ) (hand flag : Option Runnable) (slot : TaskSlot B) → is_abed p ≡ true → IsRunnable (one_of flag (root_in_hand (begins_at p) root hand)) slot
      → is_polled slot.cell.phase ≡ is_some (polled_in root p) → is_runnable (phase_seen slot.cell.phase slot.poller) ≡ true → is_some flag ≡ true
  abed_flag = grind arith

  -- a root is that of a worker
  pub home_within : (n count : ℕ) (tasks : List (TaskSlot B)) → AreHome n count tasks → (t j : ℕ) (slot : TaskSlot B) → slice_get tasks t ≡ Some slot → slot.home ≡ Some j → j < count
  home_within = grind arith

-- LISTS

-- as many wake polls are seen as there are chairs
polls_length : (vs : List Visible) (seats : List Chair) → length vs ≡ length seats → length (polls_seen vs seats) ≡ length seats
polls_length [] seats h = h
polls_length (v ∷ vs) [] h = refl
polls_length (v ∷ vs) (seat ∷ seats) h = ap suc (polls_length vs seats (omega (arith, h)))

-- what holds of that holds of what it is of
pub found_as : {A C : Type 0} (f : A → C) (P : C → Type 0) (xs : List A) (i : ℕ) (y : C) → slice_get (map f xs) i ≡ Some y → P y → (x : A) × (slice_get xs i ≡ Some x) × (slice_get (map f xs) i ≡ Some (f x)) × P (f x)
found_as = grind (arith, unmapped)

-- THE FIRST MESSAGE of those that were taken and those that weren't is one of them.
first_is : (P : MailMessage → Type 0) (batch messages : List Mail) (m : MailMessage) → ((x : Mail) → Contains batch x → P (message_of x)) → ((x : Mail) → Contains messages x → P (message_of x)) → slice_get (map message_of batch ++ map message_of messages) 0 ≡ Some m → P m
first_is P [] [] m taken waits there = absurd (let never : None ≡ Some m = there in cc)
first_is P [] (x ∷ xs) m taken waits there = subst P (same_Some (message_of x) m there) (waits x (0, omega arith, refl))
first_is P (x ∷ xs) messages m taken waits there = subst P (same_Some (message_of x) m there) (taken x (0, omega arith, refl))

-- where its mailbox isn't closed, as long as its root isn't over
open_shut : (b : Bool) (x : Option InClosing) → root_over b x ≡ false → has_shut b x ≡ false
open_shut = grind arith

-- what is held has an open mailbox at its worker
held_open : (shut observed : Bool) (held told : ℕ) → 0 < held → IsHeldBy shut observed held told → shut ≡ false
held_open = grind arith

-- where it sleeps it closes in a wait of one that closes alone, and while it is open its root isn't over
closes_abed : (place : Place) (phase : WorkerPhase) → is_open phase ≡ not (closes_at place) → is_abed place ≡ true → is_closing phase ≡ true → stays_closing place ≡ true
closes_abed = grind arith

open_abed : (place : Place) (phase : WorkerPhase) → is_open phase ≡ not (closes_at place) → is_abed place ≡ true → is_open phase ≡ true → root_over (closes_at place) (closing_in place) ≡ false
open_abed = grind arith

-- who waits so has passed the shutdown barrier
past_barrier : (place : Place) → stays_closing place ≡ true → has_left (closes_at place) (closing_in place) ≡ true
past_barrier = grind arith

-- a wait on the ring ends with a turn or a service
goes_on : (p : Place) (c : Configuration) (i : ℕ) (seats : List Chair) → Aims p c i seats → ends_in_search p ≡ false
goes_on = grind arith

module _ {B L : Type 0} (left : B → L) (spot : L → Option Said → Spot) (p : Plan) (c : Core B) (stands : Stands c) (k : Configuration) where
  abbrev shown : Playing
  shown = playing left spot p c

  abbrev s : Common
  s = shown.world.common

  abbrev workers : List Worker
  workers = c.workers.items

  abbrev seats : List Chair
  seats = c.shared.seats.items

  abbrev tasks : List (TaskSlot B)
  tasks = c.shared.tasks.items

  abbrev rs : List Record
  rs = c.shared.requests.items

  -- Where the root of a worker is to be polled, or in a poll, the worker isn't at its end, and has it in its flag where it sleeps.
  root_of : (t j : ℕ) (slot : TaskSlot B) → slice_get c.shared.tasks.items t ≡ Some slot → slot.home ≡ Some j → is_runnable (phase_seen slot.cell.phase slot.poller) ≡ true
      → (w : Worker) (chair : Chair) → Sits c j w chair → (is_end w.place ≡ false) × (is_abed w.place ≡ true → is_some w.root_ready ≡ true)
  root_of t j slot there home runs w chair it =
      let its = it.sound.runnable in
      let here = root_here c t j slot there home w chair it in
      let one : its.root ≡ slot = same_Some its.root slot (sym its.there ∙ here) in
      let once : IsRunnable (one_of w.root_ready (root_in_hand (begins_at w.place) w.root w.hand)) slot =
      subst (λ (z : TaskSlot B). IsRunnable (one_of w.root_ready (root_in_hand (begins_at w.place) w.root w.hand)) z) one its.once in
      let over = (it.sound.phased chair it.mine).root slot here in
      let going : is_end w.place ≡ false = false_from_ne_true (is_end w.place) (λ h. true≢false (sym runs ∙ over_for_good slot.cell.phase slot.poller (over ∙ (end_shut w.place h).1))) in
      (going, λ h. abed_flag w.place w.root w.hand w.root_ready slot h once (it.sound.tied.stands slot here).polled runs)

  -- at its end it takes no mail any more
  shut_at_end : (i : ℕ) (w : Worker) (chair : Chair) → Sits c i w chair → is_end w.place ≡ true → chair.mailbox.inbox.closed ≡ true
  shut_at_end i w chair it h = (it.sound.phased chair it.mine).shut ∙ (end_shut w.place h).0

  ends_at : (i : ℕ) (w : Worker) (chair : Chair) → Sits c i w chair → has_ended chair.phase ≡ true → is_end w.place ≡ true
  ends_at i w chair it ended = end_there w.place ((it.sound.phased chair it.mine).ended ended)

  pub placed : IsPlaced k shown
  placed =
      record {
        laid =
            let many = sym (as_many_seats left spot p c stands k) in
            let chairs = sym stands.together.seats ∙ many in
            record {
              desks = length-map workers desk_of ∙ many;
              queues = length-map seats queue_at ∙ chairs;
              words = length-map seats word_at ∙ chairs;
              polls = polls_length (map visible workers) seats (length-map workers visible ∙ stands.together.seats) ∙ chairs;
              boxes = length-map seats inbox_at ∙ chairs;
              callers = length-map c.callers.items desk_of_caller ∙ sym (length-map c.callers.items (λ (y : Caller). call_of y.place));
              bits = stands.together.whole.set;
              some = by_worker left spot p c stands k 0 (λ d me seat q m. seat.pool ≡ true) (λ past. absurd (omega (arith, past, stands.some)))
                  (λ w chair it. stands.together.whole.in_pool 0 chair it.there ∙ lt-ltb 0 c.shared.config.workers it.sound.config.workers);
              pool = λ i. by_worker left spot p c stands k i (λ d me seat q m. seat.pool ≡ true → i < 64) (λ past h. absurd (false≢true h))
                  (λ w chair it h.
                  let less = ltb-true i c.shared.config.workers (sym (stands.together.whole.in_pool i chair it.there) ∙ h) in
                  omega (arith, less, it.sound.config.few));
            };
        feeds = λ i. by_worker left spot p c stands k i (λ d me seat q m. is_fed d.place ≡ true → seat.pool ≡ true) (λ past h. absurd (false≢true h))
            (λ w chair it h. stands.together.whole.in_pool i chair it.there ∙ sym (ap (λ n. nat_lt n c.shared.config.workers) it.index) ∙ sym it.sound.role.pool ∙ it.sound.pooled (fed_is_pooled w.place h));
        stays = λ i. by_worker left spot p c stands k i (λ d me seat q m. is_open seat.phase ≡ true → stays_closing d.place ≡ false) (λ past opened. refl)
            (λ w chair it opened. false_from_ne_true (stays_closing w.place)
            (λ closing. true≢false (sym opened ∙ (it.sound.phased chair it.mine).opened ∙ ap not (closes_there w.place closing))));
        over = λ i within. by_worker left spot p c stands k i (λ d me seat q m. has_ended seat.phase ≡ true → is_end d.place ≡ true)
            (λ past. (let many = length-map workers desk_of in absurd (omega (arith, past, within, many))))
            (ends_at i);
        hands = λ i. by_worker left spot p c stands k i (λ d me seat q m. is_idle d.place ≡ true → (d.hand ≡ None) × (d.loot ≡ [])) (λ past h. absurd (false≢true h))
            (λ w chair it h. (ap (option_map (λ (r : Runnable). r.task.0)) (idle_hand w.place w.hand h it.sound.hand), ap tasks_of (idle_lists w.place w.loot chair.queue h it.sound.loot (it.sound.queue chair it.mine)).0));
        aside = λ i. by_worker left spot p c stands k i (λ d me seat q m. is_idle d.place ≡ true → q.held ≡ []) (λ past h. refl)
            (λ w chair it h. ap tasks_of (idle_lists w.place w.loot chair.queue h it.sound.loot (it.sound.queue chair it.mine)).1);
        calls = λ j.
            by_one desk_of_caller c.callers.items j no_call (λ (d : CallDesk). is_in_call d.place ≡ false → d.hand ≡ None) (λ h. refl)
            (λ y there h. ap (option_map (λ (r : Runnable). r.task.0)) (free_hand y.place y.hand h (stands.together.calls j y there).hand));
        mail = λ i. by_worker left spot p c stands k i (λ d me seat q m. seat.inbox ≡ d.batch ++ m) (λ past. refl) (λ w chair it. refl);
        mute = λ i. by_worker left spot p c stands k i (λ d me seat q m. is_end d.place ≡ true → (d.batch ≡ []) × (m ≡ [])) (λ past h. absurd (false≢true h))
            (λ w chair it h.
            (ap (map message_of) (end_batch w.place w.batch.values h it.sound.batch), ap (map message_of) ((stands.together.whole.pool.mail i chair it.there).empty (shut_at_end i w chair it h))));
        roots = λ t it j there at_home runnable.
            let found = unmapped (task_seen left spot) tasks t it there in
            let slot : TaskSlot B = found.0 in
            let home : slot.home ≡ Some j = ap (λ (u : Task). u.home) found.2 ∙ at_home in
            let runs : is_runnable (phase_seen slot.cell.phase slot.poller) ≡ true = ap (λ (u : Task). is_runnable u.phase) found.2 ∙ runnable in
            let zero_is = there_within workers 0 stands.some in
            let homes = (stands.together.sound 0 zero_is.0 zero_is.1).1.homes in
            let within : j < length seats = home_within c.shared.config.workers (length seats) c.shared.tasks.items homes t j slot found.1 home in
            let many = stands.together.seats in
            let desks = length-map workers desk_of in
            let its = by_worker left spot p c stands k j (λ d me seat q m. (is_end d.place ≡ false) × (is_abed d.place ≡ true → d.root_ready ≡ true)) (λ past. absurd (omega (arith, past, many, within)))
            (root_of t j slot found.1 home runs) in
            (omega (arith, within, many, desks), its.0, its.1);
        zero = by_worker left spot p c stands k 0 (λ d me seat q m. is_open seat.phase ≡ true → c.shared.set.closed ≡ false) (λ past opened. absurd (false≢true opened))
            (λ w chair it opened.
            let phased = it.sound.phased chair it.mine in
            (phased.by_zero it.index).1 ∙ not-true (closes_at w.place) (sym phased.opened ∙ opened));
        done = λ i. by_worker left spot p c stands k i
            (λ d me seat q m. seat.pool ≡ true → has_ended seat.phase ≡ true → (t : ℕ) (it : Task) → slice_get s.tasks t ≡ Some it → it.home ≡ None → is_runnable it.phase ≡ false)
            (λ past pool. absurd (false≢true pool))
            (λ w chair sits pool ended t it there ordinary.
            let found = unmapped (task_seen left spot) tasks t it there in
            let slot : TaskSlot B = found.0 in
            let shut = shut_at_end i w chair sits (ends_at i w chair sits ended) in
            sym (ap (λ (u : Task). is_runnable u.phase) found.2)
            ∙ over_for_good slot.cell.phase slot.poller (all_over c stands i w chair sits pool shut t slot found.1 (ap (λ (u : Task). u.home) found.2 ∙ ordinary)));
      }

  -- a message about what a worker has is about its own
  pub own_message : (i : ℕ) (m : Mail) → IsMyMail c.shared.config.workers i m rs c.shared.sleepers.items → IsOwnMessage s i (message_of m)
  own_message = grind (arith, request_at, sleeper_at)

  -- A TASK THAT WAITS, as its slot says
  record HasSlot (t : ℕ) (what : Waiting) : Type 0 where
    pub slot : TaskSlot B
    pub there : slice_get tasks t ≡ Some slot
    pub going : is_complete slot.cell.phase ≡ false
    pub waits : slot.waiting ≡ what

  waiter_slot : (t : ℕ) (what : Waiting) → (Waiting.Nothing ≡ what → ⊥) → WaitsFor s t what → HasSlot t what
  waiter_slot t what some waits =
      by_one (task_seen left spot) tasks t no_task (λ (it : Task). is_done it.phase ≡ false → it.waiting ≡ what → HasSlot t what) (λ going none. absurd (some none))
      (λ slot there going is. record { slot = slot; there = there; going = sym (now_done slot.cell.phase slot.poller) ∙ going; waits = is }) waits.going waits.waits

  -- a worker takes mail as long as its mailbox is open
  mail_of : (i : ℕ) (w : Worker) (chair : Chair) → Sits c i w chair → chair.mailbox.inbox.closed ≡ false → (seat_of s i).mailbox_closed ≡ false
  mail_of i w chair it opened = ap (λ (x : Seat). x.mailbox_closed) (seat_is left spot p c stands k i w chair it) ∙ opened

  -- The request that a task waits for is the newest that it holds. So somebody holds it, and its worker takes mail.
  waited_for : (t r : ℕ) → WaitsFor s t (Waiting.Request r) → IsWaitedFor s t r
  waited_for t r waits =
      let holding = stands.together.whole.holding in
      let at = waiter_slot t (Waiting.Request r) (λ h. cc) waits in
      let mine = holder_there tasks t at.slot at.there in
      let awaits = holding.awaiting t (holder_of at.slot) r mine (ap awaited_in at.waits) in
      let found = found_as thing_of (AwaitsThing c.shared.config.workers t r (holder_of at.slot)) rs r awaits.0 awaits.1 awaits.2 in
      let it : Record = found.0 in
      let hs = map holder_of tasks in
      let told = under_way (hands_of (all_have workers c.callers.items)) (Message.Cancel (Subject.Request r)) (map box_of seats) in
      let last = length (numbers_held at.slot.held.items) - 1 in
      let one = held_number at.slot.held.items last r (found.3.newest at.going) in
      let some = held_there r at.slot.held.items last one.0 one.1 one.2 in
      let least = hold_once r hs t (holder_of at.slot) mine in
      let held : 0 < holdings r hs = omega (arith, some, least) in
      let within = owned c stands r it found.1 in
      let many = stands.together.seats in
      let sits = who c stands it.shown.worker (omega (arith, within, many)) in
      let shut = sits.1.mailbox.inbox.closed in
      let fact : IsHeldBy shut it.shown.observed (holdings r hs) told = holding.held r (thing_of it) (box_of sits.1) found.2 (box_there seats it.shown.worker sits.1 sits.2.there) in
      let is : request_of s r ≡ it.shown = request_at rs r it found.1 in
      record {
        there = mapped_within (λ (x : Record). x.shown) rs r it found.1;
        waiter = ap (λ (x : Request). x.waiter) is ∙ found.3.waiter;
        observed = ap (λ (x : Request). x.observed) is ∙ held_so shut it.shown.observed (holdings r hs) told held fact;
        takes_mail = ap (λ (x : Request). (seat_of s x.worker).mailbox_closed) is ∙ mail_of it.shown.worker sits.0 sits.1 sits.2 (held_open shut it.shown.observed (holdings r hs) told held fact);
      }

  -- While a task isn't over, whoever may have what it waits for takes mail: the workers of the pool until all ordinary tasks
  -- are over, and the worker of a root until that is.
  takes_mail : (t : ℕ) (slot : TaskSlot B) → slice_get tasks t ≡ Some slot → is_complete slot.cell.phase ≡ false → (j : ℕ) (w : Worker) (chair : Chair) → Sits c j w chair
      → (home : Option ℕ) → slot.home ≡ home → MayHave c.shared.config.workers home j → chair.mailbox.inbox.closed ≡ false
  takes_mail t slot there going j w chair it None home near =
      let pool : chair.pool ≡ true = stands.together.whole.in_pool j chair it.there ∙ lt-ltb j c.shared.config.workers near in
      false_from_ne_true chair.mailbox.inbox.closed (λ closed. true≢false (sym (all_over c stands j w chair it pool closed t slot there home) ∙ going))
  takes_mail t slot there going j w chair it (Some i) home near =
      let phased = it.sound.phased chair it.mine in
      let here = root_here c t j slot there (home ∙ ap (λ n. Some n) (sym near)) w chair it in
      phased.shut ∙ open_shut (closes_at w.place) (closing_in w.place) (sym (phased.root slot here) ∙ going)

  -- and the sleeper that one waits for is its own, is kept until the task is over, and is of a worker that takes mail
  slept_by : (t z : ℕ) → WaitsFor s t (Waiting.Timer z) → IsSleptBy s t z
  slept_by t z waits =
      let at = waiter_slot t (Waiting.Timer z) (λ h. cc) waits in
      let awaits = stands.together.whole.holding.asleep t (holder_of at.slot) z (holder_there tasks t at.slot at.there) (ap awaited_in at.waits) in
      let found = found_as nap_of (AwaitsNap c.shared.config.workers t (holder_of at.slot)) c.shared.sleepers.items z awaits.0 awaits.1 awaits.2 in
      let it : SleeperRecord = found.0 in
      let within = asleep c stands z it found.1 in
      let many = stands.together.seats in
      let sits = who c stands it.shown.worker (omega (arith, within, many)) in
      let is : sleeper_of s z ≡ it.shown = sleeper_at c.shared.sleepers.items z it found.1 in
      record {
        there = mapped_within (λ (x : SleeperRecord). x.shown) c.shared.sleepers.items z it found.1;
        task = ap (λ (x : Sleeper). x.task) is ∙ found.3.task;
        kept = ap (λ (x : Sleeper). x.removed) is ∙ (or_parts it.shown.removed it.closed (found.3.kept at.going)).0;
        takes_mail = ap (λ (x : Sleeper). (seat_of s x.worker).mailbox_closed) is ∙ mail_of it.shown.worker sits.0 sits.1 sits.2 (takes_mail t at.slot at.there at.going it.shown.worker sits.0 sits.1 sits.2 at.slot.home refl found.3.near);
      }

  pub given : IsGiven k shown
  given =
      let lines : AreLinedUp c.shared.opens rs = lined left spot p c stands k in
      record {
        owns = length-map c.workers.items own_of ∙ sym (as_many_seats left spot p c stands k);
        gates = length-map c.shared.opens (gate_seen rs) ∙ sym (length-map c.shared.opens (open_seen rs));
        polls = λ i. by_worker left spot p c stands k i (λ d me seat q m. me.polls ≡ polls_at d.place) (λ past. refl) (λ w chair it. refl);
        nexts = λ i. by_worker left spot p c stands k i (λ d me seat q m. me.next ≡ next_at d.place) (λ past. refl) (λ w chair it. refl);
        -- what a worker took and has yet to apply is about what it has, and so are the messages in its mailbox
        first = λ i.
            by_worker left spot p c stands k i (λ d me seat q m. (x : MailMessage) → slice_get seat.inbox 0 ≡ Some x → IsOwnMessage s i x)
            (λ past m there. absurd (let never : None ≡ Some m = there in cc))
            (λ w chair sits m. first_is (IsOwnMessage s i) w.batch.values chair.mailbox.inbox.messages m
            (λ x taken. own_message i x (subst (λ j. IsMyMail c.shared.config.workers j x rs c.shared.sleepers.items) sits.index (sits.sound.mine x taken)))
            (λ x waits. own_message i x (my_mail c.shared.config.workers i x rs c.shared.sleepers.items (stands.together.whole.holding.about i (box_of chair) x (box_there seats i chair sits.there) waits))));
        at_gate = λ file n r.
            by_open left spot p c stands k file (λ g o. slice_get g n ≡ Some r → (r < length s.requests) × (is_durable (request_of s r).operation.kind ≡ true) × ((request_of s r).operation.target ≡ file))
            (λ there. absurd (cc))
            (λ o open_there there.
            let it = stood c.shared.opens rs lines file o open_there n r there in
            let is = (lines.lines file o open_there).durable n (key_for it.r) r it.r it.placed it.there refl in
            let same = request_at rs r it.r it.there in
            (mapped_within (λ (x : Record). x.shown) rs r it.r it.there, ap (λ (x : Request). is_durable x.operation.kind) same ∙ is.0, ap (λ (x : Request). x.operation.target) same ∙ is.1));
        behind = λ file n r.
            by_open left spot p c stands k file (λ g o. slice_get g (suc n) ≡ Some r → is_gated (request_of s r).phase ≡ true)
            (λ there. absurd (cc))
            (λ o open_there there.
            let it = stood c.shared.opens rs lines file o open_there (suc n) r there in
            ap (λ (x : Request). is_gated x.phase) (request_at rs r it.r it.there) ∙ (lines.lines file o open_there).waits (suc n) (key_for it.r) r it.r (omega arith) it.placed it.there refl);
        joins = λ i t r.
            by_place left spot p c stands k i (λ q. q ≡ Place.Poll t (InPoll.JoinGate r) → ((request_of s r).worker ≡ i) × (is_gated (request_of s r).phase ≡ true))
            (λ place. absurd (cc))
            (λ w there place.
            let it : JoinsGate i r c.shared.opens rs = stands.together.whole.gates.joins i r (ap (λ (d : Drops). d.joins) (drops left spot p c stands k i w there) ∙ ap joins_at place) in
            let same = request_at rs r it.r it.there in
            (ap (λ (x : Request). x.worker) same ∙ it.mine, ap (λ (x : Request). is_gated x.phase) same ∙ it.gated));
        holder = λ file.
            by_open left spot p c stands k file (λ g o. o.holder ≡ slice_get (in_line s g) 0) refl
            (λ o open_there. ap (λ (ns : List ℕ). slice_get ns 0) (line_seen s rs (gate_seen rs o)));
        passes = λ i file.
            by_place left spot p c stands k i (λ q. passes_at q ≡ Some file → (r : ℕ) × (slice_get (gate_of shown.things file) 0 ≡ Some r) × ((request_of s r).worker ≡ i) × (gives_up (request_of s r) ≡ true))
            (λ place. absurd (cc))
            (λ w there place.
            let it : PassesPermit i file c.shared.opens rs = stands.together.whole.gates.passes i file (ap (λ (d : Drops). d.passes) (drops left spot p c stands k i w there) ∙ passes_same w.place ∙ place) in
            let first : slice_get (line_at it.o) 0 ≡ Some (key_for it.r) = first_holds it.o (key_for it.r) it.holds in
            let number : slice_get (gate_seen rs it.o) 0 ≡ Some it.k =
            slice_get-map (number_of_key 0 rs) (line_at it.o) 0 ∙ ap (option_map (number_of_key 0 rs)) first ∙ ap (λ n. Some n) (number_there c.shared.opens rs lines it.k it.r it.there) in
            let same = request_at rs it.k it.r it.there in
            let is = (lines.lines file it.o it.open_there).durable 0 (key_for it.r) it.k it.r first it.there refl in (
              it.k,
              ap (λ g. slice_get g 0) (mapped (gate_seen rs) c.shared.opens file it.o [] it.open_there) ∙ number,
              ap (λ (x : Request). x.worker) same ∙ it.mine,
              ap gives_up same ∙ and_from (is_resolved it.r.shown.phase) (is_durable it.r.shown.operation.kind) it.over is.0,
            ));
        gated = λ r.
            by_one (λ (x : Record). x.shown) rs r no_request
            (λ (it : Request). is_gated it.phase ≡ true → (is_durable it.operation.kind ≡ true) × (it.operation.target < length s.opens)) (λ waits. absurd (false≢true waits))
            (λ it there waits.
            let durable = lines.durable r it there waits in
            let within = lines.there r it there (durable_of_file it.shown.operation.kind durable) in
            let many = length-map c.shared.opens (open_seen rs) in
            (durable, omega (arith, within, many)));
        waits = record { requests = waited_for; sleepers = slept_by };
        slots = λ r.
            by_one (λ (x : Record). x.shown) rs r no_request
            (λ (it : Request). is_resolved it.phase ≡ false → has_number r (numbers_in (desk_at k shown it.worker).requests.held) ≡ true) (λ going. absurd (true≢false going))
            (λ x there going.
            let i = x.shown.worker in
            let sits = there_within c.workers.items i (owned c stands r x there) in
            let w : Worker = sits.0 in
            let its = stands.together.sound i w sits.1 in
            let mine : i ≡ w.index = sym its.0 in
            let requests = (driver_of w).requests in
            let numbers = w.names.requests.items in
            let live = still_there (value_at requests x.id.0) (is_resolved x.shown.phase) (its.1.named.over r x there mine) going in
            let named : number_in numbers x.id.0 ≡ r = (its.1.due.timed r x there mine).named going in
            subst (λ (d : Desk). has_number r (numbers_in d.requests.held) ≡ true) (sym (mapped desk_of c.workers.items i w (first_desk k i) sits.1))
            (numbered r 0 (slots_from 0 numbers requests.slots)
            (found_in_slots r 0 numbers requests.slots x.id.0.index (Vacant requests.first) refl (some_lives (get_or requests.slots x.id.0.index (Vacant requests.first)) x.id.0.generation live)
            (ap (λ q. slice_index_or numbers q 0) (none_plus x.id.0.index) ∙ named))));
        beds = λ i z.
            by_one desk_of c.workers.items i (first_desk k i) (λ (d : Desk). is_in_slots z d.timers ≡ true → (sleeper_of s z).fired ≡ false) (λ there. absurd (false≢true there))
            (λ w sits there.
            let its = (stands.together.sound i w sits).1 in
            let numbers = w.names.timers.items in
            let beds = w.home.timers in
            let zs = c.shared.sleepers.items in
            false_from_ne_true (sleeper_of s z).fired
            (λ fired.
            let none : slot_of z 0 (slots_from 0 numbers beds.slots) ≡ None =
            slot_none z 0 numbers beds.slots
            (λ j y at_j alive same.
            let it = bed_named w.index w.names (driver_of w) beds rs zs its.named j y at_j alive in
            let x : SleeperRecord = it.4 in
            let as_it_is = its.due.asleep.alike it.0 it.1 x it.2 (ap (λ q. slice_get zs (slice_index_or numbers q 0)) it.3 ∙ it.5) in
            let number : slice_index_or numbers j 0 ≡ z = ap (λ q. slice_index_or numbers q 0) (let e : j ≡ 0 + j = omega arith in e) ∙ same in
            let here : slice_get zs z ≡ Some x = ap (slice_get zs) (sym number) ∙ it.5 in
            true≢false (sym fired ∙ ap (λ (v : Sleeper). v.fired) (sleeper_at zs z x here) ∙ unfired (x.shown.worker == w.index) x.shown.fired x.shown.removed as_it_is.asleep)) in
            false≢true (sym (ap is_some_slot none) ∙ there)));
        back = λ i. by_worker left spot p c stands k i (λ d me seat q m. ends_in_search d.place ≡ false) (λ past. refl) (λ w chair it. goes_on w.place c.shared.config w.index c.shared.seats.items it.sound.aims);
        past = λ i.
            by_worker left spot p c stands k i (λ d me seat q m. stays_closing d.place ≡ true → seat.pool ≡ true → seat.left ≡ true)
            (λ past closes. absurd (false≢true closes))
            (λ w chair it closes pool. (it.sound.phased chair it.mine).left ∙ ap (λ b. b && has_left (closes_at w.place) (closing_in w.place)) pool ∙ past_barrier w.place closes);
        closing = λ i.
            by_worker left spot p c stands k i (λ d me seat q m. is_closing seat.phase ≡ true → is_abed d.place ≡ true → stays_closing d.place ≡ true)
            (λ past closes. absurd (false≢true closes))
            (λ w chair it closes abed. closes_abed w.place chair.phase (it.sound.phased chair it.mine).opened abed closes);
        roots = λ i.
            by_worker left spot p c stands k i (λ d me seat q m. is_open seat.phase ≡ true → is_abed d.place ≡ true → is_done (task_of s me.root).phase ≡ false)
            (λ past opened. absurd (false≢true opened))
            (λ w chair it opened abed.
            let phased = it.sound.phased chair it.mine in
            let its = it.sound.runnable in
            ap (λ (t : Task). is_done t.phase) (mapped (task_seen left spot) c.shared.tasks.items w.root its.root no_task its.there)
            ∙ now_done its.root.cell.phase its.root.poller
            ∙ phased.root its.root its.there
            ∙ open_abed w.place chair.phase phased.opened abed opened);
      }
