-- The act by which a task wakes the root of another worker: that worker is sent a message.
use Rattle.std.proofs.{Common.{MatchBool, ◌≡◌, ◌≢◌, ℕ, ◌<◌, ◌≤◌, ◌==◌, arith, Bool, true, false, not, List, [], length, map, Option, Some, None, get_or, refl, sym, ap, subst, ◌∙◌, slice_get, slice_set}, lemmas.{Bool.eq-eqb, List.{length-set, map-set}, Option.{get_or_from_slice_get, slice_get-get_or, slice_get_within}}}
use Rattle.exec_base.specs.declared.task_no.TaskNo.{TaskNo}
use Rattle.exec_words.specs.Queue.{tail_of}
use Rattle.exec_task.specs.{Sight.Sight, declared.body.{Act.Act, Said.Said}}
use Rattle.exec_machine.specs.{Choice.Payer.ByAct, declared.{config.{Configuration.Configuration, ScriptWord.ScriptWord}, event.Event.Event, state.{MailMessage.TheVariants.Root, Waiting.Waiting}}, After.{own_after, common_after}, Allowed.allowed, Mail.{asks_root_of, has_root_message, meets_closed}, Progress.Plan, Tests.AllTrue, Words.{moved_on, next_word}, World.{Common, no_seat, seat_of, task_of}}
use Rattle.exec_moves.specs.{Move.move_wake, Send.{after_posting, send_root}, State.{Desk, Things, goes}, Thing.{mailbox_of, set_mailbox, with_mailbox}, declared.{handing.AfterSend.AfterSend, place.{InPoll.InPoll, Place.Place}}}
use Rattle.exec_parts.{specs.{declared.parts.{seat.Seat.Seat as Chair, shared.Shared.Shared, task_slot.TaskSlot.TaskSlot, worker.Worker.Worker}, MailPosts.HaveMailboxes, Polls.OfSlot, Pooled.{Sends, WakesBy, WakesHere, WakesTask, asks_if_sent}, Scripts.IsAnswered, Spots.{Spot, spot_of}, View.{Views, Visible, common_of, desk_of, own_of, seat_seen, seats_seen, task_seen, things_with, visible, with_view}}, proofs.Facts.{not_same, set_elsewhere}}
use Rattle.exec_invariants.{proofs.{Showing.own_word_seen, RootMail.holding_posted, Dedicated.as_long, Acting.{Leaves, acts_so, act_leaves, actor, by_word, me_at, moved_seen, tells_on}, Aside.{beside_boxed, profile_alike, queues_set, seats_other}, Performing.still_performs, PoolKept.{gate_spared, gates_set}, Posting.{Arrival, IsArrival, arrival, asks_as, asks_by, chair_by, choice_by, event_as, event_by, inbox_seen, mailbox_by, posted_as, posted_shows, posted_spares, posting_as, root_message_as, seat_as, seat_by}, Seats.{chair_set, seat_there as seen_there}, SlotTasks.{Keeps as Same, homes_set}, Slots.task_there, SparedRecord.there_within, Stirs.{ToldFirst, before}, TaskAsks.{led_to, leads_to, to_act}, Turning.{Fits, Lands, arrives, by_place, set_found, sound_on, view_found}}, specs.{Acting.{HasActed, StepsOf}, Holding.{holder_of, nap_of, thing_of}, Sound.{AreHome, SoundAt}, Whole.{hands_of, with_worker}, Works.{Beside, Suits, Works}}}
use Rattle.exec_polling.proofs.Stirred.{performs_passing, spares_on}

same_queue : (a : Arrival) (chair : Chair) → (chair_by a chair).queue ≡ chair.queue
same_queue = grind arith

other_root_move : (c : Configuration) (i : ℕ) (s : Common) (d : Desk) (x : Things) (t u home : ℕ) → (home == i) ≡ false
    → move_wake c i s d x t u (Some home) ≡ with_mailbox home x (send_root c s home (AfterSend.Act t) d (mailbox_of x home))
other_root_move c i s d x t u home is = rw is refl

-- where it leads, by whether a signal is asked for
abbrev pub next_of : ℕ → ℕ → Bool → Place
next_of t j = led_to t InPoll.Act (AfterSend.Act t) j

goes_by : (c : Configuration) (t j : ℕ) (w : Worker) (asks : Bool) → (let d = desk_of (record w { place = Place.Poll t InPoll.Act }) in goes (after_posting c j (AfterSend.Act t) asks d) d) ≡ desk_of (record w { place = next_of t j asks })
goes_by c t j w true = refl
goes_by c t j w false = refl

own_by : (t j : ℕ) (w : Worker) (asks : Bool) → own_of (record w { place = next_of t j asks }) ≡ me_at t w
own_by t j w true = refl
own_by t j w false = refl

own_then : (c : Configuration) (t j i : ℕ) (w : Worker) (all : Common) (a : Arrival) → me_at t w ≡ own_after c (me_at t w) all i (event_by j a) (choice_by a ByAct)
own_then = grind arith

module _ {B : Type 0} where
  -- who has a root is a worker
  pub home_few : (workers count t j : ℕ) (tasks : List (TaskSlot B)) (slot : TaskSlot B) → AreHome workers count tasks → slice_get tasks t ≡ Some slot → slot.home ≡ Some j → j < count
  home_few = grind arith

  -- WHAT IS SOUND THEN, where a chair of another worker was posted to

  module _ (t j : ℕ) (w : Worker) (s m : Shared B) (sound : SoundAt (Place.Poll t InPoll.Act) w s) (apart : j ≢ w.index) (chair : Chair) (a : Arrival) (is : IsArrival a chair.mailbox) (seated : slice_get s.seats.items j ≡ Some chair) (set : m.seats.items ≡ slice_set s.seats.items j (chair_by a chair)) where
    abbrev pub then_of : Shared B
    then_of = record s { seats = m.seats }

    lands : (asks : Bool) → j < length s.seats.items → Lands (Place.Poll t InPoll.Act) (next_of t j asks) w s
    lands true few = record { same = refl; queue = sound.queue; aims = (few, tt); batch = sound.batch }
    lands false few = record { same = refl; queue = sound.queue; aims = tt; batch = sound.batch }

    own_chair : slice_get m.seats.items w.index ≡ slice_get s.seats.items w.index
    own_chair = ap (λ xs. slice_get xs w.index) set ∙ set_elsewhere s.seats.items j w.index (chair_by a chair) (λ e. apart (sym e))

    as_many : length m.seats.items ≡ length s.seats.items
    as_many = ap length set ∙ length-set s.seats.items j (chair_by a chair)

    fits : (asks : Bool) → j < length s.seats.items → Fits (next_of t j asks) w s m.seats.items
    fits true few =
        record {
          seated = record { many = as_long as_many sound.seated.many; pool = sound.seated.pool; seat = sound.seated.seat; there = own_chair ∙ sound.seated.there; unarmed = λ h. sound.seated.unarmed refl; mail = sound.seated.mail };
          queue = λ c found. sound.queue c (sym own_chair ∙ found);
          aims = (subst (λ k. j < k) (sym as_many) few, tt);
          batch = sound.batch;
          batch_place = λ c found. sound.batch_place c (sym own_chair ∙ found);
          phased = λ c found. sound.phased c (sym own_chair ∙ found);
        }
    fits false few =
        record {
          seated = record { many = as_long as_many sound.seated.many; pool = sound.seated.pool; seat = sound.seated.seat; there = own_chair ∙ sound.seated.there; unarmed = λ h. sound.seated.unarmed refl; mail = sound.seated.mail };
          queue = λ c found. sound.queue c (sym own_chair ∙ found);
          aims = tt;
          batch = sound.batch;
          batch_place = λ c found. sound.batch_place c (sym own_chair ∙ found);
          phased = λ c found. sound.phased c (sym own_chair ∙ found);
        }

    pub posted_sound : (asks : Bool) → j < length s.seats.items → SoundAt (next_of t j asks) (record w { place = next_of t j asks }) then_of
    posted_sound asks few =
        let q : Place = next_of t j asks in
        let w1 : Worker = record w { place = q } in
        sound_on (Place.Poll t InPoll.Act) w w1 s then_of sound (by_place w w1 s.clock sound.time refl) refl (omega (arith, as_many))
        (arrives (Place.Poll t InPoll.Act) q w w1 s then_of sound (lands asks few).same (λ h. sound.quiet refl) (record { root_ready = refl; hand = refl; loot = refl; searching = refl }) (fits asks few))

    pub posted_beside : (asks : Bool) → j < length s.seats.items → Beside w s (record w { place = next_of t j asks }) then_of
    posted_beside asks few =
        let q : Place = next_of t j asks in
        let w1 : Worker = record w { place = q } in
        beside_boxed w w1 s then_of
        (profile_alike (Place.Poll t InPoll.Act) q w w1 sound.here refl (lands asks few).same (record { root_ready = refl; hand = refl; loot = refl; searching = refl }) refl (record { batch = refl; letters = refl; left = refl })) refl
        (seats_other w.index j s.seats.items m.seats.items chair (chair_by a chair) set seated (subst (λ x. tail_of chair.queue ≤ tail_of x) (sym (same_queue a chair)) (omega arith)) (posted_spares a chair is))
        (gates_set j s.seats.items m.seats.items chair (chair_by a chair) set seated (gate_spared chair (chair_by a chair) (posted_spares a chair is)))
        (ap (λ xs. map (λ c. c.queue) xs) set ∙ queues_set s.seats.items j chair (chair_by a chair) seated (same_queue a chair))
        (λ others whole. holding_posted a (hands_of (with_worker others w)) s.config.workers (map holder_of s.tasks.items) (map thing_of s.requests.items) (map nap_of s.sleepers.items) s.seats.items m.seats.items j chair is seated set whole.holding) refl refl

-- WHAT IT IS TO THE MACHINE: the task that woke goes on past its word, and the seat was posted to

module _ {B L : Type 0} (left : B → L) (spot : L → Option Said → Spot) (t u j : ℕ) (w : Worker) (s : Shared B) (tasks : Shared B) (slot mid other : TaskSlot B) (apart : j ≢ w.index) (there : slice_get s.tasks.items t ≡ Some slot) (at_u : slice_get s.tasks.items u ≡ Some other) (home : other.home ≡ Some j)
    (waits : slot.waiting ≡ Waiting.Nothing) (items : tasks.tasks.items ≡ slice_set s.tasks.items t mid) (chair : Chair) (a : Arrival) (is : IsArrival a chair.mailbox) (seated : slice_get s.seats.items j ≡ Some chair) (set : tasks.seats.items ≡ slice_set s.seats.items j (chair_by a chair)) where
  abbrev s2 : Shared B
  s2 = record s { tasks = tasks.tasks; seats = tasks.seats }

  module _ (p : Plan) (vs : Views) (view : Visible) (seen : slice_get vs.workers j ≡ Some view) (word : next_word (common_of left spot p vs s) (task_seen left spot slot) ≡ ScriptWord.Wake u) (moved : moved_on (common_of left spot p vs s) (task_seen left spot slot) ≡ task_seen left spot mid) where
    abbrev all : Common
    all = common_of left spot p vs s

    seat : seat_of all j ≡ seat_seen view chair
    seat = get_or_from_slice_get (seats_seen vs.workers s.seats.items) j (seat_seen view chair) no_seat (seen_there vs.workers s.seats.items j view chair seen seated)

    it : task_of all t ≡ task_seen left spot slot
    it = task_there left spot s.tasks.items t slot there

    home_seen : (task_of all u).home ≡ Some j
    home_seen = ap (λ y. y.home) (task_there left spot s.tasks.items u other at_u) ∙ home

    elsewhere : (j == w.index) ≡ false
    elsewhere = not_same j w.index apart

    shows : (b : Arrival) → IsArrival b chair.mailbox → tasks.seats.items ≡ slice_set s.seats.items j (chair_by b chair) → things_with vs s2 ≡ set_mailbox j (things_with vs s) (mailbox_by b (mailbox_of (things_with vs s) j))
    shows b so now = posted_shows b vs j s tasks.seats.items chair so seated now (things_with vs s2) refl

    moves : move_wake p.config w.index all (desk_of (record w { place = Place.Poll t InPoll.Act })) (things_with vs s) t u (task_of all u).home
        ≡ record { event = event_by j a; choice = choice_by a ByAct; desk = desk_of (record w { place = next_of t j (asks_by a chair.mailbox) }); thing = things_with vs s2 }
    moves =
        let d = desk_of (record w { place = Place.Poll t InPoll.Act }) in
        let x = things_with vs s in
        ap (move_wake p.config w.index all d x t u) home_seen
        ∙ other_root_move p.config w.index all d x t u j elsewhere
        ∙ ap (λ y. with_mailbox j x (record { event = y.event; choice = y.choice; desk = goes (after_posting p.config j (AfterSend.Act t) y.signals d) d; thing = y.mailbox })) (posting_as a all j ByAct (mailbox_of x j) chair view is seat (inbox_seen vs j s chair seated) (own_word_seen j s chair seated))
        ∙ ap (λ k. record { event = event_by j a; choice = choice_by a ByAct; desk = k; thing = set_mailbox j x (mailbox_by a (mailbox_of x j)) }) (goes_by p.config t j w (asks_by a chair.mailbox))
        ∙ ap (λ y. record { event = event_by j a; choice = choice_by a ByAct; desk = desk_of (record w { place = next_of t j (asks_by a chair.mailbox) }); thing = y }) (sym (shows a is set))

    may : (b : Arrival) → IsArrival b chair.mailbox → AllTrue (allowed p.config (me_at t w) all w.index (event_by j b) (choice_by b ByAct))
    may Arrival.Shut so =
        let asks : meets_closed all w.index (ScriptWord.Wake u) ≡ true = rw (home_seen, elsewhere) (ap (λ y. y.mailbox_closed) seat ∙ so) in
        (acts_so left spot t all w slot (meets_closed all w.index) it waits (ap (meets_closed all w.index) word ∙ asks), tt)
    may Arrival.LeftOut so =
        let asks : asks_root_of all j (ScriptWord.Wake u) ≡ true = rw home_seen (eq-eqb j j refl) in
        (acts_so left spot t all w slot (asks_root_of all j) it waits (ap (asks_root_of all j) word ∙ asks), (ap not elsewhere, (ap (λ y. not y.mailbox_closed) seat ∙ ap not so.0, (ap has_root_message seat ∙ root_message_as view chair so, tt))))
    may Arrival.First so =
        let asks : asks_root_of all j (ScriptWord.Wake u) ≡ true = rw home_seen (eq-eqb j j refl) in
        (acts_so left spot t all w slot (asks_root_of all j) it waits (ap (asks_root_of all j) word ∙ asks), (ap not elsewhere, (ap (λ y. not y.mailbox_closed) seat ∙ ap not so.0, (refl, tt))))
    may Arrival.More so =
        let asks : asks_root_of all j (ScriptWord.Wake u) ≡ true = rw home_seen (eq-eqb j j refl) in
        (acts_so left spot t all w slot (asks_root_of all j) it waits (ap (asks_root_of all j) word ∙ asks), (ap not elsewhere, (ap (λ y. not y.mailbox_closed) seat ∙ ap not so.0, (refl, tt))))

    tasks_then : map (task_seen left spot) tasks.tasks.items ≡ slice_set all.tasks t (moved_on all (task_of all t))
    tasks_then = grind (arith, items, map-set (task_seen left spot) s.tasks.items t mid, moved, it)

    seats_then : (b : Arrival) → IsArrival b chair.mailbox → tasks.seats.items ≡ slice_set s.seats.items j (chair_by b chair) → seats_seen vs.workers tasks.seats.items ≡ slice_set all.seats j (seat_by b (seat_of all j))
    seats_then b so now = grind (arith, now, chair_set vs.workers s.seats.items j view (chair_by b chair) seen, seat_as b view chair so, seat)

    unseen : slice_set all.seats j (seat_of all j) ≡ all.seats
    unseen = ap (slice_set all.seats j) seat ∙ set_found all.seats j (seat_seen view chair) (seen_there vs.workers s.seats.items j view chair seen seated)

    common : (b : Arrival) → IsArrival b chair.mailbox → tasks.seats.items ≡ slice_set s.seats.items j (chair_by b chair) → common_of left spot p vs s2 ≡ common_after p.config (me_at t w) all w.index (event_by j b) (choice_by b ByAct)
    common Arrival.Shut so now = grind (arith, tasks_then, seats_then Arrival.Shut so now, unseen)
    common Arrival.LeftOut so now = grind (arith, tasks_then, seats_then Arrival.LeftOut so now, unseen)
    common Arrival.First so now = grind (arith, tasks_then, seats_then Arrival.First so now)
    common Arrival.More so now = grind (arith, tasks_then, seats_then Arrival.More so now)

  pub posts : w.place ≡ Place.Poll t InPoll.Act → (p : Plan) (vs : Views) → Suits p vs w s → next_word (common_of left spot p vs s) (task_seen left spot slot) ≡ ScriptWord.Wake u → moved_on (common_of left spot p vs s) (task_seen left spot slot) ≡ task_seen left spot mid
      → Works left spot p vs w s (event_by j a) (record w { place = next_of t j (asks_by a chair.mailbox) }) s2
  posts here p vs suits word moved =
      let within : j < length vs.workers = subst (λ n. j < n) (sym suits.workers) (slice_get_within s.seats.items j chair seated) in
      let view : Visible = get_or vs.workers j (visible w) in
      let seen : slice_get vs.workers j ≡ Some view = slice_get-get_or vs.workers j (visible w) within in
      let again : with_view vs w.index (visible w) ≡ vs = view_found vs w.index (visible w) suits.seen in
      let w1 : Worker = record w { place = next_of t j (asks_by a chair.mailbox) } in
      subst (λ v. Works left spot p vs v s (event_by j a) w1 s2) (ap (λ y. record w { place = y }) (sym here)) (record {
        choice = choice_by a ByAct;
        moves = grind (arith, by_word left spot t p (common_of left spot p vs s) w s vs slot (ScriptWord.Wake u) (it p vs view seen word moved) word, moves p vs view seen word moved, again);
        may = may p vs view seen word moved a is;
        own = own_by t j w (asks_by a chair.mailbox) ∙ own_then p.config t j w.index w (common_of left spot p vs s) a;
        common = ap (λ v. common_of left spot p v s2) again ∙ common p vs view seen word moved a is set;
      })

-- WHAT THE WAKE NEEDS

module _ {B L : Type 0} (left : B → L) (runs : L → Plan → Option ℕ → Type 0) (holds : L → Option Said → List ℕ) (spot : L → Option Said → Spot) (gives : L → Option Sight → Said → Act B → L → Option Sight → Type 0) where
  pub record MayWake (u : ℕ) (w : Worker) (s : Shared B) : Type 0 where
    pub root : w.root < length s.tasks.items
    pub homes : OfSlot u s (λ slot. (home : ℕ) → slot.home ≡ Some home → home < length s.seats.items)
    pub mail : HaveMailboxes s

  pub may_wake : (t u : ℕ) (w : Worker) (s s1 : Shared B) (a : Act B) → HasActed left runs holds spot gives t w s s1 a → HaveMailboxes s → MayWake u w s1
  may_wake t u w s s1 a h mailboxes =
      let m = h.made in
      let keeps : Same m.slot m.slot' = subst (Same m.slot) (sym m.acts.slot) (record { home = refl; number = refl; owner = refl }) in
      let homes : AreHome s.config.workers (length s.seats.items) s1.tasks.items = subst (AreHome s.config.workers (length s.seats.items)) (sym m.tasks) (homes_set s.config.workers (length s.seats.items) s.tasks.items t m.slot m.slot' m.there keeps h.sound.homes) in
      record {
        root = rw (m.tasks, length-set) (slice_get_within s.tasks.items w.root h.sound.runnable.root h.sound.runnable.there);
        homes = λ slot there home is.
            let few : home < length s.seats.items = home_few s.config.workers (length s.seats.items) u home s1.tasks.items slot homes there is in
            subst (λ (x : Shared B). home < length x.seats.items) (sym m.kept) few;
        mail = λ j chair there. mailboxes j chair (ap (λ (x : Shared B). slice_get x.seats.items j) (sym m.kept) ∙ there);
      }

-- THE WHOLE STEP

module _ {B L : Type 0} (left : B → L) (runs : L → Plan → Option ℕ → Type 0) (holds : L → Option Said → List ℕ) (spot : L → Option Said → Spot) (gives : L → Option Sight → Said → Act B → L → Option Sight → Type 0) where
  pub woke_there : IsAnswered spot → (t j : ℕ) (n : TaskNo) (w w' : Worker) (s s1 s' : Shared B) (e : Event) → (h : HasActed left runs holds spot gives t w s s1 (Act.Wake n)) → (it : WakesTask t n.0 w w' s1 s' e) → (other : TaskSlot B) → slice_get it.middle.tasks.items n.0 ≡ Some other
      → other.home ≡ Some j → j ≢ w.index → HaveMailboxes s → StepsOf left runs holds spot w s e w' s'
  woke_there answered t j n w w' s s1 s' e h it other there home apart mailboxes =
      let m : Shared B = it.middle in
      let slot : TaskSlot B = h.made.slot in
      let b' : B = h.made.acts.body' in
      let mid : TaskSlot B = record slot { body = Some b'; told = Some Said.Pass } in
      let who = actor left runs holds spot gives t w s s1 (Act.Wake n) h in
      let leaves : Leaves left runs holds spot gives t InPoll.Act w s m mid =
      act_leaves left runs holds spot gives t InPoll.Act w s s1 m (Act.Wake n) (λ o. record o { told = Some Said.Pass }) h (tells_on t slot b' Said.Pass who.polled who.waits) it.told in
      let told_only : Shared B = record s { tasks = m.tasks } in
      let still : record w { place = Place.Poll t InPoll.Act; root_ready = w.root_ready; hand = None } ≡ w =
      ap (λ o. record w { place = Place.Poll t InPoll.Act; hand = o }) (sym h.sound.hand) ∙ ap (λ q. record w { place = q }) (sym h.sound.here) in
      let sound : SoundAt (Place.Poll t InPoll.Act) w told_only = subst (λ v. SoundAt (Place.Poll t InPoll.Act) v told_only) still leaves.sound in
      let one : Beside w s w told_only = subst (λ v. Beside w s v told_only) still leaves.beside in
      let first : ToldFirst left spot t s m slot mid = record { there = h.made.there; items = leaves.items; kept = leaves.kept; cell = refl; home = refl } in
      let was = before left spot t n.0 s m slot mid other first there in
      let few : j < length s.seats.items = home_few s.config.workers (length s.seats.items) n.0 j s.tasks.items was.0 h.sound.homes was.1 (was.2 ∙ home) in
      let found = there_within s.seats.items j few in
      let chair : Chair = found.0 in
      let seated : slice_get s.seats.items j ≡ Some chair = found.1 in
      let sends : Sends j Root (AfterSend.Act t) w w' told_only s' e = subst (λ x. Sends j Root (AfterSend.Act t) w w' x s' e) leaves.kept
      (subst (λ b. MatchBool b (WakesHere t n.0 w w' m s' e) (Sends j Root (AfterSend.Act t) w w' m s' e)) (not_same j w.index apart) (subst (λ o. WakesBy o t n.0 w w' m s' e) home (it.wakes other there))) in
      let at = arrival chair.mailbox in
      let a : Arrival = at.0 in
      let asks : Bool = asks_by a chair.mailbox in
      let set : s'.seats.items ≡ slice_set s.seats.items j (chair_by a chair) = sends.chair chair seated ∙ ap (slice_set s.seats.items j) (posted_as a chair at.1) in
      let event : e ≡ event_by j a = sends.event chair seated ∙ event_as j a chair.mailbox at.1 in
      let goes_to : w' ≡ record w { place = next_of t j asks } = sends.worker chair seated ∙ ap (λ q. record w { place = q }) (leads_to t InPoll.Act (AfterSend.Act t) (to_act t) s.config j (asks_if_sent Root chair.mailbox) (desk_of w)) ∙ ap (λ b. record w { place = next_of t j b }) (asks_as a chair.mailbox at.1) in
      let w1 : Worker = record w { place = next_of t j asks } in
      let both : Shared B = record s { tasks = m.tasks; seats = s'.seats } in
      let two : Beside w told_only w1 both = posted_beside t j w told_only s' sound apart chair a at.1 seated set asks few in
      let shown : s' ≡ both = sends.kept in
      let done : StepsOf left runs holds spot w s (event_by j a) w1 both = (
        (λ p vs suits fits.
            let so = h.asks p vs (fits t slot h.made.there) in
            let all = common_of left spot p vs s in
            let past : spot (left b') (Some Said.Pass) ≡ spot_of (moved_on all (task_seen left spot slot)) = answered (left b') Said.Pass (λ never. absurd (cc)) ∙ so.stands in
            posts left spot t n.0 j w s both slot mid was.0 apart h.made.there was.1 (was.2 ∙ home) who.waits leaves.items chair a at.1 seated set h.sound.here p vs suits so.asks (sym (moved_seen left spot all slot b' (Some Said.Pass) who.polled past))),
        posted_sound t j w told_only s' sound apart chair a at.1 seated set asks few,
        record {
          root = refl;
          config = refl;
          performs = (still_performs left runs holds t w w1 s both slot mid h.made.there leaves.items refl refl
              (λ p fits. performs_passing left runs holds spot gives p slot b' (Act.Wake n) tt refl who.polled who.waits ((h.asks p (record { workers = []; calls = [] }) fits).goes_on refl))).performs;
        },
        record {
          spares = λ k other_one. spares_on false k s m both (one.spares k other_one) (two.spares k other_one);
          whole = λ others whole. two.whole others (one.whole others whole);
        },
      ) in
      subst (λ x. StepsOf left runs holds spot w s e w' x) (sym shown) (subst (λ v. StepsOf left runs holds spot w s e v both) (sym goes_to) (subst (λ x. StepsOf left runs holds spot w s x w1 both) (sym event) done))
