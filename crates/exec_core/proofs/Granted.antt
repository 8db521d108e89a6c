-- Of each executor holds what the law takes for granted that no worker turns for ever: of each worker alone, of the run queues, of
-- sleepers, and of the task whose poll begins. There is a search count for each worker that holds one, and one more for whoever has
-- claimed some of its run queue: that is another worker, in a steal, and it searches. And the ends that a worker has to send elsewhere
-- are no more than there are requests, or sleepers: each is of one of its own, and each of these has one at most.
use Rattle.std.{proofs.{Common.{◌≡◌, ℕ, zero, suc, ◌+◌, ◌<◌, ◌≤◌, ◌==◌, Bool, true, not, List, [], ◌∷◌, ◌++◌, slice_get, Option, Some, refl, sym, ap, ◌∙◌, arith, inl, inr, Contains, count_by, sum_by, cond, length, subst, false, nat_lt, slice_index_or, option_to_list, get_or, None, if◌then◌else◌}, lemmas.{Bool.{eq-eqb, eqb-true, not-true, false_from_ne_true, false≢true, true≢false, cases_eq, lt-ltb, or_parts}, List.{length-map, Sums.sum_by-cons}, Option.slice_get_within, Nat.mod_below}}, specs.List.{list_any, range_with_len}}
use Rattle.exec_base.specs.{Slab.slot_at, declared.slab.Slot.TheVariants.Vacant}
use Rattle.exec_time.specs.declared.notes.ForwardedResult.{ForwardedResult}
use Rattle.exec_machine.specs.{declared.{config.Configuration.Configuration, state.{Sleeper.Sleeper, WorkerPhase.WorkerPhase}}, Progress.{Plan, is_anyone_closing}, Tests.{is_open, is_asleep, has_ended, is_closing, is_ready}, World.{seat_of, no_sleeper, sleeper_of, Seat, Task, no_seat, no_task, task_of}}
use Rattle.exec_words.specs.{Queue.{Queue, tail_of}}
use Rattle.exec_waiters.specs.declared.deferred.Answer.{Answer}
use Rattle.exec_task.specs.declared.{body.Said.Said, runnable.Runnable.Runnable, task.Phase.Phase}
use Rattle.exec_moves.specs.{declared.{place.{InClosing.InClosing, Place.Place, InPoll.InPoll}, idling.InScan.InScan}, Plays.{Playing, desk_of as desk_at, first_desk}, State.{Desk, queue_of, no_queue}, Seen.serves_at, Search.from_of, Slots.is_in_slots}
use Rattle.exec_credit.proofs.Rings.{some_ring}
use Rattle.exec_rest.specs.{Rested.place_at, AtRest.IsShut}
use Rattle.exec_progress.specs.{Going.{is_of_closing, KnowsAside, KnowsTail, is_seeking}, Granted.{KnowsRoom, IsGranted}, Paced.HaveCounts}
use Rattle.exec_parts.{specs.{declared.parts.{seat.Seat.Seat as Chair, worker.Worker.Worker, mail.Reply.Reply, record.Record.Record, sleeping.SleeperRecord.SleeperRecord, task_slot.TaskSlot.TaskSlot}, Spots.Spot, View.{desk_of, number_heard, queue_at, queue_seen, phase_seen, task_seen}, Phased.{closes_at, closing_in, has_shut}}, proofs.Facts.{not_same, same_Some}}
use Rattle.exec_invariants.{specs.{Places.{claims_at, is_number, one_if}, Sound.{Aims, HasQueue, IsRunnable, SoundAt, one_of, root_in_hand}, Rooted.{ends_elsewhere, goes_elsewhere, is_of_request, is_of_timer}, Drained.IsBefore, Whole.{HasOne, IsGenuine, may_let_go, runnables_in, stock}}, proofs.{Counting.{at_most, sum_few, sum_one}, ServedEnds.{count_both, count_one}, SparedRecord.{there_within, mine_asleep}, Slots.before_in_poll}}
use Rattle.exec_polling.{proofs.MadePlaces.{by_zero, counted_there, weigh}, specs.declared.caller.Caller.Caller}
use Rattle.exec_steps.{specs.Together.{all_have, callers_have}, proofs.Together.has_whole}
use Rattle.exec_core.{specs.{declared.executor.Core.Core, Lift.{Stands, playing, Shows}}, proofs.GivenParts.{by_worker, mapped, by_one, as_many_seats, Sits, found_in_slots, none_plus, some_lives, seat_is, who}}

-- who has claimed the run queue of a worker is another
claims_other : (q : Place) (c : Configuration) (i n : ℕ) (seats : List Chair) → Aims q c i seats → i ≡ n → is_number (claims_at q) n ≡ false
claims_other = grind (arith, not_same)

-- who has claimed one searches, where who seeks holds a search count
claimer_searches : (q : Place) (n : ℕ) (b : Bool) → (is_seeking q ≡ true → b ≡ true) → one_if (is_number (claims_at q) n) ≤ one_if b
claimer_searches = grind arith

-- WHAT ALL HAVE: callers claim no run queue; so there are as many search counts as claims, and one more of a worker that claims none

none_claimed : (cs : List Caller) (n : ℕ) → (callers_have cs).claims n ≡ 0
none_claimed [] n = refl
none_claimed (c ∷ cs) n = none_claimed cs n

module _ (cs : List Caller) (n : ℕ) where
  abbrev AllSearch : List Worker → Type 0
  AllSearch ws = (j : ℕ) (v : Worker) → slice_get ws j ≡ Some v → one_if (is_number (claims_at v.place) n) ≤ one_if v.searching

  all_counted : (ws : List Worker) → AllSearch ws → (all_have ws cs).claims n ≤ (all_have ws cs).counts
  all_counted [] each = omega (arith, none_claimed cs n)
  all_counted (w ∷ ws) each = omega (arith, all_counted ws (λ j v there. each (suc j) v there), each 0 w refl)

  one_more : (ws : List Worker) (i : ℕ) (w : Worker) → slice_get ws i ≡ Some w → is_number (claims_at w.place) n ≡ false → AllSearch ws → one_if w.searching + (all_have ws cs).claims n ≤ (all_have ws cs).counts
  one_more [] i w there none each = absurd (cc)
  one_more (x ∷ ws) zero w there none each =
      let same = same_Some x w there in
      let own = ap (λ (v : Worker). one_if (is_number (claims_at v.place) n)) same ∙ ap one_if none in
      omega (arith, all_counted ws (λ j v at. each (suc j) v at), ap (λ (v : Worker). one_if v.searching) same, own)
  one_more (x ∷ ws) (suc i) w there none each = omega (arith, one_more ws i w there none (λ j v at. each (suc j) v at), each 0 x refl)

-- A LIST each of whose elements is of one number below n, of each of which there is one at most, has no more than n.

module _ {A : Type 0} (is : ℕ → A → Bool) (n : ℕ) where
  numbers_counted : (xs : List A) → ((x : A) → Contains xs x → (k : ℕ) × (k < n) × ((j : ℕ) → is j x ≡ (k == j))) → length xs ≤ sum_by (λ k. count_by (is k) xs) (range_with_len 0 n)
  numbers_counted [] each = omega arith
  numbers_counted (x ∷ xs) each =
      let it = each x (0, omega arith, refl) in
      let rest = numbers_counted xs (λ y among. each y (suc among.0, (let less = among.1 in omega (arith, less)), among.2)) in
      let first : (j : ℕ) → count_by (is j) (x ∷ xs) ≡ cond (it.0 == j) 1 0 + count_by (is j) xs = λ j. sum_by-cons (λ y. cond (is j y) 1 0) x xs ∙ ap (λ b. cond b 1 0 + count_by (is j) xs) (it.2 j) in
      let more = sum_one (λ k. count_by (is k) xs) (λ k. count_by (is k) (x ∷ xs)) it.0 0 n (omega arith) (let less = it.1 in omega (arith, less)) (λ j other. omega (arith, first j, ap weigh (not_same it.0 j (λ same. other (sym same))))) in
      omega (arith, rest, more, first it.0, ap weigh (eq-eqb it.0 it.0 refl))

  no_more : (xs : List A) → ((x : A) → Contains xs x → (k : ℕ) × (k < n) × ((j : ℕ) → is j x ≡ (k == j)) × (count_by (is k) xs ≤ 1)) → length xs ≤ n
  no_more xs each =
      let few : (k : ℕ) → count_by (is k) xs ≤ 1 = λ k. by_zero (count_by (is k) xs) (λ none. omega (arith, none))
      (λ some.
      let one = counted_there (is k) xs some in
      let it = each one.0 one.1 in
      subst (λ j. count_by (is j) xs ≤ 1) (eqb-true it.0 k (sym (it.2 k) ∙ one.2)) it.3) in
      omega (arith, numbers_counted xs (λ x among. let it = each x among in (it.0, it.1, it.2)), sum_few (λ k. count_by (is k) xs) 0 n few)

-- WHERE A WORKER CLOSES, by the parts and by the law: the same places

closing_same : (p : Place) → is_of_closing p ≡ closes_at p
closing_same = grind arith

-- A RUN QUEUE AS IT IS SHOWN

seen_tail : (q : Queue Runnable) → tail_of (queue_seen q) ≡ tail_of q
seen_tail q = ap (λ n. q.real + n) (length-map q.values (λ (r : Runnable). r.task.0))

-- WHAT A PLACE KNOWS

knows_room : (p : Place) (q : Queue Runnable) → HasQueue p q → KnowsRoom p (queue_seen q)
knows_room = grind (arith, length-map)

knows_aside : (p : Place) (q : Queue Runnable) → HasQueue p q → KnowsAside p (queue_seen q)
knows_aside = grind arith

-- WHO IS CLOSING

-- nobody is
nobody : (seats : List Seat) → list_any (λ seat. is_closing seat.phase) seats ≡ false → (i : ℕ) → is_closing (get_or seats i no_seat).phase ≡ false
nobody [] none i = refl
nobody (x ∷ seats) none zero = (or_parts (is_closing x.phase) (list_any (λ y. is_closing y.phase) seats) none).0
nobody (x ∷ seats) none (suc i) = nobody seats (or_parts (is_closing x.phase) (list_any (λ y. is_closing y.phase) seats) none).1 i

-- so one whose inbox isn't shut doesn't close
stays_open : (phase : WorkerPhase) (closes shut : Bool) (x : Option InClosing) → is_closing phase ≡ false → is_open phase ≡ not closes → (has_ended phase ≡ true → x ≡ Some InClosing.End) → shut ≡ has_shut closes x → shut ≡ false → closes ≡ false
stays_open = grind arith

-- A RUNNABLE IN THE HAND

held_counts : (t : ℕ) (hand : Option Runnable) (loot : List Runnable) (r : Runnable) → hand ≡ Some r → r.task.0 ≡ t → 0 < runnables_in t (option_to_list hand ++ loot)
held_counts = grind (arith, count_both, count_one, eq-eqb)

module _ {B : Type 0} where
  -- one that has a runnable is queued, unless some may be let go
  queued_by : (phase : Phase B) (i n : ℕ) → HasOne false phase n → 0 < n → is_ready (phase_seen phase i) ≡ true
  queued_by = grind arith

  -- and so is the root that has one
  root_queued : (flag hand : Option Runnable) (r : Runnable) (slot : TaskSlot B) → hand ≡ Some r → IsRunnable (one_of flag hand) slot → is_ready (phase_seen slot.cell.phase slot.poller) ≡ true
  root_queued = grind arith

module _ {B L : Type 0} (left : B → L) (spot : L → Option Said → Spot) (p : Plan) (c : Core B) (stands : Stands c) (k : Configuration) where
  abbrev shown : Playing
  shown = playing left spot p c

  abbrev seats : List Chair
  seats = c.shared.seats.items

  abbrev workers : List Worker
  workers = c.workers.items

  abbrev records : List Record
  records = c.shared.requests.items

  abbrev sleepers : List SleeperRecord
  sleepers = c.shared.sleepers.items

  -- ends of requests are sent elsewhere once, and so are those of sleepers
  results : (i : ℕ) → length (desk_at k shown i).results ≤ length shown.world.common.requests
  results i =
      by_one desk_of workers i (first_desk k i) (λ (d : Desk). length d.results ≤ length shown.world.common.requests) (omega arith)
      (λ w at_i.
      let rooted = (stands.together.sound i w at_i).1.rooted in
      let few = no_more (λ (n : ℕ) (a : Answer Reply). is_of_request n a.sender.of) (length records) w.home.deferred.results.items (λ a among.
      let it = rooted.results a among in
      let sum = rooted.sent it.k it.r it.there it.worker in
      (it.k, slice_get_within records it.k it.r it.there, λ n. ap (is_of_request n) it.reply.of, omega (arith, sum, at_most (goes_elsewhere it.r)))) in
      omega (arith, few, length-map w.home.deferred.results.items (λ a. number_heard a.sender.of), length-map records (λ r. r.shown)))

  completions : (i : ℕ) → length (desk_at k shown i).completions ≤ length shown.world.common.sleepers
  completions i =
      by_one desk_of workers i (first_desk k i) (λ (d : Desk). length d.completions ≤ length shown.world.common.sleepers) (omega arith)
      (λ w at_i.
      let rooted = (stands.together.sound i w at_i).1.rooted in
      let few = no_more (λ (n : ℕ) (a : ForwardedResult Reply). is_of_timer n a.sender.of) (length sleepers) w.home.deferred.notes.completions.items (λ a among.
      let it = rooted.completions a among in
      let sum = rooted.sleeper_sent it.n it.z it.there it.worker in
      (it.n, slice_get_within sleepers it.n it.z it.there, λ n. ap (λ (y : Reply). is_of_timer n y.of) it.reply, omega (arith, sum, at_most (ends_elsewhere it.z)))) in
      omega (arith, few, length-map w.home.deferred.notes.completions.items (λ a. number_heard a.sender.of), length-map sleepers (λ z. z.shown)))

  -- each worker that has claimed some of a run queue seeks, and so it searches
  counted : HaveCounts k shown → (i : ℕ) → one_if (desk_at k shown i).searching + one_if (not ((queue_of shown.things i).gap == 0)) ≤ shown.things.idle.count
  counted counts i =
      by_worker left spot p c stands k i (λ d me seat q m. one_if d.searching + one_if (not (q.gap == 0)) ≤ c.shared.idle.count) (λ past. omega arith)
      (λ w chair it.
      let searches : AllSearch c.callers.items i workers = λ j v there. claimer_searches v.place i v.searching (subst (λ (d : Desk). is_seeking d.place ≡ true → d.searching ≡ true) (mapped desk_of workers j v (first_desk k j) there) (counts j)) in
      let both = one_more c.callers.items i workers i w it.works (claims_other w.place c.shared.config w.index i seats it.sound.aims it.index) searches in
      omega (arith, stands.together.whole.counts, stands.together.whole.claims i chair it.there, both))

  -- the queue that it is to steal from is that of a chair
  knows_tail : (place : Place) (i : ℕ) → c.shared.config.workers ≤ length seats → Aims place c.shared.config i seats → KnowsTail c.shared.config shown.things place
  knows_tail (Place.Scan (InScan.ClaimHalf y h tail)) i many aims =
      let n = c.shared.config.workers in
      let scans : y.start < n = aims.1.0 in
      let from = from_of c.shared.config y in
      let less : from < n = mod_below (y.start + y.passed) n (omega (arith, scans)) in
      let chair = there_within seats from (omega (arith, less, many)) in
      let tail_is : tail_of (queue_of shown.things from) ≡ tail_of chair.0.queue = ap (λ (q : Queue ℕ). tail_of q) (mapped queue_at seats from chair.0 no_queue chair.1) ∙ seen_tail chair.0.queue in
      (aims.0.unclaimed, aims.0.some, subst (λ m. tail ≤ m) (sym tail_is) (aims.0.behind chair.0 chair.1))
  knows_tail _ i many aims = tt

  -- the global queue is closed only once the set is: this is so by the moves
  module _ (shut : IsShut shown) (none : is_anyone_closing shown.world ≡ false) where
    -- while one of the pool hasn't passed the barrier worker zero hasn't ended; so it is open, and so is the set
    set_open : (j : ℕ) → IsBefore j c.shared.seats.items → c.shared.set.closed ≡ false
    set_open j before =
        let whole = stands.together.whole in
        let sits = who c stands 0 (let many = stands.together.seats in let some = stands.some in omega (arith, many, some)) in
        let w : Worker = sits.0 in
        let chair : Chair = sits.1 in
        let it : Sits c 0 w chair = sits.2 in
        let phased = it.sound.phased chair it.mine in
        let pool : chair.pool ≡ true = whole.in_pool 0 chair it.there ∙ lt-ltb 0 c.shared.config.workers it.sound.config.workers in
        let unshut = false_from_ne_true chair.mailbox.inbox.closed (λ h. true≢false (sym (whole.pool.shut 0 chair it.there pool h j before.chair before.there) ∙ before.going)) in
        let calm : is_closing chair.phase ≡ false = ap (λ (y : Seat). is_closing y.phase) (sym (seat_is left spot p c stands k 0 w chair it)) ∙ nobody shown.world.common.seats none 0 in
        (phased.by_zero it.index).1 ∙ stays_open chair.phase (closes_at w.place) chair.mailbox.inbox.closed (closing_in w.place) calm phased.opened phased.ended phased.shut unshut

    begins : (i t : ℕ) → is_open (seat_of shown.world.common i).phase ≡ true → place_at k shown i ≡ Place.Poll t InPoll.BeginPoll → is_ready (task_of shown.world.common t).phase ≡ true
    begins i t =
        by_worker left spot p c stands k i (λ d me seat q m. is_open seat.phase ≡ true → d.place ≡ Place.Poll t InPoll.BeginPoll → is_ready (task_of shown.world.common t).phase ≡ true)
        (λ past opened. absurd (false≢true opened)) of_one
      where
        -- the task of this slot
        by_slot : (slot : TaskSlot B) → slice_get c.shared.tasks.items t ≡ Some slot → is_ready (phase_seen slot.cell.phase slot.poller) ≡ true → is_ready (task_of shown.world.common t).phase ≡ true
        by_slot slot there queued = ap (λ (u : Task). is_ready u.phase) (mapped (task_seen left spot) c.shared.tasks.items t slot no_task there) ∙ queued

        of_one : (w : Worker) (chair : Chair) → Sits c i w chair → is_open chair.phase ≡ true → w.place ≡ Place.Poll t InPoll.BeginPoll → is_ready (task_of shown.world.common t).phase ≡ true
        of_one w chair it opened place =
            let sound : SoundAt (Place.Poll t InPoll.BeginPoll) w c.shared = subst (λ q. SoundAt q w c.shared) place it.sound in
            let r : Runnable = sound.hand.0 in
            let hand : w.hand ≡ Some r = sound.hand.1 in
            let number : r.task.0 ≡ t = sound.hand.2 in
            elim (cases_eq t w.root) [
              | inl same ↦
                  let its = sound.runnable in
                  let in_hand : root_in_hand (Some t) w.root w.hand ≡ Some r = ap (λ b. if b then w.hand else None) (eq-eqb t w.root same) ∙ hand in
                  by_slot its.root (ap (slice_get c.shared.tasks.items) same ∙ its.there) (root_queued w.root_ready (root_in_hand (Some t) w.root w.hand) r its.root in_hand its.once)
              | inr apart ↦
                  let among : Contains (option_to_list w.hand) r = subst (λ o. Contains (option_to_list o) r) (sym hand) (0, omega arith, refl) in
                  let genuine : IsGenuine c.shared.tasks.items r = elim (sound.genuine r among) [ inl next ↦ absurd (apart (same_Some t w.root next)) | inr it ↦ it ] in
                  let here : slice_get c.shared.tasks.items t ≡ Some genuine.slot = ap (slice_get c.shared.tasks.items) (sym number) ∙ genuine.there in
                  let stays = set_open w.index (before_in_poll t InPoll.BeginPoll w c.shared sound (sound.serves apart)) in
                  let gone : may_let_go c.shared ≡ false = rw stays (false_from_ne_true c.shared.global.closed (λ closed. true≢false (sym (shut.queue closed) ∙ stays))) in
                  let has = has_whole workers c.callers.items c.shared stands.together i w it.works in
                  let mine = runnables_in t (option_to_list w.hand ++ w.loot.values) in
                  let one : HasOne false genuine.slot.cell.phase ((has.others.runnables t + mine) + stock t c.shared) =
                  subst (λ b. HasOne b genuine.slot.cell.phase ((has.others.runnables t + mine) + stock t c.shared)) gone (has.whole.runnables t genuine.slot here genuine.ordinary) in
                  by_slot genuine.slot here (queued_by genuine.slot.cell.phase genuine.slot.poller _ one (let some = held_counts t w.hand w.loot.values r hand number in omega (arith, some)))
            ]

  granted : c.shared.config ≡ k → IsShut shown → HaveCounts k shown → IsGranted k shown
  granted same shut counts =
      record {
        workers = let first = there_within c.workers.items 0 stands.some in
            subst (λ (j : Configuration). 0 < j.workers) same (stands.together.sound 0 first.0 first.1).1.config.workers;
        ring = some_ring k;
        -- the first workers are those of the pool
        pool = λ i within.
            by_worker left spot p c stands k i (λ d me seat q m. seat.pool ≡ nat_lt i k.workers)
            (λ past. (let many = as_many_seats left spot p c stands k in let chairs = stands.together.seats in absurd (omega (arith, past, within, many, chairs))))
            (λ w chair it. stands.together.whole.in_pool i chair it.there ∙ ap (λ (j : Configuration). nat_lt i j.workers) same);
        opened = λ i.
            by_worker left spot p c stands k i (λ d me seat q m. is_open seat.phase ≡ true → is_of_closing d.place ≡ false) (λ past h. refl)
            (λ w chair it h. closing_same w.place ∙ not-true (closes_at w.place) (sym (it.sound.phased chair it.mine).opened ∙ h));
        serves = λ i. by_worker left spot p c stands k i (λ d me seat q m. me.serving ≡ serves_at d.place) (λ past. refl) (λ w chair it. refl);
        sampled = λ i. by_worker left spot p c stands k i (λ d me seat q m. me.sampled ≤ c.shared.clock) (λ past. omega arith) (λ w chair it. it.sound.time.not_after);
        ready = λ i t opened none at. begins shut none i t opened at;
        counted = counted counts;
        -- an open worker let none of its sleepers go
        beds = λ i z.
            by_worker left spot p c stands k i (λ d me seat q m. is_open seat.phase ≡ true → is_asleep i (sleeper_of shown.world.common z) ≡ true → is_in_slots z d.timers ≡ true)
            (λ past h. absurd (false≢true h))
            (λ w chair it open_still.
            by_one (λ (r : SleeperRecord). r.shown) c.shared.sleepers.items z no_sleeper (λ (y : Sleeper). is_asleep i y ≡ true → is_in_slots z (desk_of w).timers ≡ true)
            (λ h. absurd (grind arith))
            (λ r there asleep.
            let phased = it.sound.phased chair it.mine in
            let stays : w.home.closing ≡ false = phased.told ∙ not-true (closes_at w.place) (sym phased.opened ∙ open_still) in
            let here = subst (λ j. is_asleep j r.shown ≡ true) (sym it.index) asleep in
            let due = it.sound.due.asleep in
            let unclosed : r.closed ≡ false = false_from_ne_true r.closed (λ h. true≢false (sym (due.lets_go z r there (mine_asleep w.index r.shown here) h) ∙ stays)) in
            let zs = w.home.timers in
            found_in_slots z 0 w.names.timers.items zs.slots r.id.0.index (Vacant zs.first) refl (some_lives (slot_at zs r.id.0.index) r.id.0.generation (due.there z r there here unclosed))
            (ap (λ j. slice_index_or w.names.timers.items j 0) (none_plus r.id.0.index) ∙ due.named z r there here unclosed)));
        room = λ i. by_worker left spot p c stands k i (λ d me seat q m. KnowsRoom d.place q) (λ past. tt) (λ w chair it. knows_room w.place chair.queue (it.sound.queue chair it.mine));
        aside = λ i. by_worker left spot p c stands k i (λ d me seat q m. KnowsAside d.place q) (λ past. tt) (λ w chair it. knows_aside w.place chair.queue (it.sound.queue chair it.mine));
        claims = λ i.
            subst (λ (j : Configuration). KnowsTail j shown.things (place_at k shown i)) same
            (by_worker left spot p c stands k i (λ d me seat q m. KnowsTail c.shared.config shown.things d.place) (λ past. tt)
            (λ w chair it. knows_tail w.place w.index it.sound.seated.many it.sound.aims));
        -- what is stolen is at most half of a run queue
        few = λ i.
            by_worker left spot p c stands k i (λ d me seat q m. length d.loot ≤ 128) (λ past. omega arith)
            (λ w chair it. (let many = length-map w.loot.values (λ (r : Runnable). r.task.0) in let most = it.sound.loot.few in omega (arith, many, most)));
        results = results;
        completions = completions;
      }

module _ {B L : Type 0} (left : B → L) (runs : L → Plan → Option ℕ → Type 0) (holds : L → Option Said → List ℕ) (spot : L → Option Said → Spot) where
  pub are_granted : (p : Plan) (c : Core B) (x : Playing) → Stands c → Shows left runs holds spot p c x → IsShut x → HaveCounts p.config x → IsGranted p.config x
  are_granted p c x stands shows shut counts =
      subst (IsGranted p.config) shows.is
      (granted left spot p c stands p.config shows.config (subst IsShut (sym shows.is) shut) (subst (HaveCounts p.config) (sym shows.is) counts))
