-- In each state of an executor a task is queued once, by the balances of all parties. The root of each worker is, in its flag or in
-- the hand: what has the runnables of others has ordinary ones. Durable requests take turns, by the gates, and no write and no sync is
-- cancelled, by what each worker has of its own requests.
use Rattle.std.{proofs.{Common.{◌≡◌, ℕ, ◌&&◌, ◌||◌, Bool, true, false, not, List, map, slice_get, Option, Some, None, refl, sym, ap, subst, ◌∙◌, arith, ◌+◌, ◌==◌, [], ◌∷◌, ◌++◌, cond, sum_by, option_map, option_to_list, zero, suc, Contains, length, is_some, IsSome, inl, inr}, lemmas.{Bool.false≢true, List.{Sums.sum_by-cons, map-append}, Option.{none-some, slice_get_within}}}, specs.Prelude.if◌then◌else◌}
use Rattle.exec_base.specs.Slab.{value_at}
use Rattle.exec_outcomes.specs.Accounts.{is_durable}
use Rattle.exec_machine.specs.{declared.state.{Request.Request, TaskPhase.TaskPhase}, Progress.Plan, Tests.{is_gated, is_kept, is_resolved}, World.{Common, Task, request_of}}
use Rattle.exec_request.specs.States.{asks_cancel}
use Rattle.exec_waiters.{specs.{States.waiter_at, declared.waiter.Waiter.Waiter}, proofs.Changes.entry_of}
use Rattle.exec_opens.specs.Opens.{OpenState}
use Rattle.exec_task.specs.{Phases.is_polled, declared.{body.Said.Said, runnable.Runnable.Runnable, task.Phase.Phase}}
use Rattle.exec_moves.specs.{Plays.Playing, Call.CallDesk, Poll.{is_noted, pend}, Told.{lets_go_request, lets_go_requests}, Seen.polls_at, State.Desk, declared.place.InPoll.InPoll}
use Rattle.exec_parts.{specs.{declared.parts.{seat.Seat.Seat as Chair, mail.Reply.Reply, record.Record.Record, shared.Shared.Shared, worker.Worker.Worker, task_slot.TaskSlot.TaskSlot}, Records.number_in, Spots.Spot, View.{driver_of, desk_of, phase_seen, queue_at, task_seen}}, proofs.Facts.{false_from_ne_true, not_same, same_Some}}
use Rattle.exec_invariants.{specs.{Gates.{AreLinedUp, key_for}, Sound.{Sound, HasGuest, IsInHand, IsRunnable, one_of, root_in_hand}, Places.{is_number, one_if, begins_at, hands_on_at, in_poll_of, step_of_poll}, Whole.{HasOne, queued, runnables_in, stock, IsGenuine}}, proofs.{Gated.durable_of_file, SparedRecord.there_within, Lined.{unmapped, mapped}, Appending.not_among, Thieves.in_both}}
use Rattle.exec_polling.{specs.{declared.caller.Caller.Caller, Calling.desk_of_caller}, proofs.MadePlaces.none_summed}
use Rattle.exec_core.{specs.{declared.executor.Core.Core, Lift.{Stands, Shows, playing}, Turns.{IsOrderly, TakeTurns, has_permit}, Once.{IsOnce, polls_of, runnables_of, times, IsRootOnce, QueuesOnce}, Examples.task_zero}, proofs.{Lifting.{Said, owned}, GivenParts.{Sits, who, Queue, all_have}, Placed.home_within}}

-- COUNTS of what was mapped

counted : (t : ℕ) (rs : List Runnable) → times t (map (λ r. r.task.0) rs) ≡ runnables_in t rs
counted t [] = refl
counted t (r ∷ rs) = grind (arith, sum_by-cons (λ u. cond (u == t) 1 0) r.task.0 (map (λ q. q.task.0) rs), counted t rs, sum_by-cons (λ q. cond (q.task.0 == t) 1 0) r rs)

in_hand : (o : Option Runnable) → option_to_list (option_map (λ r. r.task.0) o) ≡ map (λ (r : Runnable). r.task.0) (option_to_list o)
in_hand = grind arith

in_hands : (t : ℕ) (o : Option Runnable) (loot : List Runnable) → times t (option_to_list (option_map (λ r. r.task.0) o) ++ map (λ r. r.task.0) loot) ≡ runnables_in t (option_to_list o ++ loot)
in_hands t o loot =
    ap (λ xs. times t (xs ++ map (λ (r : Runnable). r.task.0) loot)) (in_hand o) ∙ ap (times t) (sym (map-append (λ (r : Runnable). r.task.0) (option_to_list o) loot)) ∙ counted t (option_to_list o ++ loot)

sum_mapped : {A X : Type 0} (f : X → ℕ) (g : A → X) (h : A → ℕ) (xs : List A) → ((a : A) → f (g a) ≡ h a) → sum_by f (map g xs) ≡ sum_by h xs
sum_mapped f g h [] same = refl
sum_mapped f g h (x ∷ xs) same = omega (arith, same x, sum_mapped f g h xs same, sum_by-cons f (g x) (map g xs), sum_by-cons h x xs)

-- the runnables of a task that a worker has, and its polls of it; and the runnables that a caller has
abbrev held : ℕ → Worker → ℕ
held t w = runnables_in t (option_to_list w.hand ++ w.loot.values)

abbrev polled : ℕ → Worker → ℕ
polled t w = one_if (is_number (polls_at w.place) t)

abbrev called : ℕ → Caller → ℕ
called t x = runnables_in t (option_to_list x.hand)

callers_sum : (t : ℕ) (cs : List Caller) → ((all_have [] cs).runnables t ≡ sum_by (called t) cs) × ((all_have [] cs).polls t ≡ 0)
callers_sum t [] = (refl, refl)
callers_sum t (c ∷ cs) = (omega (arith, (callers_sum t cs).0, sum_by-cons (called t) c cs), (callers_sum t cs).1)

all_sum : (t : ℕ) (ws : List Worker) (cs : List Caller) → ((all_have ws cs).runnables t ≡ sum_by (held t) ws + sum_by (called t) cs) × ((all_have ws cs).polls t ≡ sum_by (polled t) ws)
all_sum t [] cs = ((callers_sum t cs).0 ∙ omega arith, (callers_sum t cs).1)
all_sum t (w ∷ ws) cs = (omega (arith, (all_sum t ws cs).0, sum_by-cons (held t) w ws), omega (arith, (all_sum t ws cs).1, sum_by-cons (polled t) w ws))

-- OF ONE TASK

module _ {B : Type 0} where
  -- what its cell says
  once_by : (gone : Bool) (p : Phase B) (i n m : ℕ) → HasOne gone p n → m ≡ one_if (is_polled p) → IsOnce gone (phase_seen p i) n m
  once_by = grind arith

  -- the root is queued where its runnable is in the flag or in the hand, not in both
  root_once : (flag hand : Option Runnable) (slot : TaskSlot B) (n polls : ℕ) → IsRunnable (one_of flag hand) slot → (IsSome flag → hand ≡ None) → n ≡ one_if (is_some hand) → polls ≡ one_if (is_polled slot.cell.phase)
      → IsOnce false (phase_seen slot.cell.phase slot.poller) (one_if (is_some flag) + n) polls
  root_once = grind arith

module _ {B L : Type 0} (left : B → L) (spot : L → Option Said → Spot) (p : Plan) (c : Core B) where
  abbrev shown : Playing
  shown = playing left spot p c

  runnables_sum : (t : ℕ) → runnables_of t shown ≡ (sum_by (held t) c.workers.items + sum_by (called t) c.callers.items) + stock t c.shared
  runnables_sum t =
      let desks = sum_mapped (λ (d : Desk). times t (option_to_list d.hand ++ d.loot)) desk_of (held t) c.workers.items (λ w. in_hands t w.hand w.loot.values) in
      let calls = sum_mapped (λ (d : CallDesk). times t (option_to_list d.hand)) desk_of_caller (called t) c.callers.items (λ x. ap (times t) (in_hand x.hand) ∙ counted t (option_to_list x.hand)) in
      let queues = sum_mapped (λ (q : Queue ℕ). times t (q.values ++ q.held)) queue_at (λ chair. runnables_in t (queued chair)) c.shared.seats.items
      (λ chair. ap (times t) (sym (map-append (λ (r : Runnable). r.task.0) chair.queue.values chair.queue.held)) ∙ counted t (queued chair)) in
      omega (arith, desks, calls, queues, counted t c.shared.global.values)

  polls_sum : (t : ℕ) → polls_of t shown ≡ sum_by (polled t) c.workers.items
  polls_sum t = sum_mapped (λ (d : Desk). one_if (is_number (polls_at d.place) t)) desk_of (polled t) c.workers.items (λ w. refl)

  ordinary_once : Stands c → (t : ℕ) (it : Task) → slice_get shown.world.common.tasks t ≡ Some it → it.home ≡ None
      → IsOnce (shown.world.common.set_closed || shown.world.common.queue_closed) it.phase (runnables_of t shown) (polls_of t shown)
  ordinary_once stands t it there ordinary =
      let whole = stands.together.whole in
      let all = all_sum t c.workers.items c.callers.items in
      let found = unmapped (task_seen left spot) c.shared.tasks.items t it there in
      let slot : TaskSlot B = found.0 in
      let home : slot.home ≡ None = ap (λ (u : Task). u.home) found.2 ∙ ordinary in
      let many : runnables_of t shown ≡ (all_have c.workers.items c.callers.items).runnables t + stock t c.shared = omega (arith, runnables_sum t, all.0) in
      let gone = c.shared.set.closed || c.shared.global.closed in
      subst (λ (u : Task). IsOnce gone u.phase (runnables_of t shown) (polls_of t shown)) found.2
      (once_by gone slot.cell.phase slot.poller _ _ (subst (λ n. HasOne gone slot.cell.phase n) (sym many) (whole.runnables t slot found.1 home)) (polls_sum t ∙ sym all.1 ∙ whole.polls t slot found.1 home))

-- A POLL THAT ENDS PENDING

-- what a task held that is over is let go, and no hand takes anything by that
requests_hand : (i : ℕ) (s : Common) (held : List ℕ) (d : Desk) → (lets_go_requests i s held d).hand ≡ d.hand
requests_hand i s [] d = refl
requests_hand i s (r ∷ held) d = grind (arith, requests_hand i s held (lets_go_request i r (request_of s r) d))

pub again : (i t : ℕ) (s : Common) (d : Desk) (it : Task) → it.home ≡ None → d.hand ≡ None → (pend i t s d it).desk.hand ≡ (if is_noted it.phase && not it.cleared then Some t else None)
again = grind (arith, requests_hand)

pub again_root : (i t home : ℕ) (s : Common) (d : Desk) (it : Task) → it.home ≡ Some home → ((pend i t s d it).desk.hand ≡ d.hand) × ((pend i t s d it).desk.root_ready ≡ (d.root_ready || is_noted it.phase))
again_root = grind arith

-- the sum over a list of which all but one have none
only_at : {X : Type 0} (f : X → ℕ) (xs : List X) (i : ℕ) (x : X) → slice_get xs i ≡ Some x → ((j : ℕ) (y : X) → slice_get xs j ≡ Some y → (j ≡ i → ⊥) → f y ≡ 0) → sum_by f xs ≡ f x
only_at f [] i x there none = absurd (omega (arith, slice_get_within [] i x there))
only_at f (y ∷ ys) zero x there none =
    let rest = none_summed f ys (λ k z at. none (suc k) z at (λ same. absurd (omega (arith, same)))) in
    omega (arith, ap f (same_Some y x there), rest, sum_by-cons f y ys)
only_at f (y ∷ ys) (suc i) x there none =
    let here = none 0 y refl (λ same. absurd (omega (arith, same))) in
    let rest = only_at f ys i x there (λ j z at other. none (suc j) z at (λ same. other (omega (arith, same)))) in
    omega (arith, here, rest, sum_by-cons f y ys)

-- THE HAND

abbrev number_in_hand : Option Runnable → Option ℕ
number_in_hand hand = option_map (λ r. r.task.0) hand

-- a root is in the hand where it is polled next: what else is there is another task's
hand_is : (begins : Option ℕ) (on : Bool) (t : ℕ) (hand : Option Runnable) → IsInHand begins on hand → (begins ≡ None → (r : Runnable) → hand ≡ Some r → r.task.0 ≡ t → ⊥)
    → is_number (number_in_hand hand) t ≡ is_number begins t
hand_is = grind (arith, not_same)

in_root_hand : (begins : Option ℕ) (t : ℕ) (hand : Option Runnable) → is_number (number_in_hand hand) t ≡ is_number begins t → is_number (number_in_hand hand) t ≡ is_some (root_in_hand begins t hand)
in_root_hand = grind arith

own_count : (t : ℕ) (hand : Option Runnable) → runnables_in t (option_to_list hand) ≡ one_if (is_number (number_in_hand hand) t)
own_count = grind arith

next_in_hand : (begins : Option ℕ) (on : Bool) (root : ℕ) (hand : Option Runnable) (r : Runnable) → begins ≡ Some root → IsInHand begins on hand → Contains (option_to_list hand) r → r.task.0 ≡ root
next_in_hand = grind arith

-- THE POLL
polled_so : (t : ℕ) (polls : Option ℕ) (x : InPoll) → is_some (in_poll_of t polls x) ≡ is_number polls t
polled_so = grind arith

module _ {B : Type 0} (c : Core B) (stands : Stands c) (i : ℕ) (w : Worker) (chair : Chair) (it : Sits c i w chair) where
  abbrev tasks : List (TaskSlot B)
  tasks = c.shared.tasks.items

  abbrev root : TaskSlot B
  root = it.sound.runnable.root

  -- the slot of the number of its root is the root's
  home_at : (u : ℕ) (other : TaskSlot B) → slice_get tasks u ≡ Some other → u ≡ w.root → other.home ≡ Some w.index
  home_at u other at same = ap (λ (z : TaskSlot B). z.home) (same_Some other root (sym at ∙ ap (slice_get tasks) same ∙ it.sound.runnable.there)) ∙ it.sound.runnable.home

  not_ordinary : (r : Runnable) → IsGenuine tasks r → r.task.0 ≡ w.root → ⊥
  not_ordinary r real same = none-some w.index (sym real.ordinary ∙ home_at r.task.0 real.slot real.there same)

  none_of : (rs : List Runnable) → ((r : Runnable) → Contains rs r → IsGenuine tasks r) → runnables_in w.root rs ≡ 0
  none_of rs genuine = not_among w.root rs (λ r among. not_ordinary r (genuine r among))

  -- the root of another worker is another
  other_root : (j : ℕ) (v : Worker) → slice_get c.workers.items j ≡ Some v → (j ≡ i → ⊥) → v.root ≡ w.root → ⊥
  other_root j v at other same =
      let its = stands.together.sound j v at in
      let mine = its.1.runnable in
      other (sym its.0 ∙ same_Some v.index w.index (sym mine.home ∙ home_at v.root mine.root mine.there same) ∙ it.index)

  -- WHO ISN'T ITS WORKER has no runnable of it, and doesn't poll it

  none_held : (j : ℕ) (v : Worker) → slice_get c.workers.items j ≡ Some v → (j ≡ i → ⊥) → held w.root v ≡ 0
  none_held j v at other =
      let sound : Sound v c.shared = (stands.together.sound j v at).1 in
      let hand = not_among w.root (option_to_list v.hand) (λ r among same. elim (sound.genuine r among) [
        | inl next ↦ other_root j v at other (sym (next_in_hand (begins_at v.place) (hands_on_at v.place) v.root v.hand r next sound.hand among) ∙ same)
        | inr genuine ↦ not_ordinary r genuine same
      ]) in
      omega (arith, in_both w.root (option_to_list v.hand) v.loot.values, hand, none_of v.loot.values sound.stolen)

  guest_none : (polls : Option ℕ) (x : InPoll) (j other : ℕ) → HasGuest polls x j other tasks → (other ≡ w.root → ⊥) → is_number polls w.root ≡ false
  guest_none None x j other guest apart = refl
  guest_none (Some u) x j other guest apart =
      not_same u w.root (λ same.
      let its = guest (λ is. apart (sym is ∙ same)) in
      none-some w.index (sym its.2.ordinary ∙ home_at u its.0 its.1 same))

  none_polled : (j : ℕ) (v : Worker) → slice_get c.workers.items j ≡ Some v → (j ≡ i → ⊥) → polled w.root v ≡ 0
  none_polled j v at other = ap one_if (guest_none (polls_at v.place) (step_of_poll v.place) v.index v.root (stands.together.sound j v at).1.guest (other_root j v at other))

  -- NO QUEUE AND NO CALLER has one

  none_queued : stock w.root c.shared ≡ 0
  none_queued =
      let whole = stands.together.whole in
      let seats = none_summed (λ seat. runnables_in w.root (queued seat)) c.shared.seats.items (λ k seat at. none_of (queued seat) (λ r. whole.queued_here k seat r at)) in
      omega (arith, seats, none_of c.shared.global.values whole.queued_there)

  none_called : sum_by (called w.root) c.callers.items ≡ 0
  none_called = none_summed (called w.root) c.callers.items (λ k x at. none_of (option_to_list x.hand) (stands.together.calls k x at).genuine)

  -- ITS WORKER

  held_so : is_number (number_in_hand w.hand) w.root ≡ is_number (begins_at w.place) w.root
  held_so =
      hand_is (begins_at w.place) (hands_on_at w.place) w.root w.hand it.sound.hand (λ none r is same.
      elim (it.sound.genuine r (subst (λ o. Contains (option_to_list o) r) (sym is) (0, omega arith, refl))) [ inl next ↦ none-some w.root (sym none ∙ next) | inr genuine ↦ not_ordinary r genuine same ])

  own_held : held w.root w ≡ one_if (is_number (number_in_hand w.hand) w.root)
  own_held = omega (arith, in_both w.root (option_to_list w.hand) w.loot.values, own_count w.root w.hand, none_of w.loot.values it.sound.stolen)

  own_polled : polled w.root w ≡ one_if (is_polled root.cell.phase)
  own_polled = ap one_if (sym ((it.sound.tied.stands root it.sound.runnable.there).polled ∙ polled_so w.root (polls_at w.place) (step_of_poll w.place)))

  module _ {L : Type 0} (left : B → L) (spot : L → Option Said → Spot) (p : Plan) where
    once_there : IsRootOnce w.root (phase_seen root.cell.phase root.poller) (desk_of w) (playing left spot p c)
    once_there =
        let mine = it.sound.runnable in
        let hand = root_in_hand (begins_at w.place) w.root w.hand in
        let all = only_at (held w.root) c.workers.items i w it.works none_held in
        record {
          once = root_once w.root_ready hand root _ (polled w.root w) mine.once mine.one (ap one_if (in_root_hand (begins_at w.place) w.root w.hand held_so)) own_polled;
          hand = held_so;
          runnables = omega (arith, runnables_sum left spot p c w.root, all, own_held, none_called, none_queued);
          polls = polls_sum left spot p c w.root ∙ only_at (polled w.root) c.workers.items i w it.works none_polled;
        }

module _ {B L : Type 0} (left : B → L) (runs : L → Plan → Option ℕ → Type 0) (holds : L → Option Said → List ℕ) (spot : L → Option Said → Spot) where
  once_at : (p : Plan) (c : Core B) → Stands c → (t i : ℕ) (slot : TaskSlot B) → slice_get c.shared.tasks.items t ≡ Some slot → slot.home ≡ Some i
      → (d : Desk) × (slice_get (map desk_of c.workers.items) i ≡ Some d) × IsRootOnce t (phase_seen slot.cell.phase slot.poller) d (playing left spot p c)
  once_at p c stands t i slot there home =
      let tasks = c.shared.tasks.items in
      let first = there_within c.workers.items 0 stands.some in
      let homes = (stands.together.sound 0 first.0 first.1).1.homes in
      let sits = who c stands i (home_within c.shared.config.workers (length c.shared.seats.items) tasks homes t i slot there home) in
      let w : Worker = sits.0 in
      let mine = sits.2.sound.runnable in
      let is : w.root ≡ t = homes.once w.root t i mine.root slot mine.there there (mine.home ∙ ap (λ n. Some n) sits.2.index) home in
      let same : mine.root ≡ slot = same_Some mine.root slot (sym mine.there ∙ ap (slice_get tasks) is ∙ there) in
      let once = once_there c stands i w sits.1 sits.2 left spot p in (
        desk_of w,
        mapped desk_of c.workers.items i w sits.2.works,
        subst (λ n. IsRootOnce n (phase_seen slot.cell.phase slot.poller) (desk_of w) (playing left spot p c)) is
            (subst (λ (z : TaskSlot B). IsRootOnce w.root (phase_seen z.cell.phase z.poller) (desk_of w) (playing left spot p c)) same once),
      )

  pub queues_once : (p : Plan) (c : Core B) (x : Playing) → Stands c → Shows left runs holds spot p c x → QueuesOnce x
  queues_once p c x stands shows =
      subst QueuesOnce shows.is
      (record {
        ordinary = ordinary_once left spot p c stands;
        roots = λ t i it at home.
            let found = unmapped (task_seen left spot) c.shared.tasks.items t it at in
            let slot : TaskSlot B = found.0 in
            let its = once_at p c stands t i slot found.1 (ap (λ (u : Task). u.home) found.2 ∙ home) in
            (its.0, its.1, subst (λ (u : Task). IsRootOnce t u.phase its.0 (playing left spot p c)) found.2 its.2);
        alone = λ t u i it other at at_other home home_too.
            let found = unmapped (task_seen left spot) c.shared.tasks.items t it at in
            let second = unmapped (task_seen left spot) c.shared.tasks.items u other at_other in
            let first = there_within c.workers.items 0 stands.some in
            (stands.together.sound 0 first.0 first.1).1.homes.once t u i found.0 second.0 found.1 second.1 (ap (λ (y : Task). y.home) found.2 ∙ home) (ap (λ (y : Task). y.home) second.2 ∙ home_too);
      })

-- WHERE THERE IS ONE TASK

module _ (x : Playing) (a : Task) (one : x.world.common.tasks ≡ a ∷ []) where
  one_task : (P : ℕ → Task → Type 0) → P 0 a → (t : ℕ) (it : Task) → slice_get x.world.common.tasks t ≡ Some it → P t it
  one_task P here zero it there = subst (P 0) (same_Some a it (sym (ap (λ ts. slice_get ts 0) one) ∙ there)) here
  one_task P here (suc t) it there = absurd (none-some it (sym (ap (λ ts. slice_get ts (suc t)) one) ∙ there))

  alone : (a.home ≡ None → IsOnce (x.world.common.set_closed || x.world.common.queue_closed) a.phase (runnables_of 0 x) (polls_of 0 x))
      → ((i : ℕ) → a.home ≡ Some i → (d : Desk) × (slice_get x.desks i ≡ Some d) × IsRootOnce 0 a.phase d x) → QueuesOnce x
  alone ordinary root =
      record {
        ordinary = one_task (λ t it. it.home ≡ None → IsOnce (x.world.common.set_closed || x.world.common.queue_closed) it.phase (runnables_of t x) (polls_of t x)) ordinary;
        roots = λ t i it there. one_task (λ t it. it.home ≡ Some i → (d : Desk) × (slice_get x.desks i ≡ Some d) × IsRootOnce t it.phase d x) (root i) t it there;
        alone = λ t u i it other at_t at_u home home_too. one_task (λ n y. n ≡ 0) refl t it at_t ∙ sym (one_task (λ n y. n ≡ 0) refl u other at_u);
      }

pub ordinary_alone : (x : Playing) (phase : TaskPhase) → x.world.common.tasks ≡ task_zero None phase ∷ []
    → IsOnce (x.world.common.set_closed || x.world.common.queue_closed) phase (runnables_of 0 x) (polls_of 0 x) → QueuesOnce x
ordinary_alone x phase one once = alone x (task_zero None phase) one (λ home. once) (λ i home. absurd (none-some i home))

pub root_alone : (x : Playing) (phase : TaskPhase) (d : Desk) → x.world.common.tasks ≡ task_zero (Some 0) phase ∷ [] → slice_get x.desks 0 ≡ Some d → IsRootOnce 0 phase d x → QueuesOnce x
root_alone x phase d one desk once =
    alone x (task_zero (Some 0) phase) one (λ home. absurd (none-some 0 (sym home))) (λ i home. (d, ap (slice_get x.desks) (sym (same_Some 0 i home)) ∙ desk, once))

-- THE PERMIT

permit_parts : (durable gated over : Bool) → (durable && not (gated || over)) ≡ true → (durable ≡ true) × (gated ≡ false) × (over ≡ false)
permit_parts = grind arith

-- who has the permit stands first at the gate of its open
holder_is : (opens : List OpenState) (rs : List Record) → AreLinedUp opens rs → (k : ℕ) (r : Record) → slice_get rs k ≡ Some r → has_permit r.shown ≡ true
    → (o : OpenState) × (slice_get opens r.shown.operation.target ≡ Some o) × (o.holder ≡ Some (key_for r))
holder_is opens rs lined k r there has =
    let file = r.shown.operation.target in
    let is = permit_parts (is_durable r.shown.operation.kind) (is_gated r.shown.phase) (is_resolved r.shown.phase) has in
    let found = there_within opens file (lined.there k r there (durable_of_file r.shown.operation.kind is.0)) in
    (found.0, found.1, (lined.lines file found.0 found.1).held k r there is.0 refl is.1 is.2)

one_has : (opens : List OpenState) (rs : List Record) → AreLinedUp opens rs → (j k : ℕ) (q r : Record) → slice_get rs j ≡ Some q → slice_get rs k ≡ Some r
    → has_permit q.shown ≡ true → has_permit r.shown ≡ true → q.shown.operation.target ≡ r.shown.operation.target → j ≡ k
one_has = grind (arith, holder_is)

-- NOTHING THAT CHANGES A FILE IS CANCELLED

module _ {B : Type 0} where
  own_uncancelled : (w : Worker) (s : Shared B) → Sound w s → (k : ℕ) (r : Record) → slice_get s.requests.items k ≡ Some r → r.shown.worker ≡ w.index
      → is_kept r.shown.operation.kind ≡ true → is_resolved r.shown.phase ≡ false → r.shown.cancelled ≡ false
  own_uncancelled w s sound k r there mine kept going = by (waiter_at (driver_of w).requests r.id.0) refl
    where
      by : (o : Option (Waiter Reply Reply)) → waiter_at (driver_of w).requests r.id.0 ≡ o → r.shown.cancelled ≡ false
      by None gone = absurd (false≢true (sym going ∙ sound.named.over k r there mine gone))
      by (Some it) live =
          let at = sound.named.requests r.id.0 (rw (entry_of (value_at (driver_of w).requests r.id.0) it live) refl) in
          let keys : key_for at.0 ≡ key_for r = ap (λ i. record { worker = i; id = at.0.id }) (at.3 ∙ sym mine) ∙ ap (λ x. record { worker = r.shown.worker; id = record { 0 = x } }) at.2 in
          let number : number_in w.names.requests.items r.id.0 ≡ k = sound.gates.unique (number_in w.names.requests.items r.id.0) k at.0 r at.1 there keys in
          let a = sound.named.alike r.id.0 it r live (ap (slice_get s.requests.items) number ∙ there) in
          a.cancelled ∙ false_from_ne_true (asks_cancel it.state) (λ asks. false≢true (sym (a.alone asks) ∙ sym (ap (λ x. is_kept x.kind) a.asked) ∙ kept))

module _ {B L : Type 0} (left : B → L) (runs : L → Plan → Option ℕ → Type 0) (holds : L → Option Said → List ℕ) (spot : L → Option Said → Spot) where
  pub take_turns : (p : Plan) (c : Core B) (x : Playing) → Stands c → Shows left runs holds spot p c x → TakeTurns x.world.common.requests
  take_turns p c x stands shows =
      let rs = c.shared.requests.items in
      let first = there_within c.workers.items 0 stands.some in
      let lined = (stands.together.sound 0 first.0 first.1).1.gates in
      subst (λ (y : Playing). TakeTurns y.world.common.requests) shows.is
      (record {
        one = λ j k q r at_j at_k mine yours same.
            let a = unmapped (λ (x : Record). x.shown) rs j q at_j in
            let b = unmapped (λ (x : Record). x.shown) rs k r at_k in
            one_has c.shared.opens rs lined j k a.0 b.0 a.1 b.1 (ap has_permit a.2 ∙ mine) (ap has_permit b.2 ∙ yours)
            (ap (λ (x : Request). x.operation.target) a.2 ∙ same ∙ sym (ap (λ (x : Request). x.operation.target) b.2));
        uncancelled = λ k r at kept going.
            let a = unmapped (λ (x : Record). x.shown) rs k r at in
            let w = there_within c.workers.items a.0.shown.worker (owned c stands k a.0 a.1) in
            let it = stands.together.sound a.0.shown.worker w.0 w.1 in
            sym (ap (λ (x : Request). x.cancelled) a.2)
            ∙ own_uncancelled w.0 c.shared it.1 k a.0 a.1 (sym it.0) (ap (λ (x : Request). is_kept x.operation.kind) a.2 ∙ kept) (ap (λ (x : Request). is_resolved x.phase) a.2 ∙ going);
      })

  pub orderly : (p : Plan) (c : Core B) (x : Playing) → Stands c → Shows left runs holds spot p c x → IsOrderly x
  orderly p c x stands shows = record { once = queues_once left runs holds spot p c x stands shows; turns = take_turns p c x stands shows }
