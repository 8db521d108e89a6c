-- The executor begins as the machine does, and shows the first state of the moves: nobody has anything, and so all balances hold.
use Rattle.std.{proofs.{Common.{◌≡◌, ℕ, zero, suc, ◌&&◌, Bool, true, false, not, List, [], ◌∷◌, length, map, replicate, Some, None, refl, sym, ap, subst, ◌∙◌, arith, if◌then◌else◌, slice_get, slice_index_or, ◌+◌, Option, ◌==◌, Contains, ◌++◌}, lemmas.{Bool.{false≢true, lt-ltb}, List.{Sums.sum_by-cons, length-map}, Option.slice_get_within}}, specs.List.range_with_len}
use Rattle.exec_machine.specs.{declared.config.Configuration.Configuration, Progress.Plan, Run.{first_common, first_owns, first_tasks, first_world}, Tasks.{new_own, new_seat, new_task}, World.Task}
use Rattle.exec_words.specs.Idle.{is_in}
use Rattle.exec_opens.specs.Opens.{fresh_open}
use Rattle.exec_task.specs.{declared.{runnable.Runnable.Runnable, body.Said.{Said, TheVariants.Start}}, TaskSet.{AreAtHome, Set, at_number}}
use Rattle.exec_moves.specs.{Pop.shard_count, Plays.{first_desk, first_desks, first_things, first_playing}, State.{no_queue, no_wake_poll, no_word}}
use Rattle.exec_parts.{specs.{declared.parts.{role.Role.TheVariants.Pool, seat.Seat.Seat as Chair, shared.Shared.Shared, task_slot.TaskSlot.TaskSlot, worker.Worker.Worker}, Dedicated.Begins, Records.{IsFreshSeat, numbers_held}, Spots.Spot, View.{gate_seen, numbers_of_passing, Visible, visible, own_of, desk_of, common_of, inbox_at, open_seen, polls_seen, queue_at, queue_seen, message_of, seat_seen, seats_seen, task_seen, things_with, word_at}}, proofs.Facts.same_Some}
use Rattle.exec_invariants.{specs.{Gates.HaveGates, Drained.{in_set, IsPool}, Holding.{IsHolding, Mail, box_of, holder_of, nap_of, thing_of}, Places.{no_drops, one_if}, Whole.{IsWhole, Profile, claimed_count, duties_of, hands_of, stock, with_worker}, Acting.{Performs, PerformsAll}}, proofs.Lined.unmapped}
use Rattle.exec_polling.{specs.{declared.caller.Caller.Caller, Calling.{CallSound, call_of, desk_of_caller}}, proofs.{Begun.{fresh_mailbox, left_quiet, none_has, none_there, not_both, desk_begun, fresh_visible, own_begun, visible_begun}, MadePlaces.none_summed}}
use Rattle.exec_steps.specs.Together.{StandTogether, all_have, callers_have}
use Rattle.exec_core.{proofs.{Beginning.{config_sound, first_sound, free_caller, homes_begun, InRange, shards_of, may_begin, map_replicate, replicated}, Lifting.playing_by}, specs.{Firsts.{AllBegin, IsFirst, IsRoot}, Lift.{Stands, IsReady, IsPlanOf, Shows, code_of_root, playing, views}, declared.executor.Core.Core}}

-- WHAT PARTIES HAVE

-- nothing at all
record IsEmptyProfile (x : Profile) : Type 0 where
  runnables : (t : ℕ) → x.runnables t ≡ 0
  polls : (t : ℕ) → x.polls t ≡ 0
  claims : (j : ℕ) → x.claims j ≡ 0
  counts : x.counts ≡ 0
  published : (j : ℕ) → x.published j ≡ false
  clears : (t : ℕ) → x.clears t ≡ 0
  polled_by : (j : ℕ) → x.polled_by j ≡ None
  drops_by : (j : ℕ) → x.drops_by j ≡ no_drops
  mail : (m : Mail) → x.mail m ≡ 0
  wakes : (j t : ℕ) → x.wakes j t ≡ 0

callers_nothing : (n : ℕ) → IsEmptyProfile (callers_have (replicate n free_caller))
callers_nothing zero = record { runnables = λ t. refl; polls = λ t. refl; claims = λ j. refl; counts = refl; published = λ j. refl; clears = λ t. refl; polled_by = λ j. refl; drops_by = λ j. refl; mail = λ m. refl; wakes = λ j t. refl }
callers_nothing (suc n) = grind (arith, callers_nothing n)

either_way : {A : Type 0} (b : Bool) (x y z : A) → x ≡ z → y ≡ z → (if b then x else y) ≡ z
either_way = grind arith

with_first : (c : Configuration) (i : ℕ) (r : Runnable) (w : Worker) (x : Profile) → Begins c (Pool i) i i r 0 w → IsEmptyProfile x → IsEmptyProfile (with_worker x w)
with_first = grind (arith, left_quiet, either_way)

all_nothing : (c : Configuration) (ws : List Worker) (cs : List Caller) → ((i : ℕ) (w : Worker) → slice_get ws i ≡ Some w → (j : ℕ) × (r : Runnable) × Begins c (Pool j) j j r 0 w) → IsEmptyProfile (callers_have cs) → IsEmptyProfile (all_have ws cs)
all_nothing c [] cs each rest = rest
all_nothing c (w ∷ ws) cs each rest =
    let it = each 0 w refl in
    with_first c it.0 it.1 w (all_have ws cs) it.2 (all_nothing c ws cs (λ i v there. each (suc i) v there) rest)

-- SUMS OF NOTHING

in_none : (t n : ℕ) → in_set t (let set : Set (Unit {0}) = record { shards = replicate n []; closed = false; id = 1 } in set) ≡ 0
in_none t zero = refl
in_none t (suc n) = grind (arith, sum_by-cons, in_none t n)

unset : {A : Type 0} (x : A) (n i : ℕ) → slice_index_or (replicate n x) i x ≡ x
unset x zero i = refl
unset x (suc n) zero = refl
unset x (suc n) (suc i) = unset x n i

at_home : (n : ℕ) → AreAtHome {T = Unit {0}} (replicate n [])
at_home n index number some = absurd (some (ap (λ xs. at_number xs number) (unset [] n index)))

worker_at : (c : Configuration) (rs : List Runnable) (ws : List Worker) → AllBegin c rs ws → (i : ℕ) (w : Worker) → slice_get ws i ≡ Some w → (j : ℕ) × (r : Runnable) × Begins c (Pool j) j j r 0 w
worker_at = grind arith

module _ {B : Type 0} (c : Configuration) (roots : List B) (s : Shared B) (rs : List Runnable) (first : IsFirst c roots s rs) where
  -- each task is a root; and no runnable is anywhere, and no task in the set
  no_ordinary : (t : ℕ) (slot : TaskSlot B) → slice_get s.tasks.items t ≡ Some slot → slot.home ≡ None → ⊥
  no_ordinary t slot there home = not_both slot.home t home (ap (λ y. y.home) (first.rooted.root t slot there).2.is)

  stock_none : (t : ℕ) → stock t s ≡ 0
  stock_none = grind (arith, none_summed)

  nowhere : (t : ℕ) → in_set t s.set ≡ 0
  nowhere t = ap (λ (z : Shared B). in_set t z.set) first.bare.parts ∙ in_none t (length s.set.shards)

  home_begun : AreAtHome s.set.shards
  home_begun = subst AreAtHome (sym (ap (λ (z : Shared B). z.set.shards) first.bare.parts)) (at_home (length s.set.shards))

  module _ (x : Profile) (none : IsEmptyProfile x) where
    claimed_none : claimed_count x s ≡ 0
    claimed_none = none_summed (λ j. one_if (x.published j && not (is_in s.idle.published j))) (range_with_len 0 s.config.workers) (λ i j there. rw (none.published j) refl)

    -- nobody holds anything, and no message is under way
    holding_begun : IsHolding (hands_of x) s.config.workers (map holder_of s.tasks.items) (map thing_of s.requests.items) (map nap_of s.sleepers.items) (map box_of s.seats.items)
    holding_begun = grind (arith, unmapped, none_there, false≢true, none_has, not_both)

    pool_begun : IsPool (duties_of x) s.tasks.items s.set s.seats.items
    pool_begun = grind (arith, no_ordinary, nowhere, home_begun, not_both, fresh_mailbox, false≢true)

    gates_begun : HaveGates x.drops_by s.opens s.requests.items
    gates_begun = grind (arith, not_both)

    whole_begun : InRange c → length roots ≡ c.workers → IsWhole x s
    whole_begun range many =
        let fresh = first.rooted.fresh in
        let idle : s.idle ≡ record { published = replicate 64 false; count = 0 } = ap (λ (z : Shared B). z.idle) first.bare.parts in
        record {
          runnables = λ t slot there home. absurd (no_ordinary t slot there home);
          polls = λ t slot there home. absurd (no_ordinary t slot there home);
          claims = λ j chair there. none.claims j ∙ sym (ap (λ q. one_if (not (q.gap == 0))) (fresh j chair there).queue);
          counts = omega (arith, none.counts, claimed_none, ap (λ k. k.count) idle);
          bits = λ j h. absurd (false≢true (sym (unset false 64 j) ∙ ap (λ k. is_in k.published j) (sym idle) ∙ h));
          set = ap (λ k. length k.published) idle;
          queued_here = λ j chair r there has. absurd (none_has [] r refl (subst (λ q. Contains (q.values ++ q.held) r) (fresh j chair there).queue has));
          queued_there = λ r has. absurd (none_has [] r refl (subst (λ (z : Shared B). Contains z.global.values r) first.bare.parts has));
          places = λ opened. omega (arith, first.bare.places, first.rooted.tasks_many);
          made = λ t past. (omega (arith, none.runnables t, stock_none t), none.polls t);
          unclaimed = λ j past. none.claims j;
          in_pool = λ j chair there.
              let within = slice_get_within s.seats.items j chair there in
              let seats = first.rooted.seats_many ∙ many in
              let config : s.config.workers ≡ c.workers = ap (λ (z : Shared B). z.config.workers) first.bare.parts in
              (fresh j chair there).pool_is ∙ sym (lt-ltb j s.config.workers (omega (arith, within, seats, config)));
          gates = gates_begun;
          holding = holding_begun;
          pool = pool_begun;
        }

module _ {B : Type 0} where
  -- ALL STAND

  call_sound : (c : Configuration) (roots : List B) (s : Shared B) (rs : List Runnable) → InRange c → length roots ≡ c.workers → IsFirst c roots s rs → CallSound free_caller s
  call_sound c roots s rs range many first =
      let config : s.config ≡ c = ap (λ (z : Shared B). z.config) first.bare.parts in
      record {
        config = rw config (config_sound c range);
        homes = rw config (homes_begun c roots s rs range many first);
        many = (let seats = first.rooted.seats_many ∙ many in rw config (omega (arith, seats)));
        shards = shards_of c (length s.set.shards) range first.bare.shards ∙ ap shard_count (sym config);
        hand = refl;
        genuine = λ r has. absurd (none_has [] r refl has);
        aims = tt;
      }

  pub first_stands : (c : Configuration) (roots : List B) (core : Core B) (rs : List Runnable) → InRange c → length roots ≡ c.workers → IsFirst c roots core.shared rs → AllBegin c rs core.workers.items
      → core.callers.items ≡ replicate 16 free_caller → Stands core
  first_stands c roots core rs range many first begin callers =
      let s = core.shared in
      let ws = core.workers.items in
      let workers : length ws ≡ c.workers = begin.many ∙ first.rooted.runnables_many ∙ many in
      record {
        some = omega (arith, workers, range.some_workers);
        callers = ap length callers;
        together = subst (λ cs. StandTogether ws cs s) (sym callers)
            (record {
              seats = workers ∙ sym (first.rooted.seats_many ∙ many);
              few = omega arith;
              most = omega (arith, workers, range.workers);
              sound = λ i w there.
                  let it = begin.each i w there in
                  (ap (λ v. v.index) it.2.parts, first_sound c roots s rs range many first i w it.0 it.1 it.2);
              calls = λ j x there. subst (λ y. CallSound y s) (replicated 16 j free_caller x there) (call_sound c roots s rs range many first);
              whole = whole_begun c roots s rs first (all_have ws (replicate 16 free_caller)) (all_nothing c ws (replicate 16 free_caller) (worker_at c rs ws begin) (callers_nothing 16)) range many;
            });
      }

-- LISTS, from what is in each place

cons_by : {A : Type 0} (x y : A) (xs ys : List A) → x ≡ y → xs ≡ ys → x ∷ xs ≡ y ∷ ys
cons_by x y xs ys first rest = λ i. first i ∷ rest i

same_each : {A X : Type 0} (f : A → X) (y : X) (xs : List A) → ((i : ℕ) (x : A) → slice_get xs i ≡ Some x → f x ≡ y) → map f xs ≡ replicate (length xs) y
same_each f y [] each = refl
same_each f y (x ∷ xs) each = cons_by _ _ _ _ (each 0 x refl) (same_each f y xs (λ i z there. each (suc i) z there))

-- each is that of its number, of which there are so many from number i on
from_first : {A X : Type 0} (of : ℕ → X) (first : ℕ → ℕ → List X) → ((i : ℕ) → first 0 i ≡ []) → ((more i : ℕ) → first (suc more) i ≡ of i ∷ first more (suc i)) → (f : A → X) (xs : List A) (i : ℕ)
    → ((k : ℕ) (x : A) → slice_get xs k ≡ Some x → (n : ℕ) → n ≡ i + k → f x ≡ of n) → map f xs ≡ first (length xs) i
from_first of first none more f [] i each = sym (none i)
from_first of first none more f (x ∷ xs) i each =
    cons_by _ _ _ _ (each 0 x refl i (omega arith)) (from_first of first none more f xs (suc i) (λ k y there n is. each (suc k) y there n (omega (arith, is)))) ∙ sym (more (length xs) i)

root_task : ℕ → Task
root_task i = new_task (code_of_root i) (Some i)

tasks_first : (more i : ℕ) → first_tasks (suc more) i ≡ root_task i ∷ first_tasks more (suc i)
unfolding root_task
tasks_first more zero = refl
tasks_first more (suc i) = refl

-- WHAT IS SEEN of workers that begin

seat_begun : (chair : Chair) → IsFreshSeat true chair → seat_seen fresh_visible chair ≡ new_seat true
seat_begun chair fresh = rw (fresh.phase, fresh.pool_is, fresh.left, fresh.rest, fresh.inbox) refl

-- of all of them the same is seen
from_fresh : {X : Type 0} (y : X) (see : List Visible → List Chair → List X) → see [] [] ≡ []
    → ((chair : Chair) (vs : List Visible) (seats : List Chair) → IsFreshSeat true chair → see (fresh_visible ∷ vs) (chair ∷ seats) ≡ y ∷ see vs seats)
    → (vs : List Visible) (seats : List Chair) → length vs ≡ length seats → ((i : ℕ) (v : Visible) → slice_get vs i ≡ Some v → v ≡ fresh_visible) → ((i : ℕ) (chair : Chair) → slice_get seats i ≡ Some chair → IsFreshSeat true chair)
    → see vs seats ≡ replicate (length seats) y
from_fresh y see none one [] [] many each fresh = none
from_fresh y see none one (v ∷ vs) (chair ∷ chairs) many each fresh =
    ap (λ x. see (x ∷ vs) (chair ∷ chairs)) (each 0 v refl) ∙ one chair vs chairs (fresh 0 chair refl)
    ∙ ap (λ xs. y ∷ xs) (from_fresh y see none one vs chairs (omega (arith, many)) (λ i x there. each (suc i) x there) (λ i x there. fresh (suc i) x there))
from_fresh y see none one vs seats many each fresh = absurd (omega (arith, many))

-- what is seen in each place is fresh
views_fresh : (c : Configuration) (ws : List Worker) → InRange c → ((i : ℕ) (w : Worker) → slice_get ws i ≡ Some w → (j : ℕ) × (r : Runnable) × Begins c (Pool j) j j r 0 w) → (i : ℕ) (v : Visible) → slice_get (map visible ws) i ≡ Some v → v ≡ fresh_visible
views_fresh c ws range each i v there =
    let at = unmapped visible ws i v there in
    let it = each i at.0 at.1 in
    sym at.2 ∙ visible_begun c (Pool it.0) it.0 it.0 it.1 0 at.0 it.2 (may_begin c range)

module _ {B L : Type 0} (left : B → L) (runs : L → Plan → Option ℕ → Type 0) (holds : L → Option Said → List ℕ) (spot : L → Option Said → Spot) where
  -- a root's slot is the machine's
  task_begun : (p : Plan) (c : Configuration) (roots : List B) (i : ℕ) (body : B) (slot : TaskSlot B) → IsPlanOf left runs holds spot p c roots → slice_get roots i ≡ Some body → IsRoot i body slot → task_seen left spot slot ≡ root_task i
  unfolding root_task
  task_begun p c roots i body slot plan there root =
      ap (task_seen left spot) root.is ∙ rw ((plan.each i body there).begins, root.held) refl

  performs_begun : (p : Plan) (c : Configuration) (roots : List B) (s : Shared B) (rs : List Runnable) → IsPlanOf left runs holds spot p c roots → IsFirst c roots s rs → PerformsAll left runs holds p s
  performs_begun p c roots s rs plan first t slot there =
      let it = first.rooted.root t slot there in
      let begins = plan.each t it.0 it.1 in
      subst (Performs left runs holds p) (sym it.2.is)
      (record {
        runs_it = λ b answer same told going. subst (λ x. runs (left x) p (Some t)) (same_Some it.0 b same) begins.runs_it;
        holding = λ b answer same told going. rw told (subst (λ x. holds (left x) (Some Start) ≡ []) (same_Some it.0 b same) begins.holds_nothing ∙ sym (ap numbers_held it.2.held));
      })

  -- THE WHOLE

  module _ (c : Configuration) (roots : List B) (core : Core B) (rs : List Runnable) (p : Plan) (range : InRange c) (first : IsFirst c roots core.shared rs) (begin_all : AllBegin c rs core.workers.items)
      (callers : core.callers.items ≡ replicate 16 free_caller) (plan : IsPlanOf left runs holds spot p c roots) where
    workers_many : length core.workers.items ≡ c.workers
    workers_many = begin_all.many ∙ first.rooted.runnables_many ∙ plan.many

    seats_many : length core.shared.seats.items ≡ c.workers
    seats_many = first.rooted.seats_many ∙ plan.many

    tasks_many : length core.shared.tasks.items ≡ c.workers
    tasks_many = first.rooted.tasks_many ∙ plan.many

    as_many : length (map visible core.workers.items) ≡ length core.shared.seats.items
    as_many = length-map core.workers.items visible ∙ workers_many ∙ sym seats_many

    fresh_views : (i : ℕ) (v : Visible) → slice_get (map visible core.workers.items) i ≡ Some v → v ≡ fresh_visible
    fresh_views = views_fresh c core.workers.items range (λ i w there. let it = begin_all.each i w there in (i, it.0, it.2))

    common_begun : common_of left spot p (views core) core.shared ≡ first_common c p.scripts p.root
    common_begun =
        ap (common_of left spot p (views core)) first.bare.parts
        ∙ (λ i. record {
          clock = 0;
          seats =
              (from_fresh (new_seat true) seats_seen refl (λ chair vs seats fresh. ap (λ x. x ∷ seats_seen vs seats) (seat_begun chair fresh)) (map visible core.workers.items) core.shared.seats.items as_many fresh_views first.rooted.fresh
              ∙ ap (λ n. replicate n (new_seat true)) seats_many) i;
          scripts = p.scripts;
          root = p.root;
          tasks =
              (from_first root_task first_tasks (λ i. refl) tasks_first (task_seen left spot) core.shared.tasks.items 0
              (λ k slot there n is. let it = first.rooted.root k slot there in task_begun p c roots k it.0 slot plan it.1 it.2 ∙ ap root_task (omega (arith, is)))
              ∙ ap (λ n. first_tasks n 0) tasks_many) i;
          requests = map (λ r. r.shown) (first.bare.requests i);
          sleepers = map (λ z. z.shown) (first.bare.sleepers i);
          opens = (ap (λ xs. map (open_seen xs) (replicate c.files fresh_open)) first.bare.requests ∙ map_replicate (open_seen []) fresh_open c.files) i;
          listeners = first.bare.listeners i;
          next_socket = c.sockets;
          callers = (ap (map (λ (x : Caller). call_of x.place)) callers) i;
          set_closed = false;
          queue_closed = false;
          stopped = false;
        })

    things_begun : things_with (views core) core.shared ≡ first_things c
    things_begun =
        ap (things_with (views core)) first.bare.parts
        ∙ (λ i. record {
          queues = (same_each queue_at no_queue core.shared.seats.items (λ i chair there. ap queue_seen (first.rooted.fresh i chair there).queue) ∙ ap (λ n. replicate n no_queue) seats_many) i;
          words = (same_each word_at no_word core.shared.seats.items (λ i chair there. (first.rooted.fresh i chair there).waker) ∙ ap (λ n. replicate n no_word) seats_many) i;
          inboxes = (same_each inbox_at [] core.shared.seats.items (λ i chair there. ap (λ x. map message_of x.messages) (first.rooted.fresh i chair there).inbox) ∙ ap (λ n. replicate n []) seats_many) i;
          wake_polls = (from_fresh no_wake_poll polls_seen refl (λ chair vs seats fresh. rw fresh.raised refl) (map visible core.workers.items) core.shared.seats.items as_many fresh_views first.rooted.fresh ∙ ap (λ n. replicate n no_wake_poll) seats_many) i;
          global = [];
          idle = record { published = replicate 64 false; count = 0 };
          barrier = false;
          shards = (map_replicate (map (λ (e : ℕ × Unit {0}). e.0)) [] (length core.shared.set.shards) ∙ ap (λ n. replicate n []) (shards_of c (length core.shared.set.shards) range first.bare.shards)) i;
          gates = (ap (λ xs. map (gate_seen xs) (replicate c.files fresh_open)) first.bare.requests ∙ map_replicate (gate_seen []) fresh_open c.files) i;
          answers = numbers_of_passing (λ r. r.sent) 0 (first.bare.requests i);
          alarms = numbers_of_passing (λ z. z.sent) 0 (first.bare.sleepers i);
        })

    playing_begun : playing left spot p core ≡ first_playing p
    playing_begun =
        playing_by _ _ _ _ _ _ _ _
        ((λ i. record { workers = (from_first (new_own 0) first_owns (λ i. refl) (λ more i. refl) own_of core.workers.items 0 (λ k w there n is. let it = begin_all.each k w there in own_begun c (Pool k) k k it.0 0 w it.2 (may_begin c range) ∙ ap (new_own 0) (omega (arith, is))) ∙ ap (λ n. first_owns n 0) workers_many) i; common = common_begun i }) ∙ ap (λ k. first_world k p.scripts p.root) (sym plan.config))
        (from_first (first_desk c) (first_desks c) (λ i. refl) (λ more i. refl) desk_of core.workers.items 0 (λ k w there n is. let it = begin_all.each k w there in desk_begun c (Pool k) k k it.0 0 w it.2 (may_begin c range) ∙ ap (first_desk c) (omega (arith, is))) ∙ ap (λ n. first_desks c n 0) workers_many ∙ ap (λ k. first_desks k k.workers 0) (sym plan.config))
        (ap (map desk_of_caller) callers)
        (things_begun ∙ ap first_things (sym plan.config))

    pub first_shown : Shows left runs holds spot p core (first_playing p)
    first_shown =
        assumption (ap (λ (z : Shared B). z.config) first.bare.parts ∙ sym plan.config, performs_begun p c roots core.shared rs plan first, playing_begun)

    pub first_ready : core.spent ≡ false → IsReady left runs holds p core
    first_ready unspent =
        assumption (first_stands c roots core rs range plan.many first begin_all callers, unspent, ap (λ (z : Shared B). z.config) first.bare.parts ∙ sym plan.config, performs_begun p c roots core.shared rs plan first)
