-- Where all workers sleep no task is to be polled or in a poll, and no message is left. So no step loses a wake, none lets a worker
-- sleep on work, and none lets a worker turn for ever; and a step of the machine is one of a log by moves.
use Rattle.std.{proofs.{Common.{Bool, List, None, Option, Some, [], ap, arith, false, inl, inr, length, nat_lt, not, option_to_list, refl, slice_get, subst, suc, sym, true, ℕ, ◌++◌, ◌<◌, ◌||◌, ◌∙◌, ◌≡◌, ◌≤◌}, lemmas.{Bool.{cases_Bool, false_from_ne_true, false≢true, ltb-false, ltb-true, or_right, true≢false}, List.get_or_past, Option.{get_or_from_slice_get, slice_get_within}}}, specs.Prelude.if◌then◌else◌}
use Rattle.exec_core.{specs.{Words.{Configuration, TaskPhase, Action, Event, Line, Refused, Did, all_asleep, is_runnable, Plan, is_quiet_step, has_ended, Task, seat_of, Follows, after_line, is_enabled, refuses, Choice, Place, CallDesk, no_call, Playing, desk_at as desk_of, first_desk, by_step, first_playing, Played, by_action, polls_at, Desk, inbox_of, queue_of, AreBare, AreFresh, IsBare, IsPlaced, IsShut, RestsWell, is_idle, IsPoolOpen, IsRestful, is_in_pool, place_at, IsPosted, IsGiven, IsPaced, left_to, Spot, PerformsAll, is_number, one_if}, Once.{IsOnce, QueuesOnce, polls_of, runnables_of, times}, Lift.{Stands, Shows, Keeps, Carries, playing, Takes, Applies, may_take}, Steady.{IsSteady, IsSteadyThere, IsPacedThere}, declared.executor.Core.Core}, proofs.{Lifting.{woken_by, fresh_first, fresh_goes_on, nothing_mailed, callers, down, rests, bare_first, bare_goes_on, first_restful, first_posted, shut_first, shut_goes_on, goes_on, posted_goes_on, booked_then, first_booked, awaited_then, first_awaited, nobody_sleeps_on_work, none_is_forgotten, first_permitted, permitted_then, rightly, first_settled, settled_then, shuts_down, first_stops, stops_then, bounded_there, falls, first_paced, paced_then, none_summed, Said}, Placed.{given, placed}, InTurn.queues_once, Granted.are_granted, Applying.enabled_as, GivenParts.Queue}}

idle_polls : (p : Place) → is_idle p ≡ true → polls_at p ≡ None
idle_polls = grind arith

module _ (c : Configuration) (x : Playing) (placed : IsPlaced c x) (held : IsRestful c x) (bare : AreBare c x) (told : IsPosted c x) (shut : IsShut x) (all : all_asleep x.world ≡ true) where
  -- THE WORKERS

  idles : (i : ℕ) → i < length x.desks → is_idle (place_at c x i) ≡ true
  idles = grind (arith, down, or_right)

  -- it is at its end, or where it sleeps, and has no runnable
  abbrev Idles : Desk → Type 0
  Idles d = (is_idle d.place ≡ true) × (d.hand ≡ None) × (d.loot ≡ [])

  desk_idles : (i : ℕ) (d : Desk) → slice_get x.desks i ≡ Some d → Idles d
  desk_idles i d there =
      let here = idles i (slice_get_within x.desks i d there) in
      subst Idles (get_or_from_slice_get x.desks i d (first_desk c i) there) (here, (placed.hands i here).0, (placed.hands i here).1)

  nobody_polls : (t : ℕ) → polls_of t x ≡ 0
  nobody_polls t = none_summed (λ (d : Desk). one_if (is_number (polls_at d.place) t)) x.desks (λ i d there. rw (idle_polls d.place (desk_idles i d there).0) refl)

  -- THE RUN QUEUES

  no_values : IsPoolOpen c x → (i : ℕ) (b : Bool) → is_in_pool c x i ≡ b → (queue_of x.things i).values ≡ []
  no_values going i true is = (rests c x placed held all going).queues i is
  no_values going i false is = (bare.bare i is).0

  queue_is_bare : IsPoolOpen c x → (i : ℕ) (q : Queue ℕ) → slice_get x.things.queues i ≡ Some q → IsBare q
  queue_is_bare = grind (arith, slice_get_within, get_or_from_slice_get, no_values, idles)

  -- WHO IS IN NO CALL

  caller_has_none : (j : ℕ) (d : CallDesk) → slice_get x.callers j ≡ Some d → d.hand ≡ None
  caller_has_none j d there = subst (λ (e : CallDesk). e.hand ≡ None) (get_or_from_slice_get x.callers j d no_call there) (placed.calls j (callers c x held all j).idle)

  no_runnables : IsPoolOpen c x → (t : ℕ) → runnables_of t x ≡ 0
  no_runnables going t =
      let desks = none_summed (λ (d : Desk). times t (option_to_list d.hand ++ d.loot)) x.desks (λ i d there. rw ((desk_idles i d there).1, (desk_idles i d there).2) refl) in
      let calls = none_summed (λ (d : CallDesk). times t (option_to_list d.hand)) x.callers (λ j d there. rw (caller_has_none j d there) refl) in
      let queues = none_summed (λ (q : Queue ℕ). times t (q.values ++ q.held)) x.things.queues (λ i q there. rw ((queue_is_bare going i q there).0, (queue_is_bare going i q there).1) refl) in
      let global : times t x.things.global ≡ 0 = ap (times t) (rests c x placed held all going).global in
      omega (arith, desks, calls, queues, global)

  -- THE TASKS

  -- in an open pool neither the set nor the queue is closed
  is_kept : IsPoolOpen c x → (x.world.common.set_closed || x.world.common.queue_closed) ≡ false
  is_kept = grind (arith, down, false≢true, cases_Bool)

  is_waiting : IsPoolOpen c x → (t : ℕ) (p : TaskPhase) → IsOnce (x.world.common.set_closed || x.world.common.queue_closed) p (runnables_of t x) (polls_of t x) → is_runnable p ≡ false
  is_waiting = grind (arith, no_runnables, is_kept, nobody_polls)

  -- An ordinary task isn't to be polled: were one, no worker of the pool would have ended. And a root's flag is set where its
  -- worker sleeps, which a worker asleep has found unset.
  waiting_by : (t : ℕ) (it : Task) (home : Option ℕ) → it.home ≡ home → QueuesOnce x → slice_get x.world.common.tasks t ≡ Some it → is_runnable it.phase ≡ false
  waiting_by t it None is once there =
      false_from_ne_true (is_runnable it.phase)
      (λ runs.
      let going : IsPoolOpen c x = λ i pool. false_from_ne_true (has_ended (seat_of x.world.common i).phase) (λ over. true≢false (sym runs ∙ placed.done i pool over t it there is)) in
      true≢false (sym runs ∙ is_waiting going t it.phase (once.ordinary t it there is)))
  waiting_by t it (Some j) is once there =
      false_from_ne_true (is_runnable it.phase)
      (λ runs.
      let root = placed.roots t it j there is runs in
      elim (down c x held all j) [
        | inl over ↦ true≢false (sym (placed.over j root.0 over) ∙ root.1)
        | inr asleep ↦ true≢false (sym (root.2 (held.abed j asleep.1)) ∙ (nothing_mailed c x held told all placed.stays j asleep.0 asleep.1).root)
      ])

  -- MESSAGES

  nothing_in : (i : ℕ) → i < length x.desks → ((desk_of c x i).batch ≡ []) × (inbox_of x.things i ≡ [])
  nothing_in = grind (arith, down, nothing_mailed)

  no_message : (i : ℕ) (b : Bool) → nat_lt i (length x.desks) ≡ b → (seat_of x.world.common i).inbox ≡ []
  no_message = grind (arith, nothing_in, ltb-true, ltb-false, get_or_past)

pub at_rest : (c : Configuration) (x : Playing) → IsPlaced c x → IsRestful c x → AreBare c x → IsPosted c x → IsShut x → AreFresh x → QueuesOnce x → RestsWell c x
at_rest c x placed held bare told shut fresh once all =
    grind (arith, waiting_by, woken_by, no_message, rests)

-- WHERE A STEP LEADS

pub stepped : (c : Configuration) (x : Playing) (a : Action) → (by_step c x a).next.world ≡ after_line c x.world a (by_step c x a).told.0.said (by_step c x a).told.1
stepped = grind arith

-- FROM STATE TO STATE

pub first_steady : (p : Plan) → IsSteady p.config (first_playing p)
first_steady p =
    assumption (first_restful p, bare_first p, first_posted p, shut_first p, fresh_first p, first_booked p, first_settled p, first_permitted p, first_awaited p, first_stops p)

steady_then : (c : Configuration) (x : Playing) (a : Action) → IsPlaced c x → IsGiven c x → Follows c x.world a (by_step c x a).told.0.said (by_step c x a).told.1 → IsGiven c (by_step c x a).next
    → IsSteady c x → IsSteady c (by_step c x a).next
steady_then = grind (arith, goes_on, bare_goes_on, posted_goes_on, shut_goes_on, fresh_goes_on, stepped, booked_then, settled_then, permitted_then, awaited_then, stops_then)

-- what a step that may not be taken comes to
abbrev none_of : Action → Playing → Played
none_of a x = record { told = refuses a; next = x }

module _ {B L : Type 0} (left : B → L) (runs : L → Plan → Option ℕ → Type 0) (holds : L → Option Said → List ℕ) (spot : L → Option Said → Spot) where
  module _ (p : Plan) (c : Core B) (x : Playing) (stands : Stands c) (shows : Shows left runs holds spot p c x) where
    is_placed : IsPlaced p.config x
    is_placed = subst (IsPlaced p.config) shows.is (placed left spot p c stands p.config)

    is_given : IsGiven p.config x
    is_given = subst (IsGiven p.config) shows.is (given left spot p c stands p.config)

    -- and so nobody sleeps on work
    rests_there : IsSteady p.config x → IsSteadyThere p.config x
    rests_there now =
        let k = p.config in
        let rests = at_rest k x is_placed now.restful now.bare now.posted now.shut now.fresh (queues_once left runs holds spot p c x stands shows) in
        let asleep = rightly k x is_placed is_given now.restful rests now.booked now.settled now.permitted now.awaited in
        let parked = nobody_sleeps_on_work k x is_placed is_given now.restful now.booked now.settled now.permitted now.bare now.posted now.fresh now.awaited in
        record { steady = now; rests = record { rests = rests; asleep = asleep; parked = parked; unforgotten = none_is_forgotten k x is_given now.booked now.permitted now.awaited; shuts = shuts_down k x is_placed is_given now.restful now.booked now.stops parked } }

    there : (n : ℕ) → IsSteady p.config x → IsPaced n p.config x → IsPacedThere n p.config x
    there n steady now = record { paced = now; bounded = bounded_there n p.config x (are_granted left runs holds spot p c x stands shows steady.shut now.counts) steady.settled now }

  pub first_rests : (p : Plan) (c : Core B) → Stands c → Shows left runs holds spot p c (first_playing p) → IsSteadyThere p.config (first_playing p)
  first_rests p c stands shows = rests_there p c (first_playing p) stands shows (first_steady p)

  pub first_turns : (p : Plan) (c : Core B) → p.config.spin.budget ≤ p.config.spin.most → p.config.files ≤ 64 → Stands c → Shows left runs holds spot p c (first_playing p) → IsPacedThere 0 p.config (first_playing p)
  first_turns p c spins files stands shows = there p c (first_playing p) stands shows 0 (first_steady p) (first_paced p spins files)

  -- A step that comes to what another executor shows, or the same, is that of the moves.
  applies : (p : Plan) (c d : Core B) (x : Playing) (a : Action) (l : Line) (choice : Choice) → Stands c → Shows left runs holds spot p c x → Stands d → d.shared.config ≡ p.config → PerformsAll left runs holds p d.shared
      → by_step p.config x a ≡ record { told = (l, choice); next = playing left spot p d } → l.action ≡ a → Follows p.config x.world a l.said choice → Applies left runs holds spot p x a l d
  applies p c d x a l choice stands shows still config performs by told follows =
      let k = p.config in
      let y : Playing = (by_step k x a).next in
      let goes : Follows k x.world a (by_step k x a).told.0.said (by_step k x a).told.1 = subst (λ (z : Played). Follows k x.world a z.told.0.said z.told.1) (sym by) follows in
      let after : Shows left runs holds spot p d y = record { config = config; performs = performs; is = ap (λ (z : Played). z.next) (sym by) } in
      let here = is_placed p c x stands shows in
      let has = is_given p c x stands shows in
      let goes_so : IsSteady k x → IsSteadyThere k y = λ now. rests_there p d y still after (steady_then k x a here has goes (is_given p d y still after) now) in
      record {
        step_told = told;
        tells = ap (λ (z : Played). z.told.0) (sym by);
        shows = after;
        follows = subst (λ (z : Played). Follows k x.world a l.said z.told.1) (sym by) follows;
        rests = goes_so;
        turns = λ n steady now.
            let granted = are_granted left runs holds spot p c x stands shows steady.shut now.counts in
            record {
              there = there p d y still after (suc n) (goes_so steady).steady (paced_then n k x here has granted steady.restful now a goes);
              falls = λ few i is. subst (λ b. is_quiet_step x.world (by_step k x b).told.0.said ≡ true → left_to k (by_step k x b).next i < left_to k x i) (sym is) (falls n few k x here has granted steady.restful steady.bare steady.posted now i);
            };
      }

module _ {B L : Type 0} (left : B → L) (runs : L → Plan → Option ℕ → Type 0) (holds : L → Option Said → List ℕ) (spot : L → Option Said → Spot) (name : L → ℕ) where
  -- So is one that was taken.
  pub applied : (p : Plan) (x : Playing) (c d : Core B) (a : Action) (e : Event) (o : Option B) → Stands c → Stands d → Shows left runs holds spot p c x → Keeps left runs holds spot name a o c d
      → Carries left runs holds spot name p a o → Takes left spot p c a e d → Applies left runs holds spot p x a (record { action = a; said = Did e }) d
  applied p x c d a e o stands still shows keeps carries takes =
      let y = playing left spot p c in
      subst (λ z. Applies left runs holds spot p z a (record { action = a; said = Did e }) d) shows.is
      (applies left runs holds spot p c d y a _ takes.choice stands (record { config = shows.config; performs = shows.performs; is = refl }) still (keeps.config ∙ shows.config) (keeps.performs p shows.config carries shows.performs)
      (ap (λ b. if b then by_action p.config y a else none_of a y) takes.follows.0 ∙ takes.goes) refl takes.follows)

  -- One that may not be taken changes nothing.
  pub refused : (p : Plan) (x : Playing) (c : Core B) (a : Action) → Stands c → may_take c a ≡ false → Shows left runs holds spot p c x → Applies left runs holds spot p x a (record { action = a; said = Refused }) c
  refused p x c a stands barred shows =
      let y = playing left spot p c in
      let disabled : is_enabled y.world.common a ≡ false = sym (enabled_as left spot p c a stands.together.seats) ∙ barred in
      subst (λ z. Applies left runs holds spot p z a (record { action = a; said = Refused }) c) shows.is
      (applies left runs holds spot p c c y a _ (refuses a).1 stands (record { config = shows.config; performs = shows.performs; is = refl }) stands shows.config shows.performs
      (ap (λ b. if b then by_action p.config y a else none_of a y) disabled) refl (ap not disabled, tt))
