-- What the wake of an ordinary task by an outside caller is to the machine.
use Rattle.std.proofs.{Common.{◌≡◌, ◌≢◌, ℕ, ◌+◌, ◌<◌, Bool, true, false, not, inl, inr, Contains, [], ◌∷◌, length, map, nat_lt, Option, Some, None, refl, sym, ap, subst, ◌∙◌, arith, option_to_list, slice_get, slice_set, if◌then◌else◌}, lemmas.{Bool.{eq-eqb, false≢true, Decides.nat_tests}, List.{length-map, length-set, Elements.Contains-push_cases}, Option.{get_or_from_slice_get, slice_get_within}}}
use Rattle.exec_base.specs.declared.task_no.TaskNo.{TaskNo}
use Rattle.exec_task.specs.{Phases.{is_idle, is_polled, runnable_of, woken}, declared.{body.Said.Said, runnable.Runnable.Runnable, task.Phase.Phase}}
use Rattle.exec_machine.specs.{declared.{event.Event.{Event, TheVariants.Wake}, state.Call.Call as half, step.Action.Action as action}, Callers.{is_half_done, may_call}, Choice.{Choice.Pays, Payer.ByCall}, Progress.Plan, Tasks.woken as woken_task, Tests.is_idle as is_idle_seen, World.task_of}
use Rattle.exec_moves.specs.{Call.{calls_at, queues}, declared.handing.{CallPlace.{CallPlace, CallPlace as call}, InGlobal.InGlobal as global}}
use Rattle.exec_parts.{specs.{declared.parts.{shared.Shared.Shared, task_slot.TaskSlot.TaskSlot}, Phased.is_complete, Pooled.woken_slot, Spots.Spot, View.{Views, common_of, phase_seen, task_seen, things_with}, Things.TurnsSlot}, proofs.Facts.{and_from, by_number, not_same, same_Some, set_elsewhere, set_there}}
use Rattle.exec_invariants.{proofs.{Showing.{map_kept, map_set}, PoolKept.{Redoes, pool_slot}, SlotTasks.{Keeps, genuine_set, homes_set, resting_set}, Slots.{spares_slot, task_there}}, specs.{Hearing.Hears, Holding.holder_of, Places.one_if, Sound.{AreHome, AreResting, IsInHand, IsResting}, Spares.Spares, Whole.{HasOne, IsGenuine, IsWhole, Profile, claimed_count, duties_of, may_let_go, runnables_in, stock}}}
use Rattle.exec_polling.{specs.{declared.caller.Caller.Caller, Calling.{CallAims, CallBeside, CallSound, CallSuits, CallWorks, HoldsForAll, WakesByCall, call_of, desk_of_caller, hands_on_in, has_count_in, is_free, with_caller, with_woken}}, proofs.Outsiders.{no_other, hears_same}}

module _ {B : Type 0} where
  -- THE PHASE

  polled_woken : (p : Phase B) → is_polled (woken p) ≡ is_polled p
  polled_woken = grind arith

  complete_woken : (p : Phase B) → is_complete (woken p) ≡ is_complete p
  complete_woken = grind arith

  -- the runnable of an idle task
  abbrev handed : Bool → TaskSlot B → Option Runnable
  handed idle slot = if idle then Some (runnable_of slot.cell) else None

  one_woken : (gone : Bool) (p : Phase B) (n m : ℕ) → m ≡ (if is_idle p then 1 else 0) → HasOne gone p n → HasOne gone (woken p) (n + m)
  one_woken = grind arith

  -- WHAT THE WAKE LEAVES

  module _ (c : Caller) (t : ℕ) (s s' : Shared B) (slot : TaskSlot B) (sound : CallSound c s) (there : slice_get s.tasks.items t ≡ Some slot) (ordinary : slot.home ≡ None) (kept : s' ≡ record s { tasks = s'.tasks }) (items : s'.tasks.items ≡ slice_set s.tasks.items t (woken_slot slot)) where
    keeps : Keeps slot (woken_slot slot)
    keeps = record { home = refl; number = refl; owner = refl }

    -- what stands there now, and elsewhere
    is_new : (k : ℕ) (o : TaskSlot B) → slice_get s'.tasks.items k ≡ Some o → k ≡ t → woken_slot slot ≡ o
    is_new k o found same = same_Some (woken_slot slot) o (sym (set_there s.tasks.items t (woken_slot slot) slot there) ∙ ap (λ ts. slice_get ts t) (sym items) ∙ subst (λ m. slice_get s'.tasks.items m ≡ Some o) same found)

    was : (k : ℕ) (o : TaskSlot B) → slice_get s'.tasks.items k ≡ Some o → k ≢ t → slice_get s.tasks.items k ≡ Some o
    was k o found apart = sym (set_elsewhere s.tasks.items t k (woken_slot slot) apart) ∙ ap (λ ts. slice_get ts k) (sym items) ∙ found

    genuine_still : (r : Runnable) → IsGenuine s.tasks.items r → IsGenuine s'.tasks.items r
    genuine_still r it = subst (λ ts. IsGenuine ts r) (sym items) (genuine_set s.tasks.items t slot (woken_slot slot) there keeps r it)

    spares : (j : ℕ) → Spares j s s'
    spares j =
        subst (Spares j s) (sym kept)
        (spares_slot (j + 1) j t s s' slot (woken_slot slot) (no_other j) there items keeps (λ home. let no : None ≡ Some j = sym ordinary ∙ home in cc)
        (λ polled mine. record { polled = polled_woken slot.cell.phase ∙ polled; number = refl; cancelled = λ h. h; kept = refl }) sound.homes)

    for_all : HoldsForAll s → HoldsForAll s'
    for_all all =
        let rests : (woken_slot slot).home ≡ None → is_polled (woken slot.cell.phase) ≡ false → IsResting (woken_slot slot) = λ home unpolled.
        let old = all.resting t slot there home (sym (polled_woken slot.cell.phase) ∙ unpolled) in
        record { uncleared = λ going. old.uncleared (sym (complete_woken slot.cell.phase) ∙ going); told = rw (complete_woken slot.cell.phase) old.told; untold = old.untold } in
        let homes : AreHome s.config.workers (length s.seats.items) s'.tasks.items = rw items (homes_set s.config.workers (length s.seats.items) s.tasks.items t slot (woken_slot slot) there keeps all.homes) in
        let resting : AreResting s'.tasks.items = rw items (resting_set s.tasks.items t slot (woken_slot slot) there rests all.resting) in
        subst HoldsForAll (sym kept) (assumption (homes, resting, all))

    -- the same body, which can be told what it could
    hears : (k : ℕ) (o o' : TaskSlot B) → slice_get s.tasks.items k ≡ Some o → slice_get s'.tasks.items k ≡ Some o' → Hears o o'
    hears k o o' found found' =
        by_number k t
        (λ apart. hears_same o o' (same_Some o o' (sym found ∙ was k o' found' apart)))
        (λ same.
        let old : slot ≡ o = same_Some slot o (sym there ∙ subst (λ m. slice_get s.tasks.items m ≡ Some o) same found) in
        subst (Hears o) (is_new k o' found' same) (subst (λ y. Hears y (woken_slot slot)) old (hears_woken slot.cell.phase refl)))
      where
        hears_woken : (p : Phase B) → slot.cell.phase ≡ p → Hears slot (woken_slot slot)
        hears_woken (Phase.Idle b) is = record { home = refl; body = rw is refl; going = λ h. sym (complete_woken slot.cell.phase) ∙ h; told = λ answer can. (can, refl) }
        hears_woken (Phase.Queued b) is = record { home = refl; body = rw is refl; going = λ h. sym (complete_woken slot.cell.phase) ∙ h; told = λ answer can. (can, refl) }
        hears_woken Phase.Running is = record { home = refl; body = rw is refl; going = λ h. sym (complete_woken slot.cell.phase) ∙ h; told = λ answer can. (can, refl) }
        hears_woken Phase.Notified is = record { home = refl; body = rw is refl; going = λ h. sym (complete_woken slot.cell.phase) ∙ h; told = λ answer can. (can, refl) }
        hears_woken Phase.Complete is = record { home = refl; body = rw is refl; going = λ h. sym (complete_woken slot.cell.phase) ∙ h; told = λ answer can. (can, refl) }

    -- THE BALANCES, where the hand was empty

    number : (runnable_of slot.cell).task.0 ≡ t
    number = ap (λ n. n.0) (sound.homes.number t slot there)

    none_else : (u : ℕ) → u ≢ t → (idle : Bool) → runnables_in u (option_to_list (handed idle slot)) ≡ 0
    none_else u apart true = rw (not_same (runnable_of slot.cell).task.0 u (λ same. apart (sym same ∙ number))) refl
    none_else u apart false = refl

    one_here : (idle : Bool) → runnables_in t (option_to_list (handed idle slot)) ≡ (if idle then 1 else 0)
    one_here true = rw (eq-eqb (runnable_of slot.cell).task.0 t number) refl
    one_here false = refl

    no_more_in : (a b c d : ℕ) → (a + b) + c ≡ 0 → d ≡ 0 → (a + d) + c ≡ 0
    no_more_in a b c d was_none none = omega (arith, was_none, none)

    -- it holds what it held, and waits for the same
    holder_woken : holder_of (woken_slot slot) ≡ holder_of slot
    holder_woken = ap (λ b. record (holder_of slot) { over = b }) (complete_woken slot.cell.phase)

    redoes_woken : (others : Profile) → IsWhole (with_caller others c) s → Redoes t 0 (duties_of others) (duties_of others) slot (woken_slot slot) s.seats.items
    redoes_woken others whole =
        record {
          home = refl;
          cleared = λ home. refl;
          over = λ home over. complete_woken slot.cell.phase ∙ over;
          clears = λ u. refl;
          polls_beside = λ j other. refl;
          drops_beside = λ j other. refl;
          polls_others = λ u other is. is;
          polls = λ home polled. whole.pool.who_polls t slot there home (sym (polled_woken slot.cell.phase) ∙ polled);
          clears_next = refl;
          removes_next = λ u is. inl is;
        }

    whole_woken : (c' : Caller) → c.hand ≡ None → c'.hand ≡ handed (is_idle slot.cell.phase) slot → has_count_in c.place ≡ false → has_count_in c'.place ≡ false → (others : Profile) → IsWhole (with_caller others c) s → IsWhole (with_caller others c') s'
    whole_woken c' none hand uncounted uncounted' others whole =
        let h : Option Runnable = handed (is_idle slot.cell.phase) slot in
        let before : (u : ℕ) (p : Phase B) → HasOne (may_let_go s) p ((others.runnables u + runnables_in u (option_to_list c.hand)) + stock u s) → HasOne (may_let_go s) p (others.runnables u + stock u s) = grind (arith, none) in
        let after : (u : ℕ) (p : Phase B) → HasOne (may_let_go s) p ((others.runnables u + stock u s) + runnables_in u (option_to_list h)) → HasOne (may_let_go s) p ((others.runnables u + runnables_in u (option_to_list c'.hand)) + stock u s) = grind arith in
        let count : (others.counts + one_if (has_count_in c.place)) + claimed_count others s ≡ s.idle.count = whole.counts in
        let none_held : one_if (has_count_in c.place) ≡ 0 = rw uncounted refl in
        let none_held' : one_if (has_count_in c'.place) ≡ 0 = rw uncounted' refl in
        let counts : (others.counts + one_if (has_count_in c'.place)) + claimed_count others s ≡ s.idle.count = omega (arith, count, none_held, none_held') in
        subst (IsWhole (with_caller others c')) (sym kept) (record {
          runnables = λ u o found home.
              by_number u t
              (λ apart.
              let more : others.runnables u + stock u s ≡ (others.runnables u + stock u s) + runnables_in u (option_to_list h) = omega (arith, none_else u apart (is_idle slot.cell.phase)) in
              after u o.cell.phase (subst (HasOne (may_let_go s) o.cell.phase) more (before u o.cell.phase (whole.runnables u o (was u o found apart) home))))
              (λ same.
              let now = one_woken (may_let_go s) slot.cell.phase (others.runnables t + stock t s) (runnables_in t (option_to_list h)) (one_here (is_idle slot.cell.phase)) (before t slot.cell.phase (whole.runnables t slot there ordinary)) in
              subst (λ m. HasOne (may_let_go s) o.cell.phase ((others.runnables m + runnables_in m (option_to_list c'.hand)) + stock m s)) (sym same)
              (subst (λ (y : TaskSlot B). HasOne (may_let_go s) y.cell.phase ((others.runnables t + runnables_in t (option_to_list c'.hand)) + stock t s)) (is_new u o found same) (after t (woken slot.cell.phase) now)));
          polls = λ u o found home.
              by_number u t
              (λ apart. whole.polls u o (was u o found apart) home)
              (λ same.
              let now : others.polls t ≡ one_if (is_polled (woken slot.cell.phase)) = whole.polls t slot there ordinary ∙ ap one_if (sym (polled_woken slot.cell.phase)) in
              subst (λ m. others.polls m ≡ one_if (is_polled o.cell.phase)) (sym same) (now ∙ ap (λ (y : TaskSlot B). one_if (is_polled y.cell.phase)) (is_new u o found same)));
          claims = whole.claims;
          counts = counts;
          bits = whole.bits;
          set = whole.set;
          queued_here = λ j chair r found has. genuine_still r (whole.queued_here j chair r found has);
          queued_there = λ r has. genuine_still r (whole.queued_there r has);
          places = λ open_still. rw (items, length-set) (whole.places open_still);
          made = grind (arith, items, length-set, slice_get_within, none_else, no_more_in);
          unclaimed = whole.unclaimed;
          in_pool = whole.in_pool;
          gates = whole.gates;
          holding = rw (ap (map holder_of) items ∙ map_kept holder_of s.tasks.items t (woken_slot slot) slot there holder_woken) whole.holding;
          pool = pool_slot t 0 (duties_of others) (duties_of others) s.tasks.items s'.tasks.items s.set s.seats.items slot (woken_slot slot) there items (redoes_woken others whole) whole.pool;
        })

-- WHAT THE MACHINE MAKES OF IT

module _ {B L : Type 0} (left : B → L) (spot : L → Option Said → Spot) where
  pub task_woken : (slot : TaskSlot B) → task_seen left spot (woken_slot slot) ≡ woken_task (task_seen left spot slot)
  task_woken = grind arith

  idle_seen : (p : Phase B) (i : ℕ) → is_idle_seen (phase_seen p i) ≡ is_idle p
  idle_seen = grind arith

  pub free_call : (p : CallPlace) → is_free p ≡ true → p ≡ call.Nothing
  free_call call.Nothing h = refl
  free_call _ h = absurd (false≢true h)

  module _ (c : Caller) (t : ℕ) (s s' : Shared B) (e : Event) (slot : TaskSlot B) (sound : CallSound c s) (free : is_free c.place ≡ true) (there : slice_get s.tasks.items t ≡ Some slot) (ordinary : slot.home ≡ None) (event : e ≡ Wake t) (turns : TurnsSlot t s s' woken_slot) where
    here : c.place ≡ call.Nothing
    here = free_call c.place free

    none : c.hand ≡ None
    none = rw here at sound.hand

    items : s'.tasks.items ≡ slice_set s.tasks.items t (woken_slot slot)
    items = turns.tasks slot there

    inside : t < length s.tasks.items
    inside = slice_get_within s.tasks.items t slot there

    named : slot.cell.number.0 ≡ t
    named = ap (λ (n : TaskNo). n.0) (sound.homes.number t slot there)

    -- the step, where the caller has this desk then
    works : (idle : Bool) → is_idle slot.cell.phase ≡ idle → (c1 : Caller) → call_of c1.place ≡ half.HalfDone → desk_of_caller c1 ≡ (if idle then queues t else calls_at call.Return (desk_of_caller c))
        → (p : Plan) (vs : Views) (j : ℕ) → CallSuits p vs j c s → CallWorks left spot p vs (action.Wake j t) j c s e c1 s'
    works idle is c1 halved desk p vs j suits =
        let cs = common_of left spot p vs s in
        let task : task_of cs t ≡ task_seen left spot slot = task_there left spot s.tasks.items t slot there in
        let home : (task_of cs t).home ≡ None = rw task ordinary in
        let phase : is_idle_seen (task_of cs t).phase ≡ idle = rw task (idle_seen slot.cell.phase slot.poller ∙ is) in
        let free_now : may_call cs j ≡ true = ap (λ x. not (is_half_done x)) (get_or_from_slice_get vs.calls j half.Nothing half.HalfDone (suits.seen ∙ ap (λ x. Some (call_of x)) here)) in
        let many : length cs.tasks ≡ length s.tasks.items = length-map s.tasks.items (task_seen left spot) in
        let less : nat_lt t (length cs.tasks) ≡ true = rw many (grind (arith, nat_tests, inside)) in
        let shown : things_with vs s' ≡ things_with vs s = ap (things_with vs) turns.kept in
        record {
          choice = Pays ByCall;
          moves = rw (home, phase, ← desk, event) (ap (λ x. record { event = Wake t; choice = Pays ByCall; desk = desk_of_caller c1; thing = x }) (sym shown));
          may = rw event (and_from (may_call cs j) (nat_lt t (length cs.tasks)) free_now less, (eq-eqb t t refl, (rw home refl, (refl, tt))));
          common = grind (arith, halved, turns.kept, items, map_set (task_seen left spot) s.tasks.items t (woken_slot slot), task_woken slot, event, task);
        }

    beside : (c1 : Caller) → c1.hand ≡ handed (is_idle slot.cell.phase) slot → has_count_in c1.place ≡ false → CallBeside c s c1 s'
    beside c1 hand uncounted =
        record {
          spares = spares c t s s' slot sound there ordinary turns.kept items;
          for_all = for_all c t s s' slot sound there ordinary turns.kept items;
          whole = whole_woken c t s s' slot sound there ordinary turns.kept items c1 none hand (rw here refl) uncounted;
          hears = hears c t s s' slot sound there ordinary turns.kept items;
        }

    still_sound : (c1 : Caller) → IsInHand None (hands_on_in c1.place) c1.hand → ((r : Runnable) → Contains (option_to_list c1.hand) r → IsGenuine s'.tasks.items r) → CallAims c1.place (length s.seats.items) → CallSound c1 s'
    still_sound c1 hand genuine aims =
        subst (CallSound c1) (sym turns.kept) (record {
          config = sound.config;
          homes = rw items (homes_set s.config.workers (length s.seats.items) s.tasks.items t slot (woken_slot slot) there (record { home = refl; number = refl; owner = refl }) sound.homes);
          many = sound.many;
          shards = sound.shards;
          hand = hand;
          genuine = genuine;
          aims = aims;
        })

    pub ordinary_woken : (c' : Caller) → c' ≡ with_woken slot c → WakesByCall left spot t c s e c' s'
    ordinary_woken c' goes = by (is_idle slot.cell.phase) refl goes
      where
        by : (idle : Bool) → is_idle slot.cell.phase ≡ idle → c' ≡ (if idle then record c { place = call.Global global.Append; hand = Some (runnable_of slot.cell) } else record c { place = call.Return }) → WakesByCall left spot t c s e c' s'
        by true is goes =
            let c1 : Caller = record c { place = call.Global global.Append; hand = Some (runnable_of slot.cell) } in
            let genuine : (r : Runnable) → Contains (runnable_of slot.cell ∷ []) r → IsGenuine s'.tasks.items r = λ r has.
            elim (Contains-push_cases [] (runnable_of slot.cell) r has) [
              | inl nothing ↦ absurd (omega (arith, nothing.1))
              | inr same ↦ genuine_still c t s s' slot sound there ordinary turns.kept items r (record { slot = slot; there = subst (λ m. slice_get s.tasks.items m ≡ Some slot) (sym named ∙ ap (λ (x : Runnable). x.task.0) same) there; ordinary = ordinary; of_it = sym same })
            ] in
            let desk : desk_of_caller c1 ≡ queues t = ap (λ n. record { place = call.Global global.Append; hand = Some n }) named in
            subst (λ y. WakesByCall left spot t c s e y s') (sym goes) (works true is c1 refl desk, still_sound c1 refl genuine tt, beside c1 (rw is refl) refl)
        by false is goes =
            let c1 : Caller = record c { place = call.Return } in
            subst (λ y. WakesByCall left spot t c s e y s') (sym goes)
            (works false is c1 refl refl, still_sound c1 none (λ r has. genuine_still c t s s' slot sound there ordinary turns.kept items r (sound.genuine r has)) tt, beside c1 (rw is none) refl)
