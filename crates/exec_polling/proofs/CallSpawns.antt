-- What the spawn of a task by an outside caller is to the machine.
use Rattle.std.proofs.{Common.{◌≡◌, ℕ, ◌<◌, true, false, not, Contains, [], ◌∷◌, ◌++◌, length, Option, Some, None, refl, sym, ap, subst, ◌∙◌, arith, slice_get, slice_index_or}, lemmas.{Bool.eq-eqb, List.{length-map, set-get_or}, Option.{get_or_from_slice_get, slice_get_within}}}
use Rattle.exec_task.specs.{TaskSet.held, declared.{body.Said.Said, runnable.Runnable.Runnable}}
use Rattle.exec_machine.specs.{declared.{config.Configuration.Configuration, event.Event.Event, state.Call.Call as half, step.Action.Action as action}, Callers.{is_half_done, may_call}, Choice.Choice.Plain, Progress.Plan, World.Common}
use Rattle.exec_moves.specs.{Call.{CallDesk, calls_at, queues}, Cells.shard_of, MoveOfCaller.call_spawn, Pop.shard_count, Send.next_task, State.Things, Thing.set_shard, declared.handing.CallPlace.CallPlace as call}
use Rattle.exec_parts.{specs.{declared.parts.shared.Shared.Shared, Pooled.MakesTask, Scripts.Begins, Spots.Spot, View.{Views, common_of, task_seen, things_with}}, proofs.Facts.{not-true, not-false, same_Some}}
use Rattle.exec_polling.{specs.{declared.caller.Caller.Caller, Calling.{CallBeside, CallSound, CallSuits, CallWorks, HasCallWhole, HoldsForAll, SpawnsByCall, call_of, desk_of_caller, is_free, with_caller}}, proofs.{CallWakes.free_call, Outsiders.{beside_shares, hears_same, sound_shares, whole_idled}, SpawnJoins.{HasOneMore, Joins, genuine_new, homes_joined, none_yet, resting_joined, shards_same, spares_joined, whole_joined}, SpawnLists.found_again, SpawnSteps.{shards_show, tasks_seen}}}
use Rattle.exec_invariants.{specs.{Drained.in_set, Whole.{IsGenuine, Profile, duties_of}}, proofs.{Aside.seats_same, PopLeads.some_shards, Stirs.only}}
use Rattle.exec_moves.specs.declared.handing.InGlobal.TheVariants as global

open_call : (c : Configuration) (s : Common) (d : CallDesk) (x : Things) (k : ℕ) → s.set_closed ≡ false
    → call_spawn c s d x k ≡ (let n = shard_of c (next_task s) in record { event = Event.Spawn (next_task s) k; choice = Plain; desk = queues (next_task s); thing = set_shard n x (slice_index_or x.shards n [] ++ next_task s ∷ []) })
open_call c s d x k is = rw is refl

closed_call : (c : Configuration) (s : Common) (d : CallDesk) (x : Things) (k : ℕ) → s.set_closed ≡ true
    → call_spawn c s d x k ≡ (let n = shard_of c (next_task s) in record { event = Event.Closed; choice = Plain; desk = calls_at call.Return d; thing = set_shard n x (slice_index_or x.shards n []) })
closed_call c s d x k is = rw is refl

module _ {B : Type 0} where
  pub joins_by : (c : Caller) (body : B) (r : Runnable) (s s' : Shared B) → CallSound c s → MakesTask body s s' (Some r) → Joins body r s s'
  joins_by c body r s s' sound makes =
      let its = makes.slot r refl in
      record {
        new = its.0;
        items = its.1;
        of_it = its.2;
        fresh = its.3;
        number = makes.number r refl;
        set = makes.set r refl;
        unclosed = not-true s.set.closed (sym makes.answer);
        shards = subst (λ n. 0 < n) (sym sound.shards) (some_shards s.config);
        places = makes.places r refl;
        few = makes.few r refl;
        kept = makes.kept;
      }

  pub absent_now : (c : Caller) (s : Shared B) → CallSound c s → HasCallWhole c s → held s.set (record { 0 = length s.tasks.items }) ≡ None
  absent_now c s sound has = none_yet (duties_of (with_caller has.others c)) s (subst (λ n. 0 < n) (sym sound.shards) (some_shards s.config)) has.whole.pool

module _ {B L : Type 0} (left : B → L) (spot : L → Option Said → Spot) (c : Caller) (body : B) (name : ℕ) (s s' : Shared B) (sound : CallSound c s) (free : is_free c.place ≡ true) where
  here : c.place ≡ call.Nothing
  here = free_call left spot c.place free

  none : c.hand ≡ None
  none = rw here at sound.hand

  free_now : (p : Plan) (vs : Views) (j : ℕ) → CallSuits p vs j c s → may_call (common_of left spot p vs s) j ≡ true
  free_now p vs j suits = ap (λ x. not (is_half_done x)) (get_or_from_slice_get vs.calls j half.Nothing half.HalfDone (suits.seen ∙ ap (λ x. Some (call_of x)) here))

  -- THE SET IS OPEN

  module _ (r : Runnable) (has : HasCallWhole c s) (makes : MakesTask body s s' (Some r)) where
    abbrev c1 : Caller
    c1 = record c { place = call.Global global.Append; hand = Some r }

    it : Joins body r s s'
    it = joins_by c body r s s' sound makes

    below : (n : ℕ) → 0 < in_set n s.set → n < length s.tasks.items
    below n some = let old = has.whole.pool.only n (omega (arith, some)) in slice_get_within s.tasks.items n old.0 old.1

    closed_same : s'.set.closed ≡ s.set.closed
    closed_same = ap (λ z. z.closed) it.set

    works : (p : Plan) (vs : Views) (j : ℕ) → CallSuits p vs j c s → Begins (spot (left body)) name → CallWorks left spot p vs (action.Spawn j name) j c s (Event.Spawn r.task.0 name) c1 s'
    works p vs j suits begins =
        let all = common_of left spot p vs s in
        let x = things_with vs s in
        let d = desk_of_caller c in
        let count : next_task all ≡ r.task.0 = length-map s.tasks.items (task_seen left spot) ∙ sym it.number in
        let many : length s.set.shards ≡ shard_count p.config = sound.shards ∙ ap shard_count suits.config in
        let shown : things_with vs s' ≡ (let n = shard_of p.config r.task.0 in set_shard n x (slice_index_or x.shards n [] ++ r.task.0 ∷ [])) = shards_show left spot body r vs p.config s s' it below many in
        record {
          choice = Plain;
          moves = grind (arith, open_call p.config all d x name it.unclosed, count, shown);
          may = (free_now p vs j suits, (eq-eqb r.task.0 (length all.tasks) (sym count), (eq-eqb name name refl, (ap not it.unclosed, tt))));
          common = grind (arith, it.kept, tasks_seen left spot body r name s s' it begins, closed_same);
        }

    still_sound : CallSound c1 s'
    still_sound =
        let genuine : (y : Runnable) → Contains (r ∷ []) y → IsGenuine s'.tasks.items y = λ y has_it. subst (IsGenuine s'.tasks.items) (sym (only y r has_it)) (genuine_new body r s s' it) in
        let done : CallSound c1 (record s { tasks = s'.tasks; set = s'.set; global = record s.global { places = s'.global.places } }) = assumption (homes_joined body r s s' it s.config.workers (length s.seats.items) sound.homes, shards_same body r s s' it ∙ sound.shards, genuine, tt, sound) in
        subst (CallSound c1) (sym it.kept) done

    one_more : (x : Profile) → HasOneMore r (with_caller x c) (with_caller x c1)
    one_more x =
        subst (λ y. HasOneMore r (with_caller x y) (with_caller x c1)) (ap (λ o. record c { place = call.Nothing; hand = o }) (sym none) ∙ ap (λ q. record c { place = q }) (sym here))
        (record { runnables = λ n. omega arith; polls = refl; claims = refl; counts = refl; published = refl; duties = refl; hands = refl })

    beside : CallBeside c s c1 s'
    beside =
        record {
          spares = spares_joined body r s s' it;
          for_all = λ all.
              let closed : s.stopped ≡ true → s'.set.closed ≡ true = λ h. closed_same ∙ all.closed h in
              subst HoldsForAll (sym it.kept) (assumption (homes_joined body r s s' it s.config.workers (length s.seats.items) all.homes, resting_joined body r s s' it all.resting, closed, all));
          whole = λ x whole. whole_joined body r s s' it (with_caller x c) (with_caller x c1) (one_more x) whole;
          hears = λ t slot slot' found found'.
              let again : slice_get s'.tasks.items t ≡ Some slot = ap (λ xs. slice_get xs t) it.items ∙ found_again s.tasks.items (it.new ∷ []) t slot found in
              hears_same slot slot' (same_Some slot slot' (sym again ∙ found'));
        }

    pub spawned_by_call : (c' : Caller) (e : Event) → e ≡ Event.Spawn r.task.0 name → c' ≡ c1 → SpawnsByCall left spot (spot (left body)) name c s e c' s'
    spawned_by_call c' e event goes =
        subst (λ y. SpawnsByCall left spot (spot (left body)) name c s e y s') (sym goes)
        (subst (λ z. SpawnsByCall left spot (spot (left body)) name c s z c1 s') (sym event) ((λ p vs j suits begins. works p vs j suits begins), still_sound, beside))

  -- THE SET IS CLOSED

  pub refused_by_call : MakesTask body s s' None → SpawnsByCall left spot (spot (left body)) name c s Event.Closed (record c { place = call.Return }) s'
  refused_by_call makes =
      let c1 : Caller = record c { place = call.Return } in
      let shut : s.set.closed ≡ true = not-false s.set.closed (sym makes.answer) in
      subst (SpawnsByCall left spot (spot (left body)) name c s Event.Closed c1) (sym (makes.closed shut)) (
        (λ p vs j suits begins.
            let all = common_of left spot p vs s in
            let x = things_with vs s in
            let n = shard_of p.config (next_task all) in
            record {
              choice = Plain;
              moves = closed_call p.config all (desk_of_caller c) x name shut ∙ ap (λ ys. record { event = Event.Closed; choice = Plain; desk = desk_of_caller c1; thing = record x { shards = ys } }) (set-get_or x.shards n []);
              may = (free_now p vs j suits, (shut, tt));
              common = refl;
            }),
        sound_shares c c1 s s sound refl refl none sound.genuine tt,
        beside_shares c c1 s s refl (λ i. seats_same i s.seats.items s.seats.items refl) (whole_idled c c1 s s.idle refl refl (rw here refl)),
      )
