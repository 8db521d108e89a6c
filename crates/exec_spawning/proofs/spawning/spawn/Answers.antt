use Rattle.std.proofs.{Common.{◌≡◌, ℕ, ◌<◌, length, List, get_or, Some, None, refl, sym, ap, subst, ◌∙◌, slice_get, slice_set}, lemmas.Option.slice_get-get_or}
use Rattle.exec_base.specs.declared.error.Error.{Error}
use Rattle.exec_task.specs.declared.body.Said.{Said}
use Rattle.exec_machine.specs.declared.event.Event.{Event}
use Rattle.exec_parts.{specs.{declared.parts.{shared.Shared.Shared, task_slot.TaskSlot.TaskSlot}, Pooled.MakesTask, Tests.after_spawn_of}, proofs.Facts.{not-false, same_Some}}
use Rattle.exec_spawning.proofs.spawning.spawn.Goals as goal

told_so : {B : Type 0} (t : ℕ) (items : List (TaskSlot B)) (old new : TaskSlot B) (x : Said) → t < length items → old ≡ get_or items t old → new ≡ record old { told = Some x } → (slot : TaskSlot B) → slice_get items t ≡ Some slot → slice_set items t new ≡ slice_set items t (record slot { told = Some x })
told_so {B = B} t items old new x few is told slot found =
    let there : slice_get items t ≡ Some old = slice_get-get_or items t old few ∙ ap (λ z. Some z) (sym is) in
    ap (slice_set items t) (told ∙ ap (λ (o : TaskSlot B). record o { told = Some x }) (same_Some old slot (sym there ∙ found)))

-- no task was made where the set is closed
unmade : {B : Type 0} (body : B) (s s' : Shared B) → MakesTask body s s' None → s' ≡ s
unmade body s s' it = it.closed (not-false s.set.closed (sym it.answer))

pub returns-in-Ok-Some-clause-made : goal.returns-in-Ok-Some-clause-made
returns-in-Ok-Some-clause-made g c =
    let w = c.args.worker.now in
    let r = c.in-Ok-Some.runnable in
    let makes = subst (λ o. MakesTask c.args.body c.args.shared.now c.make_task.new.self o) c.in-Ok-Some.field-0-is c.in-Ok-Some.ensures.made in
    let told = c.tell_spawned.ensures in
    record {
      made = Some r;
      middle = c.make_task.new.self;
      makes = makes;
      told = told.task;
      worker = told.goes ∙ ap (λ (x : Shared g.row.B.Denot). record w { place = after_spawn_of x.config.workers c.args.task w; hand = Some r }) makes.kept;
      event = told.event ∙ ap (λ k. Event.Spawn r.task.0 k) c.name-script.ensures;
    }

pub returns-in-Ok-None-clause-made : goal.returns-in-Ok-None-clause-made
returns-in-Ok-None-clause-made g c =
    let mid = c.make_task.new.self in
    let makes = subst (λ o. MakesTask c.args.body c.args.shared.now mid o) c.in-Ok-None.field-0-is c.in-Ok-None.ensures.made in
    let same : mid ≡ c.args.shared.now = unmade c.args.body c.args.shared.now mid makes in
    record {
      made = None;
      middle = mid;
      makes = makes;
      told = record { kept = refl; tasks = told_so c.args.task mid.tasks.items c.index_mut.result.now c.tell.new.self (Said.Refused Error.Closed) (subst (λ (x : Shared g.row.B.Denot). c.args.task < length x.tasks.items) (sym same) c.requires.there) c.index_mut.ensures.value c.tell.ensures };
      worker = refl;
      event = refl;
    }

pub returns-in-Err-clause-refused : goal.returns-in-Err-clause-refused
returns-in-Err-clause-refused g c =
    let mid = c.make_task.new.self in
    let room = c.in-Err.ensures.same in
    let old = c.index_mut-in-Err.result.now in
    record {
      middle = mid;
      room = room;
      told = record { kept = refl; tasks = told_so c.args.task mid.tasks.items old c.tell-in-Err.new.self (Said.Refused Error.NoMemory) (subst (λ (xs : List (TaskSlot g.row.B.Denot)). c.args.task < length xs) (sym room.tasks) c.requires.there) c.index_mut-in-Err.ensures.value (c.tell-in-Err.ensures ∙ ap (λ x. record old { told = Some x }) c.refused.ensures) };
      worker = refl;
    }
