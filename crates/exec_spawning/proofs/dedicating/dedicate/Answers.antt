use Rattle.std.proofs.{Common.{◌<◌, ◌∷◌, [], List, inl, length, Some, refl, sym, ap, subst, ◌∙◌, slice_set, arith}, lemmas.{Grind.common_steps, List.length-append, Option.slice_get-get_or}}
use Rattle.exec_base.specs.declared.error.Error.{Error}
use Rattle.exec_task.specs.declared.body.Said.{Said}
use Rattle.exec_machine.specs.declared.event.Event.{Event}
use Rattle.exec_parts.{specs.declared.parts.task_slot.TaskSlot.TaskSlot, proofs.Facts.same_Some}
use Rattle.exec_spawning.proofs.dedicating.dedicate.Goals as goal

pub returns-in_default-clause-refused : goal.returns-in_default-clause-refused
returns-in_default-clause-refused g c =
    let nobody = c.in_default.ensures.same in
    let mid = c.make_dedicated.new.shared in
    let old = c.index_mut-in_default.result.now in
    let within : c.args.task < length mid.tasks.items = subst (λ (xs : List (TaskSlot g.row.B.Denot)). c.args.task < length xs) (sym nobody.tasks) c.requires.there in
    let there = slice_get-get_or mid.tasks.items c.args.task old within ∙ ap (λ z. Some z) (sym c.index_mut-in_default.ensures.value) in
    record {
      middle = mid;
      nobody = nobody;
      told = record {
        kept = refl;
        tasks = λ slot found. ap (slice_set mid.tasks.items c.args.task) (c.tell-in_default.ensures ∙ ap (λ n. record old { told = Some n }) c.refused.ensures ∙ ap (λ (o : TaskSlot g.row.B.Denot). record o { told = Some (Said.Refused Error.NoMemory) }) (same_Some old slot (sym there ∙ found)));
      };
      worker = refl;
    }

pub returns-clause-made : goal.returns-clause-made
returns-clause-made g c =
    let made = c.in-Ok.ensures.made in
    let s = c.args.shared.now in
    let mid = c.make_dedicated.new.shared in
    let old = c.index_mut-2.result.now in
    let within : c.args.task < length mid.tasks.items = omega (arith, ap length made.tasks, length-append s.tasks.items (made.slot ∷ []), c.requires.there) in
    let there = slice_get-get_or mid.tasks.items c.args.task old within ∙ ap (λ z. Some z) (sym c.index_mut-2.ensures.value) in
    let count = c.len-made.ensures ∙ (s.tasks).ok.0 in
    let worker = c.len-other.ensures ∙ (s.seats).ok.0 in
    inl (record {
      open_still = sym c.is_closed.ensures ∙ c.if-is_closed.false;
      number = c.in-Ok.number;
      middle = mid;
      makes = made;
      told = record {
        kept = refl;
        tasks = λ slot found. ap (slice_set mid.tasks.items c.args.task) (c.tell-2.ensures ∙ ap (λ (o : TaskSlot g.row.B.Denot). record o { told = Some (Said.Spawned c.in-Ok.number) }) (same_Some old slot (sym there ∙ found)));
      };
      worker = refl;
      event_is = ap (λ n. Event.Dedicated n c.len-other.result) count ∙ ap (λ i. Event.Dedicated (length s.tasks.items) i) worker;
    })

pub index_mut-requires-2 : goal.index_mut-requires-2
index_mut-requires-2 g c = grind (arith, common_steps)
