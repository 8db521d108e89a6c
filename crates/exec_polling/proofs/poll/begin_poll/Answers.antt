use Rattle.std.proofs.{Common.{◌≡◌, true, false, Some, refl, sym, ap, ◌∙◌, is_some, slice_set, if◌then◌else◌}, lemmas.Option.slice_get-get_or}
use Rattle.exec_task.specs.Phases.{queued_body, runnable_of}
use Rattle.exec_machine.specs.{declared.event.Event.Event, Tasks.begun_waiting}
use Rattle.exec_moves.specs.{declared.place.Place.Place, Parts.next_pick, Poll.after_begin}
use Rattle.exec_parts.{specs.{declared.parts.task_slot.TaskSlot.TaskSlot, Polls.{begun_slot, begun_slot_if}, View.desk_of}, proofs.Facts.{same_Some, found_within}}
use Rattle.exec_polling.proofs.poll.begin_poll.Goals as goal

pub unreachable-requires : goal.unreachable-requires
unreachable-requires g c =
    let it = found_within c.args.shared.now.tasks.items c.args.task c.requires.there in
    c.in_default.not-Some (runnable_of it.0.cell) (c.take.ensures.value ∙ c.requires.hand it.0 it.1)

pub begin-requires : goal.begin-requires
begin-requires g c =
    let e = c.index_mut-slot.result.now in
    let there = slice_get-get_or c.args.shared.now.tasks.items c.args.task e c.requires.there ∙ ap (λ z. Some z) (sym c.index_mut-slot.ensures.value) in
    same_Some c.in-Some.runnable (runnable_of e.cell) (sym c.in-Some.is ∙ c.take.ensures.value ∙ c.requires.hand e there)

pub returns-then-not-begin-clause-event : goal.returns-then-not-begin-clause-event
returns-then-not-begin-clause-event g c =
    let e = c.index_mut-slot.result.now in
    let there = slice_get-get_or c.args.shared.now.tasks.items c.args.task e c.requires.there ∙ ap (λ z. Some z) (sym c.index_mut-slot.ensures.value) in
    λ slot found.
    let is : e ≡ slot = same_Some e slot (sym there ∙ found) in
    let no : is_some (queued_body slot.cell.phase) ≡ false = sym (ap (λ (o : TaskSlot g.row.B.Denot). is_some (queued_body o.cell.phase)) is) ∙ sym c.begin.ensures.answer ∙ c.if-not-begin.true in
    sym (ap (λ b. if b then Event.Begin c.args.task else Event.Turn) no)

pub returns-then-not-begin-clause-place : goal.returns-then-not-begin-clause-place
returns-then-not-begin-clause-place g c =
    let w = c.args.worker.now in
    let e = c.index_mut-slot.result.now in
    let there = slice_get-get_or c.args.shared.now.tasks.items c.args.task e c.requires.there ∙ ap (λ z. Some z) (sym c.index_mut-slot.ensures.value) in
    λ slot found.
    let is : e ≡ slot = same_Some e slot (sym there ∙ found) in
    let no : is_some (queued_body slot.cell.phase) ≡ false = sym (ap (λ (o : TaskSlot g.row.B.Denot). is_some (queued_body o.cell.phase)) is) ∙ sym c.begin.ensures.answer ∙ c.if-not-begin.true in
    c.next_pick-worker.ensures ∙ sym (ap (λ b. if b then Place.Poll c.args.task (after_begin (begun_waiting slot.waiting)) else next_pick (desk_of w)) no)

pub returns-then-not-begin-clause-task : goal.returns-then-not-begin-clause-task
returns-then-not-begin-clause-task g c =
    let e = c.index_mut-slot.result.now in
    let items = c.args.shared.now.tasks.items in
    let there = slice_get-get_or items c.args.task e c.requires.there ∙ ap (λ z. Some z) (sym c.index_mut-slot.ensures.value) in
    let no : c.begin.result ≡ false = c.if-not-begin.true in
    record {
      kept = refl;
      tasks = λ slot found.
          let is : e ≡ slot = same_Some e slot (sym there ∙ found) in
          let stale : is_some (queued_body e.cell.phase) ≡ false = sym c.begin.ensures.answer ∙ no in
          ap (λ x. slice_set items c.args.task x) (c.begin.ensures.same no ∙ sym (ap (λ b. if b then begun_slot c.args.worker.now.index e else e) stale) ∙ ap (begun_slot_if c.args.worker.now.index) is);
    }

pub returns-clause-event : goal.returns-clause-event
returns-clause-event g c =
    let e = c.index_mut-slot.result.now in
    let there = slice_get-get_or c.args.shared.now.tasks.items c.args.task e c.requires.there ∙ ap (λ z. Some z) (sym c.index_mut-slot.ensures.value) in
    λ slot found.
    let is : e ≡ slot = same_Some e slot (sym there ∙ found) in
    let yes : is_some (queued_body slot.cell.phase) ≡ true = sym (ap (λ (o : TaskSlot g.row.B.Denot). is_some (queued_body o.cell.phase)) is) ∙ sym c.begin.ensures.answer ∙ c.if-not-begin.false in
    sym (ap (λ b. if b then Event.Begin c.args.task else Event.Turn) yes)

pub returns-clause-place : goal.returns-clause-place
returns-clause-place g c =
    let w = c.args.worker.now in
    let e = c.index_mut-slot.result.now in
    let there = slice_get-get_or c.args.shared.now.tasks.items c.args.task e c.requires.there ∙ ap (λ z. Some z) (sym c.index_mut-slot.ensures.value) in
    let begun = c.begin.ensures.begun c.if-not-begin.false in
    λ slot found.
    let is : e ≡ slot = same_Some e slot (sym there ∙ found) in
    let yes : is_some (queued_body slot.cell.phase) ≡ true = sym (ap (λ (o : TaskSlot g.row.B.Denot). is_some (queued_body o.cell.phase)) is) ∙ sym c.begin.ensures.answer ∙ c.if-not-begin.false in
    ap (λ x. Place.Poll c.args.task x) (c.first_step.ensures ∙ ap after_begin (c.waiting.ensures ∙ ap (λ (o : TaskSlot g.row.B.Denot). o.waiting) begun ∙ ap (λ (o : TaskSlot g.row.B.Denot). begun_waiting o.waiting) is))
    ∙ sym (ap (λ b. if b then Place.Poll c.args.task (after_begin (begun_waiting slot.waiting)) else next_pick (desk_of w)) yes)

pub returns-clause-task : goal.returns-clause-task
returns-clause-task g c =
    let e = c.index_mut-slot.result.now in
    let items = c.args.shared.now.tasks.items in
    let there = slice_get-get_or items c.args.task e c.requires.there ∙ ap (λ z. Some z) (sym c.index_mut-slot.ensures.value) in
    let yes : c.begin.result ≡ true = c.if-not-begin.false in
    record {
      kept = refl;
      tasks = λ slot found.
          let is : e ≡ slot = same_Some e slot (sym there ∙ found) in
          let queued : is_some (queued_body e.cell.phase) ≡ true = sym c.begin.ensures.answer ∙ yes in
          ap (λ x. slice_set items c.args.task x) (c.begin.ensures.begun yes ∙ sym (ap (λ b. if b then begun_slot c.args.worker.now.index e else e) queued) ∙ ap (begun_slot_if c.args.worker.now.index) is);
    }
