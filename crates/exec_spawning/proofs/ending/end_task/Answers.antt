use Rattle.std.proofs.Common.{refl, sym, ap, subst, ◌∙◌, arith, slice_set, IsTrue}
use Rattle.exec_task.specs.Phases.{is_polled, over}
use Rattle.exec_parts.{specs.declared.parts.task_slot.TaskSlot.TaskSlot, proofs.{Facts.same_Some, MailHeld.{slot_gone, within_gone}, MailLets.found_at}}
use Rattle.exec_spawning.proofs.ending.end_task.Goals as goal

pub index_mut-requires : goal.index_mut-requires
index_mut-requires g c =
    let within = within_gone c.args.task c.args.worker.now c.let_go_of.new.self c.args.shared.now c.let_go_of.new.shared c.let_go_of.ensures.lets in
    omega (arith, within, c.let_go_of.new.shared.tasks.ok.0)

pub done-requires : goal.done-requires
done-requires g c =
    let lets = c.let_go_of.ensures.lets in
    let within = within_gone c.args.task c.args.worker.now c.let_go_of.new.self c.args.shared.now c.let_go_of.new.shared lets in
    let there = slot_gone c.args.task c.args.worker.now c.let_go_of.new.self c.args.shared.now c.let_go_of.new.shared lets in
    let x = c.index_mut.result.now in
    let is = same_Some lets.slot' x (sym there ∙ found_at c.let_go_of.new.shared.tasks.items c.args.task x within c.index_mut.ensures.value) in
    record { polled = subst (λ (y : TaskSlot g.row.B.Denot). IsTrue (is_polled y.cell.phase)) is (subst (λ (y : TaskSlot g.row.B.Denot). IsTrue (is_polled y.cell.phase)) (sym lets.emptied) (c.requires.may.polled lets.slot lets.there)) }

pub returns : goal.returns
returns g c =
    let mid = c.let_go_of.new.shared in
    let lets = c.let_go_of.ensures.lets in
    let within = within_gone c.args.task c.args.worker.now c.let_go_of.new.self c.args.shared.now mid lets in
    let x = c.index_mut.result.now in
    let there = found_at mid.tasks.items c.args.task x within c.index_mut.ensures.value in
    record {
      ends = record {
        v = c.let_go_of.new.self;
        mid = mid;
        lets = lets;
        worker = ap (λ p. record c.let_go_of.new.self { place = p }) c.after_end-worker.ensures;
        task = record { kept = refl; tasks = λ slot found. ap (slice_set mid.tasks.items c.args.task) (c.done.ensures.over ∙ ap (λ (y : TaskSlot g.row.B.Denot). record y { cell = over y.cell }) (same_Some x slot (sym there ∙ found))) };
      };
    }
