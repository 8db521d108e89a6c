use Rattle.std.proofs.{Common.{◌∷◌, [], ◌++◌, refl, ◌∙◌}, lemmas.Result.err_from_is_err_and}
use Rattle.exec_text.proofs.{Begins.head_none, Faults.{task_missing, task_wrong, script_right}, Lists.no_lists}
use Rattle.exec_text.proofs.task.read_tasks.Goals as goal

pub tasks-init : goal.tasks-init
tasks-init c =
    let l = c.args.lines.now in
    record { same_text = refl; so_far = ([], head_none c.args.config.now c.args.count _ c.requires.fits c.requires.said, no_lists c.new-scripts.result c.new-scripts.ensures) }

pub returns-in_err-line-clause-fault : goal.returns-in_err-line-clause-fault
returns-in_err-line-clause-fault c =
    let l = c.args.lines.now in
    let i = c.tasks.invariant in
    let p = err_from_is_err_and c.from_residual.result c.from_residual.ensures.1 in
    rw (p.1, p.2) (task_missing l.text.now c.tasks.lines.text.now c.args.count c.tasks.lines.number _ c.args.config.now i.so_far.0 i.same_text c.requires.counted i.so_far.1 c.in_err-line.ensures.missing)

pub returns-in-None-clause-fault : goal.returns-in-None-clause-fault
returns-in-None-clause-fault c =
    let l = c.args.lines.now in
    let i = c.tasks.invariant in
    rw c.fault.ensures
    (task_wrong l.text.now c.tasks.lines.text.now c.args.count c.tasks.lines.number c.expect_said.new.self.number c.in_ok-line.line.now c.args.config.now i.so_far.0 i.same_text c.requires.counted i.so_far.1 c.in_ok-line.ensures.found c.in-None.ensures.no_script c.in-None.ensures.no_root)

pub tasks-preserved : goal.tasks-preserved
tasks-preserved c =
    let l = c.args.lines.now in
    let i = c.tasks.invariant in
    let r = rw c.in-Some-Script.field-0-is at c.in-Some-Script.ensures.found in
    record {
      same_text = c.in_ok-line.ensures.text ∙ i.same_text;
      so_far = (
        i.so_far.0 ++ r.0 ∷ [],
        script_right l.text.now c.tasks.lines.text.now c.args.count c.tasks.lines.number c.expect_said.new.self.number c.in_ok-line.line.now c.args.config.now i.so_far.0 r.0 i.same_text i.so_far.1 c.in_ok-line.ensures.found r.1,
        c.with_list-scripts.ensures i.so_far.0 r.0 i.so_far.2 r.2,
      );
    }

pub returns-in-Some-Root-clause-text : goal.returns-in-Some-Root-clause-text
returns-in-Some-Root-clause-text c = c.in_ok-line.ensures.text ∙ c.tasks.invariant.same_text
