use Rattle.std.proofs.{Common.codes, lemmas.Result.err_from_is_err_and}
use Rattle.exec_text.proofs.{Fields.told_other, Faults.{mark_missing, mark_wrong}}
use Rattle.exec_text.proofs.read.read_mark.Goals as goal

pub returns-in_err-line-clause-fault : goal.returns-in_err-line-clause-fault
returns-in_err-line-clause-fault c =
    let s = c.args.lines.now in
    let r = c.requires in
    let p = err_from_is_err_and c.from_residual.result c.from_residual.ensures.1 in
    rw (p.1, p.2) (mark_missing s.text.now r.1 s.number r.0 r.2 r.3 _ r.5 r.4 c.in_err-line.ensures.missing)

pub returns-then-ne-clause-fault : goal.returns-then-ne-clause-fault
returns-then-ne-clause-fault c =
    let s = c.args.lines.now in
    let r = c.requires in
    rw c.fault.ensures
    (mark_wrong s.text.now r.1 s.number c.expect_said.new.self.number c.in_ok-line.line.now r.0 r.2 r.3 r.5 r.4 c.in_ok-line.ensures.found
    (told_other c.in_ok-line.line.now c.as_slice.result.now (codes "steps") c.ne.result c.ne.ensures c.as_slice.ensures c.if-ne.true))
