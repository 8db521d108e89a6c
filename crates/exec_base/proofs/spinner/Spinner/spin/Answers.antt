use Rattle.std.proofs.Common.{add-one, rules, of_calls}
use Rattle.exec_base.proofs.Looks.{Misses-more}
use Rattle.exec_base.proofs.spinner.Spinner.spin.Goals as goal

pub loop-preserved : goal.loop-preserved
loop-preserved g c =
    let miss = rw c.if-condition.false at c.condition.ensures in
    (search (rules, of_calls), c.loop.invariant.1, rw add-one (Misses-more (goal.C-step g) c.loop.counter c.args.condition.now c.loop.condition c.condition.new.self c.loop.invariant.2 miss))
