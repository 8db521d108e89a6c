use Rattle.exec_waiters.specs.Layout.{NoneHeldBelow}
use Rattle.exec_waiters.proofs.waiters.Waiters.first_observed.Given as goal

abbrev pub invariant-loop-index : goal.invariant-loop-index
invariant-loop-index g l = NoneHeldBelow l.self l.index
