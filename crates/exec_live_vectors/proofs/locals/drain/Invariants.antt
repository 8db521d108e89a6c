use Rattle.std.proofs.Common.{◌≡◌, length}
use Rattle.exec_live_queue.specs.Lent.{left_of, lender}
use Rattle.exec_live_vectors.proofs.locals.drain.Given as goal

abbrev pub invariant-left : goal.invariant-left
invariant-left l = lender l.overflow ≡ lender l.fn.overflow

abbrev pub decreases-left : goal.decreases-left
decreases-left l = length (left_of l.overflow)
