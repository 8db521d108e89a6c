use Rattle.std.proofs.Common.{length}
use Rattle.exec_live_vectors.proofs.queues.play.Given as goal

abbrev pub decreases-loop-local : goal.decreases-loop-local
decreases-loop-local g l = length l.locals.items
