use Rattle.std.proofs.Common.{◌≡◌, length}
use Rattle.exec_closing.proofs.closing.let_go_all.Given as goal

abbrev pub invariant-loop-message : goal.invariant-loop-message
invariant-loop-message l = l.batch ≡ record l.initial.batch { values = l.batch.values }

abbrev pub decreases-loop-message : goal.decreases-loop-message
decreases-loop-message l = length l.batch.values
