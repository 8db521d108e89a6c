use Rattle.std.proofs.Common.{◌≡◌, length}
use Rattle.exec_ring.specs.Kernels.{all_taken}
use Rattle.exec_ring.proofs.sim_ring.SimRingRing.enter.Given as goal

abbrev pub invariant-loop-entry : goal.invariant-loop-entry
invariant-loop-entry l = all_taken l.self ≡ all_taken l.initial.self

abbrev pub decreases-loop-entry : goal.decreases-loop-entry
decreases-loop-entry l = length l.self.staged
