use Rattle.std.proofs.Common.{◌-◌, ◌≤◌}
use Rattle.exec_ring.specs.{Fillings.Fills, Files.bytes_from}
use Rattle.exec_ring.proofs.file.File.read.Given as goal

abbrev pub invariant-loop-at : goal.invariant-loop-at
invariant-loop-at l = record {
  within : l.at ≤ l.count;
  filled : Fills l.fn.request l.request (bytes_from l.self l.offset l.at);
}

abbrev pub decreases-loop-at : goal.decreases-loop-at
decreases-loop-at l = l.count - l.at
