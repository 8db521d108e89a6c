use Rattle.std.proofs.Common.{◌-◌, ◌≤◌, take}
use Rattle.exec_request.specs.Bytes.{window_bytes}
use Rattle.exec_ring.specs.Files.{KeepsPages, Overwrites}
use Rattle.exec_ring.proofs.file.File.write.Given as goal

abbrev pub invariant-loop-at : goal.invariant-loop-at
invariant-loop-at l = record {
  within : l.at ≤ l.count;
  bytes : Overwrites l.initial.self l.self l.offset (take l.at (window_bytes l.request));
  pages : KeepsPages l.initial.self l.self;
}

abbrev pub decreases-loop-at : goal.decreases-loop-at
decreases-loop-at l = l.count - l.at
