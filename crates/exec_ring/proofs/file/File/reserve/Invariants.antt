use Rattle.std.proofs.Common.{◌<◌, ◌≤◌, ℕ}
use Rattle.exec_ring.specs.Files.{HasPage, SameBytes, KeepsPages}
use Rattle.exec_ring.proofs.file.File.reserve.Given as goal

abbrev pub invariant-loop-number : goal.invariant-loop-number
invariant-loop-number l = record {
  bytes : SameBytes l.initial.self l.self;
  pages : KeepsPages l.initial.self l.self;
  made : (n : ℕ) → l.first ≤ n → n < l.number → HasPage l.self n;
}
