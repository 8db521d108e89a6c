use Rattle.std.proofs.Common.{◌<◌, ◌≤◌, ℕ}
use Rattle.exec_ring.specs.Files.{HasPage}
use Rattle.exec_ring.proofs.file.File.covers.Given as goal

abbrev pub invariant-pages : goal.invariant-pages
invariant-pages l = (n : ℕ) → l.first ≤ n → n < l.number-counter → HasPage l.self n
