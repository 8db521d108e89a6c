use Rattle.std.{proofs.Common.◌≡◌, specs.Prelude.replicate}
use Rattle.exec_opens.specs.Opens.{fresh_open}
use Rattle.exec_opens.proofs.opens.Opens.new.Given as goal

abbrev pub invariant-fresh : goal.invariant-fresh
invariant-fresh l = l.opens.items ≡ replicate l.counter fresh_open
