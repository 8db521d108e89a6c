use Rattle.std.proofs.Common.{◌≡◌, drop, None}
use Rattle.exec_driver.proofs.Words.{seen, lowest_gate}
use Rattle.exec_driver.proofs.driver.Driver.next_gate.Given as goal

abbrev pub invariant-gates : goal.invariant-gates
invariant-gates g l = lowest_gate l.from (seen l.self).requests (drop l.place l.gated.items) l.least ≡ lowest_gate l.from (seen l.self).requests l.gated.items None
