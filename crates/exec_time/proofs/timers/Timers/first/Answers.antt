use Rattle.std.proofs.Common.{arith}
use Rattle.exec_time.proofs.Index.{first_in, none_in}
use Rattle.exec_time.proofs.timers.Timers.first.Goals as goal

pub returns-clause-first : goal.returns-clause-first
returns-clause-first g c = grind (arith, first_in, c.first.ensures, c.self.invariant, c.copied.ensures, c.self.view_is)

pub returns-clause-none : goal.returns-clause-none
returns-clause-none g c = grind (arith, none_in, c.first.ensures, c.self.invariant, c.copied.ensures, c.self.view_is)
