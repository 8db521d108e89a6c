use Rattle.std.proofs.Common.{arith}
use Rattle.exec_text.proofs.Said.{line_ended, line_open}
use Rattle.exec_text.proofs.line.first_line.Goals as goal

pub returns-in-Some-clause-first : goal.returns-in-Some-clause-first
returns-in-Some-clause-first c = grind (arith, line_ended)

pub returns-in-None-clause-first : goal.returns-in-None-clause-first
returns-in-None-clause-first c = line_open c.args.text.now c.requires c.in-None.ensures.none
