use Rattle.std.proofs.{Common.arith, lemmas.Grind.elements}
use Rattle.exec_steps.proofs.signal.raise.Goals as goal

pub returns-clause-event : goal.returns-clause-event
returns-clause-event g c = grind (arith, elements)

pub returns-clause-chair : goal.returns-clause-chair
returns-clause-chair g c = grind (arith, elements)
