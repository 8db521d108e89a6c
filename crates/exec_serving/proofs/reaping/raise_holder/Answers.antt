use Rattle.std.proofs.{Common.arith, lemmas.Grind.elements}
use Rattle.exec_serving.proofs.reaping.raise_holder.Goals as goal

pub returns-in-Turn-clause-event : goal.returns-in-Turn-clause-event
returns-in-Turn-clause-event g c = grind (arith, elements)

pub returns-in-Turn-clause-chair : goal.returns-in-Turn-clause-chair
returns-in-Turn-clause-chair g c = grind (arith, elements)

pub returns-in_default : goal.returns-in_default
returns-in_default g c = grind (arith, elements)
