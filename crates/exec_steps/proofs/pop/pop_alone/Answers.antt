use Rattle.std.proofs.{Common.arith, lemmas.Grind.elements}
use Rattle.exec_steps.proofs.pop.pop_alone.Goals as goal

pub returns-in-Some-clause-worker : goal.returns-in-Some-clause-worker
returns-in-Some-clause-worker g c = grind (arith, elements)

pub returns-in-Some-clause-chair : goal.returns-in-Some-clause-chair
returns-in-Some-clause-chair g c = grind (arith, elements)

pub returns-in-None-clause-worker : goal.returns-in-None-clause-worker
returns-in-None-clause-worker g c = grind (arith, elements)

pub returns-in-None-clause-chair : goal.returns-in-None-clause-chair
returns-in-None-clause-chair g c = grind (arith, elements)
