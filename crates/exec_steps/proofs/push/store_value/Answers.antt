use Rattle.std.proofs.{Common.arith, lemmas.Grind.elements}
use Rattle.exec_steps.proofs.push.store_value.Goals as goal

pub push_fitting-requires-clause-room : goal.push_fitting-requires-clause-room
push_fitting-requires-clause-room g c = grind (arith, elements)

pub push_fitting-requires-clause-whole : goal.push_fitting-requires-clause-whole
push_fitting-requires-clause-whole g c = grind (arith, elements)

pub returns-clause-chair : goal.returns-clause-chair
returns-clause-chair g c = grind (arith, elements)
