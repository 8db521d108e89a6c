use Rattle.std.proofs.{Common.arith, lemmas.Grind.{common_steps, elements}}
use Rattle.exec_steps.proofs.search.store_moved.Goals as goal

pub publish-requires-clause-room : goal.publish-requires-clause-room
publish-requires-clause-room g c = grind (arith, elements)

pub publish-requires-clause-whole : goal.publish-requires-clause-whole
publish-requires-clause-whole g c = grind (arith, elements)

pub returns-clause-goes : goal.returns-clause-goes
returns-clause-goes g c = grind (arith, common_steps)

pub returns-clause-chair : goal.returns-clause-chair
returns-clause-chair g c = grind (arith, elements)
