use Rattle.std.proofs.{Common.arith, lemmas.Grind.elements}
use Rattle.exec_steps.proofs.turn.take_share.Goals as goal

pub take-requires-clause-room : goal.take-requires-clause-room
take-requires-clause-room g c = grind (arith, elements)

pub take-requires-clause-whole : goal.take-requires-clause-whole
take-requires-clause-whole g c = grind (arith, elements)

pub returns-in-Some-clause-chair : goal.returns-in-Some-clause-chair
returns-in-Some-clause-chair g c = grind (arith, elements)

pub returns-in-None-clause-chair : goal.returns-in-None-clause-chair
returns-in-None-clause-chair g c = grind (arith, elements)
