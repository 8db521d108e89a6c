use Rattle.std.proofs.{Common.arith, lemmas.Grind.elements}
use Rattle.exec_steps.proofs.push.flow_over.Goals as goal

pub overflow_exchange-requires-clause-full : goal.overflow_exchange-requires-clause-full
overflow_exchange-requires-clause-full g c = grind (arith, elements)

pub overflow_exchange-requires-clause-unspent : goal.overflow_exchange-requires-clause-unspent
overflow_exchange-requires-clause-unspent g c = grind (arith, elements)

pub overflow_exchange-requires-clause-whole : goal.overflow_exchange-requires-clause-whole
overflow_exchange-requires-clause-whole g c = grind (arith, elements)

pub returns-in-Ok-clause-worker : goal.returns-in-Ok-clause-worker
returns-in-Ok-clause-worker g c = grind (arith, elements)

pub returns-in-Ok-clause-chair : goal.returns-in-Ok-clause-chair
returns-in-Ok-clause-chair g c = grind (arith, elements)

pub returns-in-Err-clause-worker : goal.returns-in-Err-clause-worker
returns-in-Err-clause-worker g c = grind (arith, elements)

pub returns-in-Err-clause-chair : goal.returns-in-Err-clause-chair
returns-in-Err-clause-chair g c = grind (arith, elements)
