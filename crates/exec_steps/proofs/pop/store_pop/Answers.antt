use Rattle.std.proofs.{Common.arith, lemmas.Grind.elements}
use Rattle.exec_steps.proofs.pop.store_pop.Goals as goal

pub pop_last-runnable-requires-clause-lone : goal.pop_last-runnable-requires-clause-lone
pop_last-runnable-requires-clause-lone g c = grind (arith, elements)

pub pop_last-runnable-requires-clause-unclaimed : goal.pop_last-runnable-requires-clause-unclaimed
pop_last-runnable-requires-clause-unclaimed g c = grind (arith, elements)

pub returns-clause-worker : goal.returns-clause-worker
returns-clause-worker g c = grind (arith, elements)

pub returns-clause-chair : goal.returns-clause-chair
returns-clause-chair g c = grind (arith, elements)
