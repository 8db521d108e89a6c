use Rattle.std.proofs.{Common.arith, lemmas.Grind.elements}
use Rattle.exec_closing.proofs.closing.close_mailbox.Goals as goal

pub returns-clause-worker : goal.returns-clause-worker
returns-clause-worker g c = grind (arith, elements)

pub returns-clause-batch : goal.returns-clause-batch
returns-clause-batch g c = grind (arith, elements)

pub returns-clause-chair : goal.returns-clause-chair
returns-clause-chair g c = grind (arith, elements)
