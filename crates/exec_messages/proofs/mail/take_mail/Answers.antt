use Rattle.std.proofs.{Common.arith, lemmas.Grind.{common_steps, elements}}
use Rattle.exec_messages.proofs.mail.take_mail.Goals as goal

pub returns-clause-makes : goal.returns-clause-makes
returns-clause-makes g c = grind (arith, common_steps)

pub returns-clause-batch : goal.returns-clause-batch
returns-clause-batch g c = grind (arith, elements)

pub returns-clause-chair : goal.returns-clause-chair
returns-clause-chair g c = grind (arith, elements)
