use Rattle.std.proofs.{Common.arith, lemmas.Grind.elements}
use Rattle.exec_serving.proofs.ring_wait.sleep.Goals as goal

pub returns-clause-sleeps : goal.returns-clause-sleeps
returns-clause-sleeps g c = grind (arith, elements)
