use Rattle.std.proofs.{Common.arith, lemmas.Grind.common_steps}
use Rattle.exec_serving.proofs.reaping.signal_holder.Goals as goal

pub returns-in-Some-clause-makes : goal.returns-in-Some-clause-makes
returns-in-Some-clause-makes g c = grind (arith, common_steps)

pub returns-in-None-clause-makes : goal.returns-in-None-clause-makes
returns-in-None-clause-makes g c = grind (arith, common_steps)
