use Rattle.std.proofs.{Common.arith, lemmas.Grind.elements}
use Rattle.exec_steps.proofs.pop.judge_pop.Goals as goal

pub returns-then-len-eq0 : goal.returns-then-len-eq0
returns-then-len-eq0 g c = grind (arith, elements)

pub returns-then-head-eq0 : goal.returns-then-head-eq0
returns-then-head-eq0 g c = grind (arith, elements)

pub returns-else-len-eq1 : goal.returns-else-len-eq1
returns-else-len-eq1 g c = grind (arith, elements)
