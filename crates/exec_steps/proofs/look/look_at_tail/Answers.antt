use Rattle.std.proofs.{Common.arith, lemmas.Grind.common_steps}
use Rattle.exec_steps.proofs.look.look_at_tail.Goals as goal

pub returns-then-is_stealable-clause-looks : goal.returns-then-is_stealable-clause-looks
returns-then-is_stealable-clause-looks g c = grind (arith, common_steps)

pub returns-clause-steals : goal.returns-clause-steals
returns-clause-steals g c = grind (arith, common_steps)
