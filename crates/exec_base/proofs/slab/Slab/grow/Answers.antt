use Rattle.std.proofs.{Common.arith, lemmas.Grind.common_steps}
use Rattle.exec_base.proofs.slab.Slab.grow.Goals as goal

pub returns-then-not-is_empty-clause-room : goal.returns-then-not-is_empty-clause-room
returns-then-not-is_empty-clause-room g c = grind (arith, common_steps)

pub returns-in_err-reserve-clause-refused : goal.returns-in_err-reserve-clause-refused
returns-in_err-reserve-clause-refused g c = grind (arith, common_steps)

pub returns-clause-refused : goal.returns-clause-refused
returns-clause-refused g c = grind (arith, common_steps)
