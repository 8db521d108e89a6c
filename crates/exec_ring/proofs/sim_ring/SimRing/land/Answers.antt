use Rattle.std.proofs.{Common.arith, lemmas.Grind.common_steps}
use Rattle.exec_ring.proofs.sim_ring.SimRing.land.Goals as goal

pub returns-in_default-clause-after : goal.returns-in_default-clause-after
returns-in_default-clause-after c = grind (arith, common_steps)
