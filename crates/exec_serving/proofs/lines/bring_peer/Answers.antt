use Rattle.std.proofs.{Common.arith, lemmas.Grind.common_steps}
use Rattle.exec_serving.proofs.lines.bring_peer.Goals as goal

pub returns-clause-one_more : goal.returns-clause-one_more
returns-clause-one_more g c = grind (arith, common_steps)
