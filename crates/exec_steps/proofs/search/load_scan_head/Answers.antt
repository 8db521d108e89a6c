use Rattle.std.proofs.{Common.arith, lemmas.Grind.common_steps}
use Rattle.exec_steps.proofs.search.load_scan_head.Goals as goal

pub returns-clause-makes : goal.returns-clause-makes
returns-clause-makes g c = grind (arith, common_steps)
