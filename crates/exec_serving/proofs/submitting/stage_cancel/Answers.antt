use Rattle.std.proofs.{Common.arith, lemmas.Grind.elements}
use Rattle.exec_serving.proofs.submitting.stage_cancel.Goals as goal

pub returns-clause-stages : goal.returns-clause-stages
returns-clause-stages g c = grind (arith, elements)
