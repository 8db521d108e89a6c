use Rattle.std.proofs.{Common.arith, lemmas.Grind.elements}
use Rattle.exec_serving.proofs.submitting.submit.Goals as goal

pub enrol-requires : goal.enrol-requires
enrol-requires g c = grind (arith, elements)

pub try_gate-requires : goal.try_gate-requires
try_gate-requires g c = grind (arith, elements)

pub stage_next-requires : goal.stage_next-requires
stage_next-requires g c = grind (arith, elements)
