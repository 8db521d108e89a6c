use Rattle.std.proofs.{Common.refl, lemmas.Bool.true≢false}
use Rattle.exec_rest.proofs.TwoAsleep.{uncovered, unrung}
use Rattle.exec_rest.proofs.examples.a_lost_wake.Goals as goal

pub returns-clause-uncovered : goal.returns-clause-uncovered
returns-clause-uncovered c = uncovered

pub returns-clause-unrung : goal.returns-clause-unrung
returns-clause-unrung c = unrung

pub returns-clause-left_signalled : goal.returns-clause-left_signalled
returns-clause-left_signalled c it = true≢false (it.latches 1 refl)
