use Rattle.std.proofs.{Common.refl, lemmas.Bool.true≢false}
use Rattle.exec_rest.proofs.TwoAsleep.{going}
use Rattle.exec_rest.proofs.examples.an_open_pool.Goals as goal

pub returns : goal.returns
returns c = record { going = going; ended = λ it. true≢false (it 1 refl) }
