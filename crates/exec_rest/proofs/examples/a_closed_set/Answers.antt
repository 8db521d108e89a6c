use Rattle.std.proofs.{Common.refl, lemmas.Bool.true≢false}
use Rattle.exec_rest.proofs.examples.a_closed_set.Goals as goal

pub returns : goal.returns
returns c = record { too_early = λ it. true≢false (it.zero refl) }
