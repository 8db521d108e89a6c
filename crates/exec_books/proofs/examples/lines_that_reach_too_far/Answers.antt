use Rattle.std.proofs.{Common.{refl, ap}, lemmas.Bool.false≢true}
use Rattle.exec_machine.specs.{Same.is_none, World.Open}
use Rattle.exec_books.proofs.examples.lines_that_reach_too_far.Goals as goal

pub returns-clause-permit : goal.returns-clause-permit
returns-clause-permit c = λ it. false≢true (ap (λ (o : Open). is_none o.holder) (it.opens 0 refl))
