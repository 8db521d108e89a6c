use Rattle.std.proofs.{Common.{zero, suc, true, refl}, lemmas.Bool.false≢true}
use Rattle.exec_outcomes.specs.declared.outcome.Outcome.TheVariants.{Success}
use Rattle.exec_machine.specs.declared.state.RequestPhase.TheVariants.{Resolved}
use Rattle.exec_books.specs.Examples.{its_request}
use Rattle.exec_settled.specs.{Examples.ended_with, Settled.HaveLetGo}
use Rattle.exec_settled.proofs.examples.an_end.Goals as goal

let_go : HaveLetGo (ended_with (record its_request { phase = Resolved Success; released = true }))
let_go i zero ended own = (refl, refl)
let_go i (suc k) ended own = (refl, refl)

pub returns : goal.returns
returns c =
    record {
      let_go = let_go;
      unreleased = λ it. false≢true (it 0 0 refl refl).1;
      flying = λ it. false≢true (it 0 0 refl refl).0;
    }
