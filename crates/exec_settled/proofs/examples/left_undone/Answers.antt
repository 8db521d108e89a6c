use Rattle.std.proofs.{Common.{refl, ap}, lemmas.Bool.{true≢false, false≢true}}
use Rattle.exec_machine.specs.Tests.{is_empty}
use Rattle.exec_settled.proofs.examples.left_undone.Goals as goal

pub returns : goal.returns
returns c =
    record {
      unwoken = λ it. false≢true (ap is_empty (it.told 1 refl).wakes);
      for_nothing = λ it. false≢true (it.busy 1 refl);
      unstaged = λ it. true≢false (it.submitted 0 refl).unstaged;
      unentered = λ it. true≢false ((it.entered_then 0 refl refl).staged 0 refl);
    }
