use Rattle.std.proofs.{Common.{Bool, true, false, refl, ap}, lemmas.Bool.{true≢false, false≢true}}
use Rattle.exec_words.specs.declared.word.WaitTarget.{WaitTarget}
use Rattle.exec_progress.proofs.examples.refused.Goals as goal

abbrev sleeps : WaitTarget → Bool
sleeps WaitTarget.Sleeping = true
sleeps _ = false

pub returns : goal.returns
returns c =
    record {
      unarmed = λ it. true≢false (ap sleeps (it.target 1));
      uncounted = λ it. false≢true (it 1 refl);
      empty_handed = λ it. true≢false ((it 1).moves refl);
      closing = λ it. true≢false (it.opened 1 refl);
    }
