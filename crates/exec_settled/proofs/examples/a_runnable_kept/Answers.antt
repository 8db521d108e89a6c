use Rattle.std.proofs.{Common.{ap, refl}, lemmas.Bool.false≢true}
use Rattle.exec_machine.specs.{Same.is_none, Tests.is_empty}
use Rattle.exec_settled.proofs.examples.a_runnable_kept.Goals as goal

pub returns : goal.returns
returns c =
    record {
      in_hand = λ it. false≢true (ap is_none (it.hands 1 refl).hand);
      stolen = λ it. false≢true (ap is_empty (it.hands 1 refl).loot);
      aside = λ it. false≢true (ap is_empty (it.hands 1 refl).aside);
      at_its_end = λ it. false≢true (ap is_none (it.hands 1 refl).hand);
      called = λ it. false≢true (ap is_none (it.calls 0 refl));
      left_queued = λ it. false≢true (ap is_empty (it.bare 1 refl));
    }
