use Rattle.std.proofs.{Common.{refl, ap, arith, inl, inr, unwrap_or}, lemmas.Bool.{true≢false, false≢true}}
use Rattle.exec_machine.specs.{Same.is_none, Tests.{is_empty, is_settled}}
use Rattle.exec_books.proofs.examples.wrong_books.Goals as goal

pub returns : goal.returns
returns c =
    record {
      listed = λ it. false≢true ((it.listed 0).queued refl);
      gated = λ it. elim ((it.lined_up 0).waits refl (omega arith)) [ inl stands ↦ false≢true stands | inr joins ↦ true≢false (ap is_settled joins) ];
      permit = λ it. absurd (omega (arith, ap (λ o. unwrap_or o 0) ((it.lined_up 0).has refl refl refl (omega arith))));
      unled = λ it. false≢true (ap is_empty (it.led 0 refl));
      timed = λ it. false≢true (ap is_none (it.timed 0 refl));
      undated = λ it. false≢true (ap is_none (it.undated 0 refl).0);
      let_go = λ it. false≢true (it.let_go 0 refl);
      counted = λ it. absurd (omega (arith, it.counted 0));
      flying = λ it. absurd (omega (arith, it.flying 0));
      requests = λ it. absurd (omega (arith, it.requests 0 (omega arith)));
      sent = λ it. elim (it.sent 0 refl) [ inl here ↦ false≢true here | inr closed ↦ false≢true closed ];
      past = λ it. absurd (let until = (it.dues 0 refl).0 in cc);
      late = λ it. false≢true (it.dues 0 refl).1;
      untold = λ it. absurd (omega (arith, (it.untold 1 0 refl).1));
      over = λ it. true≢false ((it.over 1 refl).1 0);
      sleepers = λ it. absurd (omega (arith, it.sleepers 0 (omega arith)));
      sent_too = λ it. elim (it.sent_too 0 refl) [ inl here ↦ false≢true here | inr closed ↦ false≢true closed ];
    }
