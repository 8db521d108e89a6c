use Rattle.std.proofs.Common.{◌≡◌, Some, None, sym, ◌∙◌, refl}
use Rattle.exec_driver.proofs.{Words.{next_completion, seen}, Granting.same_some, Sweeping.{operation_next, stale_swept}, Turns.reap_serves}
use Rattle.exec_driver.proofs.driver.Driver.reap.Goals as goal

pub judge-reaped-requires-clause-operation : goal.judge-reaped-requires-clause-operation
judge-reaped-requires-clause-operation g c =
    let next : next_completion (seen c.sweep.new.self).ring ≡ Some c.in_ok-completion.completion = rw (← c.self.view_is) (sym c.peek.ensures ∙ c.in_ok-completion.was) in
    operation_next (seen c.sweep.new.self) (seen c.args.self.now) c.in_ok-completion.completion c.sweep.ensures next

pub returns-in_err-completion-clause-reaps : goal.returns-in_err-completion-clause-reaps
returns-in_err-completion-clause-reaps g c =
    let next : next_completion (seen c.sweep.new.self).ring ≡ None = rw (← c.self.view_is) (sym c.peek.ensures ∙ c.in_err-completion.was) in
    record {
      first = seen c.sweep.new.self;
      swept_first = c.sweep.ensures;
      none = λ is. (refl, c.from_residual.ensures, refl, refl);
      stale = λ d is gone. let no = sym next ∙ is in absurd (cc);
      some = λ d id w is done at. let no = sym next ∙ is in absurd (cc);
    }

pub returns-clause-reaps : goal.returns-clause-reaps
returns-clause-reaps g c =
    let next : next_completion (seen c.sweep.new.self).ring ≡ Some c.in_ok-completion.completion = rw (← c.self.view_is) (sym c.peek.ensures ∙ c.in_ok-completion.was) in
    record {
      first = seen c.sweep.new.self;
      swept_first = c.sweep.ensures;
      none = λ is. let no = sym is ∙ next in absurd (cc);
      stale = λ d is gone.
          let same : c.in_ok-completion.completion ≡ d = same_some _ _ _ next is in
          let got = c.judge-reaped.ensures.none (rw same gone) in
          (stale_swept (seen c.sweep.new.self) (seen c.judge-reaped.new.self) (seen c.sweep-2.new.self) got.1 c.sweep-2.ensures, got.0, got.2, got.3);
      some = λ d id w is done at.
          let same : c.in_ok-completion.completion ≡ d = same_some _ _ _ next is in
          rw (← same) (record { second = seen c.judge-reaped.new.self; reaps = c.judge-reaped.ensures.reaps id w (rw same done) at; swept_last = c.sweep-2.ensures });
    }

pub returns-in_err-completion-clause-punctual : goal.returns-in_err-completion-clause-punctual
returns-in_err-completion-clause-punctual g c = (reap_serves _ _ _ _ _ _ _ (returns-in_err-completion-clause-reaps g c)).0.going.punctual

pub returns-clause-punctual : goal.returns-clause-punctual
returns-clause-punctual g c = (reap_serves _ _ _ _ _ _ _ (returns-clause-reaps g c)).0.going.punctual
