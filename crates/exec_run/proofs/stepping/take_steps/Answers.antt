use Rattle.std.proofs.Common.{◌∙◌, List, subst, arith}
use Rattle.exec_run.{proofs.{Names.{take_all, Step, Work, played}, StepLemmas.{on_err, leads_to_next, broke_at}}, specs.Steps.Leads}
use Rattle.exec_run.proofs.stepping.take_steps.Goals as goal

pub take_step-requires : goal.take_step-requires
take_step-requires g c =
    let at = c.requires.stands in
    let leads = c.loop-step.invariant.leads at.0 at.1 at.2 at.3 in
    record {
      stands = (at.0, played at.0.config at.1 leads.told, leads.stands, at.3 c.loop-step.step-index (Work 0 0) c.loop-step-test.true);
      fits = c.requires.fit c.loop-step.step-index (Work 0 0) c.loop-step-test.true;
    }

pub returns-in_err-take_step-clause-breaks : goal.returns-in_err-take_step-clause-breaks
returns-in_err-take_step-clause-breaks g c =
    on_err c.from_residual.result
    (λ p x stands names. broke_at _ _ _ _ _ c.args.quiet p x c.args.steps.now c.loop-step.step-index (Work 0 0) c.loop-step.core _ _ _
    c.loop-step-test.true (c.loop-step.invariant.leads p x stands names) (λ y at. c.in_err-take_step.ensures.breaks p y at (names c.loop-step.step-index (Work 0 0) c.loop-step-test.true)))

pub loop-step-preserved : goal.loop-step-preserved
loop-step-preserved g c = record {
  well = c.in_ok-take_step.ensures.well ∙ c.loop-step.invariant.well;
  leads = λ p x stands names. leads_to_next _ _ _ _ _ c.args.quiet p x c.args.steps.now c.loop-step.step-index (Work 0 0) c.loop-step.core c.take_step.new.core _ _ _
      c.loop-step-test.true (c.loop-step.invariant.leads p x stands names) (λ y at. c.in_ok-take_step.ensures.leads p y at (names c.loop-step.step-index (Work 0 0) c.loop-step-test.true));
}

pub returns-clause-leads : goal.returns-clause-leads
returns-clause-leads g c =
    λ p x stands names. subst (λ (xs : List Step). Leads g.B.Body.left g.B.Scripted.runs g.B.Scripted.holds g.B.Scripted.spot (g.S.Scripts.knows c.args.scripts.now) c.args.quiet p x xs c.loop-step.core (g.O.Output.given c.args.sink.now) (g.O.Output.given c.loop-step.sink))
    (take_all c.loop-step.step-index c.args.steps.now (omega (arith, c.loop-step-test.false))) (c.loop-step.invariant.leads p x stands names)
