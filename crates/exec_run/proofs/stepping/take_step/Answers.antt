use Rattle.exec_run.proofs.StepLemmas.{on_err, named_in, one_leads, one_broke}
use Rattle.exec_run.proofs.stepping.take_step.Goals as goal

pub returns-in_err-take_line-in-One-clause-breaks : goal.returns-in_err-take_line-in-One-clause-breaks
returns-in_err-take_line-in-One-clause-breaks g c =
    on_err c.from_residual.result
    (λ p x stands names. one_broke c.args.quiet p x c.args.step c.in-One.action _ _ c.in-One.is c.requires.fits (c.in_err-take_line-in-One.ensures.breaks p x stands (named_in p c.args.step c.in-One.action c.in-One.is names)))

pub returns-in_ok-take_line-in-One-clause-leads : goal.returns-in_ok-take_line-in-One-clause-leads
returns-in_ok-take_line-in-One-clause-leads g c =
    λ p x stands names. one_leads _ _ _ _ _ c.args.quiet p x c.args.step c.in-One.action _ c.take_line.new.core _ _ c.in-One.is c.requires.fits (c.in_ok-take_line-in-One.ensures.takes p x stands (named_in p c.args.step c.in-One.action c.in-One.is names))
