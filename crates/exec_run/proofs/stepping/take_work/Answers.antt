use Rattle.std.proofs.Common.{◌≡◌, ◌∙◌, arith}
use Rattle.exec_run.proofs.{Names.played, StepLemmas.{on_err, works_more, works_all, works_refused, works_stopped}}
use Rattle.exec_run.proofs.stepping.take_work.Goals as goal

pub take_line-requires : goal.take_line-requires
take_line-requires g c =
    let at = c.requires in
    let works = c.loop.invariant.works at.0 at.1 at.2 in
    record { stands = (at.0, played at.0.config at.1 works.told, works.stands, tt) }

pub returns-in_err-line-clause-breaks : goal.returns-in_err-line-clause-breaks
returns-in_err-line-clause-breaks g c =
    on_err c.from_residual.result
    (λ p x stands. let works = c.loop.invariant.works p x stands in
    works_stopped _ _ _ _ _ c.args.quiet p x c.args.worker c.loop.counter c.args.count c.loop.core _ _ _ works c.loop-test.true
    (c.in_err-line.ensures.breaks p (played p.config x works.told) works.stands tt))

pub returns-in-Refused-clause-leads : goal.returns-in-Refused-clause-leads
returns-in-Refused-clause-leads g c =
    λ p x stands. works_refused _ _ _ _ _ c.args.quiet p x c.args.worker c.loop.counter c.args.count c.in_ok-line.line c.loop.core c.take_line.new.core _ _ _
    (c.loop.invariant.works p x stands) (λ y at. c.in_ok-line.ensures.takes p y at tt) c.in-Refused.is c.loop-test.true

pub loop-preserved : goal.loop-preserved
loop-preserved g c = record {
  well = c.in_ok-line.ensures.well ∙ c.loop.invariant.well;
  works = λ p x stands. works_more _ _ _ _ _ c.args.quiet p x c.args.worker c.loop.counter c.in_ok-line.line c.in-Did.field-0 c.loop.core c.take_line.new.core _ _ _
      (c.loop.invariant.works p x stands) (λ y at. c.in_ok-line.ensures.takes p y at tt) c.in-Did.is;
}

pub returns-clause-leads : goal.returns-clause-leads
returns-clause-leads g c =
    let all : c.loop.counter ≡ c.args.count = omega arith in
    λ p x stands. works_all _ _ _ _ _ c.args.quiet p x c.args.worker c.loop.counter c.args.count c.loop.core _ _ all (c.loop.invariant.works p x stands)
