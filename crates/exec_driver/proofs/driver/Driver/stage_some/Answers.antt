use Rattle.std.proofs.{Common.{sym, ◌∙◌, arith}, lemmas.Bool.false≢true}
use Rattle.exec_driver.{specs.Service.{NoStep, OneMore}, proofs.{Serving.{goes_itself, goes_both, done_itself, done_both}, Service.poll_entry}}
use Rattle.exec_driver.proofs.driver.Driver.stage_some.Goals as goal

pub entries-init : goal.entries-init
entries-init g c = (goes_itself _, done_itself _, omega arith, λ free full. absurd (false≢true (sym free ∙ full)), NoStep)

pub entries-preserved : goal.entries-preserved
entries-preserved g c =
    let less = c.stage_one.ensures.fewer in
    let so = c.entries.invariant.2 in (
      goes_both _ _ _ c.entries.invariant.0 c.stage_one.ensures.going,
      done_both _ _ _ c.entries.invariant.1 c.stage_one.ensures.done,
      omega (arith, less, so),
      λ free full. omega (arith, less, so),
      OneMore _ _ c.entries.invariant.4 c.stage_one.ensures.stages,
    )

pub returns-clause-stages : goal.returns-clause-stages
returns-clause-stages g c = grind (arith, poll_entry)
