use Rattle.exec_driver.{proofs.Serving.{serves_itself, serves_both, done_itself, done_both}, specs.Service.{NoStep, OneMore}}
use Rattle.exec_driver.proofs.driver.Driver.reap_all.Goals as goal

pub completions-init : goal.completions-init
completions-init g c = (serves_itself _ _, done_itself _, NoStep)

pub completions-preserved : goal.completions-preserved
completions-preserved g c = (serves_both _ _ _ _ _ _ c.completions.invariant.0 c.reap_one.ensures.serves, done_both _ _ _ c.completions.invariant.1 c.reap_one.ensures.done, OneMore _ _ c.completions.invariant.2 c.reap_one.ensures.reaps)
