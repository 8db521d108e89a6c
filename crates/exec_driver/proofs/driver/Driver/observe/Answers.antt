use Rattle.exec_driver.proofs.{Observing.held_seen, Keeping.observed_punctual}
use Rattle.exec_driver.proofs.driver.Driver.observe.Goals as goal

pub invariant_of-self : goal.invariant_of-self
invariant_of-self g c = rw c.observe.ensures.taken (held_seen _ c.args.id _ _ _ c.self.invariant)

pub returns-clause-punctual : goal.returns-clause-punctual
returns-clause-punctual g c = rw (← c.self.view_is, c.observe.ensures.taken) (observed_punctual _ c.args.id)
