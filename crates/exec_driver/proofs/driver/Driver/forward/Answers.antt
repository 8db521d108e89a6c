use Rattle.exec_driver.proofs.{Observing.held_forwarded, Keeping.forwarded_punctual}
use Rattle.exec_driver.proofs.driver.Driver.forward.Goals as goal

pub invariant_of-self : goal.invariant_of-self
invariant_of-self g c = rw c.forward.ensures.forwarded (held_forwarded _ c.args.id _ _ _ _ c.self.invariant)

pub returns-clause-punctual : goal.returns-clause-punctual
returns-clause-punctual g c = rw (← c.self.view_is, c.forward.ensures.forwarded) (forwarded_punctual _ c.args.id c.args.sender)
