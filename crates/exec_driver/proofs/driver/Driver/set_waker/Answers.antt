use Rattle.exec_driver.proofs.{Observing.held_waked, Keeping.waked_punctual}
use Rattle.exec_driver.proofs.driver.Driver.set_waker.Goals as goal

pub invariant_of-self : goal.invariant_of-self
invariant_of-self g c = rw c.set_waker.ensures.set (held_waked _ c.args.id _ _ _ _ c.self.invariant)

pub returns-clause-punctual : goal.returns-clause-punctual
returns-clause-punctual g c = rw (← c.self.view_is, c.set_waker.ensures.set) (waked_punctual _ c.args.id c.args.waker)
