use Rattle.exec_driver.proofs.{Entering.enter_within, Stepping.held_ring}
use Rattle.exec_driver.proofs.driver.Driver.enter.Goals as goal

pub invariant_of-self : goal.invariant_of-self
invariant_of-self g c =
    rw c.enter.ensures.after (held_ring _ _ _ _ _ _ (enter_within _ _ (g.met.R.Ring.may_land c.self.inside.ring)) c.self.invariant)
