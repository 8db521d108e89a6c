use Rattle.exec_driver.proofs.Stepping.{place_for_poll}
use Rattle.exec_driver.proofs.driver.Driver.stage_wake_poll.Goals as goal

pub stage-requires-clause-place : goal.stage-requires-clause-place
stage-requires-clause-place g c = place_for_poll _ c.if-self.false c.self.invariant.sound
