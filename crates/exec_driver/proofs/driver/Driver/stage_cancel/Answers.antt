use Rattle.std.proofs.Common.{sym, ◌∙◌}
use Rattle.exec_driver.proofs.Stepping.{place_for_cancel}
use Rattle.exec_driver.proofs.driver.Driver.stage_cancel.Goals as goal

pub stage-requires-clause-place : goal.stage-requires-clause-place
stage-requires-clause-place g c = place_for_cancel _ c.in_ok-id.id (sym c.next_cancel.ensures.first ∙ c.in_ok-id.was) c.self.invariant.sound

pub returns-clause-punctual : goal.returns-clause-punctual
returns-clause-punctual g c = rw (← c.self.view_is, c.next_cancel.ensures.rest) (λ p. record { ahead = p.ahead })
