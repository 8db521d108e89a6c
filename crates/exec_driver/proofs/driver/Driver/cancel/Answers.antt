use Rattle.std.proofs.Common.{sym, ◌∙◌}
use Rattle.exec_waiters.specs.States.{waiter_at}
use Rattle.exec_driver.proofs.Endings.{pending_there, told_idle}
use Rattle.exec_driver.proofs.driver.Driver.cancel.Goals as goal

pub returns-then-is_pending-clause-told : goal.returns-then-is_pending-clause-told
returns-then-is_pending-clause-told g c =
    let there = pending_there (waiter_at c.self.inside.waiters c.args.id.0) (sym c.is_pending.ensures ∙ c.if-is_pending.true) (sym c.is_in_flight.ensures ∙ c.if-is_in_flight.false) in
    let told = rw (← c.self.view_is) at c.refuse.ensures.told in
    rw (← c.self.view_is) (told_idle _ _ c.args.id _ there.w there.is there.idle (told there.w there.is))
