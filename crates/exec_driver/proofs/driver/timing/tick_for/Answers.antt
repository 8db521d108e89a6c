use Rattle.exec_driver.proofs.Expiring.{target_tells}
use Rattle.exec_driver.proofs.driver.timing.tick_for.Goals as goal

pub in_time-requires-clause-ahead : goal.in_time-requires-clause-ahead
in_time-requires-clause-ahead c = (target_tells _ c.args.deadline c.args.now c.in-Ok-Some.tick (rw c.in-Ok-Some.field-0-is at c.in-Ok-Some.ensures)).0

pub in_time-requires-clause-span : goal.in_time-requires-clause-span
in_time-requires-clause-span c = (target_tells _ c.args.deadline c.args.now c.in-Ok-Some.tick (rw c.in-Ok-Some.field-0-is at c.in-Ok-Some.ensures)).1
