use Rattle.std.proofs.Common.{◌+◌}
use Rattle.exec_driver.specs.{Driving.{seen, is_full}, Service.{Repeats, StagesOneEntry}, Turns.{GoesOn, StaysDone, unstaged}}
use Rattle.exec_waiters.proofs.Changes.{one_if}
use Rattle.exec_driver.proofs.driver.Driver.stage_all.Given as goal

abbrev pub invariant-queues : goal.invariant-queues
invariant-queues g l = GoesOn (seen l.initial.self) (seen l.self) × StaysDone (seen l.initial.self) (seen l.self) × Repeats (StagesOneEntry l.opens) (seen l.initial.self) (seen l.self)

abbrev pub decreases-queues : goal.decreases-queues
decreases-queues g l = unstaged (seen l.self) + unstaged (seen l.self) + one_if (is_full (seen l.self))
