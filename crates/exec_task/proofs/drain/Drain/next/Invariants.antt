use Rattle.std.proofs.Common.{◌≡◌}
use Rattle.exec_task.specs.TaskSet.{IsFor, to_come}
use Rattle.exec_task.proofs.drain.Drain.next.Given as goal

abbrev pub invariant-loop-self : goal.invariant-loop-self
invariant-loop-self g l =
    IsFor l.self l.tasks × (l.tasks ≡ l.initial.tasks) × (to_come l.initial.tasks.shards l.initial.self.at l.initial.self.left ≡ to_come l.tasks.shards l.self.at l.self.left)

abbrev pub decreases-loop-self : goal.decreases-loop-self
decreases-loop-self g l = l.self.left
