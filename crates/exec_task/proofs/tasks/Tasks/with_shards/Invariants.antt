use Rattle.std.proofs.Common.{◌≡◌, ◌≤◌, [], replicate, vec_capacity}
use Rattle.exec_task.proofs.tasks.Tasks.with_shards.Given as goal

abbrev pub invariant-loop : goal.invariant-loop
invariant-loop g l = (l.shards.items ≡ replicate l.counter []) × (l.count ≤ vec_capacity l.shards)
