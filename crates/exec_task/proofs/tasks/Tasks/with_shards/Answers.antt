use Rattle.std.proofs.{Common.{arith}, lemmas.Grind.common_steps}
use Rattle.exec_task.proofs.tasks.Tasks.with_shards.Goals as goal

pub push_reserved-requires : goal.push_reserved-requires
push_reserved-requires g c = grind (arith, common_steps)

pub loop-preserved : goal.loop-preserved
loop-preserved g c = grind (arith, common_steps)

pub invariant_of-result : goal.invariant_of-result
invariant_of-result g c = grind (arith, common_steps)
