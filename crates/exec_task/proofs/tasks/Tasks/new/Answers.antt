use Rattle.std.proofs.{Common.{arith}, lemmas.Grind.common_steps}
use Rattle.exec_task.proofs.tasks.Tasks.new.Goals as goal

pub returns-clause-shards : goal.returns-clause-shards
returns-clause-shards g c = grind (arith, common_steps)

pub returns-clause-empty : goal.returns-clause-empty
returns-clause-empty g c = grind (arith, common_steps)
