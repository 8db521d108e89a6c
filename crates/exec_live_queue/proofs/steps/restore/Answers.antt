use Rattle.exec_live_queue.proofs.{Words.{arith, none, step, restores}, Overflows.restore_rule, Rebuild.stepped}
use Rattle.std.proofs.Common.{arith}
use Rattle.exec_live_queue.proofs.steps.restore.Goals as goal

pub store-requires : goal.store-requires
store-requires g c = grind (arith, stepped, restores, step, none, restore_rule)
