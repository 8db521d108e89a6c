use Rattle.exec_live_queue.proofs.{Words.{arith, none, step, pops_last}, Pops.pops_last_rule, Rebuild.stepped}
use Rattle.std.proofs.Common.{arith}
use Rattle.exec_live_queue.proofs.steps.pop_last.Goals as goal

pub store-requires : goal.store-requires
store-requires g c = grind (arith, stepped, pops_last, step, none, pops_last_rule)
