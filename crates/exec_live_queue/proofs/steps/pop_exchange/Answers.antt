use Rattle.exec_live_queue.proofs.{Words.{arith, none, either, step, pops}, Pops.pops_rule, Rebuild.stepped}
use Rattle.std.proofs.Common.{arith}
use Rattle.exec_live_queue.proofs.steps.pop_exchange.Goals as goal

pub compare_exchange-requires : goal.compare_exchange-requires
compare_exchange-requires g c = grind (arith, stepped, either, pops, step, none, pops_rule)
