use Rattle.exec_live_queue.proofs.{Words.{arith, none, either, step, flows_over}, Overflows.flows_over_rule, Rebuild.stepped}
use Rattle.std.proofs.Common.{arith}
use Rattle.exec_live_queue.proofs.steps.flow_over.Goals as goal

pub compare_exchange-requires : goal.compare_exchange-requires
compare_exchange-requires g c = grind (arith, stepped, either, flows_over, step, none, flows_over_rule)
