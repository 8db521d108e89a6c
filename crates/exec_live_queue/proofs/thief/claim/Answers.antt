use Rattle.exec_live_queue.proofs.{Words.{arith, none, either, step, claims}, Claims.claims_rule, Rebuild.stepped}
use Rattle.std.proofs.Common.{arith}
use Rattle.exec_live_queue.proofs.thief.claim.Goals as goal

pub compare_exchange-requires : goal.compare_exchange-requires
compare_exchange-requires g c = grind (arith, stepped, either, claims, step, none, claims_rule)
