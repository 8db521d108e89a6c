use Rattle.exec_live_queue.proofs.{Words.{arith, none, step, saw_head}, Thieves.sees_head, Rebuild.stepped}
use Rattle.std.proofs.Common.{arith}
use Rattle.exec_live_queue.proofs.thief.see_head.Goals as goal

pub load-requires : goal.load-requires
load-requires g c = grind (arith, stepped, saw_head, step, none, sees_head)
