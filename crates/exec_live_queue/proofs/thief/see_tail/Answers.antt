use Rattle.exec_live_queue.proofs.{Words.{arith, none, step, saw_tail}, Thieves.sees_tail, Rebuild.stepped}
use Rattle.std.proofs.Common.{arith}
use Rattle.exec_live_queue.proofs.thief.see_tail.Goals as goal

pub load-requires : goal.load-requires
load-requires g c = grind (arith, stepped, saw_tail, step, none, sees_tail)
