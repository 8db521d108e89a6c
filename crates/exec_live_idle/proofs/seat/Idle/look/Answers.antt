use Rattle.std.proofs.Common.{arith, rules}
use Rattle.exec_live_idle.proofs.Allowed.{look}
use Rattle.exec_live_idle.proofs.seat.Idle.look.Goals

pub load-requires : Goals.load-requires
load-requires c = search (rules, arith, look)
