use Rattle.std.proofs.Common.{arith, rules}
use Rattle.exec_live_idle.proofs.Allowed.{read_}
use Rattle.exec_live_idle.proofs.seat.Idle.count.Goals

pub load-requires : Goals.load-requires
load-requires c = search (rules, arith, read_)
