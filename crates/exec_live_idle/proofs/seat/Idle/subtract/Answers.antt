use Rattle.std.proofs.Common.{arith, rules}
use Rattle.exec_live_idle.proofs.Allowed.{subtract_}
use Rattle.exec_live_idle.proofs.seat.Idle.subtract.Goals

pub fetch_sub-found-requires : Goals.fetch_sub-found-requires
fetch_sub-found-requires c = search (rules, arith, subtract_)
