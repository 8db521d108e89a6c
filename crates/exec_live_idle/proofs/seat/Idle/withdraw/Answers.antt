use Rattle.std.proofs.Common.{arith, rules}
use Rattle.exec_live_idle.proofs.Allowed.{withdraw_}
use Rattle.exec_live_idle.proofs.seat.Idle.withdraw.Goals

pub fetch_and-found-requires : Goals.fetch_and-found-requires
fetch_and-found-requires c = search (rules, arith, withdraw_)
