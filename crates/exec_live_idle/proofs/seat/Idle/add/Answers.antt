use Rattle.std.proofs.Common.{arith, rules}
use Rattle.exec_live_idle.proofs.Allowed.{add_}
use Rattle.exec_live_idle.proofs.seat.Idle.add.Goals

pub fetch_add-requires : Goals.fetch_add-requires
fetch_add-requires c = search (rules, arith, add_)
