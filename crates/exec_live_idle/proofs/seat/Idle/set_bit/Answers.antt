use Rattle.std.proofs.Common.{arith, rules}
use Rattle.exec_live_idle.proofs.Allowed.{publish_}
use Rattle.exec_live_idle.proofs.seat.Idle.set_bit.Goals

pub fetch_or-requires : Goals.fetch_or-requires
fetch_or-requires c = search (rules, arith, publish_)
