use Rattle.exec_moves.proofs.OneLog.{made, same}
use Rattle.exec_moves.proofs.laws.a_trace_has_one_log.Goals as goal

pub returns : goal.returns
returns c = record { made = made; same = same }
