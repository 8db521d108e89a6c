use Rattle.std.proofs.{Common.{◌-◌, arith}, lemmas.Grind.common_steps}
use Rattle.exec_request.proofs.Left.{buffered, not_direct}
use Rattle.exec_request.proofs.read_at.ReadAtRequest.judge.Goals as goal

pub returns-in_default : goal.returns-in_default
returns-in_default c = grind (arith, not_direct, buffered)

pub returns-in-Direct : goal.returns-in-Direct
returns-in-Direct c = grind (arith, common_steps)
