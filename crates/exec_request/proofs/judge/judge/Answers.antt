use Rattle.std.proofs.Common.{arith}
use Rattle.exec_request.proofs.Left.{judged_by}
use Rattle.exec_request.proofs.judge.judge.Goals as goal

pub returns-then-is_end : goal.returns-then-is_end
returns-then-is_end c = grind (arith, judged_by)
