use Rattle.std.proofs.Common.{◌-◌, arith}
use Rattle.exec_request.proofs.Moving.{copied-next, copied-all}
use Rattle.exec_request.proofs.bytes.copy_chunks.Goals as goal

pub loop-at-preserved : goal.loop-at-preserved
loop-at-preserved c = grind (arith, copied-next)

pub returns : goal.returns
returns c = grind (arith, copied-all)
