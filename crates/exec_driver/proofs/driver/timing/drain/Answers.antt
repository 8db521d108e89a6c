use Rattle.std.proofs.Common.{arith}
use Rattle.exec_driver.proofs.Advancing.{falling_next}
use Rattle.exec_driver.proofs.driver.timing.drain.Goals as goal

pub out-preserved : goal.out-preserved
out-preserved g c = grind (arith, falling_next)
