use Rattle.exec_shutdown.proofs.Shutdown.{shuts_down}
use Rattle.exec_shutdown.proofs.laws.shutdown_waits_for_the_kernel_alone.Goals as goal

pub returns : goal.returns
returns c = record { shuts = shuts_down }
