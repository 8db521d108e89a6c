use Rattle.exec_driver_laws.proofs.Synced.{not_dropped}
use Rattle.exec_driver_laws.proofs.runs.joining.Goals as goal

pub returns-clause-dropped : goal.returns-clause-dropped
returns-clause-dropped c = not_dropped
