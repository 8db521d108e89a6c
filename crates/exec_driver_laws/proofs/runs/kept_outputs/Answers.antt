use Rattle.exec_driver_laws.proofs.Synced.{not_lost}
use Rattle.exec_driver_laws.proofs.runs.kept_outputs.Goals as goal

pub returns-clause-lost : goal.returns-clause-lost
returns-clause-lost c = not_lost
