use Rattle.exec_driver_laws.proofs.Lasting.{stays}
use Rattle.exec_driver_laws.proofs.ends.a_kept_output_leaves_once.Goals as goal

pub returns-clause-stays : goal.returns-clause-stays
returns-clause-stays g c = stays
