use Rattle.exec_driver_laws.proofs.Once.{stays_gone, ends_once}
use Rattle.exec_driver_laws.proofs.ends.who_is_gone_stays_gone.Goals as goal

pub returns : goal.returns
returns g c = record { gone = stays_gone; once = ends_once }
