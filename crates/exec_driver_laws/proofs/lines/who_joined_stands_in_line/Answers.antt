use Rattle.exec_driver_laws.proofs.Joining.{stands_always, stands_on}
use Rattle.exec_driver_laws.proofs.lines.who_joined_stands_in_line.Goals as goal

pub returns : goal.returns
returns g c = record { stays = stands_on; stands = stands_always }
