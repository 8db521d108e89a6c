use Rattle.exec_driver_laws.proofs.Joining.{holds_on}
use Rattle.exec_driver_laws.proofs.lines.a_holder_holds_until_it_is_told_to_leave.Goals as goal

pub returns : goal.returns
returns g c = holds_on
