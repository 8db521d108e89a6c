use Rattle.exec_driver_laws.proofs.Sharing.{line_up_first, line_up_kept, line_up_always, one_always}
use Rattle.exec_driver_laws.proofs.laws.drivers_go_on_sharing_gates.Goals as goal

pub returns : goal.returns
returns g c = record { first = line_up_first; kept = line_up_kept; always = line_up_always; one = one_always }
