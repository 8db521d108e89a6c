use Rattle.exec_driver_laws.proofs.Lawfully.{kept, lawfully, within_always}
use Rattle.exec_driver_laws.proofs.lawful.completions_are_taken_in.Goals as goal

pub returns : goal.returns
returns g c = record { kept = kept; always = within_always; taken_in = lawfully }
