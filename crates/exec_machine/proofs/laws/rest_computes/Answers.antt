use Rattle.exec_machine.proofs.Resting.{sound, complete, always}
use Rattle.exec_machine.proofs.laws.rest_computes.Goals as goal

pub returns : goal.returns
returns c = record { sound = sound; complete = complete; runs = always }
