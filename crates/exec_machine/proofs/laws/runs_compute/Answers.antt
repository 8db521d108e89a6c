use Rattle.exec_machine.proofs.Computing.{sound, complete}
use Rattle.exec_machine.proofs.laws.runs_compute.Goals as goal

pub returns : goal.returns
returns c = record { sound = sound; complete = complete }
