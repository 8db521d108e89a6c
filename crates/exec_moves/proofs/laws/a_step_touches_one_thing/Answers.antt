use Rattle.exec_moves.proofs.OneThing.{of_a_worker, of_a_caller}
use Rattle.exec_moves.proofs.laws.a_step_touches_one_thing.Goals as goal

pub returns : goal.returns
returns c = record { of_a_worker = of_a_worker; of_a_caller = of_a_caller }
