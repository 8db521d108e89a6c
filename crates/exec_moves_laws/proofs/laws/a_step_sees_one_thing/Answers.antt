use Rattle.exec_moves_laws.proofs.OneSeen.{of_a_worker, of_a_caller}
use Rattle.exec_moves_laws.proofs.laws.a_step_sees_one_thing.Goals as goal

pub returns : goal.returns
returns c = record { of_a_worker = of_a_worker; of_a_caller = of_a_caller }
