use Rattle.exec_settled.proofs.Parked.{nobody_sleeps_on_work, none_is_forgotten}
use Rattle.exec_settled.proofs.laws.nobody_sleeps_on_work.Goals as goal

pub returns : goal.returns
returns c = record { parked = nobody_sleeps_on_work; unforgotten = none_is_forgotten }
