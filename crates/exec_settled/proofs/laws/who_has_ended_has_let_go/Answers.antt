use Rattle.exec_settled.proofs.Resting.{has_let_go}
use Rattle.exec_settled.proofs.laws.who_has_ended_has_let_go.Goals as goal

pub returns : goal.returns
returns c = record { ended = has_let_go }
