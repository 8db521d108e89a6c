use Rattle.exec_machine.proofs.OnePoll.{apart}
use Rattle.exec_machine.proofs.laws.polls_are_apart.Goals as goal

pub returns : goal.returns
returns c = apart
