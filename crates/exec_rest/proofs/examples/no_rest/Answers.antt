use Rattle.exec_rest.proofs.TwoAsleep.{no_message, no_task}
use Rattle.exec_rest.proofs.examples.no_rest.Goals as goal

pub returns : goal.returns
returns c = record { left_behind = no_task; left_unread = no_message }
