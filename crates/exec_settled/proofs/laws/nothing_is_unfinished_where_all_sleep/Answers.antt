use Rattle.exec_settled.proofs.Rightly.{rightly}
use Rattle.exec_settled.proofs.laws.nothing_is_unfinished_where_all_sleep.Goals as goal

pub returns : goal.returns
returns c = record { asleep = rightly }
