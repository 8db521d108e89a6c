use Rattle.exec_words.proofs.Runs.{runs_split}
use Rattle.exec_words.proofs.laws.values_leave_in_order.Goals as goal

pub returns-clause-front : goal.returns-clause-front
returns-clause-front c real changes = (runs_split real changes).kept_in_order

pub returns-clause-back : goal.returns-clause-back
returns-clause-back c real changes = (runs_split real changes).out_in_order
