use Rattle.exec_time.proofs.Stale.{was_scheduled}
use Rattle.exec_time.proofs.laws.what_comes_out_was_scheduled.Goals as goal

pub returns : goal.returns
returns c = was_scheduled
