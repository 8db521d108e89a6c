use Rattle.exec_driver_laws.proofs.Synced.{not_sent, not_kept}
use Rattle.exec_driver_laws.proofs.runs.ends.Goals as goal

pub returns-clause-sent : goal.returns-clause-sent
returns-clause-sent c = not_sent

pub returns-clause-kept : goal.returns-clause-kept
returns-clause-kept c = not_kept
