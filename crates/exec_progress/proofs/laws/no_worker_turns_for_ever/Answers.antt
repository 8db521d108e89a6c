use Rattle.exec_progress.proofs.Kept.{bounded_there, falls, first_paced, paced_then}
use Rattle.exec_progress.proofs.laws.no_worker_turns_for_ever.Goals as goal

pub returns-clause-first : goal.returns-clause-first
returns-clause-first c = first_paced

pub returns-clause-kept : goal.returns-clause-kept
returns-clause-kept c = paced_then

pub returns-clause-falls : goal.returns-clause-falls
returns-clause-falls c = falls

pub returns-clause-bounded : goal.returns-clause-bounded
returns-clause-bounded c = bounded_there
