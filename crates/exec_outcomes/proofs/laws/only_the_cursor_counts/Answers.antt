use Rattle.exec_outcomes.proofs.Runs.{next, goes_on, begins, unhinted, uncancelled}
use Rattle.exec_outcomes.proofs.laws.only_the_cursor_counts.Goals as goal

pub returns : goal.returns
returns c = record { next = next; goes_on = goes_on; begins = begins; unhinted = unhinted; uncancelled = uncancelled }
