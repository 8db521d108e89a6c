use Rattle.exec_time.proofs.Passes.{reach_fresh, reach_scheduled, reach_removed, reach_advanced}
use Rattle.exec_time.proofs.laws.entries_are_within_reach.Goals as goal

pub returns : goal.returns
returns c = record { begins = reach_fresh; scheduled = reach_scheduled; removed = reach_removed; advanced = reach_advanced }
