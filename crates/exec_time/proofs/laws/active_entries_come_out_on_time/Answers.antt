use Rattle.exec_time.proofs.Passes.{never_early, then_empty, then_out}
use Rattle.exec_time.proofs.laws.active_entries_come_out_on_time.Goals as goal

pub returns : goal.returns
returns c = record { never_early = never_early; then_empty = then_empty; then_out = then_out }
