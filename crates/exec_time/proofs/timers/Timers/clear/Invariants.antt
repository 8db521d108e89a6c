use Rattle.exec_base.specs.Slab.{live_count}
use Rattle.exec_time.specs.{Notes.HasRoom, Sleepers.ClosesTo}
use Rattle.exec_time.proofs.timers.Timers.clear.Given as goal

abbrev pub invariant-open : goal.invariant-open
invariant-open g l = ClosesTo l.initial.self l.initial.notes l.self l.notes × HasRoom l.notes (live_count l.self)

abbrev pub decreases-open : goal.decreases-open
decreases-open g l = live_count l.self
