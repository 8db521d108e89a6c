use Rattle.std.proofs.Common.{◌≡◌}
use Rattle.exec_base.specs.{Slab.{live_count, value_at}, declared.slab.Id.Id}
use Rattle.exec_time.specs.{Notes.HasRoom, Sleepers.{FiresTo, left_at}}
use Rattle.exec_time.proofs.timers.Timers.expire.Given as goal

abbrev pub invariant-due : goal.invariant-due
invariant-due g l =
    FiresTo l.now l.initial.self l.initial.notes l.self l.notes × HasRoom l.notes (live_count l.self) × ((id : Id) → left_at l.now (value_at l.self id) ≡ left_at l.now (value_at l.initial.self id))

abbrev pub decreases-due : goal.decreases-due
decreases-due g l = live_count l.self
