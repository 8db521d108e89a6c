use Rattle.std.proofs.Common.{◌≡◌, ◌-◌, length}
use Rattle.exec_time.specs.Index.{IsIndexed}
use Rattle.exec_time.proofs.timers.Timers.lowest.Given as goal

abbrev pub invariant-loop-self : goal.invariant-loop-self
invariant-loop-self g l = (l.self-inside.sleepers ≡ l.initial.self-inside.sleepers) × IsIndexed l.self-inside.sleepers l.self-inside.order l.self-inside.empty_below

abbrev pub decreases-loop-self : goal.decreases-loop-self
decreases-loop-self g l = length l.self-inside.sleepers.slots - l.self-inside.empty_below
