use Rattle.std.proofs.Common.{◌≡◌}
use Rattle.exec_live_idle.specs.{Idle.{knows, IsSame}, Notify.Saw}
use Rattle.exec_live_idle.proofs.seat.Idle.kick.Given as goal

-- nobody is claimed or woken yet
abbrev pub invariant-loop : goal.invariant-loop
invariant-loop g l = IsSame l.fn.seat l.seat × (l.rouse ≡ l.fn.rouse) × Saw (knows l.fn.seat) (knows l.seat)
