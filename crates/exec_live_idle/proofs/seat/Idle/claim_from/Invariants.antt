use Rattle.std.proofs.Common.{◌≡◌, ◌<◌}
use Rattle.exec_live_idle.specs.Idle.{knows, IsSame}
use Rattle.exec_live_idle.proofs.seat.Idle.claim_from.Given as goal

-- the seat knows what it knew, but for what its last step found
abbrev pub invariant-loop : goal.invariant-loop
invariant-loop g l = IsSame l.fn.seat l.seat × (0 < l.seen) × (knows l.seat ≡ record (knows l.fn.seat) { last = (knows l.seat).last })
