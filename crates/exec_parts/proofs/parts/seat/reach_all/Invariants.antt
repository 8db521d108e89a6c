use Rattle.std.proofs.Common.{◌≡◌, ◌++◌, take, drop, map}
use Rattle.exec_parts.specs.Records.{reached}
use Rattle.exec_parts.proofs.parts.seat.reach_all.Given as goal

-- what is reached, and then what is still to be reached, is the whole
abbrev pub invariant-loop-seat : goal.invariant-loop-seat
invariant-loop-seat l = take l.seat-index l.seat-items ++ map (reached l.clock) (drop l.seat-index l.seat-items) ≡ map (reached l.clock) l.fn.seats
