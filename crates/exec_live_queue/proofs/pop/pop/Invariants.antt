use Rattle.exec_live_queue.proofs.Words.{◌+◌, ◌-◌, ◌*◌, ◌/◌, ◌%◌, Rests, IsSeen, SameSeat, HasLooked}
use Rattle.std.proofs.Common.{min}
use Rattle.exec_live_queue.proofs.pop.pop.Given as goal

abbrev pub invariant-tries : goal.invariant-tries
invariant-tries g l = record {
  same : SameSeat l.fn.seat l.seat;
  rests : Rests l.words l.seat;
  seen : IsSeen l.seat.me.0.own l.seen;
  looked : HasLooked l.fn.seat.me.0.own l.seat.me.0.own;
}

-- twice the values that were left, and one beside a claim
abbrev pub decreases-tries : goal.decreases-tries
decreases-tries g l = 2 * (l.tail - l.seen / 512) + min (l.seen % 512) 1
