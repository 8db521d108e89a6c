use Rattle.exec_live_queue.proofs.Words.{◌≡◌, ◌+◌, ◌-◌, ◌%◌, ◌≤◌, head_word, SameSeat, MayRelease, HasKept}
use Rattle.exec_live_queue.proofs.steal.release_claim.Given as goal

abbrev pub invariant-tries : goal.invariant-tries
invariant-tries g l = record {
  same : SameSeat l.fn.seat l.seat;
  may : MayRelease l.words l.seat;
  seen : l.seen ≡ head_word (l.seat.me.0.theft.at + l.seat.me.0.theft.gap) l.seat.me.0.theft.gap;
  small : l.seat.me.0.theft.gap ≤ 256;
  kept : HasKept l.fn.seat.me.0.theft l.seat.me.0.theft;
  saw : (l.seat.me.0.theft.at ≡ l.fn.seat.me.0.theft.at) × (l.seat.me.0.theft.upto ≡ l.fn.seat.me.0.theft.upto);
}

-- the gap only grows, to 256 at most
abbrev pub decreases-tries : goal.decreases-tries
decreases-tries g l = 512 - l.seen % 512
