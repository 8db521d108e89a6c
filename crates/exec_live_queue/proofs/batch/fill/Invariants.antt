use Rattle.exec_live_queue.proofs.{Words.{◌≡◌, ℕ, ◌+◌, [], length, SameSeat, Fills}, Moves.Filling}
use Rattle.exec_live_queue.proofs.batch.fill.Given as goal

abbrev pub invariant-loop-i : goal.invariant-loop-i
invariant-loop-i g l = record {
  same : SameSeat l.fn.seat l.seat;
  places : l.batch ≡ record l.fn.batch { values = l.batch.values };
  count : l.i + length l.batch.values ≡ length l.fn.batch.values;
  filled : (r : ℕ) → Fills l.fn.seat.me l.fn.seat.me.0 l.tail (length l.fn.batch.values + r) [] → Filling l.seat.me l.fn.seat.me.0 l.tail r l.fn.batch.values l.i l.batch.values;
}
