use Rattle.exec_live_queue.proofs.{Words.{◌≡◌, ℕ, ◌+◌, List, [], length, SameSeat, Fills, Empties}, Moves.Carrying}
use Rattle.exec_live_queue.proofs.steal.carry_over.Given as goal

abbrev pub invariant-loop-i : goal.invariant-loop-i
invariant-loop-i g l = record {
  same : SameSeat l.fn.from l.from × SameSeat l.fn.seat l.seat;
  moved : (xs : List g.row.T.Denot) (r : ℕ) → length xs ≡ l.count → Empties l.fn.from.me l.fn.from.me.0 l.at 0 xs → Fills l.fn.seat.me l.fn.seat.me.0 l.tail (l.count + r) []
      → Carrying l.from.me l.fn.from.me.0 l.at l.seat.me l.fn.seat.me.0 l.tail r xs l.i;
}
