use Rattle.std.proofs.Common.{◌≡◌}
use Rattle.exec_live_idle.specs.{Idle.{knows, IsSame}, Search.{Rounds, StaysUp}}
use Rattle.exec_live_idle.proofs.searcher.Searcher.publish_and_look.Given as goal

-- the worker is withdrawn, after some rounds
abbrev pub invariant-loop : goal.invariant-loop
invariant-loop g l = let b = g.B.Backlog in record {
  idle : l.self.idle ≡ l.fn.self.idle;
  seat : IsSame l.fn.self.seat l.self.seat;
  view : StaysUp (knows l.fn.self.seat) (knows l.self.seat);
  pool : b.pool l.backlog ≡ b.pool l.fn.backlog;
  rounds : Rounds b.looks b.peers b.steals b.kicks (knows l.fn.self.seat) l.fn.backlog l.fn.self.rng (knows l.self.seat) l.backlog l.self.rng;
}
