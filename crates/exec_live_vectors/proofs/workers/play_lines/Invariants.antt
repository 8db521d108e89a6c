use Rattle.std.proofs.Common.{◌≡◌, false}
use Rattle.exec_live_idle.specs.Idle.{knows, IsSeatOf}
use Rattle.exec_live_vectors.proofs.workers.play_lines.Given as goal

abbrev pub invariant-loop : goal.invariant-loop
invariant-loop g l = record {
  at : IsSeatOf l.idle l.caller;
  free : (knows l.caller).held ≡ 0;
  unpublished : (knows l.caller).published ≡ false;
  workers : (knows l.caller).workers ≡ l.pool.bell.workers;
}
