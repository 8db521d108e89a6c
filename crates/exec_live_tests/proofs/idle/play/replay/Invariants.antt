use Rattle.std.proofs.Common.{◌≡◌, false}
use Rattle.exec_live_idle.specs.Idle.{knows, IsSeatOf}
use Rattle.exec_live_tests.proofs.idle.play.replay.Given as goal

abbrev pub invariant-loop-line : goal.invariant-loop-line
invariant-loop-line g l = record {
  at : IsSeatOf l.idle l.caller;
  free : (knows l.caller).held ≡ 0;
  unpublished : (knows l.caller).published ≡ false;
  workers : (knows l.caller).workers ≡ l.workers;
  pool : l.pool.bell.workers ≡ l.workers;
}
