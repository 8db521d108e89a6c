use Rattle.std.proofs.Common.{◌≡◌, ◌^◌, false}
use Rattle.exec_live_idle.specs.Idle.{knows, IsSeatOf}
use Rattle.exec_live_tests.proofs.idle.play.gather.Given as goal

abbrev pub invariant-loop-made : goal.invariant-loop-made
invariant-loop-made g l = record {
  at : IsSeatOf l.idle l.caller;
  number : (knows l.caller).number ≡ l.made;
  end : (knows l.caller).end ≡ 2 ^ 32;
  unpublished : (knows l.caller).published ≡ false;
  free : (knows l.caller).held ≡ 0;
  workers : (knows l.caller).workers ≡ l.workers;
}
