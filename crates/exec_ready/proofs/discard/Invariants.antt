use Rattle.std.proofs.Common.{◌≡◌, []}
use Rattle.exec_live_queue.specs.Kinds.{Does, count, handed}
use Rattle.exec_ready.{specs.Discards.HasDiscarded, proofs.Discarding.IsLeft}
use Rattle.exec_ready.proofs.discard.Given as goal

abbrev pub invariant-runnables : goal.invariant-runnables
invariant-runnables l = record {
  whole : handed l.ready ≡ [];
  discarded : Does HasDiscarded IsLeft l.fn.ready l.ready;
}

abbrev pub decreases-runnables : goal.decreases-runnables
decreases-runnables l = count l.ready
