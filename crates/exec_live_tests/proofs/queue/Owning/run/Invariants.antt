use Rattle.std.proofs.Common.{◌≡◌, []}
use Rattle.exec_live_queue.specs.Kinds.{handed}
use Rattle.exec_live_tests.proofs.queue.Owning.run.Given as goal

abbrev pub invariant-loop-value : goal.invariant-loop-value
invariant-loop-value g l = handed l.owner ≡ []
