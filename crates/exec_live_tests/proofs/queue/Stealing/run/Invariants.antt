use Rattle.std.proofs.Common.{◌≡◌, []}
use Rattle.exec_live_queue.specs.Kinds.{IsThief, handed}
use Rattle.exec_live_tests.proofs.queue.Stealing.run.Given as goal

abbrev pub invariant-loop : goal.invariant-loop
invariant-loop g l = IsThief l.queue l.seat × (handed l.owner ≡ [])
