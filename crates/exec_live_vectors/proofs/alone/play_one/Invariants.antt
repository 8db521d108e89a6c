use Rattle.std.proofs.Common.{◌≡◌, []}
use Rattle.exec_live_queue.specs.Kinds.{handed}
use Rattle.exec_live_vectors.proofs.alone.play_one.Given as goal

abbrev pub invariant-loop : goal.invariant-loop
invariant-loop g l = handed l.owner ≡ []
