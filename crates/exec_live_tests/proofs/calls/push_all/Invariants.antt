use Rattle.std.proofs.Common.{◌≡◌, ◌≤◌, []}
use Rattle.exec_live_queue.specs.Kinds.{handed}
use Rattle.exec_live_tests.proofs.calls.push_all.Given as goal

abbrev pub invariant-loop-i : goal.invariant-loop-i
invariant-loop-i l = (handed l.owner ≡ []) × (l.pushed ≤ l.i)
