use Rattle.std.proofs.Common.{◌≡◌, []}
use Rattle.exec_live_queue.specs.Kinds.{handed}
use Rattle.exec_live_bench.proofs.beside.pop_some.Given as goal

abbrev pub invariant-loop : goal.invariant-loop
invariant-loop l = handed l.owner ≡ []
