use Rattle.std.proofs.Common.{◌≡◌, []}
use Rattle.exec_live_queue.specs.Kinds.{handed}
use Rattle.exec_live_tests.proofs.calls.pop_all.Given as goal

abbrev pub invariant-pops : goal.invariant-pops
invariant-pops l = handed l.owner ≡ []
