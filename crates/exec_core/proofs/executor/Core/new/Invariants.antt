use Rattle.std.{proofs.Common.{◌≡◌, ◌≤◌, replicate}, specs.Prelude.vec_capacity}
use Rattle.exec_core.proofs.Beginning.{free_caller}
use Rattle.exec_core.proofs.executor.Core.new.Given as goal

-- so many callers are there, each without a call, and there is room for all
abbrev pub invariant-loop : goal.invariant-loop
invariant-loop g l = record {
  callers : l.callers.items ≡ replicate l.counter free_caller;
  room : 16 ≤ vec_capacity l.callers;
}
