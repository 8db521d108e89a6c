use Rattle.std.{proofs.Common.{◌≡◌, ◌++◌, length}, specs.Vec.Iter.{into_iter_items, into_iter_len}}
use Rattle.exec_core.specs.Firsts.{AllBegin}
use Rattle.exec_core.proofs.setting_up.first_workers.Given as goal

-- the first runnables have their workers
abbrev pub invariant-loop-runnable : goal.invariant-loop-runnable
invariant-loop-runnable l = record {
  split : l.yielded ++ into_iter_items l.runnable-iterator ≡ l.fn.runnables.items;
  len : into_iter_len l.runnable-iterator ≡ length (into_iter_items l.runnable-iterator);
  begin : AllBegin l.fn.configuration l.yielded l.workers.items;
}
