use Rattle.std.{proofs.Common.{◌≡◌, ◌++◌, length}, specs.Vec.Iter.{into_iter_items, into_iter_len}}
use Rattle.exec_core.specs.Firsts.{HasRoots, IsBare}
use Rattle.exec_core.proofs.setting_up.first_shared.Given as goal

-- the first roots have their seats, their slots and their runnables
abbrev pub invariant-loop-root : goal.invariant-loop-root
invariant-loop-root g l = record {
  split : l.yielded ++ into_iter_items l.root-iterator ≡ l.fn.roots.items;
  len : into_iter_len l.root-iterator ≡ length (into_iter_items l.root-iterator);
  bare : IsBare l.fn.configuration (length l.fn.roots.items) l.shared;
  rooted : HasRoots l.yielded l.shared.seats.items l.shared.tasks.items l.runnables.items;
}
