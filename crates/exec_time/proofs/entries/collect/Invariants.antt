use Rattle.std.{proofs.Common.{◌≡◌, ◌≤◌, ◌+◌, ◌++◌, take, map}, specs.VecDeque.{deque_len, deque_capacity}}
use Rattle.exec_time.proofs.entries.collect.Given as goal

abbrev pub invariant-loop-entry : goal.invariant-loop-entry
invariant-loop-entry l =
    (l.ready.items ≡ l.initial.ready.items ++ map (λ entry. entry.id) (take l.entry-index l.entry-items))
    × (deque_len l.ready ≤ deque_len l.initial.ready + l.entry-index)
    × (deque_capacity l.ready ≡ deque_capacity l.initial.ready)
