use Rattle.std.{proofs.Common.{◌≡◌, ◌++◌, take, drop}, specs.VecDeque.deque_capacity}
use Rattle.exec_words.proofs.reserved.pour.Given as goal

abbrev pub invariant-loop-i : goal.invariant-loop-i
invariant-loop-i g l = record {
  left : l.from.items ≡ drop l._i l.initial.from.items;
  moved : l.into.items ≡ l.initial.into.items ++ take l._i l.initial.from.items;
  from_capacity : deque_capacity l.from ≡ deque_capacity l.initial.from;
  into_capacity : deque_capacity l.into ≡ deque_capacity l.initial.into;
}
