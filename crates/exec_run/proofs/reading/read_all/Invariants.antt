use Rattle.std.proofs.Common.{◌≡◌, ◌≤◌, ◌-◌, ◌+◌, ◌^◌, length}
use Rattle.exec_run.specs.Reading.{HasRead}
use Rattle.exec_run.proofs.reading.read_all.Given as goal

-- The text is what was read so far, and at most one byte too long.
abbrev pub invariant-pieces : goal.invariant-pieces
invariant-pieces g l = record {
  well : g.I.Input.faults l.source ≡ g.I.Input.faults l.initial.source;
  read : HasRead (g.I.Input.left l.initial.source) (g.I.Input.left l.source) l.text.items;
  short : length l.text.items ≤ 2 ^ 26 + 1;
}

abbrev pub decreases-pieces : goal.decreases-pieces
decreases-pieces g l = 2 ^ 26 + 1 - length l.text.items
