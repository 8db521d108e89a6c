use Rattle.std.proofs.Common.{◌≡◌, ◌≤◌, ◌-◌, take, length}
use Rattle.exec_run.specs.Log.{Gave}
use Rattle.exec_run.proofs.writing.give_all.Given as goal

-- the front of the bytes was given
abbrev pub invariant-rests : goal.invariant-rests
invariant-rests g l = record {
  within : l.at ≤ length l.bytes;
  well : g.O.Output.faults l.sink ≡ g.O.Output.faults l.initial.sink;
  gave : Gave (g.O.Output.given l.initial.sink) (g.O.Output.given l.sink) (take l.at l.bytes);
}

abbrev pub decreases-rests : goal.decreases-rests
decreases-rests g l = length l.initial.bytes - l.at
