use Rattle.std.{proofs.Common.{◌≡◌, ◌≤◌, ◌-◌, length}, specs.Str.Lines.lines}
use Rattle.exec_text.{specs.Reading.said_before, proofs.Tasks.HasScripts}
use Rattle.exec_text.proofs.task.count_scripts.Given as goal

abbrev pub invariant-loop-line : goal.invariant-loop-line
invariant-loop-line l = record {
  same_text : l.ahead.text.now ≡ l.fn.lines.text.now;
  few : l.count ≤ l.ahead.number;
  so_far : HasScripts l.fn.config (said_before l.fn.lines.text.now l.ahead.number) l.count;
}

abbrev pub decreases-loop-line : goal.decreases-loop-line
decreases-loop-line l = length (lines l.fn.lines.text.now) - l.ahead.number
