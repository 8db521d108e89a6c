use Rattle.std.{proofs.Common.{◌≡◌, ◌-◌, List, length}, specs.Str.Lines.lines}
use Rattle.exec_machine.specs.declared.config.ScriptWord.{ScriptWord}
use Rattle.exec_text.specs.{Kept.KeepsLists, Reading.{said_before, IsHead}}
use Rattle.exec_text.proofs.task.read_tasks.Given as goal

abbrev pub invariant-tasks : goal.invariant-tasks
invariant-tasks l = record {
  same_text : l.lines.text.now ≡ l.fn.lines.text.now;
  so_far : (ss : List (List ScriptWord)) × IsHead l.fn.config l.fn.count (said_before l.fn.lines.text.now l.lines.number) ss × KeepsLists l.scripts ss;
}

abbrev pub decreases-tasks : goal.decreases-tasks
decreases-tasks l = length (lines l.fn.lines.text.now) - l.lines.number
