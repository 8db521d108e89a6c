use Rattle.std.{proofs.Common.{◌≡◌, ◌++◌, ◌-◌, All, List, length, map}, specs.Str.Lines.lines}
use Rattle.exec_machine.specs.declared.step.Step.{Step}
use Rattle.exec_text.specs.{Grammar.{text_of_step, StepFits, StepNames}, Kept.Keeps, Reading.said_before}
use Rattle.exec_text.proofs.read.read_steps.Given as goal

abbrev pub invariant-loop-line : goal.invariant-loop-line
invariant-loop-line l = record {
  same_text : l.lines.text.now ≡ l.fn.lines.text.now;
  so_far : (steps : List Step) × (said_before l.fn.lines.text.now l.lines.number ≡ said_before l.fn.lines.text.now l.fn.lines.number ++ map text_of_step steps) × All StepFits steps × All (StepNames l.fn.scripts) steps × Keeps l.steps steps;
}

abbrev pub decreases-loop-line : goal.decreases-loop-line
decreases-loop-line l = length (lines l.fn.lines.text.now) - l.lines.number
