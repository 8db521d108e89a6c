use Rattle.std.proofs.Common.{◌≡◌, ◌≤◌, ◌*◌, take, sum_by}
use Rattle.exec_text.specs.Grammar.{count_of}
use Rattle.exec_text.proofs.read.total_steps.Given as goal

abbrev pub invariant-loop-step : goal.invariant-loop-step
invariant-loop-step l = (l.total ≡ sum_by count_of (take l.step-index l.steps)) × (l.total ≤ 18446744073709551615 * l.step-index)
