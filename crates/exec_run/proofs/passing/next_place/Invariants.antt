use Rattle.std.proofs.Common.{◌≡◌, ◌+◌, ◌-◌, ◌≤◌, ◌^◌, not, length, drop, Some}
use Rattle.exec_run.{proofs.Names.Sight, specs.Script.passed_over}
use Rattle.exec_run.proofs.passing.next_place.Given as goal

-- as many words are passed over from here on as from the first on, but for those that were
abbrev pub invariant-loop-place : goal.invariant-loop-place
invariant-loop-place g l =
    (it : Sight) → g.A.Around.sees l.around ≡ Some it → it.tasks ≤ 2 ^ 32
    → l.place + passed_over (not l.holds) it.tasks (drop l.place l.words) ≡ l.fn.from + passed_over (not l.holds) it.tasks (drop l.fn.from l.words)

abbrev pub decreases-loop-place : goal.decreases-loop-place
decreases-loop-place g l = length l.words - l.place
