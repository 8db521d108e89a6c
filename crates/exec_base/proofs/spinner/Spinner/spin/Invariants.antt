use Rattle.std.proofs.Common.{◌≡◌}
use Rattle.exec_base.specs.Spinner.{Misses}
use Rattle.exec_base.proofs.spinner.Spinner.spin.Given as goal

abbrev pub invariant-loop : goal.invariant-loop
invariant-loop g l =
    goal.C-IsAlwaysCallable g l.condition × (l.self ≡ l.initial.self)
    × Misses (goal.C-step g) l.counter l.initial.condition l.condition
