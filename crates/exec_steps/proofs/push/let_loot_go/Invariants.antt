use Rattle.std.proofs.Common.{◌≡◌, length}
use Rattle.exec_steps.proofs.push.let_loot_go.Given as goal

-- only the loot grows less
abbrev pub invariant-loop-runnable : goal.invariant-loop-runnable
invariant-loop-runnable l = l.worker ≡ record l.initial.worker { loot = record l.initial.worker.loot { values = l.worker.loot.values } }

abbrev pub decreases-loop-runnable : goal.decreases-loop-runnable
decreases-loop-runnable l = length l.worker.loot.values
