use Rattle.std.proofs.Common.{◌∙◌, ◌∷◌, ◌++◌, [], ap}
use Rattle.exec_run.proofs.Plans.{more_waiting}
use Rattle.exec_run.proofs.stepping.roots_of.Goals as goal

pub loop-preserved : goal.loop-preserved
loop-preserved c =
    more_waiting _ _ c.loop.counter c.loop.roots.items c.push-in-loop.new.self.items c.loop.auto.counter (c.in_ok-push-2.ensures.items ∙ ap (λ x. c.loop.roots.items ++ x ∷ []) c.waits.ensures) c.loop.invariant
