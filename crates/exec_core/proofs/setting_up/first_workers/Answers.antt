use Rattle.std.proofs.Common.{[], ◌∷◌, length, ap, subst, ◌∙◌, append_assoc, arith}
use Rattle.exec_core.{specs.Words.{Begins, Pool}, proofs.Beginning.begin_more}
use Rattle.exec_core.proofs.setting_up.first_workers.Goals as goal

pub loop-runnable-preserved : goal.loop-runnable-preserved
loop-runnable-preserved c =
    let at = c.loop-runnable in
    let x = c.in-Some.runnable in
    let steps = c.in-Some.ensures.steps in
    let index = c.len-index.ensures ∙ at.workers.ok.0 in
    record {
      split = append_assoc at.yielded (x ∷ []) _ ∙ rw (← steps.0) at.invariant.split;
      len = (let gone = steps.1 in let short = ap length steps.0 in omega (arith, gone, short, at.invariant.len));
      begin =
          rw c.in_ok-push.ensures.items
          (begin_more c.args.configuration.now at.yielded at.workers.items x c.in_ok-begin.field-0 at.invariant.begin
          (subst (λ k. Begins c.args.configuration.now (Pool k) k k x 0 c.in_ok-begin.field-0) index c.in_ok-begin.ensures.begins));
    }
