use Rattle.std.proofs.Common.{◌≡◌, ◌∙◌, subst}
use Rattle.exec_parts.specs.Tests.{IsSearch, leaves_turn_of}
use Rattle.exec_invariants.proofs.Leaves.{not_read}
use Rattle.exec_steps.proofs.loads.read_clock.Goals as goal

pub returns-clause-due : goal.returns-clause-due
returns-clause-due c =
    let d = c.is_due-due.ensures.due in
    let w = c.args.worker.now in
    let same = c.is_due-due.ensures.same in
    let place = c.after_clock-worker.result in (
      d.0,
      (d.1.0, not_read w.home.closing c.args.clock w d.0 d.1.1),
      λ yes. subst (λ v. place ≡ leaves_turn_of v) same (c.after_clock-worker.ensures.next (d.2 ∙ yes)),
      λ no. subst (λ v. IsSearch c.args.workers c.args.longest_spin v place) same (c.after_clock-worker.ensures.search (d.2 ∙ no)),
    )
