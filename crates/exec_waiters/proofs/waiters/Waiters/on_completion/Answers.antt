use Rattle.std.proofs.Common.{arith, sym, ◌∙◌}
use Rattle.exec_waiters.proofs.Changes.{kept_changed, sound_landed, named_flies, name_tells, counted, entry_of}
use Rattle.exec_waiters.proofs.waiters.Waiters.on_completion.Goals as goal

pub invariant_of-self : goal.invariant_of-self
invariant_of-self g c =
    let w = c.waiter_mut-waiter.result.now in
    let at = c.waiter_mut-waiter.ensures.value in
    let is = name_tells _ _ (sym c.named.ensures ∙ c.in_ok-id.was) in
    let flies = named_flies c.args.self.now c.args.user_data c.in_ok-id.id.0 w is (rw c.self.view_is at at) in
    let one = rw flies at (counted _ _ _ _ _ (entry_of _ w at) c.self.invariant).1 in
    kept_changed _ _ _ _ _ _ _ at (rw flies (omega (arith, one))) (sound_landed w _ c.on_cqe-answer.ensures.kept) (λ held. held) c.self.invariant
