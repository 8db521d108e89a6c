use Rattle.std.proofs.Common.{refl}
use Rattle.exec_waiters.proofs.Changes.{kept_changed, sound_observed}
use Rattle.exec_waiters.proofs.waiters.Waiters.set_observer.Goals as goal

pub invariant_of-self : goal.invariant_of-self
invariant_of-self g c =
    let at = c.waiter_mut-waiter.ensures.value in
    rw c.replace.ensures.after (kept_changed _ _ c.waiter_mut-waiter.result.now _ _ _ _ at refl (sound_observed c.waiter_mut-waiter.result.now c.args.observer c.requires.elsewhere) (λ held. c.requires.held _ (rw c.self.view_is at at)) c.self.invariant)
