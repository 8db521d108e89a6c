use Rattle.std.proofs.Common.{refl}
use Rattle.exec_waiters.proofs.Changes.{kept_changed}
use Rattle.exec_waiters.proofs.waiters.Waiters.set_state.Goals as goal

pub invariant_of-self : goal.invariant_of-self
invariant_of-self g c =
    kept_changed _ _ c.waiter_mut-waiter.result.now _ _ _ _ c.waiter_mut-waiter.ensures.value refl (λ sound. sound) (λ held. held) c.self.invariant
