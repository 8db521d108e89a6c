use Rattle.std.proofs.Common.{refl}
use Rattle.exec_waiters.proofs.Changes.{kept_changed, sound_permitted}
use Rattle.exec_waiters.proofs.waiters.Waiters.acquire_durability.Goals as goal

pub invariant_of-self : goal.invariant_of-self
invariant_of-self g c =
    kept_changed _ _ c.waiter_mut-waiter.result.now _ _ _ _ c.waiter_mut-waiter.ensures.value refl (sound_permitted c.waiter_mut-waiter.result.now) (λ held. held) c.self.invariant
