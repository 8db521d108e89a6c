use Rattle.std.proofs.Common.{refl}
use Rattle.exec_waiters.proofs.{Changes.kept_changed, Fits.asked_after}
use Rattle.exec_waiters.proofs.waiters.Waiters.land.Goals as goal

pub invariant_of-self : goal.invariant_of-self
invariant_of-self g c =
    let w = c.waiter_mut-waiter.result.now in
    let asked = asked_after c.land.result _ c.args.given w.request c.land.new.request _ _ c.land.ensures.moved c.land.ensures.request in
    kept_changed _ _ w _ _ _ _ c.waiter_mut-waiter.ensures.value refl (λ sound. rw asked sound) (λ held. held) c.self.invariant
