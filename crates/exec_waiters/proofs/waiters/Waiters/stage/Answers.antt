use Rattle.std.proofs.Common.{arith}
use Rattle.exec_waiters.proofs.Changes.{kept_changed, sound_staged, staging_tells}
use Rattle.exec_waiters.proofs.waiters.Waiters.stage.Goals as goal

pub invariant_of-self : goal.invariant_of-self
invariant_of-self g c =
    let w = c.waiter_mut-waiter.result.now in
    let at = c.waiter_mut-waiter.ensures.value in
    let may = staging_tells _ w at (rw (← c.self.view_is) at c.requires.may) in
    kept_changed _ _ _ _ _ _ _ at (rw may.0 (omega arith)) (sound_staged w _ c.build_sqe.ensures.kept may.1) (λ held. held) c.self.invariant
