use Rattle.std.proofs.Common.{◌≡◌, Some, rules}
use Rattle.exec_waiters.specs.States.{waiter_at}
use Rattle.exec_waiters.proofs.{Changes.{kept_gone, idle_tells, sound_at, and_left}, Fits.fits_by}
use Rattle.exec_waiters.proofs.waiters.Waiters.free.Goals as goal

pub deliver-requires-clause-fits : goal.deliver-requires-clause-fits
deliver-requires-clause-fits g c =
    let w = c.in-Some-Pending.waiter in
    let at : waiter_at c.self.inside.entries c.args.id.0 ≡ Some w = search rules in
    rw c.complete-output.ensures.told (fits_by w.request w.observer c.args.ended c.args.open_.now (and_left _ _ (sound_at _ _ w _ _ at c.self.invariant)))

pub invariant_of-self : goal.invariant_of-self
invariant_of-self g c =
    let w = c.in-Some-Pending.waiter in
    let at : waiter_at c.self.inside.entries c.args.id.0 ≡ Some w = search rules in
    rw c.in-Some-Pending.ensures.removed (kept_gone _ _ w _ _ at (idle_tells _ _ at (rw (← c.self.view_is) at c.requires.idle)) c.self.invariant)
