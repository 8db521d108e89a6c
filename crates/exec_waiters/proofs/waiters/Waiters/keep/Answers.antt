use Rattle.std.proofs.Common.{◌≡◌, Some, rules}
use Rattle.exec_waiters.specs.States.{waiter_at}
use Rattle.exec_waiters.proofs.Changes.{kept_over, idle_tells}
use Rattle.exec_waiters.proofs.waiters.Waiters.keep.Goals as goal

pub invariant_of-self : goal.invariant_of-self
invariant_of-self g c =
    let at : waiter_at c.self.inside.entries c.args.id.0 ≡ Some c.in-Pending.waiter = search rules in
    kept_over _ _ c.in-Pending.waiter _ _ _ at (idle_tells _ _ at (rw (← c.self.view_is) at c.requires.idle)) (search rules) c.self.invariant
