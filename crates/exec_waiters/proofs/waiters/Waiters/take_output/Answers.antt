use Rattle.std.proofs.Common.{◌≡◌, Some, rules, arith}
use Rattle.exec_base.specs.Slab.{value_at}
use Rattle.exec_waiters.specs.declared.waiter.Entry.TheVariants.{Ready}
use Rattle.exec_waiters.proofs.Changes.{kept_removed}
use Rattle.exec_waiters.proofs.waiters.Waiters.take_output.Goals as goal

pub invariant_of-self : goal.invariant_of-self
invariant_of-self g c =
    let at : value_at c.self.inside.entries c.args.id.0 ≡ Some (Ready c.in-Some-Ready-remove.output) = search rules in
    rw c.in-Some-Ready-remove.ensures.removed (kept_removed _ _ _ _ _ _ _ at (omega arith) (omega arith) c.self.invariant)
