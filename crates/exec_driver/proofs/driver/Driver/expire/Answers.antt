use Rattle.std.proofs.Common.{◌≡◌, Some, sym, ◌∙◌, refl}
use Rattle.exec_driver.{proofs.{Stepping.first_tells, Turns.expire_serves}, specs.{Driving.seen, Sound.IsSound}}
use Rattle.exec_lists.specs.Lists.{first_of}
use Rattle.exec_driver.proofs.driver.Driver.expire.Goals as goal

pub returns-clause-punctual : goal.returns-clause-punctual
returns-clause-punctual g c =
    let first : Some c.in_ok-id.id ≡ first_of (seen c.args.self.now).lists.due = rw (← c.self.view_is) (sym (sym c.next_due.ensures.first ∙ c.in_ok-id.was)) in
    let sound : IsSound (seen c.args.self.now) = rw (← c.self.view_is) c.self.invariant.sound in
    (expire_serves (seen c.args.self.now) _ (Some c.in_ok-id.id) c.args.deferred.now c.cancel.new.deferred sound (rw (first_tells (seen c.args.self.now).lists.due c.in_ok-id.id (sym first)) refl) first
    (rw (← c.self.view_is) (rw c.next_due.ensures.rest at c.cancel.ensures.cancelled)) (rw (← c.self.view_is) c.cancel.ensures.told)).serves.going.punctual
