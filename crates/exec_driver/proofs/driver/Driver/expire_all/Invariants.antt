use Rattle.std.proofs.Common.{length}
use Rattle.exec_driver.specs.{Driving.seen, Service.{Repeats, ExpiresOne}, Turns.Serves}
use Rattle.exec_driver.proofs.driver.Driver.expire_all.Given as goal

abbrev pub invariant-due : goal.invariant-due
invariant-due g l = Serves (seen l.initial.self) (seen l.self) l.initial.deferred l.deferred × Repeats ExpiresOne (seen l.initial.self, l.initial.deferred) (seen l.self, l.deferred)

abbrev pub decreases-due : goal.decreases-due
decreases-due g l = length (seen l.self).lists.due
