use Rattle.std.proofs.Common.{◌≡◌, false, length}
use Rattle.exec_driver.specs.{Driving.seen, Service.{Repeats, EnrolsOne}, Turns.Serves}
use Rattle.exec_lists.specs.Lists.{has_first}
use Rattle.exec_driver.proofs.driver.Driver.enrol_all.Given as goal

abbrev pub invariant-enrolments : goal.invariant-enrolments
invariant-enrolments g l = Serves (seen l.initial.self) (seen l.self) l.initial.deferred l.deferred × (has_first (seen l.self).lists.due ≡ false) × Repeats (EnrolsOne l.now) (seen l.initial.self, l.initial.deferred) (seen l.self, l.deferred)

abbrev pub decreases-enrolments : goal.decreases-enrolments
decreases-enrolments g l = length (seen l.self).lists.enrolments
