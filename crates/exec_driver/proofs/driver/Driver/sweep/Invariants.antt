use Rattle.exec_driver.{specs.{Driving.seen, Turns.waiting}, proofs.Sweeping.SweepsAlike}
use Rattle.exec_driver.proofs.driver.Driver.sweep.Given as goal

abbrev pub invariant-controls : goal.invariant-controls
invariant-controls g l = SweepsAlike (seen l.self) (seen l.initial.self)

abbrev pub decreases-controls : goal.decreases-controls
decreases-controls g l = waiting (seen l.self).ring.posted (seen l.self).ring.wakes
