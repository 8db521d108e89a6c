use Rattle.exec_driver.specs.{Driving.seen, Service.{Repeats, ReapsOne, reached}, Turns.{Serves, StaysDone, unreaped}}
use Rattle.exec_driver.proofs.driver.Driver.reap_all.Given as goal

abbrev pub invariant-completions : goal.invariant-completions
invariant-completions g l = Serves (seen l.initial.self) (seen l.self) l.initial.deferred l.deferred × StaysDone (seen l.initial.self) (seen l.self) × Repeats ReapsOne (reached (seen l.initial.self) l.initial.opens l.initial.deferred (g.W.Signals.signalled l.initial.workers)) (reached (seen l.self) l.opens l.deferred (g.W.Signals.signalled l.workers))

abbrev pub decreases-completions : goal.decreases-completions
decreases-completions g l = unreaped (seen l.self).ring
