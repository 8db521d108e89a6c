use Rattle.std.proofs.Common.{◌-◌}
use Rattle.exec_driver.specs.{Driving.seen, Service.{GrantsBelow, reached}, Turns.{Serves, StaysDone}}
use Rattle.exec_driver.proofs.driver.Driver.grant_all.Given as goal

abbrev pub invariant-gates : goal.invariant-gates
invariant-gates g l = Serves (seen l.initial.self) (seen l.self) l.initial.deferred l.deferred × StaysDone (seen l.initial.self) (seen l.self) × GrantsBelow l.worker (reached (seen l.initial.self) l.initial.opens l.initial.deferred (g.W.Signals.signalled l.initial.workers)) l.from (reached (seen l.self) l.opens l.deferred (g.W.Signals.signalled l.workers))

abbrev pub decreases-gates : goal.decreases-gates
decreases-gates g l = 4294967296 - l.from
