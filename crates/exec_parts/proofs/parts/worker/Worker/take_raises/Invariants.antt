use Rattle.std.proofs.Common.{◌≡◌, []}
use Rattle.exec_parts.specs.{declared.parts.{seat.Seat.Seat as Chair, worker.Worker.Worker}, Pooled.with_raises, View.driver_of}
use Rattle.exec_parts.proofs.parts.worker.Worker.take_raises.Given as goal

-- so many are still to be raised
pub record Takes (w v : Worker) (chair left : Chair) : Type 0 where
  pub driver : with_raises left.raised (driver_of v) ≡ with_raises chair.raised (driver_of w)
  pub nothing : (driver_of v).landings ≡ []
  pub same : v ≡ record w { home = record w.home { driver = v.home.driver } }
  pub rest : left ≡ record chair { raised = left.raised }

abbrev pub invariant-loop-seat : goal.invariant-loop-seat
invariant-loop-seat l = Takes l.initial.self l.self l.initial.seat l.seat

abbrev pub decreases-loop-seat : goal.decreases-loop-seat
decreases-loop-seat l = l.seat.raised
