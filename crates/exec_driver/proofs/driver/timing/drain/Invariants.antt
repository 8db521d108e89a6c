use Rattle.std.proofs.Common.{◌≤◌, length}
use Rattle.exec_time.specs.WheelView.{wheel_of, room_of}
use Rattle.exec_driver.proofs.Advancing.{AreFalling}
use Rattle.exec_driver.proofs.driver.timing.drain.Given as goal

abbrev pub invariant-out : goal.invariant-out
invariant-out g l =
    record {
      falling : AreFalling l.waiters (wheel_of l.initial.wheel) l.initial.lists (wheel_of l.wheel) l.lists;
      room : room_of l.initial.wheel ≤ room_of l.wheel;
    }

abbrev pub decreases-out : goal.decreases-out
decreases-out g l = length (wheel_of l.wheel).ready
