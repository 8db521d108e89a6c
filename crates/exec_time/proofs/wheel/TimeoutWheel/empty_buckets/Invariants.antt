use Rattle.std.{proofs.Common.{◌≡◌, ◌≤◌, map}, specs.List.range_with_len}
use Rattle.exec_time.specs.{Wheel.slot_of, Turning.emptied, WheelView.{wheel_of, room_of}}
use Rattle.exec_time.proofs.wheel.TimeoutWheel.empty_buckets.Given as goal

abbrev pub invariant-loop-step : goal.invariant-loop-step
invariant-loop-step l =
    (wheel_of l.self ≡ emptied (wheel_of l.initial.self) (map (slot_of (wheel_of l.initial.self)) (range_with_len l.first l.step)))
    × (room_of l.initial.self ≤ room_of l.self)
