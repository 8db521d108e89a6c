-- What a sleep does: the worker's seat rests.
use Rattle.std.specs.Prelude.{◌≡◌, ℕ, Option, slice_set, if◌then◌else◌}
use Rattle.exec_machine.specs.{declared.event.Event.{Event, TheVariants.{Turn, Sleep}}, Deadlines.rest_until}
use Rattle.exec_moves.specs.Load.{has_come}
use Rattle.exec_parts.specs.{declared.parts.{seat.Seat.Seat as Chair, shared.Shared.Shared, worker.Worker.Worker}, Tests.IsNextMoment, Things.HasChair}

module _ {B : Type 0} where
  -- Until the next moment at which something is due, unless that has come.
  pub record Sleeps (w : Worker) (s : Shared B) (e : Event) (s' : Shared B) : Type 0 where
    pub moment : Option ℕ
    pub next : IsNextMoment w moment
    pub event : e ≡ (if has_come s.clock moment then Turn else Sleep moment)
    pub seats : (chair : Chair) → HasChair w.index s chair → s'.seats.items ≡ (if has_come s.clock moment then s.seats.items else slice_set s.seats.items w.index (record chair { rest = rest_until moment }))
    pub kept : s' ≡ record s { seats = s'.seats }
