-- What a step of a place does: it is its move; what else of the worker stays; and what becomes of the one thing that it names.
use Rattle.std.specs.Prelude.{◌≡◌, ℕ, Some, slice_get, slice_set}
use Rattle.exec_parts.specs.{Words.{PureWord, Event, Moved}, declared.parts.{seat.Seat.Seat as Chair, shared.Shared.Shared, task_slot.TaskSlot.TaskSlot, worker.Worker.Worker}, View.desk_of}

-- A step is this move: its event, and what stands on the worker's desk then.
pub record Makes {T : Type 0} (m : Moved T) (e : Event) (w : Worker) : Type 0 where
  pub event : e ≡ m.event
  pub desk : desk_of w ≡ m.desk

-- The worker goes to another place, and nothing else of it changes.
abbrev pub Goes : Worker → Worker → Type 0
Goes w w' = w' ≡ record w { place = w'.place }

-- THE ONE THING

module _ {B : Type 0} where
  -- the chair of a worker that has one
  abbrev pub HasChair : ℕ → Shared B → Chair → Type 0
  HasChair i s chair = slice_get s.seats.items i ≡ Some chair

  -- the wake word of worker i has become this, and nothing else has changed
  pub record TurnsWord (i : ℕ) (s s' : Shared B) (word : PureWord) : Type 0 where
    pub kept : s' ≡ record s { seats = s'.seats }
    pub seats : (chair : Chair) → HasChair i s chair → s'.seats.items ≡ slice_set s.seats.items i (record chair { mailbox = record chair.mailbox { waker = word } })

  -- the slot of task t has become what this makes of it, and nothing else has changed
  pub record TurnsSlot (t : ℕ) (s s' : Shared B) (change : TaskSlot B → TaskSlot B) : Type 0 where
    pub kept : s' ≡ record s { tasks = s'.tasks }
    pub tasks : (slot : TaskSlot B) → slice_get s.tasks.items t ≡ Some slot → s'.tasks.items ≡ slice_set s.tasks.items t (change slot)
