-- What a task can be told next, and what it holds then.
use Rattle.std.specs.Prelude.{◌≡◌, ◌⊎◌}
use Rattle.exec_invariants.specs.Words.{ℕ, true, false, List, length, Option, Some, None, slice_get, Said, Waiting, without_newest, is_complete, numbers_held, Shared, TaskSlot, Worker, body_in}

-- what a task is told that waits for this; where it is known already, that
abbrev pub CanHear : Option Said → Waiting → Said → Type 0
CanHear (Some told) u answer = answer ≡ told
CanHear None (Waiting.Request r) (Said.Output output) = Unit {0}
CanHear None (Waiting.Timer z) Said.Slept = Unit {0}
CanHear None Waiting.Wake Said.Pass = Unit {0}
CanHear None Waiting.Woken Said.Pass = Unit {0}
CanHear None u answer = ⊥

-- what it holds once what it waits for has come
abbrev pub held_once_come : Waiting → List ℕ → List ℕ
held_once_come (Waiting.Request r) held = without_newest held
held_once_come _ held = held

module _ {B : Type 0} where
  -- A slot that became this has the same body, of a root of the same worker. What that can be told it could be told before, and holds the same then.
  pub record Hears (slot slot' : TaskSlot B) : Type 0 where
    pub home : slot'.home ≡ slot.home
    pub body : body_in slot'.cell.phase slot'.body ≡ body_in slot.cell.phase slot.body
    pub going : is_complete slot'.cell.phase ≡ false → is_complete slot.cell.phase ≡ false
    pub told : (answer : Said) → CanHear slot'.told slot'.waiting answer → CanHear slot.told slot.waiting answer × (held_once_come slot.waiting (numbers_held slot.held.items) ≡ held_once_come slot'.waiting (numbers_held slot'.held.items))

  -- No task made an act, and none is new, but one may be over; the worker's root and the configuration stay.
  pub record StillHears (w : Worker) (s : Shared B) (w' : Worker) (s' : Shared B) : Type 0 where
    pub root : w'.root ≡ w.root
    pub config : s'.config ≡ s.config
    pub many : length s'.tasks.items ≡ length s.tasks.items
    pub hears : (t : ℕ) (slot slot' : TaskSlot B) → slice_get s.tasks.items t ≡ Some slot → slice_get s'.tasks.items t ≡ Some slot' → Hears slot slot' ⊎ (is_complete slot'.cell.phase ≡ true)
