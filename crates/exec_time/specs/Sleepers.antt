-- The sleepers of a worker: a slab of deadlines with their observers.
use Rattle.std.specs.{Prelude.{◌≡◌, ℕ, ◌<◌, ◌≤◌, Bool, true, false, List, [], ◌∷◌, Option, Some, None, Result, Ok, Err, if◌then◌else◌, ◌==◌, nat_le}, Option.option_map}
use Rattle.exec_base.specs.{Slab.{Slab, value_at, removed, Updates}, declared.{error.Error.{Error, TheVariants.Closed}, slab.Id.Id, task_no.TaskNo.TaskNo}}
use Rattle.exec_time.specs.{declared.{notes.{ForwardedResult.ForwardedResult, Notes.Notes}, timers.{Sleeper.Sleeper, Observer.{Observer, TheVariants.{Local, Forwarded}}, Observation.{Observation, TheVariants.{Ready, Pending, Refresh}}}}, Notes.Adds}

module _ {S : Type 0} where
  -- the task that is woken, where it observes on the sleeper's worker
  abbrev pub wakes_of : Observer S → List TaskNo
  wakes_of (Local waker) = waker ∷ []
  wakes_of (Forwarded _) = []

  -- the result that is sent, where the observer is elsewhere
  abbrev pub completions_of : Result (Unit {0}) Error → Observer S → List (ForwardedResult S)
  completions_of result (Local _) = []
  completions_of result (Forwarded sender) = record { sender = sender; result = result } ∷ []

  -- whether an observer is elsewhere
  abbrev pub is_elsewhere : Observer S → Bool
  is_elsewhere (Local _) = false
  is_elsewhere (Forwarded _) = true

  -- whether a sleeper that is there is observed elsewhere
  abbrev pub is_forwarded : Option (Sleeper S) → Bool
  is_forwarded None = false
  is_forwarded (Some sleeper) = is_elsewhere sleeper.observer

  -- what a task finds on the sleeper's worker: a sleeper that is gone is over; one that is there wakes this task
  -- already, or another one
  abbrev pub found_by : TaskNo → Observer S → Observation (Unit {0})
  found_by waker (Local current) = if current.0 == waker.0 then Pending else Refresh
  found_by waker (Forwarded _) = Refresh

  abbrev pub observation : TaskNo → Option (Sleeper S) → Observation (Unit {0})
  observation waker None = Ready tt
  observation waker (Some sleeper) = found_by waker sleeper.observer

  -- the task that a sleeper wakes, or else this one
  abbrev pub waker_or : TaskNo → Observer S → TaskNo
  waker_or waker (Local current) = current
  waker_or waker (Forwarded _) = waker

  -- the answer to one who brings another waker: the one that it takes the place of, or the same where the
  -- sleeper is gone
  abbrev pub displaced : TaskNo → Option (Sleeper S) → Result TaskNo TaskNo
  displaced waker None = Err waker
  displaced waker (Some sleeper) = Ok (waker_or waker sleeper.observer)

  -- the deadline of a sleeper that is there
  abbrev pub deadline_at : Slab (Sleeper S) → Id → Option ℕ
  deadline_at sleepers id = option_map (λ sleeper. sleeper.deadline) (value_at sleepers id)

  -- nobody sleeps
  abbrev pub IsEmpty : Slab (Sleeper S) → Type 0
  IsEmpty sleepers = (id : Id) → value_at sleepers id ≡ None

  -- the sleeper that comes first: by deadline, and then by id, of which only one with an index is there
  pub record IsFirst (sleepers : Slab (Sleeper S)) (deadline : ℕ) (id : Id) : Type 0 where
    pub at : deadline_at sleepers id ≡ Some deadline
    pub least : (other : Id) (sleeper : Sleeper S) → value_at sleepers other ≡ Some sleeper → deadline ≤ sleeper.deadline
    pub ties : (other : Id) (sleeper : Sleeper S) → value_at sleepers other ≡ Some sleeper → deadline ≡ sleeper.deadline → id.index ≤ other.index

  -- this sleeper is removed, and its observer is told the result
  pub record Ends (old new : Slab (Sleeper S)) (told untold : Notes S) (id : Id) (result : Result (Unit {0}) Error) : Type 0 where
    pub sleeper : Sleeper S
    pub was : value_at old id ≡ Some sleeper
    pub is : new ≡ removed old id
    pub gone : Updates old new id None
    pub notes : Adds untold told (wakes_of sleeper.observer) (completions_of result sleeper.observer)

  -- a sleeper that is due
  pub record IsDue (sleepers : Slab (Sleeper S)) (now : ℕ) (id : Id) : Type 0 where
    pub sleeper : Sleeper S
    pub there : value_at sleepers id ≡ Some sleeper
    pub due : sleeper.deadline ≤ now

  -- what is left of a sleeper at a moment: nothing, where it is due
  abbrev pub left_at : ℕ → Option (Sleeper S) → Option (Sleeper S)
  left_at now None = None
  left_at now (Some sleeper) = if nat_le sleeper.deadline now then None else Some sleeper

  -- one after another fires: each time the first, which is due. Begun with the first two, it has come to the last
  pub data FiresTo (now : ℕ) (first : Slab (Sleeper S)) (untold : Notes S) : Slab (Sleeper S) → Notes S → Type 0 where
    begun : FiresTo now first untold first untold
    fired : {old new : Slab (Sleeper S)} {before after : Notes S} (deadline : ℕ) (id : Id) → FiresTo now first untold old before → IsFirst old deadline id → deadline ≤ now → Ends old new after before id (Ok tt) → FiresTo now first untold new after

  -- the sleeper in the first slot that has one
  pub record IsLowest (sleepers : Slab (Sleeper S)) (id : Id) : Type 0 where
    pub none_below : (other : Id) → other.index < id.index → value_at sleepers other ≡ None

  -- one after another is told that its worker closes, in order of their slots. Begun with the first two, it has
  -- come to the last
  pub data ClosesTo (first : Slab (Sleeper S)) (untold : Notes S) : Slab (Sleeper S) → Notes S → Type 0 where
    opened : ClosesTo first untold first untold
    closed : {old new : Slab (Sleeper S)} {before after : Notes S} (id : Id) → ClosesTo first untold old before → IsLowest old id → Ends old new after before id (Err Closed) → ClosesTo first untold new after
