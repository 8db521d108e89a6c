-- What is to be told and let go, and for how much more there is room.
use Rattle.std.specs.Prelude.{◌≡◌, ℕ, Bool, ◌+◌, ◌≤◌, ◌==◌, ◌&&◌, List, [], ◌∷◌, ◌++◌, length, Option, Some, None}
use Rattle.std.specs.VecDeque.{deque_len, deque_capacity}
use Rattle.exec_base.specs.declared.task_no.TaskNo.{TaskNo}
use Rattle.exec_time.specs.{declared.notes.ForwardedResult.ForwardedResult, Notes.{HasRoom as HasNotes, Adds}}
use Rattle.exec_waiters.specs.declared.deferred.{Untaken.Untaken, Retired.Retired, Answer.Answer, Deferred.Deferred}

-- what one call puts into each list
pub record Told (S F : Type 0) : Type 0 where
  pub wakes : List TaskNo
  pub outputs : List Untaken
  pub resources : List Retired
  pub completions : List (ForwardedResult S)
  pub results : List (Answer F)

-- the task is woken, where there is one
abbrev pub tasks_of : Option TaskNo → List TaskNo
tasks_of None = []
tasks_of (Some task) = task ∷ []

module _ {S F : Type 0} where
  abbrev pub nothing_told : Told S F
  nothing_told = record { wakes = []; outputs = []; resources = []; completions = []; results = [] }

  abbrev pub awake : Option TaskNo → Told S F
  awake waker = record nothing_told { wakes = tasks_of waker }

  -- so many of each can come without memory
  pub record HasPlaces (d : Deferred S F) (n : ℕ) : Type 0 where
    pub notes : HasNotes d.notes n
    pub outputs : deque_len d.outputs + n ≤ deque_capacity d.outputs
    pub resources : deque_len d.resources + n ≤ deque_capacity d.resources
    pub results : deque_len d.results + n ≤ deque_capacity d.results

  -- one more wake can come without memory
  abbrev pub HasWakePlace : Deferred S F → Type 0
  HasWakePlace d = deque_len d.notes.wakes + 1 ≤ deque_capacity d.notes.wakes

  -- these come at the ends of the lists, and the memory doesn't shrink
  pub record Tells (old new : Deferred S F) (told : Told S F) : Type 0 where
    pub notes : Adds old.notes new.notes told.wakes told.completions
    pub outputs_added : new.outputs.items ≡ old.outputs.items ++ told.outputs
    pub resources_added : new.resources.items ≡ old.resources.items ++ told.resources
    pub results_added : new.results.items ≡ old.results.items ++ told.results
    pub outputs_memory : deque_capacity old.outputs ≤ deque_capacity new.outputs
    pub resources_memory : deque_capacity old.resources ≤ deque_capacity new.resources
    pub results_memory : deque_capacity old.results ≤ deque_capacity new.results

  abbrev pub is_untold : Deferred S F → Bool
  is_untold d =
      (length d.notes.wakes.items == 0) && (length d.notes.completions.items == 0) && (length d.outputs.items == 0)
      && (length d.resources.items == 0) && (length d.results.items == 0)
