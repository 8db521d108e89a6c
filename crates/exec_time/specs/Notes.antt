-- What is noted, and for how much more there is room.
use Rattle.std.specs.{Prelude.{◌≡◌, ℕ, ◌+◌, ◌≤◌, List, ◌++◌}, VecDeque.{deque_len, deque_capacity}}
use Rattle.exec_base.specs.declared.task_no.TaskNo.{TaskNo}
use Rattle.exec_time.specs.declared.notes.{ForwardedResult.ForwardedResult, Notes.Notes}

module _ {S : Type 0} where
  -- so many wakes and so many completions can be noted without memory
  pub record HasRoom (notes : Notes S) (n : ℕ) : Type 0 where
    pub wakes : deque_len notes.wakes + n ≤ deque_capacity notes.wakes
    pub completions : deque_len notes.completions + n ≤ deque_capacity notes.completions

  -- these come at the end of what is noted, and the memory doesn't shrink
  pub record Adds (old new : Notes S) (wakes : List TaskNo) (completions : List (ForwardedResult S)) : Type 0 where
    pub wakes_added : new.wakes.items ≡ old.wakes.items ++ wakes
    pub completions_added : new.completions.items ≡ old.completions.items ++ completions
    pub wakes_memory : deque_capacity old.wakes ≤ deque_capacity new.wakes
    pub completions_memory : deque_capacity old.completions ≤ deque_capacity new.completions
