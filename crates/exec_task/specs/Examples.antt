-- Tasks and sets to look at.
use Rattle.std.specs.Prelude.{ℕ, true, false, List, [], ◌∷◌, ◌*◌}
use Rattle.exec_base.specs.declared.task_no.TaskNo.{TaskNo}
use Rattle.exec_task.specs.{declared.task.Phase.Phase, Phases.Task, TaskRuns.Ledger, TaskRuns.new_task, TaskSet.Set, TaskSet.inserted, TaskSet.removed}

abbrev pub no : ℕ → TaskNo
no number = record { 0 = number }

-- task 5, whose body is a number, in some phase
abbrev pub in_phase : Phase ℕ → Task ℕ
in_phase phase = record { number = no 5; owner = 1; phase = phase; cancelled = false }

-- the same, cleared in its poll
abbrev pub cleared_in : Phase ℕ → Task ℕ
cleared_in phase = record (in_phase phase) { cancelled = true }

-- task 5, with its first runnable
abbrev pub fresh : Ledger ℕ
fresh = new_task (no 5) 1 7

-- a set with so many shards, which holds of each task ten times its number
abbrev pub with_first : List (List (ℕ × ℕ)) → Set ℕ
with_first shards = record { shards = shards; closed = false; id = 1 }

abbrev pub holding : Set ℕ → ℕ → Set ℕ
holding s number = inserted s (no number) (number * 10)

-- tasks 0 to 4 in one shard, of which 2, 4 and 0 were removed
abbrev pub two_left : Set ℕ
two_left =
    let five = holding (holding (holding (holding (holding (with_first ([] ∷ [])) 0) 1) 2) 3) 4 in
    removed (removed (removed five (no 2)) (no 4)) (no 0)

-- tasks 0 to 3 in two shards
abbrev pub four_in_two : Set ℕ
four_in_two = holding (holding (holding (holding (with_first ([] ∷ [] ∷ [])) 0) 1) 2) 3
