-- What a contract sees of a task set and of a drain.
use Rattle.std.specs.{Prelude.{◌≡◌, ◌≢◌, ℕ, ◌+◌, ◌-◌, ◌*◌, ◌/◌, ◌%◌, ◌<◌, ◌≤◌, ◌==◌, Bool, true, false, List, [], ◌∷◌, ◌++◌, length, reverse, take, drop, flat_map, slice_set, slice_index_or, Option, Some, None, if◌then◌else◌}, Ordering.nat_cmp, Int.IsPowerOfTwo, Map.{lookup, remove_entry}, BTreeMap.{insert_entry, is_at}}
use Rattle.exec_base.specs.declared.task_no.TaskNo.{TaskNo}
use Rattle.exec_task.specs.declared.{drain.Drain.Drain, tasks.Refusal.Refusal}

module _ {T : Type 0} where
  -- the tasks of a shard under their numbers, the oldest first
  abbrev pub at_number : List (ℕ × T) → ℕ → Option T
  at_number shard number = lookup (is_at (nat_cmp number)) shard

  abbrev pub with_task : List (ℕ × T) → ℕ → T → List (ℕ × T)
  with_task shard number task = insert_entry nat_cmp shard number task

  abbrev pub without_task : List (ℕ × T) → ℕ → List (ℕ × T)
  without_task shard number = remove_entry (is_at (nat_cmp number)) shard

  -- the new shard holds this under the number, and what the old one does under any other
  pub record ShardChanges (old new : List (ℕ × T)) (number : ℕ) (task : Option T) : Type 0 where
    pub changed : at_number new number ≡ task
    pub others : (other : ℕ) → other ≢ number → at_number new other ≡ at_number old other

-- each task is in the shard of its number
abbrev pub AreAtHome : {T : Type 0} → List (List (ℕ × T)) → Type 0
AreAtHome shards = (index number : ℕ) → at_number (slice_index_or shards index []) number ≢ None → number % length shards ≡ index

-- the shards, whether the set is closed, and its identity
pub record Set (T : Type 0) : Type 0 where
  pub shards : List (List (ℕ × T))
  pub closed : Bool
  pub id : ℕ

-- the next power of two of the workers, times 4
pub record IsShardCount (workers count : ℕ) : Type 0 where
  pub power : ℕ
  pub is_power : IsPowerOfTwo power
  pub four_each : count ≡ power * 4
  pub enough : workers ≤ power
  pub least : power / 2 < workers

module _ {T : Type 0} where
  -- a task's shard is its number modulo the shards
  abbrev pub shard_of : Set T → TaskNo → ℕ
  shard_of s number = number.0 % length s.shards

  abbrev pub shard_at : Set T → ℕ → List (ℕ × T)
  shard_at s index = slice_index_or s.shards index []

  -- the task that the set holds under this number
  abbrev pub held : Set T → TaskNo → Option T
  held s number = at_number (shard_at s (shard_of s number)) number.0

  abbrev pub inserted : Set T → TaskNo → T → Set T
  inserted s number task =
      record s { shards = slice_set s.shards (shard_of s number) (with_task (shard_at s (shard_of s number)) number.0 task) }

  abbrev pub removed : Set T → TaskNo → Set T
  removed s number = record s { shards = slice_set s.shards (shard_of s number) (without_task (shard_at s (shard_of s number)) number.0) }

  -- the new set holds this of the task of that number, and what the old one does of any other
  pub record Changes (old new : Set T) (number : TaskNo) (task : Option T) : Type 0 where
    pub changed : held new number ≡ task
    pub others : (other : TaskNo) → other.0 ≢ number.0 → held new other ≡ held old other

  -- the set refuses for this reason, and hands this back
  abbrev pub IsRefused : Set T → T → Refusal T → Type 0
  IsRefused s back (Refusal.Closed task) = (task ≡ back) × (s.closed ≡ true)
  IsRefused s back (Refusal.NoMemory task) = (task ≡ back) × (s.closed ≡ false)

-- the shard after this one, round all of them
abbrev pub next_shard : ℕ → ℕ → ℕ
next_shard count at = if at + 1 == count then 0 else at + 1

-- the drain once it found its shard empty
abbrev pub passed : ℕ → Drain → Drain
passed count d = record { at = next_shard count d.at; left = d.left - 1 }

module _ {T : Type 0} where
  -- the shards from this one on, round all of them
  abbrev pub from_shard : List (List (ℕ × T)) → ℕ → List (List (ℕ × T))
  from_shard shards at = drop at shards ++ take at shards

  -- the tasks of so many shards, from this one on: of each the newest first
  abbrev pub to_come : List (List (ℕ × T)) → ℕ → ℕ → List (ℕ × T)
  to_come shards at left = flat_map reverse (take left (from_shard shards at))

  -- a drain by this worker, before its first visit
  abbrev pub drain_of : Set T → ℕ → Drain
  drain_of s worker = record { at = worker * 4 % length s.shards; left = length s.shards }

  -- what was handed out, and then these
  abbrev pub came : Option (TaskNo × T) → List (ℕ × T) → List (ℕ × T)
  came None later = later
  came (Some t) later = (t.0.0, t.1) ∷ later

  -- the drain is one of this set
  pub record IsFor (d : Drain) (s : Set T) : Type 0 where
    pub there : d.at < length s.shards
    pub few : d.left ≤ length s.shards

  -- the newest task of this shard is gone, and nothing else
  pub record TakesNewest (shard : ℕ) (t : TaskNo × T) (old new : Set T) : Type 0 where
    pub was_held : held old t.0 ≡ Some t.1
    pub newest : shard_at old shard ≡ shard_at new shard ++ (t.0.0, t.1) ∷ []
    pub others : new ≡ record old { shards = slice_set old.shards shard (shard_at new shard) }
    pub changes : Changes old new t.0 None
