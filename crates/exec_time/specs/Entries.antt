-- Buckets and active entries, kept as lists.
use Rattle.std.specs.{Prelude.{ℕ, ◌%◌, ◌<◌, ◌≤◌, Bool, List, ◌==◌, map, filter, count_by, length, slice_index_or}, List.Sorted.IsNonDecreasingBy}
use Rattle.exec_base.specs.declared.slab.Id.{Id}
use Rattle.exec_time.specs.declared.entries.Entry.{Entry}

-- whether an entry is in this slot
abbrev pub is_in_slot : ℕ → ℕ → Entry → Bool
is_in_slot slots slot entry = (entry.tick % slots) == slot

-- the ids of the entries in a slot, in order
unfoldable pub bucket_in : List Entry → ℕ → ℕ → List Id
bucket_in entries slots slot = map (λ entry. entry.id) (filter (is_in_slot slots slot) entries)

-- how often a tick is in a list
unfoldable pub active_in : List ℕ → ℕ → ℕ
active_in ticks tick = count_by (λ t. t == tick) ticks

-- entries stand by slot
abbrev pub IsBySlot : ℕ → List Entry → Type 0
IsBySlot slots entries = IsNonDecreasingBy (λ entry. entry.tick % slots) entries

-- ticks are ascending
abbrev pub IsRising : List ℕ → Type 0
IsRising ticks = IsNonDecreasingBy (λ tick. tick) ticks

-- a tick may stand at place i of these: none before it is greater, and none from there on is less
pub record IsPlaceOf (tick : ℕ) (ticks : List ℕ) (i : ℕ) : Type 0 where
  pub within : i ≤ length ticks
  pub low : (k d : ℕ) → k < i → slice_index_or ticks k d ≤ tick
  pub high : (k d : ℕ) → i ≤ k → k < length ticks → tick ≤ slice_index_or ticks k d
