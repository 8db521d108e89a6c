-- What a contract sees of a pool's idle set and search count.
use Rattle.std.specs.Prelude.{ℕ, Bool, false, List, Option, position, slice_index_or}

-- which workers are published, by their numbers, and how many search counts there are
pub record Idle : Type 0 where
  pub published : List Bool
  pub count : ℕ

-- the worker of this number is in the set
abbrev pub is_in : List Bool → ℕ → Bool
is_in set worker = slice_index_or set worker false

-- the lowest number in the set
abbrev pub lowest_of : List Bool → Option ℕ
lowest_of set = position (λ is_there. is_there) set
