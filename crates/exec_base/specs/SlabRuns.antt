-- Calls on a slab that change it, one after another, and the ids that they give.
use Rattle.std.specs.Prelude.{◌≢◌, ℕ, List, [], ◌∷◌, Option, Some, None, is_some, if◌then◌else◌}
use Rattle.exec_base.specs.{declared.slab.Id.Id, Slab.{Slab, value_at, next_id, inserted, removed, written}}

-- a call that changes a slab
pub data Change (T : Type 0) : Type 0 where
  Insert : (value : T) → Change T
  Remove : (id : Id) → Change T
  Write : (id : Id) → (value : T) → Change T

-- the id isn't in the list
abbrev pub IsNew : Id → List Id → Type 0
IsNew id [] = Unit {0}
IsNew id (other ∷ rest) = (id ≢ other) × IsNew id rest

-- no id is in the list twice
abbrev pub NoneTwice : List Id → Type 0
NoneTwice [] = Unit {0}
NoneTwice (id ∷ rest) = IsNew id rest × NoneTwice rest

-- the id that an insert gives, and then these
abbrev pub given_then : Option Id → List Id → List Id
given_then None later = later
given_then (Some id) later = id ∷ later

module _ {T : Type 0} where
  -- no slots yet
  abbrev pub empty_from : ℕ → Slab T
  empty_from first = record { slots = []; vacant = []; first = first; room = 0 }

  -- with the id that an insert gives there is one more value; without one the slab is full, and stays
  abbrev pub insert_at : Slab T → T → Option Id → Slab T
  insert_at s value None = s
  insert_at s value (Some _) = inserted s value

  -- the slab after a call; a call with an id that isn't live changes nothing
  abbrev pub after : Slab T → Change T → Slab T
  after s (Insert value) = insert_at s value (next_id s)
  after s (Remove id) = if is_some (value_at s id) then removed s id else s
  after s (Write id value) = if is_some (value_at s id) then written s id value else s

  -- the ids that these calls give, in order
  abbrev pub ids_given : Slab T → List (Change T) → List Id
  ids_given s [] = []
  ids_given s (Insert value ∷ rest) = given_then (next_id s) (ids_given (after s (Insert value)) rest)
  ids_given s (Remove id ∷ rest) = ids_given (after s (Remove id)) rest
  ids_given s (Write id value ∷ rest) = ids_given (after s (Write id value)) rest
