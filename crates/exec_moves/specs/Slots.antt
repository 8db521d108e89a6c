-- The slots of what a worker has by number: requests, or sleepers.
--
-- What comes takes the slot that was freed last, or a new one. What a worker goes through slot by slot, it goes through in
-- this order.
use Rattle.std.specs.Prelude.{ℕ, suc, Bool, true, false, ◌==◌, ◌++◌, List, [], ◌∷◌, slice_set, Option, Some, None, if◌then◌else◌}

pub record Slots : Type 0 where
  -- the number in each slot, and the slots that are vacant, the one freed last first
  pub held : List (Option ℕ)
  pub vacant : List ℕ

abbrev pub no_slots : Slots
no_slots = record { held = []; vacant = [] }

-- this number comes
abbrev pub entered : ℕ → Slots → Slots
entered n x = into x.vacant
  where
    into : List ℕ → Slots
    into [] = record x { held = x.held ++ Some n ∷ [] }
    into (k ∷ later) = record { held = slice_set x.held k (Some n); vacant = later }

abbrev pub is_it : ℕ → Option ℕ → Bool
is_it n None = false
is_it n (Some m) = n == m

-- the slot, from slot k on, that has this number
abbrev pub slot_of : ℕ → ℕ → List (Option ℕ) → Option ℕ
slot_of n k [] = None
slot_of n k (it ∷ later) = if is_it n it then Some k else slot_of n (suc k) later

-- this number leaves, where it is there
abbrev pub vacated : ℕ → Slots → Slots
vacated n x = out (slot_of n 0 x.held)
  where
    out : Option ℕ → Slots
    out None = x
    out (Some k) = record { held = slice_set x.held k None; vacant = k ∷ x.vacant }

abbrev pub is_some_slot : Option ℕ → Bool
is_some_slot None = false
is_some_slot (Some k) = true

-- it is there
abbrev pub is_in_slots : ℕ → Slots → Bool
is_in_slots n x = is_some_slot (slot_of n 0 x.held)

-- all numbers, by slots
abbrev pub numbers_in : List (Option ℕ) → List ℕ
numbers_in [] = []
numbers_in (None ∷ later) = numbers_in later
numbers_in (Some n ∷ later) = n ∷ numbers_in later

-- the first number, by slots, that passes the test
abbrev pub first_in : (ℕ → Bool) → List (Option ℕ) → Option ℕ
first_in test [] = None
first_in test (None ∷ later) = first_in test later
first_in test (Some n ∷ later) = if test n then Some n else first_in test later
