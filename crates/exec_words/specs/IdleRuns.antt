-- Calls on the search count, one after another.
use Rattle.std.specs.Prelude.{ℕ, ◌+◌, ◌-◌, ◌==◌, List, [], ◌∷◌, if◌then◌else◌}

-- a call on the count
pub data Change : Type 0 where
  Add : Change
  Subtract : Change
  Exchange : Change

-- the count, what was added and exchanged in so far, and what was subtracted
pub record Tally : Type 0 where
  pub count : ℕ
  pub came_in : ℕ
  pub went_out : ℕ

-- nobody subtracts from 0, and an exchange changes 0 alone
abbrev pub after : Tally → Change → Tally
after t Add = record t { count = t.count + 1; came_in = t.came_in + 1 }
after t Subtract = if t.count == 0 then t else record t { count = t.count - 1; went_out = t.went_out + 1 }
after t Exchange = if t.count == 0 then record t { count = 1; came_in = t.came_in + 1 } else t

abbrev pub after_all : Tally → List Change → Tally
after_all t [] = t
after_all t (change ∷ rest) = after_all (after t change) rest

-- nobody searches, and no call was made
abbrev pub nothing : Tally
nothing = record { count = 0; came_in = 0; went_out = 0 }
