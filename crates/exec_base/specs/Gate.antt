-- What a contract sees of a gate: who holds it, and who waits, in the order in which they came.
use Rattle.std.specs.Prelude.{◌≡◌, ℕ, ◌<◌, ◌⊎◌, List, [], ◌∷◌, ◌++◌, length, drop, slice_get, Option, Some, None, is_none, if◌then◌else◌}

-- the holder, those who wait, and for how many waiting ones there is room
pub record Gate (T : Type 0) : Type 0 where
  pub holder : Option T
  pub waiting : List T
  pub room : ℕ

module _ {T : Type 0} where
  -- one more can enter: the gate is open, or there is room in the list
  abbrev pub HasPlace : Gate T → Type 0
  HasPlace g = (g.holder ≡ None) ⊎ (length g.waiting < g.room)

  -- the gate once this one came: it holds the gate, or is the last of those who wait
  abbrev pub entered : Gate T → T → Gate T
  entered g id = if is_none g.holder then (record g { holder = Some id }) else (record g { waiting = g.waiting ++ id ∷ [] })

  -- the gate once its holder left: the first of those who wait holds it
  abbrev pub left : Gate T → Gate T
  left g = record g { holder = slice_get g.waiting 0; waiting = drop 1 g.waiting }

-- an example: number 3 holds the gate
abbrev pub held_by_three : Gate ℕ
held_by_three = record { holder = Some 3; waiting = []; room = 3 }
