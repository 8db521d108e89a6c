-- Slabs to look at.
use Rattle.std.specs.Prelude.{ℕ, ◌^◌, ◌-◌, []}
use Rattle.exec_base.specs.{declared.slab.Id.Id, Slab.{Slab, inserted, removed}}

abbrev pub named : ℕ → ℕ → Id
named index generation = record { index = index; generation = generation }

-- no slots yet
abbrev pub empty_from : ℕ → Slab ℕ
empty_from first = record { slots = []; vacant = []; first = first; room = 0 }

-- three values
abbrev pub three : Slab ℕ
three = inserted (inserted (inserted (empty_from 0) 1) 2) 3

-- the first is removed, and then the last
abbrev pub one_left : Slab ℕ
one_left = removed (removed three (named 0 0)) (named 2 0)

-- and two more come
abbrev pub refilled : Slab ℕ
refilled = inserted (inserted one_left 4) 5

-- a slot that had one value, with one generation left
abbrev pub last_but_one : Slab ℕ
last_but_one = removed (inserted (empty_from (2 ^ 64 - 2)) 1) (named 0 (2 ^ 64 - 2))

-- and none left
abbrev pub retired : Slab ℕ
retired = removed (inserted last_but_one 2) (named 0 (2 ^ 64 - 1))
