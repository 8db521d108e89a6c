-- Of each place of an open worker that is in no poll: what is left of its stagings, how high it stands in the turn, and whether the callbacks are over.
use Rattle.std.proofs.Common.{◌≡◌, ℕ, ◌≤◌, true, false, arith, ◌⊎◌, inl, inr}
use Rattle.exec_machine.specs.World.{Common}
use Rattle.exec_moves.specs.{declared.{place.{Place.Place}}}
use Rattle.exec_rest.specs.Posted.{has_tested}
use Rattle.exec_progress.specs.{Effort.{begun_gates, gates_left, is_short, stagings}, Going.{has_called_back, is_of_closing}, Owed.{finds, stage, staging}}

module _ (i : ℕ) (s : Common) (picks : ℕ) where
  -- no staging is left there
  abbrev NoGates : Place → Type 0
  NoGates p = gates_left i s p ≤ 0

  -- after the callbacks: before the test for work, or after it. Or before their end, and either no staging is left or it is ahead.
  abbrev pub Kind : Place → Type 0
  Kind p = ((has_called_back p ≡ true) × NoGates p) ⊎ (((has_tested p ≡ true) × (finds p ≡ false) × NoGates p) ⊎ ((finds p ≡ false) × (1 ≤ stage picks p) × (NoGates p ⊎ (staging ≤ stage picks p))))

  -- at this stage with so many stagings left
  abbrev Stands : ℕ → ℕ → Type 0
  Stands n k = ((1 ≤ n) × (k ≡ 0)) ⊎ (staging ≤ n)

  stands : (p : Place) (n k : ℕ) → finds p ≡ false → begun_gates i s p ≡ 0 → stage picks p ≡ n → stagings p ≡ k → Stands n k → Kind p
  stands p n k unfound begun at left (inl (h, none)) = inr (inr (unfound, omega (arith, at, h), inl (rw (begun, left, none) (omega arith))))
  stands p n k unfound begun at left (inr h) = inr (inr (unfound, omega (arith, at, h), inr (omega (arith, at, h))))

  -- WHAT FOLLOWS

  -- A SERVICE

  -- EACH PLACE

  pub kind : (p : Place) → is_short p ≡ false → is_of_closing p ≡ false → Kind p
  kind = grind arith
