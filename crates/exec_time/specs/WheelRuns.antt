-- Calls on a wheel that change it, one after another.
use Rattle.std.specs.Prelude.{◌≡◌, ℕ, ◌⊎◌, List, [], ◌∷◌, drop}
use Rattle.exec_base.specs.declared.slab.Id.{Id}
use Rattle.exec_time.specs.{Wheel.{Wheel, scheduled, removed}, Turning.advanced}

-- a call that changes a wheel
pub data Call : Type 0 where
  Schedule : (id : Id) → (tick : ℕ) → Call
  Remove : (tick : ℕ) → Call
  Advance : (now : ℕ) → Call
  HandOut : Call

-- the wheel after a call
abbrev pub after : Wheel → Call → Wheel
after w (Schedule id tick) = scheduled w id tick
after w (Remove tick) = removed w tick
after w (Advance now) = (advanced w now).wheel
after w HandOut = record w { ready = drop 1 w.ready }

-- the wheel after these calls, of which the latest stands first
abbrev pub after_all : Wheel → List Call → Wheel
after_all w [] = w
after_all w (latest ∷ before) = after (after_all w before) latest

-- the call is one of these
abbrev pub IsAmong : Call → List Call → Type 0
IsAmong call [] = ⊥
IsAmong call (c ∷ calls) = (c ≡ call) ⊎ IsAmong call calls

-- an id was scheduled by one of these calls, at some tick. Where that tick has no active entry now, one of them was a
-- removal at it
pub record WasScheduled (w : Wheel) (calls : List Call) (id : Id) : Type 0 where
  pub tick : ℕ
  pub made : IsAmong (Schedule id tick) calls
  pub unless_active : w.active tick ≡ 0 → IsAmong (Remove tick) calls
