-- What an enter and a reaping do to the wake poll of a ring, and what that tells the worker.
use Rattle.std.{proofs.{Common.{◌≡◌, ℕ, ◌+◌, Bool, true, ◌||◌, List, ◌∷◌, nat_lt, Option, None, arith, if◌then◌else◌, []}, lemmas.Bool.{false≢true, ltb-true, lt-ltb, le-leb}}, specs.Prelude.is_some}
use Rattle.exec_moves.specs.State.{WakePoll, dropped, is_dropped, taken_in}
use Rattle.exec_rest.proofs.Sides.{Keeps}

pub keeps_taken : (polled : Bool) (w : WakePoll) (landed : List ℕ) → Keeps w (taken_in polled w) landed landed
keeps_taken = grind arith

-- AN ENTER, of a poll that was asked for: b says that something has landed, o and u whether something of no operation stands before it and then
module _ (b o u : Bool) (more : o ≡ true → u ≡ true) where
  abbrev told_then : WakePoll → Bool
  told_then w = b || u || (taken_in true w).told

  -- the kernel has the poll then, unless there is a completion
  pub polled_by_enter : (w : WakePoll) → (is_some w.ended ≡ true → (b || w.told) ≡ true) → ((taken_in true w).armed || told_then w) ≡ true
  polled_by_enter = grind arith

pub more_others : (n m : ℕ) → nat_lt 0 n ≡ true → nat_lt 0 (n + m) ≡ true
more_others n m h = let some = ltb-true 0 n h in lt-ltb 0 (n + m) (omega (arith, some))

-- A REAPING

-- without another completion the one that ended the poll is dropped
all_dropped : (e : Option ℕ) → is_some (if is_dropped [] e then None else e) ≡ true → ⊥
all_dropped = grind (arith, false≢true, le-leb)

-- what landed later is left
pub keeps_dropped : (w : WakePoll) (r : ℕ) (later : List ℕ) → Keeps w (dropped later w) (r ∷ later) later
keeps_dropped = grind (arith, all_dropped)

pub keeps_dropped_all : (w : WakePoll) (landed : List ℕ) → Keeps w (dropped [] w) landed landed
keeps_dropped_all w landed = record { kept = λ h. h; ended = λ before some. absurd (all_dropped w.ended some) }
