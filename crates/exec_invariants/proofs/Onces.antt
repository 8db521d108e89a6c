-- A task has at most one runnable.
use Rattle.exec_invariants.{specs.Whole.{HasOne, IsLeftOver, IsQueuedOnce}, proofs.Words.{◌≡◌, ℕ, ◌≤◌, Bool, true, false, arith, Phase}}

pub once_queued : (gone : Bool) (n : ℕ) → n ≡ 1 → IsQueuedOnce gone n
once_queued true n one = omega (arith, one)
once_queued false n one = one

-- what a task that is over has left: none, or at most one, and fewer the same way
pub leaves_none : (gone : Bool) (n : ℕ) → n ≡ 0 → IsLeftOver gone n
leaves_none true n none = omega (arith, none)
leaves_none false n none = none

module _ {B : Type 0} where
  pub has_at_most : (gone : Bool) (p : Phase B) (n : ℕ) → HasOne gone p n → n ≤ 1
  has_at_most = grind arith

  -- fewer, where runnables may be let go
  pub has_fewer : (gone : Bool) (p : Phase B) (n m : ℕ) → gone ≡ true → m ≤ n → HasOne gone p n → HasOne gone p m
  has_fewer = grind arith
