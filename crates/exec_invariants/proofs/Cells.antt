-- What a wake makes of a cell, and what is seen of that.
use Rattle.exec_invariants.proofs.Names.{◌≡◌, ℕ, Option, arith, is_polled, cell_woken, is_cell_idle, Said, Phase, woken, is_idle, TaskSlot, is_complete, woken_slot, Spot, body_in, phase_seen, task_seen}

module _ {B : Type 0} where
  pub body_woken : (p : Phase B) (b : Option B) → body_in (cell_woken p) b ≡ body_in p b
  body_woken = grind arith

  pub idle_seen : (p : Phase B) (i : ℕ) → is_idle (phase_seen p i) ≡ is_cell_idle p
  idle_seen = grind arith

  pub polled_woken : (p : Phase B) → is_polled (cell_woken p) ≡ is_polled p
  polled_woken = grind arith

  pub complete_woken : (p : Phase B) → is_complete (cell_woken p) ≡ is_complete p
  complete_woken = grind arith

module _ {B L : Type 0} (left : B → L) (spot : L → Option Said → Spot) where
  pub woken_seen : (slot : TaskSlot B) → task_seen left spot (woken_slot slot) ≡ woken (task_seen left spot slot)
  woken_seen = grind arith
