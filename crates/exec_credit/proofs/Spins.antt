-- No spin is longer than the longest, whatever a spinner learns.
use Rattle.std.proofs.Common.{◌≡◌, ℕ, ◌*◌, ◌≤◌, ◌==◌, Bool, true, false, if◌then◌else◌, refl, arith}
use Rattle.exec_machine.specs.{declared.config.Spin.Spin, Ranges.largest_spin}

pub within_largest : (spin : Spin) (n : ℕ) → ((spin.budget * spin.iterations == 0) ≡ true → n ≡ 0) → n ≤ spin.most * spin.iterations → n ≤ largest_spin spin
within_largest spin n none le = by (spin.budget * spin.iterations == 0) refl
  where
    by : (b : Bool) → (spin.budget * spin.iterations == 0) ≡ b → n ≤ (if b then 0 else spin.most * spin.iterations)
    by true h = omega (arith, none h)
    by false h = le
