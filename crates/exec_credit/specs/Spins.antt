-- No spin is longer than the longest.
use Rattle.std.specs.Prelude.{◌≡◌, ◌≤◌, true, ◌*◌, ◌==◌}
use Rattle.exec_base.specs.Spinner.{Spinner}
use Rattle.exec_machine.specs.{declared.config.Spin.Spin, Ranges.largest_spin}
use Rattle.exec_moves.specs.declared.{place.Place.{Place, Place as at}, idling.InWordWait.InWordWait as word_wait}

-- no budget of a spinner is larger than the largest
pub record IsWithin (spin : Spin) (s : Spinner) : Type 0 where
  pub budget : s.budget ≤ spin.most * spin.iterations
  pub floor : s.floor ≤ spin.most * spin.iterations
  pub least : s.min_budget ≤ spin.most * spin.iterations
  pub most : s.max_budget ≤ spin.most * spin.iterations
  pub none : (spin.budget * spin.iterations == 0) ≡ true → s.budget ≡ 0

-- no more looks are left of a spin than the largest has
abbrev pub IsShort : Spin → Place → Type 0
IsShort spin (at.WordWait (word_wait.SpinOnBatch left)) = left ≤ largest_spin spin
IsShort spin (at.WordWait (word_wait.SpinOnLatch left)) = left ≤ largest_spin spin
IsShort spin _ = Unit {0}
