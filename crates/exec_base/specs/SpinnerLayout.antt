-- The fields of a spinner as what a contract sees, and the bounds that they keep.
use Rattle.std.specs.Prelude.{◌≤◌}
use Rattle.exec_base.specs.{declared.spinner.Spinner.TheInside.Inside, Spinner.Spinner}

abbrev pub spinner_of : Inside → Spinner
spinner_of s = record {
  budget = s.budget;
  floor = s.floor;
  min_budget = s.min_budget;
  max_budget = s.max_budget;
  iters_per_us = s.iters_per_us;
  quick_wake = s.quick_wake;
}

-- the budget lies between the least and the greatest, and the floor isn't above the greatest
pub record IsInBounds (s : Inside) : Type 0 where
  pub least : s.min_budget ≤ s.budget
  pub most : s.budget ≤ s.max_budget
  pub floor_most : s.floor ≤ s.max_budget
