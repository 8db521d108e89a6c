-- Which work a worker runs, and what it needs to begin.
use Rattle.std.specs.Prelude.{◌^◌, ◌≤◌, Bool, true, false, ◌==◌}
use Rattle.exec_parts.specs.{Words.{LONGEST_TIMEOUT, Configuration, ticks_needed}, declared.parts.role.Role.{Role, TheVariants.{Pool, Dedicated}}}

abbrev pub is_pool : Role → Bool
is_pool (Pool n) = true
is_pool Dedicated = false

-- the first of the pool runs the runner's own root
abbrev pub owns_runner : Role → Bool
owns_runner (Pool n) = n == 0
owns_runner Dedicated = false

-- the ranges that the ring, the wheel and the spins of a worker rest on
pub record MayBegin (c : Configuration) : Type 0 where
  pub ring : c.ring ≤ 32768
  pub tick : (1 ≤ c.tick) × (c.tick ≤ LONGEST_TIMEOUT)
  pub connect : (1 ≤ c.connect) × (c.connect ≤ LONGEST_TIMEOUT)
  pub rw : (1 ≤ c.rw) × (c.rw ≤ LONGEST_TIMEOUT)
  pub spins : c.spin.budget ≤ c.spin.most
  pub layout : ticks_needed c ≤ 2 ^ 20
