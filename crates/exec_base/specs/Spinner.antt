-- What a contract sees of a spinner, in looks, and how it is adapted.
use Rattle.std.specs.Prelude.{◌≡◌, ℕ, zero, suc, ◌+◌, ◌-◌, ◌*◌, ◌/◌, ◌^◌, ◌<◌, ◌==◌, min, max, nat_lt, Bool, true, false, if◌then◌else◌}
use Rattle.exec_base.specs.declared.spinner.SpinnerConfig.{SpinnerConfig}

-- the budget, the floor that it has learned, its least and greatest budget, how many looks take a microsecond,
-- and up to how many nanoseconds a sleep counts as a quick wake
pub record Spinner : Type 0 where
  pub budget : ℕ
  pub floor : ℕ
  pub min_budget : ℕ
  pub max_budget : ℕ
  pub iters_per_us : ℕ
  pub quick_wake : ℕ

-- a number that stands still at the end of 64 bits
abbrev pub capped : ℕ → ℕ
capped n = min n (2 ^ 64 - 1)

-- a new spinner, at its least budget
abbrev pub begun : SpinnerConfig → ℕ → Spinner
begun c iters = record {
  budget = capped (c.budget_us * iters);
  floor = capped (c.budget_us * iters);
  min_budget = capped (c.budget_us * iters);
  max_budget = capped (c.max_budget_us * iters);
  iters_per_us = iters;
  quick_wake = capped (c.quick_wake_us * 1000);
}

-- a hit: a quarter more
abbrev pub after_hit : Spinner → Spinner
after_hit s = record s { budget = min (s.budget + s.budget / 4) s.max_budget }

-- a miss: an eighth less, but not below the floor, which is a sixteenth less; nothing where nothing was called
abbrev pub after_miss : Spinner → Spinner
after_miss s =
    let floor = s.floor - s.floor / 16 in
    if s.budget == 0 then s else (record s { floor = floor; budget = max (max (s.budget - s.budget / 8) floor) s.min_budget })

-- a spin that ended so
abbrev pub after_spin : Spinner → Bool → Spinner
after_spin s hit = if hit then after_hit s else after_miss s

-- how many looks fit into so many nanoseconds
abbrev pub looks_in : ℕ → ℕ → ℕ
looks_in nanos iters = capped (nanos * iters / 1000)

-- a wake after so many nanoseconds: where it was quick a half more, and the floor goes a quarter of the way to the
-- looks that would have met the work
abbrev pub after_wake : Spinner → ℕ → Spinner
after_wake s nanos =
    if nat_lt s.quick_wake nanos then s else (record s {
      budget = min (s.budget + s.budget / 2) s.max_budget;
      floor = min (capped (3 * s.floor + looks_in nanos s.iters_per_us) / 4) s.max_budget;
    })

module _ {C : Type 0} (call : C → Bool → C → Type 0) where
  -- so many calls, one after another, each of which answers false
  abbrev pub Misses : ℕ → C → C → Type 0
  Misses zero first last = last ≡ first
  Misses (suc n) first last = (next : C) × call first false next × Misses n next last

  -- a hit within the budget: some calls that answer false, then one that answers true, and none after it
  pub record IsHit (budget : ℕ) (first last : C) : Type 0 where
    pub misses : ℕ
    pub within : misses < budget
    pub before : C
    pub missed : Misses misses first before
    pub hit : call before true last

  -- the calls of a spin with this answer; a miss is as many calls as the budget says, which all answer false
  abbrev pub IsSpun : ℕ → C → C → Bool → Type 0
  IsSpun budget first last true = IsHit budget first last
  IsSpun budget first last false = Misses budget first last

-- an example: budget 10, at most 50, quick wakes up to 50 microseconds, with 5 looks a microsecond
abbrev pub ten_to_fifty : Spinner
ten_to_fifty = begun (record { budget_us = 10; max_budget_us = 50; quick_wake_us = 50 }) 5
