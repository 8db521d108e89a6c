-- What an enrolment of a deadline gives, for the driver and for the machine.
use Rattle.exec_time.specs.Wheel.{target_of}
use Rattle.exec_invariants.{proofs.Names.{◌≡◌, ℕ, ◌+◌, ◌-◌, ◌*◌, ◌/◌, ◌^◌, ◌<◌, ◌≤◌, ◌&&◌, ◌||◌, Bool, true, false, not, Option, Some, None, refl, ap, ◌∙◌, arith, nat_le, nat_lt, if◌then◌else◌, Result, Ok, Err, nat_tests, div_ceil, lt-ltb, leb-false, InvalidInput, Error, Timeout, Io, Outcome, Failure, Wheel, moment_of, tick_by, tick_for, ended_by, Configuration, outcome_at_enrol, tick_from, wheel_slots, Own, first_tick, outcome_of_error}, specs.Due.IsWheelAt}

-- NUMBERS

-- the two ways to round a quotient up
pub rounded_up : (x y : ℕ) → 0 < y → (x + (y - 1)) / y ≡ div_ceil x y
rounded_up = grind arith

-- a deadline that is ahead rounds to a tick that is ahead
ahead_of : (start now deadline tick : ℕ) → 0 < tick → start ≤ now → now < deadline → (now - start) / tick < div_ceil (deadline - start) tick
ahead_of = grind arith

lt_not_le : (a b : ℕ) → nat_lt a b ≡ not (nat_le b a)
lt_not_le a b = grind (arith, nat_tests)

-- WHAT COMES OF IT

abbrev pub chosen : Bool → Bool → Bool → Bool → ℕ → Option (Option ℕ)
chosen le far above below t = if le then Some None else if far then None else if above && below then Some (Some t) else None

abbrev pub outcome_by : Bool → Bool → Bool → Option Outcome
outcome_by le far beyond = if le then Some (Failure Timeout) else if far || beyond then Some (Failure (Io InvalidInput)) else None

pub target_seen : (w : Wheel) (deadline now : ℕ) → target_of w deadline now
    ≡ chosen (nat_le deadline now) (nat_lt w.horizon (deadline - now)) (nat_lt w.current (div_ceil (deadline - w.start) w.tick)) (nat_lt (div_ceil (deadline - w.start) w.tick) (w.current + w.slots)) (div_ceil (deadline - w.start) w.tick)
unfolding target_of
target_seen w deadline now = refl

same_all : (le far above below beyond : Bool) (w : Wheel) (t : ℕ) → (le ≡ false → above ≡ true) → below ≡ not beyond → (le ≡ false → nat_lt (moment_of w t) (2 ^ 64) ≡ true)
    → outcome_of_error (ended_by (tick_by w (chosen le far above below t))) ≡ outcome_by le far beyond
same_all = grind arith

-- the tick that it gets
ok_is : (le far above below : Bool) (w : Wheel) (t m : ℕ) → tick_by w (chosen le far above below t) ≡ Ok m → (m ≡ t) × (le ≡ false)
ok_is = grind arith

pub ended_not : (r : Result ℕ Error) → ended_by r ≡ None → (t : ℕ) × (r ≡ Ok t)
ended_not (Ok t) is = (t, refl)
ended_not (Err error) is = absurd (cc)

module _ (c : Configuration) (me : Own) (w : Wheel) (now deadline : ℕ) (at : IsWheelAt c me.start now w) (sampled : me.sampled ≡ now) (some : 0 < c.tick) (begun : me.start ≤ now) (fits : deadline + c.tick < 2 ^ 64) where
  abbrev pub ticks : ℕ
  ticks = div_ceil (deadline - me.start) c.tick

  ticks_are : div_ceil (deadline - w.start) w.tick ≡ ticks
  ticks_are = ap (λ x. div_ceil (deadline - x) w.tick) at.start ∙ ap (λ x. div_ceil (deadline - me.start) x) at.tick

  in_time_then : now < deadline → me.start + ticks * c.tick < 2 ^ 64
  in_time_then = grind arith

  above : nat_le deadline now ≡ false → nat_lt w.current (div_ceil (deadline - w.start) w.tick) ≡ true
  above is = grind (arith, ticks_are, at.current, lt-ltb ((now - me.start) / c.tick) ticks (ahead_of me.start now deadline c.tick some begun (leb-false deadline now is)))

  below : nat_lt (div_ceil (deadline - w.start) w.tick) (w.current + w.slots) ≡ not (nat_le ((now - me.start) / c.tick + wheel_slots c) (tick_from c me deadline))
  below = grind (arith, ticks_are, lt_not_le, rounded_up)

  in_range : nat_le deadline now ≡ false → nat_lt (moment_of w (div_ceil (deadline - w.start) w.tick)) (2 ^ 64) ≡ true
  in_range = grind (arith, ticks_are, lt-ltb, in_time_then, leb-false)

  pub enrol_same : outcome_of_error (ended_by (tick_for w deadline now)) ≡ outcome_at_enrol c me (Some deadline)
  enrol_same = grind (arith, target_seen, same_all, above, below, in_range)

  -- where it goes on the wheel
  pub enrolled_at : (t : ℕ) → tick_for w deadline now ≡ Ok t → (w.start + t * w.tick ≡ first_tick me.start c.tick deadline) × (now < deadline)
  enrolled_at = grind (arith, ok_is, target_seen, ticks_are, rounded_up, leb-false)
