-- Who is taken out of what is due, or of what is to be enrolled, leaves a driver as it should be.
use Rattle.std.proofs.Common.{◌≡◌, ◌<◌, ◌≤◌, ◌+◌, ◌^◌, Ok, ℕ, List, [], length, Option, Some, None, refl, arith, ltb, Bool, ◌&&◌, cond}
use Rattle.exec_driver.{proofs.{Words.{Slab, Wheel, moment_of, waiter_at, Waiter, Entry, WaiterId, Driving, is_unenrolled, is_enrolled, first_of, IsListed, IsHeld, tick_for, is_some, tick_of}, Granting.{IsUnset, unset_tells}, Stepping.{first_in, first_there}}, specs.Steps.tick_by}
use Rattle.exec_time.specs.Wheel.{target_of}

by_range : (a b : Bool) (t tick low high : ℕ) → cond a (Some None) (cond b None (cond (ltb low t && ltb t high) (Some (Some t)) None)) ≡ Some (Some tick) → (low < tick) × (tick < high)
by_range = grind arith

pub target_tells : (w : Wheel) (deadline now tick : ℕ) → target_of w deadline now ≡ Some (Some tick) → (w.current < tick) × (tick < w.current + w.slots)
unfolding target_of
target_tells w deadline now tick is = by_range _ _ _ tick w.current (w.current + w.slots) is

module _ {S F : Type 0} where
  pub enrolled_is : (o : Option (Waiter S F)) → is_enrolled o ≡ is_some (tick_of o)
  enrolled_is = grind arith

by_target : (w : Wheel) (o : Option (Option ℕ)) (tick : ℕ) → tick_by w o ≡ Ok tick → (o ≡ Some (Some tick)) × (moment_of w tick < 2 ^ 64)
by_target = grind arith

pub record IsTaken (w : Wheel) (tick : ℕ) : Type 0 where
  pub ahead : w.current < tick
  pub span : tick < w.current + w.slots
  pub in_time : moment_of w tick < 2 ^ 64

pub tick_tells : (w : Wheel) (deadline now tick : ℕ) → tick_for w deadline now ≡ Ok tick → IsTaken w tick
tick_tells = grind (arith, by_target, target_of, target_tells)

pub some_first : (ids : List WaiterId) (id : WaiterId) → first_of ids ≡ Some id → 0 < length ids
some_first = grind arith

module _ {S F : Type 0} where
  -- a change of what is due, and of the wheel but for what is active in it
  pub held_due : (d : Driving S F) (w : Wheel) (due : List WaiterId) (room room' most spots : ℕ) → ((t : ℕ) → w.active t ≡ d.wheel.active t) → w.ready ≡ [] → IsListed is_enrolled d.requests due → room ≤ room' → IsHeld d room most spots → IsHeld (record d { wheel = w; lists = record d.lists { due = due } }) room' most spots
  held_due = grind arith

  -- the first whose deadline is to be enrolled is there
  pub record IsUnsetThere (o : Option (Waiter S F)) : Type 0 where
    pub w : Waiter S F
    pub at : o ≡ Some w
    pub unset : IsUnset w

  pub unset_there : (s : Slab (Entry S F)) (ids : List WaiterId) (id : WaiterId) → first_of ids ≡ Some id → IsListed is_unenrolled s ids → IsUnsetThere (waiter_at s id.0)
  unset_there s ids id first listed =
      let there = first_there is_unenrolled refl s ids id first listed in
      record { w = there.0; at = there.1; unset = unset_tells there.0 (rw there.1 at (first_in is_unenrolled s ids id first listed)) }
