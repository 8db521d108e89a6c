-- How a wheel goes on.
use Rattle.std.specs.{Prelude.{ℕ, ◌+◌, ◌-◌, Bool, List, [], ◌++◌, length, Option, None, Some, if◌then◌else◌, ◌==◌, ◌||◌, nat_le, nat_lt, map}, List.{flat_map, range_with_len, list_any}}
use Rattle.exec_base.specs.declared.slab.Id.{Id}
use Rattle.exec_time.specs.Wheel.{Wheel, slot_of, tick_at, least_active}

-- whether going on to this tick is a full revolution, or more
abbrev pub is_full_turn : Wheel → ℕ → Bool
is_full_turn w tick = nat_le w.slots (tick - w.current)

-- the ticks that are passed on the way to this one, from the one after the current tick on; after a full
-- revolution one tick for each slot, from slot 0 on
abbrev pub ticks_passed : Wheel → ℕ → List ℕ
ticks_passed w tick =
    if is_full_turn w tick then range_with_len 0 w.slots else range_with_len (w.current + 1) (tick - w.current)

-- their slots
unfoldable pub slots_passed : Wheel → ℕ → List ℕ
slots_passed w tick = map (slot_of w) (ticks_passed w tick)

-- the ids in the buckets of these slots, bucket by bucket
abbrev pub ids_in : Wheel → List ℕ → List Id
ids_in w slots = flat_map w.bucket slots

-- the buckets of these slots are emptied, and their ids are ready to be handed out
abbrev pub emptied : Wheel → List ℕ → Wheel
emptied w slots =
    record w {
      bucket = λ slot. if list_any (λ s. s == slot) slots then [] else w.bucket slot;
      ready = w.ready ++ ids_in w slots;
    }

-- what becomes of a wheel, and what is answered
pub record Turn : Type 0 where
  pub wheel : Wheel
  pub answer : Option ℕ

-- the wheel goes on to this tick, at which an entry is due: the passed buckets are emptied. The answer is how
-- many ids that makes ready; where there is none, only a full revolution answers so
abbrev pub turned_out : Wheel → ℕ → Turn
turned_out w tick =
    record {
      wheel = record (emptied w passed) { current = tick };
      answer = if is_full_turn w tick || nat_lt 0 (length (ids_in w passed)) then Some (length (ids_in w passed)) else None;
    }
  where
    passed : List ℕ
    passed = slots_passed w tick

-- the wheel goes on to this tick, with the least tick that has an active entry: with none all is stale, and is
-- cleared; one that is not due yet leaves the buckets as they are
abbrev pub turned : Wheel → ℕ → Option ℕ → Turn
turned w tick None = record { wheel = record w { current = tick; bucket = λ _. [] }; answer = None }
turned w tick (Some least) =
    if nat_lt tick least then record { wheel = record w { current = tick }; answer = None } else turned_out w tick

-- the wheel goes on to the tick at this moment; it never goes back
unfoldable pub advanced : Wheel → ℕ → Turn
advanced w now =
    if nat_le (tick_at w now) w.current then record { wheel = w; answer = None } else turned w (tick_at w now) (least_active w)
