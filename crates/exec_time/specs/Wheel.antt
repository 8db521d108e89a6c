-- A wheel of deadlines.
use Rattle.std.specs.{Prelude.{ℕ, ◌+◌, ◌-◌, ◌*◌, ◌/◌, ◌%◌, ◌<◌, List, [], ◌∷◌, ◌++◌, Option, None, Some, if◌then◌else◌, ◌==◌, nat_le, nat_lt, ◌&&◌, find}, Option.option_map, List.range_with_len, Int.div_ceil}
use Rattle.exec_base.specs.declared.slab.Id.{Id}

-- moments and lengths of time are in nanoseconds
pub record Wheel : Type 0 where
  -- the moment at which tick 0 stands
  pub start : ℕ
  -- how long a tick is
  pub tick : ℕ
  -- how far ahead a deadline may be
  pub horizon : ℕ
  -- how many buckets there are
  pub slots : ℕ
  -- the tick that the wheel stands at
  pub current : ℕ
  -- for each slot its bucket: the ids scheduled there, in order of scheduling, stale ones among them
  pub bucket : ℕ → List Id
  -- for each tick how many entries are active: scheduled at it and not removed
  pub active : ℕ → ℕ
  -- the ids that came out of passed buckets and were not handed out yet
  pub ready : List Id

-- a wheel with nothing in it, at tick 0
abbrev pub fresh : ℕ → ℕ → ℕ → ℕ → Wheel
fresh horizon tick start slots =
    record {
      start = start;
      tick = tick;
      horizon = horizon;
      slots = slots;
      current = 0;
      bucket = λ _. [];
      active = λ _. 0;
      ready = [];
    }

-- the bucket of a tick
abbrev pub slot_of : Wheel → ℕ → ℕ
slot_of w tick = tick % w.slots

-- the tick at a moment, and the moment of a tick
abbrev pub tick_at : Wheel → ℕ → ℕ
tick_at w now = (now - w.start) / w.tick

abbrev pub moment_of : Wheel → ℕ → ℕ
moment_of w tick = w.start + tick * w.tick

-- each entry up to the current tick was removed
pub record IsSettled (w : Wheel) : Type 0 where
  pub ahead : (tick : ℕ) → 0 < w.active tick → w.current < tick

-- each active entry is less than one revolution ahead, so no two active ticks have the same bucket
pub record IsWithinReach (w : Wheel) : Type 0 where
  pub span : (tick : ℕ) → 0 < w.active tick → tick < w.current + w.slots

-- the least tick ahead that has an active entry
unfoldable pub least_active : Wheel → Option ℕ
least_active w = find (λ tick. nat_lt 0 (w.active tick)) (range_with_len (w.current + 1) (w.slots - 1))

-- the moment of that tick
abbrev pub next_moment : Wheel → Option ℕ
next_moment w = option_map (moment_of w) (least_active w)

-- the tick at which a deadline fires, the first that isn't before it, seen from now: some tick; no tick, since
-- the deadline has passed; or nothing, since the wheel doesn't reach so far
unfoldable pub target_of : Wheel → ℕ → ℕ → Option (Option ℕ)
target_of w deadline now =
    if nat_le deadline now then Some None else
    if nat_lt w.horizon (deadline - now) then None else
    if nat_lt w.current target && nat_lt target (w.current + w.slots) then Some (Some target) else None
  where
    target : ℕ
    target = div_ceil (deadline - w.start) w.tick

-- one more entry, at a tick ahead and less than a revolution away. No other tick of its bucket has an active
-- entry then; where this one has none either, what is in the bucket is stale and is discarded
unfoldable pub scheduled : Wheel → Id → ℕ → Wheel
scheduled w id tick =
    record w {
      bucket = λ slot. if slot == slot_of w tick then (if w.active tick == 0 then [] else w.bucket slot) ++ id ∷ [] else w.bucket slot;
      active = λ t. if t == tick then w.active t + 1 else w.active t;
    }

-- one entry of this tick is active no more
unfoldable pub removed : Wheel → ℕ → Wheel
removed w tick = record w { active = λ t. if t == tick then w.active t - 1 else w.active t }
