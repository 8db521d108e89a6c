-- How many slots a wheel has.
use Rattle.std.specs.{Prelude.{ℕ, ◌+◌, ◌^◌, Bool, List, Option, None, if◌then◌else◌, ◌==◌, ◌||◌, nat_le, nat_lt, map, find}, List.range_with_len, Int.div_ceil}
use Rattle.exec_base.specs.declared.limits.TheConstants.{LONGEST_TIMEOUT}

-- the longest horizon and the longest tick: 30 years of 365 days, in nanoseconds
abbrev pub longest : ℕ
longest = LONGEST_TIMEOUT

-- the sizes that a wheel may have: the powers of two up to 1,048,576
abbrev pub sizes : List ℕ
sizes = map (λ k. 2 ^ k) (range_with_len 0 21)

-- how many slots a horizon needs: its ticks, one for the part of a tick that has passed already, and the one
-- that the wheel stands at
abbrev pub slots_needed : ℕ → ℕ → ℕ
slots_needed horizon tick = div_ceil horizon tick + 2

-- whether a length of time is none at all, or too long
abbrev pub is_out_of_range : ℕ → Bool
is_out_of_range nanos = (nanos == 0) || nat_lt longest nanos

-- the number of slots for this horizon and tick: the least size that is enough; none where there is no such
-- size, or where the horizon or the tick is out of range
unfoldable pub slots_of : ℕ → ℕ → Option ℕ
slots_of horizon tick =
    if is_out_of_range horizon || is_out_of_range tick then None else find (λ size. nat_le (slots_needed horizon tick) size) sizes
