-- What is read off the head and the tail of a run queue.
use Rattle.std.specs.Prelude.{ℕ, ◌+◌, ◌-◌, ◌/◌, ◌^◌, ◌==◌, nat_lt, nat_le, Bool, ◌&&◌, if◌then◌else◌}
use Rattle.exec_words.specs.declared.head.{Head.Head, Fit.Fit}

-- from this count of its tail on a queue takes no more values
abbrev pub is_spent : ℕ → Bool
is_spent tail = nat_le (2 ^ 55 - 512) tail

-- the head once its front value was popped: beside a claim the gap grows
abbrev pub popped_head : Head → Head
popped_head h = record { real = h.real + 1; gap = if h.gap == 0 then 0 else h.gap + 1 }

-- the head once a thief has claimed so many values
abbrev pub claimed_head : Head → ℕ → Head
claimed_head h count = record { real = h.real + count; gap = count }

-- the head once the claim is released: the pops past it are free too
abbrev pub released_head : Head → Head
released_head h = record { real = h.real; gap = 0 }

-- the head once a full queue flows over
abbrev pub overflowed_head : Head → Head
overflowed_head h = record { real = h.real + 256; gap = 0 }

-- how many more values fit
abbrev pub room_at : Head → ℕ → ℕ
room_at h tail = if is_spent tail then 0 else 256 - (tail - h.real) - h.gap

-- a thief may claim: no claim is held, and there are two values at least
abbrev pub is_stealable_at : Head → ℕ → Bool
is_stealable_at h tail = h.gap == 0 && nat_le 2 (tail - h.real)

-- how many values a claim takes: half of them, rounded down
abbrev pub claim_at : Head → ℕ → ℕ
claim_at h tail = (tail - h.real) / 2

-- what a push does
abbrev pub fit_at : Head → ℕ → Fit
fit_at h tail =
    if is_spent tail then Fit.Spent
    else (if nat_lt (tail - h.real + h.gap) 256 then Fit.Room (tail - h.real + 1)
    else (if h.gap == 0 then Fit.Overflow else Fit.Claimed))
