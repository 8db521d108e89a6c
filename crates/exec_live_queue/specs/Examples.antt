-- Owners and thieves to look at.
use Rattle.std.specs.Prelude.{ℕ, zero, suc, ◌+◌, ◌-◌, ◌^◌, List, [], ◌∷◌, ◌++◌}
use Rattle.exec_live_queue.specs.{declared.view.{Own.Own, Theft.Theft}, Live.{labels, opened, unread}}

-- so many numbers from this one on
abbrev pub numbers : ℕ → ℕ → List ℕ
numbers from zero = []
numbers from (suc count) = from ∷ numbers (from + 1) count

-- the owner of a queue that these values were put into, none of which has left
abbrev pub holding : ℕ → List ℕ → Own ℕ
holding tail log = record { start = 0; tail = tail; aside = 0; log = log; out_at = tail; out_len = 0; saw_real = 0; saw_gap = 0; popped = []; exported = []; relabelled = [] }

-- five values, and as many as there can be
abbrev pub five : Own ℕ
five = holding 5 (numbers 1 5)

abbrev pub full : Own ℕ
full = holding 256 (numbers 0 256)

-- the owner of the full queue between the exchange of an overflow and the store of its tail
abbrev pub flowing_over : Own ℕ
flowing_over = record full { aside = 128; log = numbers 0 256 ++ numbers 0 128; saw_real = 256; exported = labels 128 128; relabelled = labels 0 128 }

-- a queue of one value more than a thief's own may have, and one that is spent
abbrev pub crowded : Own ℕ
crowded = holding 129 (numbers 0 129)

abbrev pub spent : Own ℕ
spent = (opened (2 ^ 55 - 512)).own

-- a thief that saw five values, and what it keeps once it has taken two of them
abbrev pub thief : Theft ℕ
thief = record unread { upto = 5 }

abbrev pub robber : Theft ℕ
robber = record thief { gap = 2; claims = labels 0 2; lot = numbers 1 2 }
