-- How a read goes: its range of the file, and what its results count.
use Rattle.std.specs.Prelude.{ℕ, Bool, true, false, ◌+◌, ◌-◌, take, drop}
use Rattle.exec_bufs.specs.Buffers.{Buffer}
use Rattle.exec_outcomes.specs.{Lawful.aligned, Outcomes.Asked}
use Rattle.exec_request.specs.declared.way.Way.{Way, TheVariants.{Buffered, Hinted, Direct, Switched}}
use Rattle.exec_outcomes.specs.declared.outcome.Kind.TheVariants as kind

abbrev pub is_direct : Way → Bool
is_direct (Direct skip len) = true
is_direct _ = false

abbrev pub is_switched : Way → Bool
is_switched (Switched skip len) = true
is_switched _ = false

-- what was asked for, where the buffer has so many bytes
abbrev pub asked_by : Way → ℕ → Asked
asked_by Buffered n = record { kind = kind.Read; length = n; skip = 0 }
asked_by Hinted n = record { kind = kind.Hint; length = n; skip = 0 }
asked_by (Direct skip len) n = record { kind = kind.Direct; length = len; skip = skip }
asked_by (Switched skip len) n = record { kind = kind.Direct; length = len; skip = skip }

-- how many bytes the buffer must have, where it has so many: a direct read whole pages, and its range once it is
-- a buffered one
abbrev pub size_for : Way → ℕ → ℕ
size_for (Direct skip len) n = aligned (skip + len)
size_for (Switched skip len) n = len
size_for _ n = n

-- the bytes that lie before the range in the buffer
abbrev pub skipped : Way → ℕ
skipped (Direct skip len) = skip
skipped _ = 0

-- the buffer with its range alone
abbrev pub narrowed : Way → Buffer → Buffer
narrowed (Direct skip len) b = record { bytes = drop skip (take (skip + len) b.bytes); capacity = b.capacity - skip }
narrowed _ b = b

-- the way on once it is a buffered read
abbrev pub switched_from : Way → Way
switched_from (Direct skip len) = Switched skip len
switched_from way = way
