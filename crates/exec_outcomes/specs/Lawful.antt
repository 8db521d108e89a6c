-- Which results a kernel may give for an operation.
use Rattle.std.specs.Prelude.{ℕ, Bool, ◌&&◌, ◌^◌, ◌+◌, ◌-◌, ◌*◌, ◌/◌, nat_le, min}
use Rattle.exec_outcomes.specs.{declared.outcome.{Kind.{Kind, TheVariants.{Poll, Connect, Sync, Direct}}, OpResult.{OpResult, TheVariants.{Count, Errno}}}, Outcomes.{Asked, Cursor, part_now}}

-- whole pages of 4,096 bytes, as many as so many bytes need
abbrev pub aligned : ℕ → ℕ
aligned n = (n + 4095) / 4096 * 4096

-- The most that an operation may answer: the bytes that are left, at most 2^32 - 1; of a direct read those of the
-- aligned range, at most the whole pages that an i32 can say; where no bytes are moved what an i32 can say.
abbrev pub window_in : Kind → ℕ → ℕ → ℕ
window_in Poll length moved = 2 ^ 31 - 1
window_in Connect length moved = 2 ^ 31 - 1
window_in Sync length moved = 2 ^ 31 - 1
window_in Direct length moved = min (aligned length - moved) 2147479552
window_in _ length moved = min (length - moved) (2 ^ 32 - 1)

abbrev pub window_of : Asked → Cursor → ℕ
window_of asked cursor =
    window_in (part_now asked cursor).kind (part_now asked cursor).length cursor.moved

-- an error number from 1 to 4095, or a count that the window allows and an i32 can say
abbrev pub is_lawful : ℕ → OpResult → Bool
is_lawful window (Count n) = nat_le n window && nat_le n (2 ^ 31 - 1)
is_lawful window (Errno c) = nat_le 1 c && nat_le c 4095
