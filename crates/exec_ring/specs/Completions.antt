-- Completions: what their numbers say, and which are no operation's.
use Rattle.std.specs.Prelude.{ℕ, Bool, true, not, ℤ, pos, negsuc, ◌+◌, ◌-◌, ◌==◌, ◌&&◌}
use Rattle.exec_outcomes.specs.declared.outcome.OpResult.{OpResult, TheVariants.{Count, Errno}}
use Rattle.exec_ring.specs.declared.completion.Completion.{Completion}

-- a result as a number: an error number has a minus before it
abbrev pub number_of : OpResult → ℤ
number_of (Count n) = pos n
number_of (Errno c) = negsuc (c - 1)

-- what a number says
abbrev pub result_in : ℤ → OpResult
result_in (pos n) = Count n
result_in (negsuc n) = Errno (n + 1)

-- the user data of wakes: the largest number
abbrev pub is_wake : Completion → Bool
is_wake c = c.user_data == 18446744073709551615

-- user data that an operation may have: neither that of wakes nor that of cancels
abbrev pub is_operation : ℕ → Bool
is_operation user_data = not (user_data == 18446744073709551615) && not (user_data == 4294967295)

-- a wake, which ended the wake poll unless there is more to come
abbrev pub wake_completion : Bool → Completion
wake_completion more = record { user_data = 18446744073709551615; result = pos 1; more = more }

-- a cancel was taken in
abbrev pub acknowledged : ℕ → Completion
acknowledged user_data = record { user_data = user_data; result = pos 0; more = true }

-- an operation is over
abbrev pub completed : ℕ → OpResult → Completion
completed user_data n = record { user_data = user_data; result = number_of n; more = true }
