-- Small words for states and answers.
use Rattle.std.specs.Prelude.{ℕ, Bool, true, false, [], Option, Some, None, Result, Ok, Err}
use Rattle.exec_base.specs.declared.error.Error.{Error}
use Rattle.exec_bufs.specs.Buffers.{Buffer}
use Rattle.exec_outcomes.specs.{Accounts.{Account, account_after, outcome_told}, declared.outcome.{Kind.Kind, Outcome.{Outcome, TheVariants.{Success, Failure}}}}
use Rattle.exec_request.specs.declared.results.WaiterState.{WaiterState, TheVariants.{Active, CancelRequested}}

-- cancellation was asked for
abbrev pub asks_cancel : WaiterState → Bool
asks_cancel CancelRequested = true
asks_cancel (Active tick) = false

-- Ok, or the kept failure
abbrev pub covered_or_failed : Option Error → Result (Unit {0}) Error
covered_or_failed None = Ok tt
covered_or_failed (Some error) = Err error

-- how a request ended, as a result
abbrev pub Ended : Type 0
Ended = Result (Unit {0}) Error

-- an outcome as a result, and a result as an outcome
abbrev pub result_of : Outcome → Ended
result_of Success = Ok tt
result_of (Failure error) = Err error

abbrev pub as_outcome : Ended → Outcome
as_outcome (Ok done) = Success
as_outcome (Err error) = Failure error

-- how a request ends, if it does
abbrev pub as_answer : Option Ended → Option Outcome
as_answer None = None
as_answer (Some ended) = Some (as_outcome ended)

-- a receive hands its buffer back with how far it is filled
abbrev pub received : Buffer → ℕ → Ended → Result (Buffer × ℕ) (Buffer × Error)
received buf offset (Ok done) = Ok (buf, offset)
received buf offset (Err error) = Err (buf, error)

-- a read hands its range back, or its buffer without a byte
abbrev pub range_read : Buffer → Buffer → Ended → Result Buffer (Buffer × Error)
range_read range buf (Ok done) = Ok range
range_read range buf (Err error) = Err (record buf { bytes = [] }, error)

-- what is told of a request, where its open has a record
abbrev pub told_by : Kind → Ended → Option Account → Ended
told_by kind ended None = ended
told_by kind ended (Some account) = result_of (outcome_told kind account (as_outcome ended))

-- that record afterwards
abbrev pub account_by : ℕ → Bool → ℕ → Kind → Ended → Option Account → Option Account
account_by file syncing seen kind ended None = None
account_by file syncing seen kind ended (Some account) = Some (account_after file syncing seen kind (as_outcome ended) account)
