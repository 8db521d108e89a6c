-- What an open's record says of its durability, and what an ended request makes of it.
use Rattle.std.specs.Prelude.{ℕ, Bool, true, false, not, ◌+◌, ◌-◌, ◌^◌, ◌==◌, ◌||◌, ◌&&◌, Option, Some, None, is_none, unwrap_or, if◌then◌else◌, min, max}
use Rattle.exec_base.specs.declared.error.Error.{Error, TheVariants.{Io, BlobSyncFailed}}
use Rattle.exec_outcomes.specs.declared.outcome.{Kind.{Kind, TheVariants.{Write, Dsync, Many, Sync}}, Outcome.{Outcome, TheVariants.{Success, Failure}}}

-- How many changes the file had, how many of them a sync has covered, the first failure of a sync, and whether
-- operations may still have the hint.
pub record Account : Type 0 where
  pub mutations : ℕ
  pub frontier : ℕ
  pub failure : Option Error
  pub hinted : Bool

abbrev pub most_mutations : ℕ
most_mutations = 2 ^ 64 - 1

-- no change, and no failure
abbrev pub fresh_account : Account
fresh_account = record { mutations = 0; frontier = 0; failure = None; hinted = true }

-- one more change; the count stands still at its end
abbrev pub changed : Account → Account
changed account = record account { mutations = min (account.mutations + 1) most_mutations }

-- a sync failed: the first failure stays
abbrev pub poisoned : Error → Account → Account
poisoned error account = record account { failure = Some (unwrap_or account.failure error) }

-- an error of the kernel is kept as the failed sync of that open, by its number
abbrev pub kept_as : ℕ → Error → Error
kept_as file (Io cause) = BlobSyncFailed file cause
kept_as file error = error

-- A sync went well that covers the changes seen as it was made. Nothing is covered under a failure.
abbrev pub covered : ℕ → Account → Account
covered seen account = if is_none account.failure then record account { frontier = max account.frontier seen } else account

-- some change is not covered, or their count stands still
abbrev pub is_dirty : Account → Bool
is_dirty account = not (account.mutations == account.frontier) || (account.mutations == most_mutations)

-- the request asks for durability, so it has to know of a failure
abbrev pub is_durable : Kind → Bool
is_durable Dsync = true
is_durable Many = true
is_durable Sync = true
is_durable _ = false

-- what a failed write makes of the record; where it was to be durable at once, or failed in its trailing sync,
-- the kernel may have told of the lost bytes now and never again
abbrev pub after_failure : ℕ → Bool → Error → Kind → Account → Account
after_failure file syncing error Dsync account = poisoned (kept_as file error) (changed account)
after_failure file syncing error Many account = if syncing then poisoned (kept_as file error) (changed account) else changed account
after_failure file syncing error Sync account = poisoned (kept_as file error) account
after_failure file syncing error _ account = account

abbrev pub after_success : ℕ → Kind → Account → Account
after_success seen Write account = changed account
after_success seen Many account = covered seen account
after_success seen Sync account = covered seen account
after_success seen _ account = account

-- the record of an open once one of its requests has ended: the open's number, whether the trailing sync had
-- begun, the changes seen as the request was made, its kind, and what its results gave
abbrev pub account_after : ℕ → Bool → ℕ → Kind → Outcome → Account → Account
account_after file syncing seen kind Success account = after_success seen kind account
account_after file syncing seen kind (Failure error) account = after_failure file syncing error kind account

abbrev pub by_failure : Option Error → Outcome → Outcome
by_failure (Some error) Success = Failure error
by_failure _ outcome = outcome

-- what is told of a request: a durable success under a kept failure is that failure
abbrev pub outcome_told : Kind → Account → Outcome → Outcome
outcome_told kind account outcome = if is_durable kind then by_failure account.failure outcome else outcome

abbrev pub by_kept : Option Error → Option Outcome
by_kept None = None
by_kept (Some error) = Some (Failure error)

-- what ends a durable request before it has any operation: a kept failure, and a sync where nothing is to be synced
abbrev pub outcome_at_grant : Kind → Account → Option Outcome
outcome_at_grant Sync account =
    if is_none account.failure && not (is_dirty account) then Some Success else by_kept account.failure
outcome_at_grant kind account = by_kept account.failure
