-- Drivers that share the gate of an open, or don't.
use Rattle.std.specs.Prelude.{ℕ, zero, suc, replicate, Option, Bool, ◌==◌, ◌||◌, List, [], ◌∷◌, Some, None}
use Rattle.exec_base.specs.{Slab.inserted, declared.error.Error.TheVariants.Timeout}
use Rattle.exec_outcomes.specs.Accounts.{Account, fresh_account}
use Rattle.exec_waiters.specs.{Examples.{sync, here}, declared.waiter.Entry.TheVariants.Pending}
use Rattle.exec_opens.specs.Opens.{OpenState, fresh_open, with_account}
use Rattle.exec_driver.specs.{Driving.Driving, Examples.{first, idle}, Steps.newcomer}
use Rattle.exec_lists.specs.Lists.{no_lists}
use Rattle.exec_driver_laws.specs.Sharing.{Gates, key_of, with_lines}

-- workers of which each has a sync of open 1: that of worker 3 was granted the permit, and so were those of others or not
abbrev pub syncing : Bool → Driving ℕ ℕ
syncing permit =
    record idle { requests = inserted idle.requests (Pending (record (newcomer sync here) { permit = permit })) }

abbrev pub workers : Bool → ℕ → Driving ℕ ℕ
workers others worker = syncing ((worker == 3) || others)

-- the request of worker 3 holds the gate of open 1, and that of worker 4 waits there
abbrev pub held : List OpenState
held = fresh_open ∷ record fresh_open { holder = Some (key_of 3 first); waiting = key_of 4 first ∷ [] } ∷ []

abbrev pub gates : Gates
gates = record { opens = held; leaving = λ file. None }

-- open 1 keeps a failure
abbrev pub spoiled : Option Account
spoiled = Some (record fresh_account { failure = Some Timeout })

abbrev pub fresh_gates : Gates
fresh_gates = record { opens = replicate 2 fresh_open; leaving = λ file. None }

-- a run without requests, in which the first call says that open 1 keeps a failure, and no other says anything of it
abbrev pub spoiling : ℕ → Gates
spoiling zero = fresh_gates
spoiling (suc n) = with_lines fresh_gates (with_account fresh_gates.opens (Some 1) spoiled)

abbrev pub no_requests : ℕ → ℕ → Driving ℕ ℕ
no_requests n worker = idle

-- a request that isn't there is said to be due
abbrev pub astray : Driving ℕ ℕ
astray = record idle { lists = record no_lists { due = first ∷ [] } }
