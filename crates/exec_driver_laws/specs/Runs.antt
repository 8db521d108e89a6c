-- A run in which worker 3 makes open 1 durable, and states that no call leads to.
use Rattle.std.specs.Prelude.{ℕ, zero, suc, ◌==◌, ◌||◌, [], ◌∷◌, Option, Some, Ok, if◌then◌else◌}
use Rattle.exec_outcomes.specs.Accounts.{fresh_account}
use Rattle.exec_request.specs.{States.Ended, declared.output.RequestOutput.RequestOutput as output}
use Rattle.exec_base.specs.declared.slab.Slot.TheVariants.{Live}
use Rattle.exec_waiters.specs.{Events.with_permit, Examples.{sync, here}, Told.{Told, nothing_told}, declared.waiter.{Waiter.Waiter, Entry.{Entry, TheVariants.Ready}}}
use Rattle.exec_opens.specs.Opens.{fresh_open, joined, placed, with_account, with_named}
use Rattle.exec_driver.specs.{Driving.Driving, Examples.{first, idle, with_one}, Steps.{newcomer, told_by_end}}
use Rattle.exec_driver_laws.specs.{Examples.{fresh_gates, spoiled}, Sharing.{Gates, key_of, passed_on, with_leaving, with_lines}}

-- the request as it is granted the permit
abbrev pub holding : Waiter ℕ ℕ
holding = with_permit (newcomer sync here)

-- what is told of it: there was no change of the file, so it ends well at once
abbrev pub clean_told : Told ℕ ℕ
clean_told = told_by_end first holding (Some (Ok tt)) (Some fresh_account)

-- its output is kept for the task that waits for it
abbrev pub ready : Driving ℕ ℕ
ready = record idle { requests = record idle.requests { slots = Live 0 (Ready (output.Sync (Ok tt))) ∷ [] } }

-- it is admitted, it joins the line of its open, it is granted the permit and ends, and it leaves
abbrev pub clean : ℕ → Driving ℕ ℕ
clean zero = idle
clean (suc zero) = with_one sync 0
clean (suc (suc zero)) = with_one sync 0
clean (suc (suc (suc n))) = ready

-- it has a place in the line of open 1, it holds the gate, and it is to leave it
abbrev pub reserved : Gates
reserved = with_lines fresh_gates (with_named fresh_gates.opens (Some 1) placed)

abbrev pub occupied : Gates
occupied = with_lines reserved (with_named reserved.opens (Some 1) (joined (key_of 3 first)))

abbrev pub to_leave : Gates
to_leave = record occupied { leaving = with_leaving (Some 1) (key_of 3 first) occupied.leaving }

abbrev pub clean_gates : ℕ → Gates
clean_gates zero = fresh_gates
clean_gates (suc zero) = reserved
clean_gates (suc (suc zero)) = occupied
clean_gates (suc (suc (suc zero))) = to_leave
clean_gates (suc (suc (suc (suc n)))) = passed_on to_leave 1

-- worker 3 has this driver after so many calls, and no other worker has a request
abbrev pub of_worker : (ℕ → Driving ℕ ℕ) → ℕ → ℕ → Driving ℕ ℕ
of_worker driver n worker = if worker == 3 then driver n else idle

-- as before, but for the fifth moment, at which the request is there again
abbrev pub back : ℕ → Driving ℕ ℕ
back (suc (suc (suc (suc zero)))) = with_one sync 0
back n = clean n

-- two workers admit a sync at once
abbrev pub two : ℕ → Driving ℕ ℕ
two worker = if (worker == 3) || (worker == 4) then with_one sync 0 else idle

-- a sync of open 1 waits at the gate of open 0
abbrev pub misplaced : Gates
misplaced = with_lines fresh_gates (record fresh_open { waiting = key_of 4 first ∷ [] } ∷ fresh_open ∷ [])

-- the first call says that open 1 keeps a failure, and the third that it keeps none
abbrev pub healing : ℕ → Gates
healing zero = fresh_gates
healing (suc zero) = with_lines fresh_gates (with_account fresh_gates.opens (Some 1) spoiled)
healing (suc (suc zero)) = with_lines fresh_gates (with_account fresh_gates.opens (Some 1) spoiled)
healing (suc (suc (suc n))) = fresh_gates

-- a sync that ended so is told to who waits elsewhere, and one is kept for a task
abbrev pub sent : Ended → Told ℕ ℕ
sent how = record nothing_told { results = record { id = first; sender = 6; result = Ok (output.Sync how) } ∷ [] }

abbrev pub kept_output : Ended → Option (Entry ℕ ℕ)
kept_output how = Some (Ready (output.Sync how))
