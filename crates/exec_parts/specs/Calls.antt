-- What a callback does to a worker and to what all share.
use Rattle.std.specs.Prelude.{◌≡◌, ℕ, ◌+◌, ◌≤◌, ◌||◌, not, ◌==◌, if◌then◌else◌, true, List, slice_get, slice_set, Option, Some, None, Result, Err, length}
use Rattle.exec_parts.specs.{Words.{Deferred, Error, Forwarding, Full, HasPlaces, Open, RequestOutput, Shut, Waiting, shot}, declared.parts.{mail.Reply.Reply, record.Record.Record, sleeping.SleeperRecord.SleeperRecord}, Serving.changed_at}

-- one more wake is paid, and what the request owned is let go
abbrev pub paying : Record → Record
paying r = record r { shown = record r.shown { wakes_paid = r.shown.wakes_paid + 1 } }

abbrev pub releasing : Record → Record
releasing r = record r { shown = record r.shown { released = true } }

abbrev pub sleeper_paying : SleeperRecord → SleeperRecord
sleeper_paying z = record z { shown = record z.shown { wakes_paid = z.shown.wakes_paid + 1 } }

abbrev pub sleeper_paid_in : List SleeperRecord → ℕ → Option SleeperRecord → List SleeperRecord
sleeper_paid_in zs n None = zs
sleeper_paid_in zs n (Some z) = slice_set zs n (sleeper_paying z)

-- what a task waits for has paid a wake
abbrev pub records_paid : Waiting → List Record → List Record
records_paid (Waiting.Request n) rs = changed_at rs n paying
records_paid _ rs = rs

abbrev pub sleepers_paid : Waiting → List SleeperRecord → List SleeperRecord
sleepers_paid (Waiting.Timer n) zs = sleeper_paid_in zs n (slice_get zs n)
sleepers_paid _ zs = zs

-- FORWARDS: task t waits for it elsewhere, and its worker is told so; that will send its end

abbrev pub forwarded_for : ℕ → Record → Record
forwarded_for t r = record r { shown = record r.shown { waiter = Some t; forwarding = Forwarding.Sent } }

abbrev pub sleeper_forwarded : SleeperRecord → SleeperRecord
sleeper_forwarded z = record z { shown = record z.shown { forwarding = Forwarding.Sent } }

abbrev pub forward_applied : Record → Record
forward_applied r = record r { shown = record r.shown { forwarding = Forwarding.Applied } }

abbrev pub sleeper_applied : SleeperRecord → SleeperRecord
sleeper_applied z = record z { shown = record z.shown { forwarding = Forwarding.Applied } }

-- its end was sent to who waits elsewhere
abbrev pub as_sent : Record → Record
as_sent r = record r { sent = true }

abbrev pub sleeper_sent : SleeperRecord → SleeperRecord
sleeper_sent z = record z { sent = true }

-- it has ended before its moment, unless that had come
abbrev pub sleeper_removed : SleeperRecord → SleeperRecord
sleeper_removed z = record z { shown = record z.shown { removed = z.shown.removed || not z.shown.fired } }

-- its worker, which closes, let it go
abbrev pub sleeper_closed : SleeperRecord → SleeperRecord
sleeper_closed z = record z { closed = true }

-- worker i has ended, and so has what still sleeps of it
abbrev pub sleeper_gone_with : ℕ → SleeperRecord → SleeperRecord
sleeper_gone_with i z = if z.shown.worker == i then sleeper_removed z else z

-- what a task hears that looks for an output
abbrev pub heard_in : shot (Result RequestOutput Error) → Option (Result RequestOutput Error)
heard_in Open = None
heard_in (Full output) = Some output
heard_in Shut = Some (Err Error.Closed)

-- WHAT IS LEFT TO BE TOLD: what requests owned that are over goes with their numbers; and there is room for what each of so
-- many requests and sleepers may still leave
pub record IsTold (ended : List ℕ) (left : Deferred Reply Reply) (live : ℕ) : Type 0 where
  pub resources : length ended ≡ length left.resources.items
  pub room : HasPlaces left live

-- what was told is told still, and there is the room that there was
abbrev pub KeepsRoom : Deferred Reply Reply → Deferred Reply Reply → Type 0
KeepsRoom left left' = (ended : List ℕ) (live : ℕ) → IsTold ended left live → IsTold ended left' live

-- what the task waits for has paid one wake at most
abbrev pub IsUnpaid : Waiting → List Record → List SleeperRecord → Type 0
IsUnpaid (Waiting.Request n) rs zs = (r : Record) × (slice_get rs n ≡ Some r) × (r.shown.wakes_paid ≤ 1)
IsUnpaid (Waiting.Timer n) rs zs = (z : SleeperRecord) × (slice_get zs n ≡ Some z) × (z.shown.wakes_paid ≤ 1)
IsUnpaid _ rs zs = ⊥
