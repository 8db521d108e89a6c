-- Moves of the middle of a service: deadlines, gates and stagings, which share one place.
use Rattle.std.specs.{Prelude.{ℕ, suc, Bool, true, not, ◌+◌, ◌==◌, ◌&&◌, ◌||◌, nat_lt, nat_le, List, slice_get, Option, Some, None, if◌then◌else◌}, List.list_any}
use Rattle.exec_outcomes.specs.{declared.outcome.Outcome.Outcome, Accounts.outcome_at_grant}
use Rattle.exec_machine.specs.{declared.{config.Configuration.Configuration, event.Event.{TheVariants.{Serve, Expire, Enrol, Grant, Cancel, Stage}, Event, Event as event}, state.Request.Request}, Ranges.ring_size, World.{Common, request_of, Own as Books}, Tests.{is_empty, is_gated}, Requests.account_of_open, Deadlines.{outcome_at_enrol, is_first_due, outcome_at_expiry}}
use Rattle.exec_moves.specs.{declared.place.{AfterPermit.AfterPermit as permit, InService.InService as step, Service.Service, Place.Place as at}, State.{Desk, Moved, Own, does}, Told.told_if_ended, Callback.is_full, Load.may_stage, Serve.{Ring, after_staging, enter, first_numbered}}

-- WHAT IS NEXT

-- the first deadline that is due by the sampled moment, in the order of the wheel
abbrev pub first_due : Configuration → ℕ → Books → Common → Option ℕ
first_due c i me s = first_numbered (λ r it. is_first_due c me i s.requests r) 0 s.requests

-- a request of the worker waits at the gate of this open
abbrev pub waits_at : ℕ → ℕ → Request → Bool
waits_at i file r = (r.worker == i) && is_gated r.phase && (r.operation.target == file)

-- the open with the least number, from this one on, at whose gate a request of the worker waits
abbrev pub next_gate : ℕ → ℕ → Common → Option ℕ
next_gate i from s = first_numbered (λ file o. nat_le from file && list_any (waits_at i file) s.requests) 0 s.opens

-- what the middle of a service comes to next
pub data Due : Type 0 where
  Expires : ℕ → Due
  Enrols : ℕ → Due
  AtGate : ℕ → Due
  -- a cancel, a request, or the wake poll is to go into a full submission queue
  Flushes : Due
  Cancels : ℕ → Due
  Stages : ℕ → Due
  Ends : Due

abbrev pub or_else : Option ℕ → (ℕ → Due) → Due → Due
or_else None due later = later
or_else (Some r) due later = due r

abbrev pub request_due : Configuration → Books → Due
request_due c me = if nat_lt me.in_flight (ring_size c) then or_else (slice_get me.ready 0) Stages Ends else Ends

abbrev pub staging_due : Configuration → Books → Desk → Due
staging_due c me d =
    if is_full (ring_size c) d && (not (is_empty me.cancels) || may_stage c me || not d.polled) then Flushes
    else or_else (slice_get me.cancels 0) Cancels (request_due c me)

abbrev pub due_next : Configuration → ℕ → ℕ → Books → Common → Desk → Due
due_next c i gate me s d =
    or_else (first_due c i me s) Expires
    (or_else (slice_get me.unenrolled 0) Enrols
    (or_else (next_gate i gate s) AtGate (staging_due c me d)))

-- THE MOVES

-- at this gate again, or at the next one
abbrev pub submits : Service → ℕ → Desk → Desk
submits v gate d = record d { place = at.Service (step.Submit gate) v }

abbrev pub expire : Service → ℕ → ℕ → Common → Desk → Moved Own
expire v gate r s d =
    let it = request_of s r in
    does (Expire r (outcome_at_expiry it)) (submits v gate (told_if_ended (outcome_at_expiry it) r it d)) tt

abbrev pub enrol : Configuration → Service → ℕ → ℕ → Books → Common → Desk → Moved Own
enrol c v gate r me s d =
    let it = request_of s r in
    let outcome = outcome_at_enrol c me it.operation.deadline in
    does (Enrol r outcome) (submits v gate (told_if_ended outcome r it d)) tt

-- the gate: granted where who stands first in it is a request of this worker that waits
abbrev pub granted_at : ℕ → List ℕ → Common → Option ℕ
granted_at i gate s = holder_waiting (slice_get gate 0)
  where
    holder_waiting : Option ℕ → Option ℕ
    holder_waiting None = None
    holder_waiting (Some r) = if ((request_of s r).worker == i) && is_gated (request_of s r).phase then Some r else None

abbrev pub after_grant : Service → ℕ → Option Outcome → Desk → Desk
after_grant v file None d = submits v (suc file) d
after_grant v file (Some outcome) d = record d { place = at.Service (step.PassPermit file (permit.Submit (suc file))) v }

abbrev pub try_gate : ℕ → Service → ℕ → Common → Desk → List ℕ → Moved (List ℕ)
try_gate i v file s d gate = tried (granted_at i gate s)
  where
    told : ℕ → Request → Option Outcome → Moved (List ℕ)
    told r it outcome = does (Grant r outcome) (after_grant v file outcome (told_if_ended outcome r it d)) gate

    tried : Option ℕ → Moved (List ℕ)
    tried None = does Serve (submits v (suc file) d) gate
    tried (Some r) = told r (request_of s r) (outcome_at_grant (request_of s r).operation.kind (account_of_open s (request_of s r)))

-- one more entry in the submission queue
abbrev pub one_more : Desk → Desk
one_more d = record d { entries = d.entries + 1 }

-- the wake poll goes in last, where it must and there is a place
abbrev pub with_poll : ℕ → Desk → Desk
with_poll size d = if d.polled || is_full size d then d else (record (one_more d) { polled = true })

-- the ring
abbrev pub stage_next : Configuration → ℕ → Service → ℕ → Books → Common → Desk → Ring → Due → Moved Ring
stage_next c i v gate me s d x Flushes = flushed (enter me (submits v gate d) x)
  where
    ended_by : Event → Desk → Desk
    ended_by event.Busy e = after_staging c i v me s e
    ended_by _ e = e

    flushed : Moved Ring → Moved Ring
    flushed m = record m { desk = ended_by m.event m.desk }
stage_next c i v gate me s d x (Cancels r) = does (Cancel r) (submits v gate (one_more d)) x
stage_next c i v gate me s d x (Stages r) = does (Stage r) (submits v gate (one_more d)) x
stage_next c i v gate me s d x _ = does Serve (after_staging c i v me s (with_poll (ring_size c) d)) x
