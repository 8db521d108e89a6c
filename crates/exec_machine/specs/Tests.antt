-- Tests of the parts of a state, and where they stand in it.
use Rattle.std.specs.{Prelude.{◌≡◌, ℕ, suc, Bool, true, false, not, ◌==◌, ◌&&◌, ◌||◌, List, [], ◌∷◌, slice_set}, List.list_all}
use Rattle.exec_outcomes.specs.declared.outcome.{Kind.{Kind, Kind as kind}, OpResult.OpResult, Outcome.Outcome}
use Rattle.exec_machine.specs.{declared.state.{WorkerPhase.{WorkerPhase, WorkerPhase as worker}, Rest.{Rest, Rest as rest}, Next.{Next, Next as next}, TaskPhase.{TaskPhase, TaskPhase as task}, Waiting.{Waiting, Waiting as waiting}, Forwarding.{Forwarding, Forwarding as forwarding}, RequestPhase.{RequestPhase, RequestPhase as phase}, Request.Request, Sleeper.Sleeper}, World.{Own, Seat, Task, Open, Common}, Same.{is_none, same_result, same_outcome}}

-- lists

abbrev pub is_empty : {X : Type 0} → List X → Bool
is_empty [] = true
is_empty (x ∷ xs) = false

-- each element, by number from n on, passes the test
abbrev pub all_numbered : {X : Type 0} → (ℕ → X → Bool) → ℕ → List X → Bool
all_numbered test n [] = true
all_numbered test n (x ∷ xs) = test n x && all_numbered test (suc n) xs

-- Each of the tests is passed.
abbrev pub AllTrue : List Bool → Type 0
AllTrue [] = Unit {0}
AllTrue (test ∷ tests) = (test ≡ true) × AllTrue tests

-- workers

-- This number is another worker's.
abbrev pub IsOther : ℕ → ℕ → Type 0
IsOther i j = (j == i) ≡ false

abbrev pub is_open : WorkerPhase → Bool
is_open worker.Open = true
is_open _ = false

abbrev pub is_closing : WorkerPhase → Bool
is_closing worker.Closing = true
is_closing _ = false

abbrev pub has_ended : WorkerPhase → Bool
has_ended worker.Ended = true
has_ended _ = false

abbrev pub is_awake : Rest → Bool
is_awake rest.Awake = true
is_awake _ = false

-- the next line has nothing to do
abbrev pub is_settled : Next → Bool
is_settled next.Free = true
is_settled _ = false

-- It polls nothing, has no message to send, and its next line has nothing to do. What happens outside a poll happens to
-- a worker that is at large, but for a turn, a message that it owes, and a rouse between two of these.
abbrev pub is_at_large : Own → Bool
is_at_large me = is_none me.polls && is_empty me.owed && is_settled me.next

-- each worker of the pool has passed the barrier
abbrev pub all_left : Common → Bool
all_left s = list_all (λ seat. seat.left || not seat.pool) s.seats

-- tasks

abbrev pub is_idle : TaskPhase → Bool
is_idle task.Idle = true
is_idle _ = false

abbrev pub is_ready : TaskPhase → Bool
is_ready task.Queued = true
is_ready _ = false

abbrev pub is_polled : TaskPhase → Bool
is_polled (task.Running i) = true
is_polled (task.Noted i) = true
is_polled _ = false

abbrev pub is_done : TaskPhase → Bool
is_done task.Done = true
is_done _ = false

abbrev pub waits_for_nothing : Waiting → Bool
waits_for_nothing waiting.Nothing = true
waits_for_nothing _ = false

abbrev pub is_woken : Waiting → Bool
is_woken waiting.Woken = true
is_woken _ = false

abbrev pub waits_for_request : ℕ → Waiting → Bool
waits_for_request r (waiting.Request q) = r == q
waits_for_request r _ = false

abbrev pub waits_for_timer : ℕ → Waiting → Bool
waits_for_timer z (waiting.Timer y) = z == y
waits_for_timer z _ = false

-- requests and sleepers

abbrev pub is_unsent : Forwarding → Bool
is_unsent forwarding.Unsent = true
is_unsent _ = false

abbrev pub is_applied : Forwarding → Bool
is_applied forwarding.Applied = true
is_applied _ = false

abbrev pub is_gated : RequestPhase → Bool
is_gated phase.Gated = true
is_gated _ = false

abbrev pub is_queued : RequestPhase → Bool
is_queued phase.Queued = true
is_queued _ = false

abbrev pub is_staged : RequestPhase → Bool
is_staged phase.Staged = true
is_staged _ = false

abbrev pub is_flying : RequestPhase → Bool
is_flying phase.Flying = true
is_flying _ = false

abbrev pub is_landed : RequestPhase → Bool
is_landed (phase.Landed n) = true
is_landed _ = false

abbrev pub is_landed_with : OpResult → RequestPhase → Bool
is_landed_with n (phase.Landed m) = same_result n m
is_landed_with n _ = false

abbrev pub is_resolved : RequestPhase → Bool
is_resolved (phase.Resolved outcome) = true
is_resolved _ = false

abbrev pub is_resolved_with : Outcome → RequestPhase → Bool
is_resolved_with outcome (phase.Resolved other) = same_outcome outcome other
is_resolved_with outcome _ = false

-- the kernel has its operation, or is about to, or has just had it
abbrev pub is_in_flight : RequestPhase → Bool
is_in_flight phase.Staged = true
is_in_flight phase.Flying = true
is_in_flight (phase.Landed n) = true
is_in_flight _ = false

-- its moment wasn't told, and nobody took it away
abbrev pub is_asleep : ℕ → Sleeper → Bool
is_asleep i z = (z.worker == i) && not z.fired && not z.removed

-- a request of an open file
abbrev pub is_of_file : Kind → Bool
is_of_file kind.Poll = false
is_of_file kind.Send = false
is_of_file kind.Recv = false
is_of_file kind.Fill = false
is_of_file kind.Connect = false
is_of_file _ = true

-- a write or a sync goes on also where nobody holds it
abbrev pub is_kept : Kind → Bool
is_kept kind.Write = true
is_kept kind.Dsync = true
is_kept kind.Many = true
is_kept kind.Sync = true
is_kept _ = false

-- the common part with another element at one number

abbrev pub set_seat : Common → ℕ → Seat → Common
set_seat s i x = record s { seats = slice_set s.seats i x }

abbrev pub set_task : Common → ℕ → Task → Common
set_task s t x = record s { tasks = slice_set s.tasks t x }

abbrev pub set_request : Common → ℕ → Request → Common
set_request s r x = record s { requests = slice_set s.requests r x }

abbrev pub set_sleeper : Common → ℕ → Sleeper → Common
set_sleeper s z x = record s { sleepers = slice_set s.sleepers z x }

abbrev pub set_open : Common → ℕ → Open → Common
set_open s f x = record s { opens = slice_set s.opens f x }
