-- Events of requests: when each may come, and what it changes. Each is of the request's own worker.
--
-- A request is admitted by the act of a task. A durable one joins the gate of its open by the worker's next line, and
-- is Queued once it is granted; any other is Queued at once. From Queued it is staged, entered, landed and reaped; then
-- it is over, or Queued again. What it owned is released once it is over, in the order in which requests ended.
use Rattle.std.specs.Prelude.{ℕ, Bool, true, false, not, ◌+◌, ◌-◌, ◌%◌, ◌==◌, ◌&&◌, ◌||◌, if◌then◌else◌, nat_lt, nat_le, List, [], ◌∷◌, ◌++◌, length, drop, filter, slice_get, slice_set, is_some, Option, Some, None}
use Rattle.exec_base.specs.declared.error.Error.TheVariants.{Timeout}
use Rattle.exec_outcomes.specs.{declared.outcome.{Kind.Kind, OpResult.OpResult, Judged.Judged, Outcome.{Outcome, TheVariants.Failure}}, Outcomes.{Asked, Cursor, outcome_next, cursor_next, refuses_hint}, Accounts.{Account, changed, is_durable, account_after, outcome_told, outcome_at_grant}}
use Rattle.exec_machine.specs.{declared.{config.{Configuration.Configuration, ScriptWord.{ScriptWord, ScriptWord as word}}, state.{Forwarding.TheVariants.Unsent, RequestPhase.RequestPhase, Operation.Operation, Request.Request}}, Ranges.ring_size, Same.{is_none, is_number, same_end, same_kind}, World.{Own, Open, Common, no_operation, seat_of, task_of, request_of, open_of}, Tests.{is_at_large, is_open, is_gated, is_queued, is_staged, is_landed_with, is_resolved, is_in_flight, is_of_file, is_kept, set_open}, Words.{next_word, moved_on, polled_task, acts}}
use Rattle.exec_outcomes.specs.declared.outcome.Kind.TheVariants as kind
use Rattle.exec_machine.specs.declared.state.Next.TheVariants as next
use Rattle.exec_machine.specs.declared.state.RequestPhase.TheVariants as phase

-- WHAT A WORD ASKS FOR

abbrev pub of_socket : Kind → ℕ → ℕ → ℕ → Operation
of_socket kind target length deadline =
    record no_operation { kind = kind; target = target; length = length; deadline = Some deadline }

abbrev pub of_file : Kind → ℕ → ℕ → ℕ → Operation
of_file kind target offset length =
    record no_operation { kind = kind; target = target; offset = offset; length = length }

-- the operation that the word registers, where it registers one: a deadline is counted from the sampled moment
abbrev pub operation_asked : Configuration → ℕ → ScriptWord → Option Operation
operation_asked c sampled (word.Poll l) = Some (of_socket kind.Poll l 1 (sampled + c.rw))
operation_asked c sampled (word.Send s n) = Some (of_socket kind.Send s n (sampled + c.rw))
operation_asked c sampled (word.Recv s n) = Some (of_socket kind.Recv s n (sampled + c.rw))
operation_asked c sampled (word.Fill s n) = Some (of_socket kind.Fill s n (sampled + c.rw))
operation_asked c sampled (word.Connect s) = Some (of_socket kind.Connect s 1 (sampled + c.connect))
operation_asked c sampled (word.Read f o n) = Some (of_file kind.Read f o n)
operation_asked c sampled (word.Hint f o n) = Some (of_file kind.Hint f o n)
operation_asked c sampled (word.Direct f o n) = Some (record (of_file kind.Direct f o n) { skip = o % 4096 })
operation_asked c sampled (word.Write f o n) = Some (of_file kind.Write f o n)
operation_asked c sampled (word.Dsync f o n) = Some (of_file kind.Dsync f o n)
operation_asked c sampled (word.Many f o n) = Some (of_file kind.Many f o n)
operation_asked c sampled (word.Sync f) = Some (of_file kind.Sync f 0 1)
operation_asked c sampled _ = None

-- what it asks for as far as its results go, how far it has come, and one more result of it
abbrev pub asked_of : Operation → Asked
asked_of o = record { kind = o.kind; length = o.length; skip = o.skip }

abbrev pub cursor_of : Operation → Cursor
cursor_of o = record { moved = o.moved; switched = o.switched; hinted = o.unrefused }

abbrev pub judged_of : Request → OpResult → Judged
judged_of r n = record { result = n; hinted = r.operation.hinted; cancelled = r.cancelled }

-- THE END OF A REQUEST

abbrev pub resolved : Outcome → Request → Request
resolved outcome r = record r { phase = phase.Resolved outcome; timer = None }

abbrev pub resolved_if : Option Outcome → Request → Request
resolved_if None r = r
resolved_if (Some outcome) r = resolved outcome r

-- the number joins the end of the list where this is so, or leaves the list
abbrev pub joined_if : Bool → List ℕ → ℕ → List ℕ
joined_if joins list r = if joins then list ++ r ∷ [] else list

abbrev pub left_if : Bool → List ℕ → ℕ → List ℕ
left_if leaves list r = if leaves then filter (λ q. not (q == r)) list else list

-- a request that is over leaves each list in which it waits for something, and is the last of those that ended
abbrev pub own_after_end : Bool → ℕ → Own → Own
own_after_end over r me =
    record me {
      ready = left_if over me.ready r;
      unenrolled = left_if over me.unenrolled r;
      cancels = left_if over me.cancels r;
      ended = joined_if over me.ended r;
    }

-- the permit goes to the first of those who wait
abbrev pub passed_on : Open → Open
passed_on o = record o { holder = slice_get o.waiting 0; waiting = drop 1 o.waiting }

-- an open whose request has ended: its account, and where that was durable its permit goes on
abbrev pub open_after_end : ℕ → Operation → Outcome → Open → Open
open_after_end file o outcome opened =
    let counted = record opened { account = account_after file o.switched o.seen o.kind outcome opened.account } in
    if is_durable o.kind then passed_on counted else counted

-- the opens after an operation gave this end, where it gave one
abbrev pub opens_after_end : Operation → Option Outcome → Common → List Open
opens_after_end o None s = s.opens
opens_after_end o (Some outcome) s =
    if is_of_file o.kind then slice_set s.opens o.target (open_after_end o.target o outcome (open_of s o.target)) else s.opens

-- LETTING GO

-- A request that nobody holds any more goes on where it is a write or a sync. Else it is over where the kernel doesn't
-- have it, and is cancelled where the kernel does.
abbrev pub ends_by_drop : Request → Bool
ends_by_drop r = is_queued r.phase && not (is_kept r.operation.kind)

abbrev pub is_cancelled_by_drop : Request → Bool
is_cancelled_by_drop r = is_in_flight r.phase && not (is_kept r.operation.kind) && not r.cancelled

abbrev pub dropped : Request → Request
dropped r =
    if ends_by_drop r then record (resolved (Failure Timeout) r) { observed = false }
    else if is_cancelled_by_drop r then record r { observed = false; cancelled = true; timer = None }
    else record r { observed = false }

abbrev pub outcome_of_drop : Request → Option Outcome
outcome_of_drop r = if ends_by_drop r then Some (Failure Timeout) else None

abbrev pub own_after_drop : Own → Common → ℕ → Own
own_after_drop me s r =
    let left = own_after_end (ends_by_drop (request_of s r)) r me in
    record left { cancels = joined_if (is_cancelled_by_drop (request_of s r)) left.cancels r }

-- ADMIT

-- a deadline at or before the sampled moment has passed
abbrev pub outcome_if_late : ℕ → Option ℕ → Option Outcome
outcome_if_late sampled None = None
outcome_if_late sampled (Some deadline) = if nat_le deadline sampled then Some (Failure Timeout) else None

abbrev pub asks_kind : Kind → Option Operation → Bool
asks_kind kind None = false
asks_kind kind (Some o) = same_kind o.kind kind

abbrev pub operation_or_none : Option Operation → Operation
operation_or_none None = no_operation
operation_or_none (Some o) = o

-- the operation of the next act
abbrev pub asked_now : Configuration → Own → Common → Operation
asked_now c me s = operation_or_none (operation_asked c me.sampled (next_word s (polled_task me s)))

abbrev pub may_admit : Configuration → Own → Common → ℕ → ℕ → Kind → Option Outcome → List Bool
may_admit c me s i r kind outcome =
    acts me s (λ w. asks_kind kind (operation_asked c me.sampled w)) ∷ is_open (seat_of s i).phase ∷ (r == length s.requests)
    ∷ same_end outcome (outcome_if_late me.sampled (asked_now c me s).deadline) ∷ []

abbrev pub first_phase : Kind → RequestPhase
first_phase kind = if is_durable kind then phase.Gated else phase.Queued

-- with the mutations of its open, which a write raises at once
abbrev pub account_after_admit : Kind → Account → Account
account_after_admit kind.Write account = changed account
account_after_admit _ account = account

abbrev pub with_seen : Operation → Common → Operation
with_seen o s = if is_of_file o.kind then record o { seen = (account_after_admit o.kind (open_of s o.target).account).mutations } else o

abbrev pub new_request : ℕ → Operation → Request
new_request i o =
    record {
      operation = o;
      worker = i;
      phase = first_phase o.kind;
      timer = None;
      observed = true;
      cancelled = false;
      cancel_staged = false;
      released = false;
      waiter = None;
      wakes_paid = 0;
      forwarding = Unsent;
    }

-- a durable request joins its gate by the next line; any other is ready, and one with a deadline is to be enrolled
abbrev pub own_after_admit : Operation → Option Outcome → ℕ → Own → Own
own_after_admit o (Some outcome) r me = record (own_after_end true r me) { unreleased = me.unreleased + 1 }
own_after_admit o None r me =
    if is_durable o.kind then record me { next = next.Joins r; unreleased = me.unreleased + 1 }
    else record me {
      ready = me.ready ++ r ∷ [];
      unenrolled = if is_none o.deadline then me.unenrolled else me.unenrolled ++ r ∷ [];
      unreleased = me.unreleased + 1;
    }

abbrev pub after_admit : Configuration → Own → Common → ℕ → ℕ → Option Outcome → ℕ → Common
after_admit c me s i r outcome t =
    let o = asked_now c me s in
    let it = moved_on s (task_of s t) in
    record s {
      tasks = slice_set s.tasks t (record it { held = it.held ++ r ∷ [] });
      requests = s.requests ++ resolved_if outcome (new_request i (with_seen o s)) ∷ [];
      opens = opens_with s o;
    }
  where
    opens_with : Common → Operation → List Open
    opens_with s o =
        if same_kind o.kind kind.Write
        then slice_set s.opens o.target (record (open_of s o.target) { account = changed (open_of s o.target).account })
        else s.opens

-- GATES

-- the open once this request came to its gate: it holds the permit, or is the last of those who wait
abbrev pub open_joined_by : ℕ → Open → Open
open_joined_by r o = if is_none o.holder then record o { holder = Some r } else record o { waiting = o.waiting ++ r ∷ [] }

abbrev pub after_join : Common → ℕ → Common
after_join s r =
    let file = (request_of s r).operation.target in
    set_open s file (open_joined_by r (open_of s file))

abbrev pub account_of_open : Common → Request → Account
account_of_open s r = (open_of s r.operation.target).account

-- the permit is its own
abbrev pub may_grant : Own → Common → ℕ → ℕ → Option Outcome → List Bool
may_grant me s i r outcome =
    is_at_large me ∷ ((request_of s r).worker == i) ∷ is_gated (request_of s r).phase
    ∷ is_number r (open_of s (request_of s r).operation.target).holder
    ∷ same_end outcome (outcome_at_grant (request_of s r).operation.kind (account_of_open s (request_of s r))) ∷ []

abbrev pub granted : Option Outcome → Request → Request
granted None r = record r { phase = phase.Queued }
granted (Some outcome) r = resolved outcome r

abbrev pub own_after_grant : Option Outcome → ℕ → Own → Own
own_after_grant outcome r me =
    let left = own_after_end (is_some outcome) r me in record left { ready = joined_if (is_none outcome) left.ready r }

abbrev pub after_grant : Common → ℕ → Option Outcome → Common
after_grant s r outcome =
    record s {
      requests = slice_set s.requests r (granted outcome (request_of s r));
      opens = opens_after_end (request_of s r).operation outcome s;
    }

-- STAGE, ENTER, BUSY

abbrev pub is_enrolled : Request → Bool
is_enrolled r = is_none r.operation.deadline || not (is_none r.timer)

-- the first that is ready, where the ring has a place
abbrev pub may_stage : Configuration → Own → Common → ℕ → ℕ → List Bool
may_stage c me s i r =
    is_at_large me ∷ is_number r (slice_get me.ready 0) ∷ ((request_of s r).worker == i) ∷ is_queued (request_of s r).phase
    ∷ not (request_of s r).cancelled ∷ is_enrolled (request_of s r) ∷ nat_lt me.in_flight (ring_size c) ∷ []

-- a read that asks for the hint, or a direct read that has become a buffered one
abbrev pub asks_hint : Operation → Bool
asks_hint o = same_kind o.kind kind.Hint || (same_kind o.kind kind.Direct && o.switched)

-- its operation has the hint while no hint of it or of its open was refused
abbrev pub with_hint : Bool → Operation → Operation
with_hint stands o = record o { hinted = asks_hint o && o.unrefused && stands }

abbrev pub staged : Common → Request → Request
staged s r = record r { operation = with_hint (account_of_open s r).hinted r.operation; phase = phase.Staged }

abbrev pub own_after_stage : Own → Own
own_after_stage me = record me { ready = drop 1 me.ready; in_flight = me.in_flight + 1 }

-- the ring was not set busy
abbrev pub may_enter : Own → Common → ℕ → List Bool
may_enter me s i = is_at_large me ∷ not (seat_of s i).busy ∷ []

abbrev pub may_be_busy : Own → Common → ℕ → List Bool
may_be_busy me s i = is_at_large me ∷ (seat_of s i).busy ∷ []

abbrev pub flown : ℕ → Request → Request
flown i r = if (r.worker == i) && is_staged r.phase then record r { phase = phase.Flying } else r

-- REAP

-- what one more result gives, and what is told of that
abbrev pub outcome_given : Request → OpResult → Option Outcome
outcome_given r n = outcome_next (asked_of r.operation) (cursor_of r.operation) (judged_of r n)

abbrev pub outcome_shown : Account → Kind → Option Outcome → Option Outcome
outcome_shown account kind None = None
outcome_shown account kind (Some outcome) = Some (outcome_told kind account outcome)

-- the first that landed, with what all its results give
abbrev pub may_reap : Own → Common → ℕ → ℕ → OpResult → Option Outcome → List Bool
may_reap me s i r n outcome =
    is_at_large me ∷ is_number r (slice_get (seat_of s i).landed 0) ∷ ((request_of s r).worker == i)
    ∷ is_landed_with n (request_of s r).phase
    ∷ same_end outcome (outcome_shown (account_of_open s (request_of s r)) (request_of s r).operation.kind (outcome_given (request_of s r) n)) ∷ []

-- the operation by one more result
abbrev pub went_on : Request → OpResult → Operation
went_on r n =
    let after = cursor_next (asked_of r.operation) (cursor_of r.operation) (judged_of r n) in
    record r.operation { moved = after.moved; switched = after.switched; unrefused = after.hinted }

abbrev pub reaped : OpResult → Option Outcome → Request → Request
reaped n None r = record r { operation = went_on r n; phase = phase.Queued }
reaped n (Some outcome) r = record (resolved outcome r) { operation = went_on r n }

-- a refused hint is the last of its open
abbrev pub common_after_refusal : Common → Request → OpResult → Common
common_after_refusal s r n =
    if refuses_hint (judged_of r n)
    then set_open s r.operation.target (record (open_of s r.operation.target) { account = record (account_of_open s r) { hinted = false } })
    else s

abbrev pub own_after_reap : Option Outcome → ℕ → Own → Own
own_after_reap outcome r me =
    let left = own_after_end (is_some outcome) r me in
    record left { ready = joined_if (is_none outcome) left.ready r; in_flight = me.in_flight - 1 }

abbrev pub after_reap : Common → ℕ → ℕ → OpResult → Option Outcome → Common
after_reap s i r n outcome =
    let it = request_of s r in
    let seat = seat_of s i in
    let told = common_after_refusal s it n in
    record told {
      seats = slice_set s.seats i (record seat { landed = drop 1 seat.landed });
      requests = slice_set s.requests r (reaped n outcome it);
      opens = opens_after_end it.operation (outcome_given it n) told;
    }

-- CANCEL

-- the first that was cancelled in flight; its cancel wasn't staged before
abbrev pub may_cancel : Own → Common → ℕ → ℕ → List Bool
may_cancel me s i r =
    is_at_large me ∷ is_number r (slice_get me.cancels 0) ∷ ((request_of s r).worker == i) ∷ is_in_flight (request_of s r).phase
    ∷ (request_of s r).cancelled ∷ not (request_of s r).cancel_staged ∷ []

abbrev pub own_after_cancel : Own → ℕ → Own
own_after_cancel me r = record me { cancels = drop 1 me.cancels; untold = me.untold ++ r ∷ [] }

-- RELEASE

-- the first that ended
abbrev pub may_release : Own → Common → ℕ → ℕ → List Bool
may_release me s i r =
    is_at_large me ∷ is_number r (slice_get me.ended 0) ∷ ((request_of s r).worker == i) ∷ is_resolved (request_of s r).phase
    ∷ not (request_of s r).released ∷ []

abbrev pub own_after_release : Own → Own
own_after_release me = record me { ended = drop 1 me.ended; unreleased = me.unreleased - 1 }
