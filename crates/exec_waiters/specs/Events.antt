-- What each call does to the requests of a worker, and what it leaves to be told.
use Rattle.std.specs.Prelude.{◌≡◌, ℕ, Bool, true, false, not, ◌<◌, ◌≤◌, ◌==◌, ◌&&◌, ◌||◌, List, [], ◌∷◌, Option, Some, None, Result, Ok, Err, if◌then◌else◌}
use Rattle.exec_base.specs.{Slab.{Slab, value_at, written, removed, HasRoom}, declared.{slab.{InsertError.{InsertError, TheVariants.{Full, NoMemory}}, Id.Id}, error.Error.{Error, TheVariants.Closed}, task_no.TaskNo.TaskNo}}
use Rattle.exec_outcomes.specs.{Accounts.Account, Lawful.{is_lawful, window_of}, Outcomes.{HasCome, is_unsupported}, declared.outcome.{Judged.Judged, OpResult.OpResult, Outcome.Outcome}}
use Rattle.exec_request.specs.{Hints.{AsksOn, has_hint, without_hint}, Judging.{Judges, judged_as}, Kept.kept_of, Requests.{asked_of, cursor_of, hinted_of, goes_on_alone, window_by, output_of, retired_of, outcome_if_granted, record_after}, States.{Ended, as_answer, asks_cancel}, Windows.most_of, declared.{output.RequestOutput.RequestOutput, request.Request.Request, results.WaiterState.{WaiterState, TheVariants.{Active, CancelRequested}}}}
use Rattle.exec_ring.specs.{Landings.Moves, declared.{completion.Submission.Submission, store.Store.Store}}
use Rattle.exec_time.specs.declared.timers.Observation.{Observation}
use Rattle.exec_waiters.specs.{Ids.user_data_of, Told.{Told, Tells, nothing_told, tasks_of}, States.{is_local, is_held_by, is_detached, is_held_at, is_full, tick_in, IsUsedUp}, declared.{deferred.Deferred.Deferred, observer.Observer.{Observer, TheVariants.{Local, Forwarded, DetachedSync, Orphaned}}, completed.CompletionOutcome.{CompletionOutcome, TheVariants.{Requeue, Complete}}, waiter.{Waiter.Waiter, Refused.Refused, Entry.{Entry, TheVariants.{Pending, Ready}}}}}

abbrev pub wakes_this : TaskNo → Option TaskNo → Bool
wakes_this task None = false
wakes_this task (Some current) = current.0 == task.0

abbrev pub ending_of : RequestOutput → Ended
ending_of (RequestOutput.Send ended) = ended
ending_of (RequestOutput.Recv received) = Ok tt
ending_of (RequestOutput.ReadAt read) = Ok tt
ending_of (RequestOutput.WriteAt ended) = ended
ending_of (RequestOutput.Sync ended) = ended
ending_of (RequestOutput.Connect ended) = ended
ending_of (RequestOutput.Poll ended) = ended

abbrev pub is_of_sync : RequestOutput → Bool
is_of_sync (RequestOutput.Sync ended) = true
is_of_sync _ = false

-- COMPLETION: the kernel has no operation of the request any more. The result was judged with all before it.
abbrev pub outcome_by : Id → Option Ended → CompletionOutcome
outcome_by id None = Requeue (record { 0 = id })
outcome_by id (Some ended) = Complete (record { 0 = id }) ended

module _ {S F : Type 0} where
  -- a request that was admitted
  abbrev pub newcomer : Request → Observer S F → Waiter S F
  newcomer r observer =
      record { state = Active None; in_flight = false; observer = observer; request = r; permit = false }

  abbrev pub admitted : Request → Observer S F → Entry S F
  admitted r observer = Pending (newcomer r observer)

  -- an insert is refused for this reason, and hands this back
  abbrev pub IsTurnedDown : Slab (Entry S F) → Refused S F → InsertError (Refused S F) → Type 0
  IsTurnedDown s back (Full v) = (v ≡ back) × (is_full s ≡ true) × IsUsedUp s
  IsTurnedDown s back (NoMemory v) = (v ≡ back) × (HasRoom s → ⊥) × (is_full s ≡ false)

  -- ONE REQUEST CHANGED

  -- the requests, of which that with this id becomes what a function makes of it, where it isn't over
  abbrev pub changed_from : Slab (Entry S F) → Id → (Waiter S F → Waiter S F) → Option (Entry S F) → Slab (Entry S F)
  changed_from s id change (Some (Pending w)) = written s id (Pending (change w))
  changed_from s id change _ = s

  abbrev pub changed : Slab (Entry S F) → Id → (Waiter S F → Waiter S F) → Slab (Entry S F)
  changed s id change = changed_from s id change (value_at s id)

  abbrev pub with_permit : Waiter S F → Waiter S F
  with_permit w = record w { permit = true }

  abbrev pub with_state : WaiterState → Waiter S F → Waiter S F
  with_state state w = record w { state = state }

  abbrev pub with_tick : ℕ → Waiter S F → Waiter S F
  with_tick tick w = with_state (Active (Some tick)) w

  abbrev pub with_observer : Observer S F → Waiter S F → Waiter S F
  with_observer observer w = record w { observer = observer }

  abbrev pub with_waker : TaskNo → Waiter S F → Waiter S F
  with_waker task w = with_observer (Local (Some task)) w

  abbrev pub cancelled : Waiter S F → Waiter S F
  cancelled w = with_state CancelRequested w

  -- WHO WAITS

  -- the task that would be woken
  abbrev pub waker_in : Observer S F → Option TaskNo
  waker_in (Local waker) = waker
  waker_in _ = None

  abbrev pub waker_of : Option (Waiter S F) → Option TaskNo
  waker_of None = None
  waker_of (Some w) = waker_in w.observer

  -- what a task of the worker finds: the output, or that it will be woken, or that another or none would be
  abbrev pub seen_in : TaskNo → Entry S F → Observation RequestOutput
  seen_in task (Ready told) = Observation.Ready told
  seen_in task (Pending w) = if wakes_this task (waker_in w.observer) then Observation.Pending else Observation.Refresh

  abbrev pub seen_by : TaskNo → Option (Entry S F) → Observation RequestOutput
  seen_by task None = Observation.Refresh
  seen_by task (Some entry) = seen_in task entry

  -- an output is gone once it was taken
  abbrev pub taken_from : Slab (Entry S F) → Id → Option (Entry S F) → Slab (Entry S F)
  taken_from s id (Some (Ready told)) = removed s id
  taken_from s id _ = s

  abbrev pub taken : Slab (Entry S F) → Id → Slab (Entry S F)
  taken s id = taken_from s id (value_at s id)

  -- one output that nobody takes; one request that is over; one answer for who waits elsewhere
  abbrev pub untaken : Id → RequestOutput → Told S F
  untaken id told = record nothing_told { outputs = record { id = record { 0 = id }; output = told } ∷ [] }

  abbrev pub answered : Id → F → Result RequestOutput Error → Told S F
  answered id sender result =
      record nothing_told { results = record { id = record { 0 = id }; sender = sender; result = result } ∷ [] }

  -- FORWARD: who waits is elsewhere from now on. An output that is there is sent at once; where nobody of the worker
  -- waits, that there is none any more.
  abbrev pub forwarded_from : Slab (Entry S F) → Id → F → Option (Entry S F) → Slab (Entry S F)
  forwarded_from s id sender None = s
  forwarded_from s id sender (Some (Pending w)) =
      if is_local w.observer then written s id (Pending (with_observer (Forwarded sender) w)) else s
  forwarded_from s id sender (Some (Ready told)) = removed s id

  abbrev pub forwarded : Slab (Entry S F) → Id → F → Slab (Entry S F)
  forwarded s id sender = forwarded_from s id sender (value_at s id)

  abbrev pub told_by_forward : Id → F → Option (Entry S F) → Told S F
  told_by_forward id sender None = answered id sender (Err Closed)
  told_by_forward id sender (Some (Pending w)) =
      if is_local w.observer then nothing_told else answered id sender (Err Closed)
  told_by_forward id sender (Some (Ready told)) = answered id sender (Ok told)

  -- ORPHAN: nobody waits from now on. Who waited elsewhere is told so; an output that is there is let go. A detached
  -- sync, and what nobody waits for, stay.
  abbrev pub orphaned_from : Slab (Entry S F) → Id → Option (Entry S F) → Slab (Entry S F)
  orphaned_from s id None = s
  orphaned_from s id (Some (Pending w)) =
      if is_held_by w.observer then written s id (Pending (with_observer Orphaned w)) else s
  orphaned_from s id (Some (Ready told)) = removed s id

  abbrev pub orphaned : Slab (Entry S F) → Id → Slab (Entry S F)
  orphaned s id = orphaned_from s id (value_at s id)

  abbrev pub told_to : Id → Observer S F → Told S F
  told_to id (Forwarded sender) = answered id sender (Err Closed)
  told_to id _ = nothing_told

  abbrev pub told_by_orphan : Id → Option (Entry S F) → Told S F
  told_by_orphan id None = nothing_told
  told_by_orphan id (Some (Pending w)) = told_to id w.observer
  told_by_orphan id (Some (Ready told)) = untaken id told

  -- what nobody waits for is cancelled, but for writes and syncs
  abbrev pub asks_cancel_by_orphan : Option (Entry S F) → Bool
  asks_cancel_by_orphan (Some (Pending w)) = is_held_by w.observer && not (goes_on_alone w.request)
  asks_cancel_by_orphan _ = false

  -- CLOSE: one request after another is orphaned, and the task that waits for it is woken besides
  abbrev pub waker_at : Option (Entry S F) → Option TaskNo
  waker_at (Some (Pending w)) = waker_in w.observer
  waker_at _ = None

  -- the request in the first slot that has one which someone can let go
  pub record IsFirstHeld (s : Slab (Entry S F)) (id : Id) : Type 0 where
    pub held : is_held_at (value_at s id) ≡ true
    pub none_before : (other : Id) → other.index < id.index → is_held_at (value_at s other) ≡ false

  abbrev pub told_by_close : Id → Option (Entry S F) → Told S F
  told_by_close id entry = record (told_by_orphan id entry) { wakes = tasks_of (waker_at entry) }

  -- CANCEL: once
  abbrev pub may_cancel : Option (Waiter S F) → Bool
  may_cancel None = false
  may_cancel (Some w) = not (asks_cancel w.state)

  -- GRANT: what ends a request that has its permit
  abbrev pub answer_at_grant : Option (Waiter S F) → Option Account → Option Outcome
  answer_at_grant None account = None
  answer_at_grant (Some w) account = outcome_if_granted w.request account

  -- FINISH: a request is over. Its output is kept for a task of the worker, or goes to who waits elsewhere, or is let
  -- go; then its slot is free. What it owned is retired in any case.
  abbrev pub finished_for : Slab (Entry S F) → Id → RequestOutput → Observer S F → Slab (Entry S F)
  finished_for s id told (Local waker) = written s id (Ready told)
  finished_for s id told _ = removed s id

  -- an outcome alone is sent only of a sync
  abbrev pub fits : RequestOutput → Observer S F → Bool
  fits told observer = not (is_detached observer) || is_of_sync told

  abbrev pub output_told : Id → RequestOutput → Observer S F → Told S F
  output_told id told (Local waker) = record nothing_told { wakes = tasks_of waker }
  output_told id told (Forwarded sender) = answered id sender (Ok told)
  output_told id told (DetachedSync sender) =
      record nothing_told { completions = record { sender = sender; result = ending_of told } ∷ [] }
  output_told id told Orphaned = untaken id told

  abbrev pub finished : Slab (Entry S F) → Id → Waiter S F → Ended → Option Account → Slab (Entry S F)
  finished s id w ended account = finished_for s id (output_of w.request ended account) w.observer

  abbrev pub told_by_finish : Id → Waiter S F → Ended → Option Account → Told S F
  told_by_finish id w ended account =
      record (output_told id (output_of w.request ended account) w.observer) {
        resources = record { id = record { 0 = id }; resources = retired_of w.request } ∷ [];
      }

  pub record Finishes (old new : Slab (Entry S F)) (before after : Deferred S F) (id : Id) (w : Waiter S F) (ended : Ended) (account account' : Option Account) (tick : Option ℕ) : Type 0 where
    pub tick_is : tick ≡ tick_in w.state
    pub slab : new ≡ finished old id w ended account
    pub told : Tells before after (told_by_finish id w ended account)
    pub open_after : account' ≡ record_after w.request ended account

  -- STAGE: the kernel may have an operation of the request from now on. All of the request stays but its wish for a
  -- hint that its open has given up.
  pub record Stages (old new : Slab (Entry S F)) (id : Id) (w : Waiter S F) (account : Option Account) (s : Submission) : Type 0 where
    pub request : Request
    pub slab : new ≡ written old id (Pending (record w { in_flight = true; request = request }))
    pub user_data : s.user_data ≡ user_data_of id
    pub window : s.window ≡ window_by (has_hint account) w.request
    pub hint : hinted_of request ≡ s.window.hint
    pub again : window_by true request ≡ s.window
    pub fits : most_of s.window ≤ window_of (asked_of request) (cursor_of request)
    pub goes_on : (results : List Judged) → HasCome (asked_of w.request) (cursor_of w.request) results → HasCome (asked_of request) (cursor_of request) results
    pub asks : AsksOn (cursor_of w.request).hinted (cursor_of request).hinted (has_hint account)
    pub kept : kept_of request ≡ kept_of w.request

  pub record Completes (old new : Slab (Entry S F)) (id : Id) (w : Waiter S F) (given : OpResult) (before after : Option Account) (told : Option CompletionOutcome) : Type 0 where
    pub request : Request
    pub answer : Option Ended
    pub told_is : told ≡ Some (outcome_by id answer)
    pub slab : new ≡ written old id (Pending (record w { in_flight = false; request = request }))
    pub judges : Judges (asked_of w.request) (cursor_of w.request) (cursor_of request) (judged_as (hinted_of w.request) w.state given) (as_answer answer)
    pub kept : kept_of request ≡ kept_of w.request
    pub account : after ≡ (if hinted_of w.request && is_unsupported given then without_hint before else before)

  -- LANDING in a ring in memory: bytes move between what the request owns and the store
  pub record Lands (old new : Slab (Entry S F)) (id : Id) (w : Waiter S F) (flight : Option Submission) (given : OpResult) (store store' : Store) : Type 0 where
    pub request : Request
    pub slab : new ≡ written old id (Pending (record w { request = request }))
    pub moved : Moves flight given w.request request store store'

  -- the result is one that the kernel may give for the request's next operation
  abbrev pub is_lawful_for : Waiter S F → OpResult → Bool
  is_lawful_for w given = is_lawful (window_of (asked_of w.request) (cursor_of w.request)) given

  abbrev pub may_complete : Option (Waiter S F) → OpResult → Bool
  may_complete None given = false
  may_complete (Some w) given = is_lawful_for w given
