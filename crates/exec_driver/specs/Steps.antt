-- What each step of a driver does, and what it leaves to be told.
use Rattle.std.specs.Prelude.{◌≡◌, ℕ, Bool, true, false, ◌+◌, ◌-◌, ◌^◌, ◌≤◌, ◌==◌, ◌&&◌, ◌||◌, List, [], ◌∷◌, ◌++◌, nat_lt, nat_le, min, Option, Some, None, Result, Ok, Err, is_some, IsSomeAnd, if◌then◌else◌}
use Rattle.exec_base.specs.{Slab.{Slab, value_at, written, inserted}, declared.{error.{Cause.TheVariants.InvalidInput, Error.{Error, TheVariants.{Timeout, Io}}}, slab.Id.Id}}
use Rattle.exec_outcomes.specs.{Accounts.Account, Lawful.window_of, declared.outcome.{OpResult.OpResult, Judged.Judged}, Outcomes.{HasCome, is_unsupported}}
use Rattle.exec_request.specs.{Hints.{AsksOn, has_hint, without_hint}, Judging.{Judges, judged_as}, Kept.kept_of, Requests.{asked_of, cursor_of, hinted_of, deadline_of, gate_of, record_after, window_by, outcome_if_granted}, States.{Ended, as_answer, asks_cancel, told_by}, Windows.{cancel_window, most_of, wake_window}, declared.{request.Request.{Request, TheVariants.WriteAt}, write_at.WriteAtState.{WriteAtState, TheVariants.Writing}}}
use Rattle.exec_ring.specs.{Completions.result_in, Kernels.{with_entry, entered_with, reaped, next_completion, flight_of, landed}, Rings.fresh as fresh_ring, declared.{store.Store.Store, completion.{Completion.Completion, Posted.Posted, Submission.Submission}}}
use Rattle.exec_time.specs.{Wheel.{Wheel, fresh, target_of, moment_of, scheduled, removed}, Layouts.slots_of, Turning.advanced}
use Rattle.exec_waiters.specs.{Events.{admitted, finished, told_by_finish, cancelled, with_permit, with_tick, orphaned, asks_cancel_by_orphan, is_lawful_for, Lands}, Ids.user_data_of, States.{waiter_at, named, tick_in, file_of, gate_in}, Told.{Told, nothing_told, Tells}, declared.{deferred.Deferred.Deferred, observer.Observer.Observer, waiter.{Waiter.Waiter, Entry.{Entry, TheVariants.Pending}}, waiter_id.WaiterId.WaiterId}}
use Rattle.exec_opens.specs.{Opens.{OpenState, holder_at, account_in, with_account}, declared.opens.WaiterKey.WaiterKey}
pub use Rattle.exec_waiters.specs.Events.{newcomer}
use Rattle.exec_driver.specs.{Driving.{Driving, request_at}, declared.driver.{reaping.Reaped.Reaped, staging.Granted.Granted}}
use Rattle.exec_lists.specs.Lists.{Lists, is_among, no_lists, withdrawn, with_queued, with_gated, with_enrolment, with_due, with_cancel, without_gated, after_queued, after_enrolment, after_due, after_cancel}

-- an error of a timed-out request, and of one whose deadline is beyond the wheel
abbrev pub timed_out : Ended
timed_out = Err Timeout

-- an entry of the wheel is active no more
abbrev pub unscheduled : Wheel → Option ℕ → Wheel
unscheduled w None = w
unscheduled w (Some tick) = removed w tick

-- a completion is of no operation: a wake, or the acknowledgement of a cancel
abbrev pub is_control : Completion → Bool
is_control c = (c.user_data == 18446744073709551615) || (c.user_data == 4294967295)

-- a cancel is acknowledged, and a wake may have ended the wake poll
abbrev pub under_way_after : Completion → ℕ → ℕ
under_way_after c count = if c.user_data == 4294967295 then count - 1 else count

abbrev pub armed_after : Completion → Bool → Bool
armed_after c armed = if c.user_data == 4294967295 then armed else (armed && c.more)

-- what an enrolment gives: the tick at which the deadline comes, or how the request ends
abbrev pub in_time : Wheel → ℕ → Result ℕ Error
in_time w tick = if nat_lt (moment_of w tick) (2 ^ 64) then Ok tick else Err (Io InvalidInput)

abbrev pub tick_by : Wheel → Option (Option ℕ) → Result ℕ Error
tick_by w None = Err (Io InvalidInput)
tick_by w (Some None) = Err Timeout
tick_by w (Some (Some tick)) = in_time w tick

abbrev pub tick_for : Wheel → ℕ → ℕ → Result ℕ Error
tick_for w deadline now = tick_by w (target_of w deadline now)

-- the lower of two numbers, of which the second counts only where it is not below this one
abbrev pub lower_of : ℕ → ℕ → Option ℕ → Option ℕ
lower_of from file None = Some file
lower_of from file (Some least) = Some (min least file)

abbrev pub lower : ℕ → Option ℕ → Option ℕ → Option ℕ
lower from least None = least
lower from least (Some file) = if nat_lt file from then least else lower_of from file least

-- the holder of a gate is a request of this worker that waits for the permit
abbrev pub is_turn_of : ℕ → Lists → Option WaiterKey → Bool
is_turn_of worker lists None = false
is_turn_of worker lists (Some key) = (key.worker == worker) && is_among key.id lists.gated

-- the open that a plain write changes
abbrev pub written_by : WriteAtState → ℕ → Option ℕ
written_by Writing file = Some file
written_by _ file = None

abbrev pub plainly_written : Request → Option ℕ
plainly_written (WriteAt w) = written_by w.state w.file
plainly_written _ = None

-- the deadline isn't after now
abbrev pub is_late : Option ℕ → ℕ → Bool
is_late None now = false
is_late (Some deadline) now = nat_le deadline now

-- what an enrolment answers beside the request
abbrev pub ended_by : Result ℕ Error → Option Error
ended_by (Ok tick) = None
ended_by (Err error) = Some error

-- the entries of a cancel and of the wake poll
abbrev pub cancel_entry : WaiterId → Submission
cancel_entry id = record { window = cancel_window (user_data_of id.0); user_data = 4294967295 }

abbrev pub wake_entry : Submission
wake_entry = record { window = wake_window; user_data = 18446744073709551615 }

-- whether the next completion is of no operation
abbrev pub is_next_control : Option Completion → Bool
is_next_control None = false
is_next_control (Some c) = is_control c

module _ {S F : Type 0} where
  -- what is told by two calls, one after the other
  abbrev pub both : Told S F → Told S F → Told S F
  both a b =
      record {
        wakes = a.wakes ++ b.wakes;
        outputs = a.outputs ++ b.outputs;
        resources = a.resources ++ b.resources;
        completions = a.completions ++ b.completions;
        results = a.results ++ b.results;
      }

  -- what lands within the next enter is told by the ring alone
  abbrev pub with_landings : Driving S F → Driving S F → Driving S F
  with_landings like d = record d { landings = like.landings }

  -- THE END OF A REQUEST

  -- a request that has no operation ends so, with the record of its open
  abbrev pub ended : Driving S F → WaiterId → Waiter S F → Ended → Option Account → Driving S F
  ended d id w how account =
      record d {
        requests = finished d.requests id.0 w how account;
        wheel = unscheduled d.wheel (tick_in w.state);
        lists = withdrawn id d.lists;
      }

  -- CANCEL

  -- one in flight is cancelled, for the first time
  abbrev pub cancelling : Driving S F → WaiterId → Waiter S F → Driving S F
  cancelling d id w =
      record d {
        requests = written d.requests id.0 (Pending (cancelled w));
        wheel = unscheduled d.wheel (tick_in w.state);
        lists = with_cancel id d.lists;
      }

  -- one in flight is cancelled once, one that has no operation ends, and what is over stays
  abbrev pub cancelled_from : Driving S F → WaiterId → Option (Waiter S F) → Driving S F
  cancelled_from d id None = d
  cancelled_from d id (Some w) =
      if w.in_flight then (if asks_cancel w.state then d else cancelling d id w) else ended d id w timed_out None

  abbrev pub cancelled_at : Driving S F → WaiterId → Driving S F
  cancelled_at d id = cancelled_from d id (request_at d id)

  abbrev pub told_by_cancel : WaiterId → Option (Waiter S F) → Told S F
  told_by_cancel id None = nothing_told
  told_by_cancel id (Some w) = if w.in_flight then nothing_told else told_by_finish id.0 w timed_out None

  -- ORPHAN: nobody waits, and it is cancelled unless it goes on alone
  abbrev pub without_observer : Driving S F → WaiterId → Driving S F
  without_observer d id = record d { requests = orphaned d.requests id.0 }

  abbrev pub let_go : Driving S F → WaiterId → Driving S F
  let_go d id =
      if asks_cancel_by_orphan (value_at d.requests id.0)
      then cancelled_at (without_observer d id) id
      else without_observer d id

  abbrev pub told_by_let_go : Driving S F → WaiterId → Told S F → Told S F
  told_by_let_go d id told =
      if asks_cancel_by_orphan (value_at d.requests id.0)
      then both told (told_by_cancel id (request_at (without_observer d id) id))
      else told

  -- ADMISSION

  -- a request that was inserted has its place: over, gated or queued, and its deadline is to be enrolled
  abbrev pub in_place : Driving S F → WaiterId → Option ℕ → Driving S F
  in_place d id None = record d { lists = with_queued id d.lists }
  in_place d id (Some file) = record d { lists = with_gated id d.lists }

  abbrev pub with_deadline : Driving S F → WaiterId → Option ℕ → Driving S F
  with_deadline d id None = d
  with_deadline d id (Some deadline) = record d { lists = with_enrolment id d.lists }

  abbrev pub placed_at : Driving S F → WaiterId → Waiter S F → ℕ → Driving S F
  placed_at d id w now =
      if is_late (deadline_of w.request) now
      then ended d id w timed_out None
      else in_place (with_deadline d id (deadline_of w.request)) id (gate_of w.request)

  abbrev pub told_at_admission : WaiterId → Waiter S F → ℕ → Told S F
  told_at_admission id w now =
      if is_late (deadline_of w.request) now then told_by_finish id.0 w timed_out None else nothing_told

  -- a request came in
  abbrev pub taken_in : Driving S F → Request → Observer S F → Driving S F
  taken_in d request observer = record d { requests = inserted d.requests (admitted request observer) }

  -- DEADLINES

  -- an id came out of the wheel: its request is due, unless it has no deadline there any more
  abbrev pub fallen_due : WaiterId → Option (Waiter S F) → Lists → Lists
  fallen_due id None lists = lists
  fallen_due id (Some w) lists = if is_some (tick_in w.state) then with_due id lists else lists

  abbrev pub all_due : Slab (Entry S F) → List Id → Lists → Lists
  all_due s [] lists = lists
  all_due s (id ∷ ids) lists = all_due s ids (fallen_due (record { 0 = id }) (waiter_at s id) lists)

  abbrev pub advanced_to : Driving S F → ℕ → Driving S F
  advanced_to d now =
      let turned = (advanced d.wheel now).wheel in
      record d { wheel = record turned { ready = [] }; lists = all_due d.requests turned.ready d.lists }

  -- a request whose deadline has come is cancelled
  abbrev pub expired : Driving S F → WaiterId → Driving S F
  expired d id = cancelled_at (record d { lists = after_due d.lists }) id

  -- a deadline is enrolled, or its request ends
  abbrev pub enrolled_by : Driving S F → WaiterId → Waiter S F → Result ℕ Error → Driving S F
  enrolled_by d id w (Ok tick) =
      record d { requests = written d.requests id.0 (Pending (with_tick tick w)); wheel = scheduled d.wheel id.0 tick }
  enrolled_by d id w (Err error) = ended d id w (Err error) None

  abbrev pub enrolled : Driving S F → WaiterId → Waiter S F → ℕ → ℕ → Driving S F
  enrolled d id w deadline now = enrolled_by (record d { lists = after_enrolment d.lists }) id w (tick_for d.wheel deadline now)

  abbrev pub told_by_enrolment : WaiterId → Waiter S F → Result ℕ Error → Told S F
  told_by_enrolment id w (Ok tick) = nothing_told
  told_by_enrolment id w (Err error) = told_by_finish id.0 w (Err error) None

  pub record EnrolsAs (old new : Driving S F) (before after : Deferred S F) (id : WaiterId) (w : Waiter S F) (deadline now : ℕ) (told : Option Error) : Type 0 where
    pub driver : new ≡ enrolled old id w deadline now
    pub tells : Tells before after (told_by_enrolment id w (tick_for old.wheel deadline now))
    pub told_is : told ≡ ended_by (tick_for old.wheel deadline now)

  abbrev pub Enrols : Driving S F → Driving S F → Deferred S F → Deferred S F → WaiterId → Option Error → ℕ → Type 0
  Enrols old new before after id told now =
      (w : Waiter S F) → (deadline : ℕ) → request_at old id ≡ Some w → deadline_of w.request ≡ Some deadline
      → EnrolsAs old new before after id w deadline now told

  -- GRANT: the request has its permit, and ends at once or is queued
  abbrev pub permitted : Driving S F → WaiterId → Waiter S F → Driving S F
  permitted d id w = record d { requests = written d.requests id.0 (Pending (with_permit w)); lists = without_gated id d.lists }

  -- a request goes on at the end of what is queued, or ends
  abbrev pub queued_or_ended : Driving S F → WaiterId → Waiter S F → Option Ended → Option Account → Driving S F
  queued_or_ended d id w None account = record d { lists = with_queued id d.lists }
  queued_or_ended d id w (Some how) account = ended d id w how account

  abbrev pub granted : Driving S F → WaiterId → Waiter S F → Option Ended → Option Account → Driving S F
  granted d id w how account = queued_or_ended (permitted d id w) id (with_permit w) how account

  abbrev pub told_by_end : WaiterId → Waiter S F → Option Ended → Option Account → Told S F
  told_by_end id w None account = nothing_told
  told_by_end id w (Some how) account = told_by_finish id.0 w how account

  abbrev pub opens_after_end : List OpenState → Waiter S F → Option Ended → List OpenState
  opens_after_end opens w None = opens
  opens_after_end opens w (Some how) =
      with_account opens (file_of w.request) (record_after w.request how (account_in opens (file_of w.request)))

  -- the open with the least number, from one on, at whose gate one of these waits
  abbrev pub lowest_gate : ℕ → Slab (Entry S F) → List WaiterId → Option ℕ → Option ℕ
  lowest_gate from s [] least = least
  lowest_gate from s (id ∷ ids) least = lowest_gate from s ids (lower from least (gate_in (waiter_at s id.0)))

  pub record GrantsAs (old new : Driving S F) (opens opens' : List OpenState) (before after : Deferred S F) (file : ℕ) (g : Granted) (w : Waiter S F) : Type 0 where
    pub driver : new ≡ granted old g.id w g.ended (account_in opens (file_of w.request))
    pub tells : Tells before after (told_by_end g.id (with_permit w) g.ended (account_in opens (file_of w.request)))
    pub opens_after : opens' ≡ opens_after_end opens (with_permit w) g.ended
    pub answer : as_answer g.ended ≡ outcome_if_granted w.request (account_in opens (Some file))

  pub record Grants (old new : Driving S F) (opens opens' : List OpenState) (before after : Deferred S F) (worker file : ℕ) (g : Granted) : Type 0 where
    pub holder : holder_at opens file ≡ Some (record { worker = worker; id = g.id })
    pub waits : is_among g.id old.lists.gated ≡ true
    pub grants : (w : Waiter S F) → request_at old g.id ≡ Some w → GrantsAs old new opens opens' before after file g w

  -- STAGING

  -- an entry went into the submission queue
  abbrev pub with_staged : Driving S F → Submission → Driving S F
  with_staged d s = record d { ring = with_entry d.ring s.window s.user_data }

  abbrev pub cancel_staged : Driving S F → WaiterId → Driving S F
  cancel_staged d id =
      with_staged (record d { lists = after_cancel d.lists; cancels_under_way = d.cancels_under_way + 1 }) (cancel_entry id)

  abbrev pub poll_staged : Driving S F → Driving S F
  poll_staged d = with_staged (record d { armed = true }) wake_entry

  -- the first that is queued is in flight
  pub record StagesOne (old new : Driving S F) (id : WaiterId) (w : Waiter S F) (account : Option Account) : Type 0 where
    pub request : Request
    pub entry : Submission
    pub driver : new ≡ record (with_staged (record old { requests = written old.requests id.0 (Pending (record w { in_flight = true; request = request })); lists = after_queued old.lists }) entry) { landings = new.landings }
    pub user_data : entry.user_data ≡ user_data_of id.0
    pub window : entry.window ≡ window_by (has_hint account) w.request
    pub hint : hinted_of request ≡ entry.window.hint
    pub again : window_by true request ≡ entry.window
    pub fits : most_of entry.window ≤ window_of (asked_of request) (cursor_of request)
    pub goes_on : (results : List Judged) → HasCome (asked_of w.request) (cursor_of w.request) results → HasCome (asked_of request) (cursor_of request) results
    pub asks : AsksOn (cursor_of w.request).hinted (cursor_of request).hinted (has_hint account)
    pub kept : kept_of request ≡ kept_of w.request

  -- the kernel takes all entries in, or none where it is busy
  abbrev pub entered : Driving S F → Driving S F
  entered d = record d { ring = entered_with d.landings d.ring }

  -- COMPLETIONS

  -- what a completion that is of no operation says
  abbrev pub noted : Completion → Driving S F → Driving S F
  noted c d = record d { cancels_under_way = under_way_after c d.cancels_under_way; armed = armed_after c d.armed }

  -- all that stands before the next completion of an operation is taken out
  abbrev pub swept_from : List Posted → Driving S F → Driving S F
  swept_from [] d = record d { ring = record d.ring { posted = []; wakes = 0 } }
  swept_from (p ∷ ps) d =
      if is_control p.completion then swept_from ps (noted p.completion d)
      else record d { ring = record d.ring { posted = record p { wakes = 0 } ∷ ps } }

  abbrev pub swept : Driving S F → Driving S F
  swept d = swept_from d.ring.posted d

  -- the first completion is taken out
  abbrev pub taken_out : Driving S F → Driving S F
  taken_out d = record d { ring = reaped d.ring }

  -- the driver without the next completion, where that is of no operation
  abbrev pub after_next_control : Driving S F → Option Completion → Driving S F
  after_next_control d None = d
  after_next_control d (Some c) = if is_control c then noted c (taken_out d) else d

  abbrev pub landed_at : Driving S F → WaiterId → Waiter S F → Driving S F
  landed_at d id w = record d { requests = written d.requests id.0 (Pending w) }

  -- the open after a result, which may have refused its hint
  abbrev pub open_after : Waiter S F → OpResult → Option Account → Option Account
  open_after w given account = if hinted_of w.request && is_unsupported given then without_hint account else account

  abbrev pub permit_after : Waiter S F → Option Ended → Option ℕ
  permit_after w None = None
  permit_after w (Some how) = gate_of w.request

  -- what a reap answers of an end: what is told of it, with the record of its open
  abbrev pub told_as : Waiter S F → Option Ended → Option Account → Option Ended
  told_as w None account = None
  told_as w (Some how) account = Some (told_by (asked_of w.request).kind how account)

  -- A completion of a request's operation was taken in. The result was judged with all before it; the request goes on
  -- or ends.
  pub record Reaps (old new : Driving S F) (opens opens' : List OpenState) (before after : Deferred S F) (id : WaiterId) (w : Waiter S F) (given : OpResult) (told : Option Reaped) : Type 0 where
    pub request : Request
    pub answer : Option Ended
    pub told_is : told ≡ Some (record { id = id; given = given; ended = told_as w answer (account_in opens (file_of w.request)); permit = permit_after (record w { in_flight = false; request = request }) answer })
    pub driver : new ≡ with_landings new (queued_or_ended (landed_at (taken_out old) id (record w { in_flight = false; request = request })) id (record w { in_flight = false; request = request }) answer (open_after w given (account_in opens (file_of w.request))))
    pub judges : Judges (asked_of w.request) (cursor_of w.request) (cursor_of request) (judged_as (hinted_of w.request) w.state given) (as_answer answer)
    pub kept : kept_of request ≡ kept_of w.request
    pub tells : Tells before after (told_by_end id (record w { in_flight = false; request = request }) answer (open_after w given (account_in opens (file_of w.request))))
    pub opens_after : opens' ≡ opens_after_end (with_account opens (file_of w.request) (open_after w given (account_in opens (file_of w.request)))) (record w { in_flight = false; request = request }) answer

  -- the request whose operation this is the completion of, where it is under way and could give this
  abbrev pub if_lawful : Id → Option (Waiter S F) → OpResult → Option Id
  if_lawful id None given = None
  if_lawful id (Some w) given = if is_lawful_for w given then Some id else None

  abbrev pub lawful_of : Slab (Entry S F) → OpResult → Option Id → Option Id
  lawful_of s given None = None
  lawful_of s given (Some id) = if_lawful id (waiter_at s id) given

  abbrev pub completed_in : Driving S F → Completion → Option Id
  completed_in d c = lawful_of d.requests (result_in c.result) (named d.requests c.user_data)

  pub record ReapsFrom (first new : Driving S F) (opens opens' : List OpenState) (before after : Deferred S F) (id : WaiterId) (w : Waiter S F) (given : OpResult) (told : Option Reaped) : Type 0 where
    pub second : Driving S F
    pub reaps : Reaps first second opens opens' before after id w given told
    pub swept_last : new ≡ with_landings new (swept second)

  -- A reap takes in what stands before the next completion of an operation, that, and what stands after it. A completion
  -- of no operation that is under way changes nothing else.
  pub record ReapsNext (old new : Driving S F) (opens opens' : List OpenState) (before after : Deferred S F) (told : Option Reaped) : Type 0 where
    pub first : Driving S F
    pub swept_first : first ≡ with_landings first (swept old)
    pub none : next_completion first.ring ≡ None → (new ≡ first) × (told ≡ None) × (opens' ≡ opens) × (after ≡ before)
    pub stale : (c : Completion) → next_completion first.ring ≡ Some c → completed_in first c ≡ None → (new ≡ with_landings new (swept (taken_out first))) × (told ≡ None) × (opens' ≡ opens) × (after ≡ before)
    pub some : (c : Completion) → (id : Id) → (w : Waiter S F) → next_completion first.ring ≡ Some c → completed_in first c ≡ Some id → waiter_at first.requests id ≡ Some w → ReapsFrom first new opens opens' before after (record { 0 = id }) w (result_in c.result) told

  -- an operation of a ring in memory has ended so, and its bytes moved
  pub record LandsOne (old new : Driving S F) (id : WaiterId) (w : Waiter S F) (given : OpResult) (store store' : Store) : Type 0 where
    pub lands : Lands old.requests new.requests id.0 w (flight_of old.ring (user_data_of id.0)) given store store'
    pub driver : new ≡ record old { requests = new.requests; ring = landed old.ring (user_data_of id.0) given }

  -- a driver without requests, over a ring in which nothing happened
  abbrev pub IsFresh : Driving S F → ℕ → ℕ → ℕ → ℕ → Type 0
  IsFresh d size horizon tick now = IsSomeAnd (slots_of horizon tick) (λ slots. IsNew d size horizon tick now slots)
    where
      IsNew : Driving S F → ℕ → ℕ → ℕ → ℕ → ℕ → Type 0
      IsNew d size horizon tick now slots = (d.requests.slots ≡ []) × (d.requests.vacant ≡ []) × (d.requests.first ≡ 0)
          × (d.wheel ≡ fresh horizon tick now slots) × (d.ring ≡ record (fresh_ring size) { places = 1 })
          × (d.lists ≡ no_lists)
          × (d.cancels_under_way ≡ 0) × (d.armed ≡ false)
