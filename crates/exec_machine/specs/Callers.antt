-- Steps of outside callers, of the clock, the kernel and the peers: when each may be taken, and what it changes. All of
-- it is common.
--
-- The first step of a call does what the call is for. From then on the caller is half done, until it returns.
use Rattle.std.specs.Prelude.{ℕ, Bool, true, false, not, ◌+◌, ◌==◌, ◌&&◌, ◌||◌, nat_le, nat_lt, List, [], ◌∷◌, ◌++◌, length, map, slice_index_or, slice_set, Option, Some, None}
use Rattle.exec_outcomes.specs.{declared.outcome.OpResult.OpResult, Lawful.{window_of, is_lawful}}
use Rattle.exec_machine.specs.{declared.{step.Action.{Action, Action as action}, event.Event.{Event, Event as event}, state.{Rest.TheVariants.Awake, Call.{Call, Call as call}}}, Choice.{Payer, Choice, Payer.ByCall, Choice.{Pays, Posts}}, Same.{is_none, is_number}, World.{Seat, Common, seat_of, task_of, request_of}, Tests.{is_awake, has_ended, is_flying, all_left, set_seat}, Requests.{asked_of, cursor_of}, Deadlines.roused_at, Tasks.{after_spawn, wake}, Mail.{has_root_message, is_root_message, is_left_out, after_post, may_rouse, after_rouse}}
use Rattle.exec_base.specs.declared.limits.TheConstants.{LAST_MOMENT}
use Rattle.exec_machine.specs.declared.state.RequestPhase.TheVariants as phase

-- WHICH STEPS ARE ENABLED

-- it has passed the barrier, and another worker of the pool has not
abbrev pub is_held : Common → Seat → Bool
is_held s seat = seat.pool && seat.left && not (all_left s)

abbrev pub may_work : Common → Seat → Bool
may_work s seat = is_awake seat.rest && not (has_ended seat.phase) && not (is_held s seat)

abbrev pub is_half_done : Call → Bool
is_half_done call.HalfDone = true
is_half_done call.Nothing = false

-- there is such a caller, and it has no call half done, or it has one
abbrev pub may_call : Common → ℕ → Bool
may_call s j = not (is_half_done (slice_index_or s.callers j call.HalfDone))

abbrev pub may_go_on : Common → ℕ → Bool
may_go_on s j = is_half_done (slice_index_or s.callers j call.Nothing)

abbrev pub may_land : Common → ℕ → OpResult → Bool
may_land s r n =
    let it = request_of s r in is_flying it.phase && is_lawful (window_of (asked_of it.operation) (cursor_of it.operation)) n

-- A step that may be taken.
abbrev pub is_enabled : Common → Action → Bool
is_enabled s (action.Work i) = may_work s (seat_of s i)
is_enabled s (action.Spawn j k) = may_call s j
is_enabled s (action.Wake j t) = may_call s j && nat_lt t (length s.tasks)
is_enabled s (action.GoOn j) = may_go_on s j
is_enabled s (action.Clock d) = nat_le (s.clock + d) LAST_MOMENT
is_enabled s (action.Land r n) = may_land s r n
is_enabled s (action.SetBusy i) = not (has_ended (seat_of s i).phase)
is_enabled s (action.EndPoll i) = not (has_ended (seat_of s i).phase)
is_enabled s (action.Stir i) = not (is_awake (seat_of s i).rest)
is_enabled s (action.Peer l) = nat_lt l (length s.listeners)

-- CALLERS

abbrev pub half_done : Common → ℕ → Common
half_done s j = record s { callers = slice_set s.callers j call.HalfDone }

abbrev pub may_spawn_by_call : Common → ℕ → Event → List Bool
may_spawn_by_call s k (event.Spawn t script) = (t == length s.tasks) ∷ (k == script) ∷ not s.set_closed ∷ []
may_spawn_by_call s k event.Closed = s.set_closed ∷ []
may_spawn_by_call s k _ = false ∷ []

abbrev pub after_spawn_by_call : Common → ℕ → Event → Common
after_spawn_by_call s k (event.Spawn t script) = after_spawn s k
after_spawn_by_call s k _ = s

-- the mailbox of the root's worker is closed
abbrev pub is_root_shut : Common → Option ℕ → Bool
is_root_shut s None = false
is_root_shut s (Some home) = (seat_of s home).mailbox_closed

-- the call pays the wake
abbrev pub is_call : Payer → Bool
is_call ByCall = true
is_call _ = false

abbrev pub is_paid_by_call : Choice → Bool
is_paid_by_call (Pays payer) = is_call payer
is_paid_by_call (Posts payer left_out) = is_call payer
is_paid_by_call _ = false

-- a root is told by a message
abbrev pub may_wake_by_call : Common → ℕ → Event → Choice → List Bool
may_wake_by_call s t (event.Wake other) choice = (t == other) ∷ is_none (task_of s t).home ∷ is_paid_by_call choice ∷ []
may_wake_by_call s t (event.Send to m) choice =
    is_root_message m ∷ is_number to (task_of s t).home ∷ not (seat_of s to).mailbox_closed
    ∷ (not (is_left_out choice) || has_root_message (seat_of s to)) ∷ is_paid_by_call choice ∷ []
may_wake_by_call s t event.Closed choice = is_root_shut s (task_of s t).home ∷ []
may_wake_by_call s t _ choice = false ∷ []

abbrev pub after_wake_by_call : Common → ℕ → Event → Choice → Common
after_wake_by_call s t (event.Wake other) choice = wake s t
after_wake_by_call s t (event.Send to m) choice = after_post s to m choice
after_wake_by_call s t _ choice = s

abbrev pub may_go_on_by : Common → Event → List Bool
may_go_on_by s event.Turn = []
may_go_on_by s (event.Rouse other) = may_rouse s other ∷ []
may_go_on_by s event.Return = []
may_go_on_by s _ = false ∷ []

abbrev pub after_going_on : Common → ℕ → Event → Common
after_going_on s j (event.Rouse other) = after_rouse s other
after_going_on s j event.Return = record s { callers = slice_set s.callers j call.Nothing }
after_going_on s j _ = s

-- THE CLOCK, THE KERNEL, THE PEERS

abbrev pub is_told_as : Action → Event → Bool
is_told_as (action.Clock d) event.Clock = true
is_told_as (action.Land r n) event.Land = true
is_told_as (action.SetBusy i) event.Set = true
is_told_as (action.EndPoll i) event.Set = true
is_told_as (action.Stir i) event.Stir = true
is_told_as (action.Peer l) event.Peer = true
is_told_as _ _ = false

-- The clock moves, and who slept until then is awake.
abbrev pub after_clock : Common → ℕ → Common
after_clock s d = record s { clock = s.clock + d; seats = map (roused_at (s.clock + d)) s.seats }

-- The result lands on the ring of the request's worker, which is awake by that.
abbrev pub after_landing : Common → ℕ → OpResult → Common
after_landing s r n =
    let it = request_of s r in
    let seat = seat_of s it.worker in
    record s {
      seats = slice_set s.seats it.worker (record seat { landed = seat.landed ++ r ∷ []; rest = Awake });
      requests = slice_set s.requests r (record it { phase = phase.Landed n });
    }

abbrev pub after_peer : Common → ℕ → Common
after_peer s l = record s { listeners = slice_set s.listeners l (slice_index_or s.listeners l 0 + 1) }

-- the common part after a step that is no worker's
abbrev pub common_by : Common → Action → Event → Choice → Common
common_by s (action.Work i) e choice = s
common_by s (action.Spawn j k) e choice = half_done (after_spawn_by_call s k e) j
common_by s (action.Wake j t) e choice = half_done (after_wake_by_call s t e choice) j
common_by s (action.GoOn j) e choice = after_going_on s j e
common_by s (action.Clock d) e choice = after_clock s d
common_by s (action.Land r n) e choice = after_landing s r n
common_by s (action.SetBusy i) e choice = set_seat s i (record (seat_of s i) { busy = true })
common_by s (action.EndPoll i) e choice = s
common_by s (action.Stir i) e choice = set_seat s i (record (seat_of s i) { rest = Awake })
common_by s (action.Peer l) e choice = after_peer s l
