-- Events of time: a service samples the clock, deadlines go on the wheel and come, sleepers are made and fire, and a
-- worker sleeps.
use Rattle.std.specs.{Prelude.{ℕ, Bool, true, false, not, ◌+◌, ◌-◌, ◌*◌, ◌/◌, ◌%◌, ◌==◌, ◌&&◌, ◌||◌, if◌then◌else◌, nat_lt, nat_le, List, [], ◌∷◌, ◌++◌, length, drop, slice_get, slice_set, slice_index_or, unwrap_or, is_some, Option, Some, None}, List.list_all}
use Rattle.exec_base.specs.declared.error.{Error.TheVariants.{Timeout, Io}, Cause.TheVariants.InvalidInput}
use Rattle.exec_outcomes.specs.declared.outcome.Outcome.{Outcome, TheVariants.Failure}
use Rattle.exec_machine.specs.{declared.{config.Configuration.Configuration, state.{Rest.Rest, Forwarding.TheVariants.Unsent, Request.Request, Sleeper.Sleeper}}, Ranges.{horizon, wheel_slots}, Same.{is_none, is_number, same_number, same_end}, World.{Own, Seat, Common, seat_of, task_of, request_of, sleeper_of, no_request}, Tests.{all_numbered, is_at_large, is_open, is_queued, is_asleep, set_request}, Words.{moved_on, acts, sleep_asked}, Requests.{resolved, joined_if, own_after_end}}
use Rattle.exec_machine.specs.declared.state.Rest.TheVariants as rest
use Rattle.exec_machine.specs.declared.state.Waiting.TheVariants as waiting

-- SAMPLING

-- the first line of a service samples the clock
abbrev pub sampled_now : Common → Own → Own
sampled_now s me = if me.serving then me else record me { sampled = s.clock; sampled_before = me.sampled }

-- THE WHEEL

-- the tick that a moment is in, counted from the worker's start, and the first tick that begins at it or after
abbrev pub tick_of : Configuration → Own → ℕ → ℕ
tick_of c me moment = (moment - me.start) / c.tick

abbrev pub tick_from : Configuration → Own → ℕ → ℕ
tick_from c me moment = (moment - me.start + (c.tick - 1)) / c.tick

-- the moment at which the wheel fires a deadline
abbrev pub fires_at : Configuration → Own → ℕ → ℕ
fires_at c me deadline = me.start + tick_from c me deadline * c.tick

-- the deadline is farther than the wheel reaches from where it stands
abbrev pub is_beyond : Configuration → Own → ℕ → Bool
is_beyond c me deadline =
    nat_lt (horizon c) (deadline - me.sampled) || nat_le (tick_of c me me.sampled + wheel_slots c) (tick_from c me deadline)

-- ENROL

abbrev pub outcome_at_enrol : Configuration → Own → Option ℕ → Option Outcome
outcome_at_enrol c me None = None
outcome_at_enrol c me (Some deadline) =
    if nat_le deadline me.sampled then Some (Failure Timeout)
    else if is_beyond c me deadline then Some (Failure (Io InvalidInput))
    else None

-- the first new deadline
abbrev pub may_enrol : Configuration → Own → Common → ℕ → ℕ → Option Outcome → List Bool
may_enrol c me s i r outcome =
    is_at_large me ∷ is_number r (slice_get me.unenrolled 0) ∷ ((request_of s r).worker == i) ∷ is_queued (request_of s r).phase
    ∷ is_none (request_of s r).timer ∷ not (is_none (request_of s r).operation.deadline)
    ∷ same_end outcome (outcome_at_enrol c me (request_of s r).operation.deadline) ∷ []

abbrev pub enrolled : ℕ → Option Outcome → Request → Request
enrolled moment None r = record r { timer = Some moment }
enrolled moment (Some outcome) r = resolved outcome r

abbrev pub own_after_enrol : Option Outcome → ℕ → Own → Own
own_after_enrol outcome r me = own_after_end (is_some outcome) r (record me { unenrolled = drop 1 me.unenrolled })

abbrev pub after_enrol : Configuration → Own → Common → ℕ → Option Outcome → Common
after_enrol c me s r outcome =
    set_request s r (enrolled (fires_at c me (unwrap_or (request_of s r).operation.deadline 0)) outcome (request_of s r))

-- EXPIRE

-- the timer of a request of worker i is not after the moment
abbrev pub is_due : ℕ → ℕ → Request → Bool
is_due i moment r = (r.worker == i) && is_at_most moment r.timer
  where
    is_at_most : ℕ → Option ℕ → Bool
    is_at_most moment None = false
    is_at_most moment (Some m) = nat_le m moment

-- the last advance of the wheel went all the way round
abbrev pub went_round : Configuration → Own → Bool
went_round c me = nat_le (tick_of c me me.sampled_before + wheel_slots c) (tick_of c me me.sampled)

-- Where a due deadline stands in the order in which they are told: by its slot where the wheel went round, else by
-- its tick.
abbrev pub order_on_wheel : Configuration → Own → Option ℕ → ℕ
order_on_wheel c me timer =
    if went_round c me then tick_of c me (unwrap_or timer 0) % wheel_slots c else tick_of c me (unwrap_or timer 0)

-- request r with this timer is told before request q with that one; those of one tick in the order of their making
abbrev pub is_told_before : Configuration → Own → ℕ → Option ℕ → ℕ → Option ℕ → Bool
is_told_before c me r timer q other =
    nat_lt (order_on_wheel c me timer) (order_on_wheel c me other)
    || ((order_on_wheel c me timer == order_on_wheel c me other) && nat_lt r q)

-- it isn't due, or isn't told before request r with this timer
abbrev pub is_told_after : Configuration → Own → ℕ → ℕ → Option ℕ → ℕ → Request → Bool
is_told_after c me i r timer q other = not (is_due i me.sampled other) || not (is_told_before c me q other.timer r timer)

-- of the requests it is due, and no other that is due is told before it
abbrev pub is_first_due : Configuration → Own → ℕ → List Request → ℕ → Bool
is_first_due c me i rs r =
    let it = slice_index_or rs r no_request in
    is_due i me.sampled it && all_numbered (is_told_after c me i r it.timer) 0 rs

abbrev pub outcome_at_expiry : Request → Option Outcome
outcome_at_expiry r = if is_queued r.phase then Some (Failure Timeout) else None

abbrev pub may_expire : Configuration → Own → Common → ℕ → ℕ → Option Outcome → List Bool
may_expire c me s i r outcome = is_at_large me ∷ is_first_due c me i s.requests r ∷ same_end outcome (outcome_at_expiry (request_of s r)) ∷ []

-- over where the kernel doesn't have it, else cancelled
abbrev pub expired : Option Outcome → Request → Request
expired None r = record r { timer = None; cancelled = true }
expired (Some outcome) r = resolved outcome r

abbrev pub own_after_expire : Option Outcome → ℕ → Own → Own
own_after_expire outcome r me =
    let left = own_after_end (is_some outcome) r me in record left { cancels = joined_if (is_none outcome) left.cancels r }

-- SLEEPERS

abbrev pub may_time : Own → Common → ℕ → ℕ → List Bool
may_time me s z until = acts me s (λ w. is_number until (sleep_asked me.sampled w)) ∷ (z == length s.sleepers) ∷ []

abbrev pub new_sleeper : ℕ → ℕ → ℕ → Sleeper
new_sleeper until i t =
    record { until = until; worker = i; task = t; fired = false; removed = false; wakes_paid = 0; forwarding = Unsent }

abbrev pub after_timer : Common → ℕ → ℕ → ℕ → ℕ → Common
after_timer s i z until t =
    record s {
      tasks = slice_set s.tasks t (record (moved_on s (task_of s t)) { waiting = waiting.Timer z });
      sleepers = s.sleepers ++ new_sleeper until i t ∷ [];
    }

-- no sleeper of worker i that is asleep is earlier than this moment
abbrev pub is_none_earlier : ℕ → ℕ → List Sleeper → Bool
is_none_earlier i until zs = list_all (λ z. not (is_asleep i z) || nat_le until z.until) zs

-- due, and no other sleeper of the worker is earlier
abbrev pub may_fire : Own → Common → ℕ → ℕ → List Bool
may_fire me s i z =
    is_at_large me ∷ is_open (seat_of s i).phase ∷ is_asleep i (sleeper_of s z) ∷ nat_le (sleeper_of s z).until me.sampled
    ∷ is_none_earlier i (sleeper_of s z).until s.sleepers ∷ []

-- SLEEP

-- the earlier of two moments, where one is told
abbrev pub earlier : Option ℕ → Option ℕ → Option ℕ
earlier None m = m
earlier (Some u) None = Some u
earlier (Some u) (Some m) = if nat_le u m then Some u else Some m

abbrev pub first_timer : ℕ → List Request → Option ℕ
first_timer i [] = None
first_timer i (r ∷ rs) = if r.worker == i then earlier r.timer (first_timer i rs) else first_timer i rs

abbrev pub first_until : ℕ → List Sleeper → Option ℕ
first_until i [] = None
first_until i (z ∷ zs) = if is_asleep i z then earlier (Some z.until) (first_until i zs) else first_until i zs

-- the earliest moment at which something of the worker is due; a closing worker waits for no sleeper
abbrev pub next_due : Common → ℕ → Option ℕ
next_due s i = if is_open (seat_of s i).phase then earlier (first_timer i s.requests) (first_until i s.sleepers) else first_timer i s.requests

abbrev pub is_after : ℕ → Option ℕ → Bool
is_after clock None = true
is_after clock (Some u) = nat_lt clock u

-- until the next moment at which something is due, which is ahead, or without end where there is none
abbrev pub may_sleep : Own → Common → ℕ → Option ℕ → List Bool
may_sleep me s i until = is_at_large me ∷ same_number until (next_due s i) ∷ is_after s.clock until ∷ []

abbrev pub rest_until : Option ℕ → Rest
rest_until None = rest.Forever
rest_until (Some u) = rest.Until u

-- awake, at this moment, where it slept until then
abbrev pub roused_at : ℕ → Seat → Seat
roused_at clock seat = record seat { rest = rest_at clock seat.rest }
  where
    rest_at : ℕ → Rest → Rest
    rest_at clock (rest.Until u) = if nat_le u clock then rest.Awake else rest.Until u
    rest_at clock other = other
