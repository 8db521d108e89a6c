-- That no party turns for ever, and that no worker sleeps on work.
--
-- A line is quiet where only bookkeeping happened. Among so many lines of one worker or of one caller alone, while no
-- worker closes, one is not quiet; and wherever all workers sleep nothing is unfinished.
use Rattle.std.specs.{Prelude.{◌≡◌, ℕ, Bool, true, false, not, ◌+◌, ◌*◌, ◌==◌, ◌&&◌, ◌||◌, if◌then◌else◌, nat_lt, nat_le, List, [], ◌∷◌, length}, List.{list_any, list_all}}
use Rattle.exec_machine.specs.{declared.{config.{Configuration.Configuration, ScriptWord.ScriptWord}, step.Action.{Action, Action as action}, event.{StepResult.{StepResult, TheVariants.{Refused, Did}}, Line.Line}, state.{TaskPhase.{TaskPhase, TaskPhase as task}, Waiting.{Waiting, Waiting as waiting}, Request.Request, Sleeper.Sleeper}}, Choice.Choice, Ranges.{ring_size, largest_spin}, Same.{is_none, is_number}, World.{World, Own, Seat, Task, Common, own_of, seat_of, task_of, request_of, sleeper_of, open_of}, Tests.{all_numbered, is_empty, is_open, is_closing, has_ended, is_awake, is_done, is_gated, is_queued, is_staged, is_landed, is_resolved, is_in_flight, is_asleep}, Deadlines.is_due, Callers.is_half_done, Run.{after_line, first_world}, Text.is_quiet}

-- QUIET LINES

-- So many lines of one party alone have one that is not quiet: by the workers of the pool, the largest spin budget,
-- and the requests and sleepers made so far.
abbrev pub quiet_bound : Configuration → World → ℕ
quiet_bound c w = 128 * c.workers + 16 * largest_spin c.spin + 4 * (length w.common.requests + length w.common.sleepers) + 2048

-- who takes a step: the clock, the kernel and the peers are nobody
pub data Party : Type 0 where
  Nobody : Party
  Worker : ℕ → Party
  Caller : ℕ → Party

abbrev pub party_of : Action → Party
party_of (action.Work i) = Worker i
party_of (action.Spawn j k) = Caller j
party_of (action.Wake j t) = Caller j
party_of (action.GoOn j) = Caller j
party_of _ = Nobody

abbrev pub same_party : Party → Party → Bool
same_party (Worker i) (Worker j) = i == j
same_party (Caller i) (Caller j) = i == j
same_party _ _ = false

abbrev pub is_anyone_closing : World → Bool
is_anyone_closing w = list_any (λ seat. is_closing seat.phase) w.common.seats

-- a step was taken, only bookkeeping happened, and no worker was closing
abbrev pub is_quiet_step : World → StepResult → Bool
is_quiet_step w Refused = false
is_quiet_step w (Did e) = is_quiet e && not (is_anyone_closing w)

-- quiet lines one after another, all of one party: whose they are, and how many so far
pub record Stretch : Type 0 where
  pub party : Party
  pub count : ℕ

abbrev pub no_stretch : Stretch
no_stretch = record { party = Nobody; count = 0 }

abbrev pub one_more : Party → Stretch → Stretch
one_more p s = if same_party p s.party then record s { count = s.count + 1 } else record { party = p; count = 1 }

-- The stretch after one more line. A refused one doesn't count; a quiet one of the same party makes it longer; any
-- other ends it.
abbrev pub longer : World → Action → StepResult → Stretch → Stretch
longer w a Refused s = s
longer w a (Did e) s = if is_quiet_step w (Did e) then one_more (party_of a) s else no_stretch

-- From this state on, after this stretch, no stretch of quiet lines is as long as the bound.
abbrev pub is_solo : Configuration → World → Stretch → List Line → List Choice → Bool
is_solo c w s [] choices = true
is_solo c w s (l ∷ ls) [] = true
is_solo c w s (l ∷ ls) (choice ∷ choices) =
    nat_lt (longer w l.action l.said s).count (quiet_bound c w)
    && is_solo c (after_line c w l.action l.said choice) (longer w l.action l.said s) ls choices

-- ALL ASLEEP

-- it has ended, or it sleeps and isn't closing
abbrev pub is_down : Seat → Bool
is_down seat = has_ended seat.phase || (is_open seat.phase && not (is_awake seat.rest))

-- Each worker that has not ended sleeps, none is closing, and no call is half done.
abbrev pub all_asleep : World → Bool
all_asleep w = list_all is_down w.common.seats && list_all (λ call. not (is_half_done call)) w.common.callers

-- WHAT IS UNFINISHED

-- a task to be polled, or in a poll
abbrev pub is_runnable : TaskPhase → Bool
is_runnable task.Idle = false
is_runnable task.Done = false
is_runnable _ = true

-- what the task waits for has come
abbrev pub has_come : Common → Waiting → Bool
has_come s (waiting.Request r) = is_resolved (request_of s r).phase
has_come s (waiting.Timer z) = (sleeper_of s z).fired
has_come s _ = false

-- a task that is to be polled or in a poll, or that was woken since its last poll began, or whose wait is over
abbrev pub is_task_unfinished : Common → Task → Bool
is_task_unfinished s t = is_runnable t.phase || (not (is_done t.phase) && (not t.fresh || has_come s t.waiting))

-- The request holds a permit that it wasn't granted, may be staged, is staged or landed, has a deadline that isn't on
-- the wheel, has a cancel that isn't staged, has an owner that isn't released, or is due by the clock.
abbrev pub is_request_unfinished : Configuration → World → ℕ → Request → Bool
is_request_unfinished c w n r =
    (is_gated r.phase && is_number n (open_of w.common r.operation.target).holder)
    || (is_queued r.phase && not r.cancelled && nat_lt (own_of w r.worker).in_flight (ring_size c))
    || is_staged r.phase || is_landed r.phase
    || (not (is_resolved r.phase) && not r.cancelled && is_none r.timer && not (is_none r.operation.deadline))
    || (is_in_flight r.phase && r.cancelled && not r.cancel_staged)
    || (is_resolved r.phase && not r.released)
    || is_due r.worker w.common.clock r

-- a sleeper whose moment has come by the clock and wasn't told
abbrev pub is_sleeper_unfinished : Common → Sleeper → Bool
is_sleeper_unfinished s z = is_asleep z.worker z && nat_le z.until s.clock

-- a cancel that the kernel wasn't told, of a request that isn't over
abbrev pub is_cancel_untold : Common → Own → Bool
is_cancel_untold s me = list_any (λ r. not (is_resolved (request_of s r).phase)) me.untold

-- a worker that is open though its root is over: it has to close
abbrev pub has_to_close : World → ℕ → Seat → Bool
has_to_close w i seat = is_open seat.phase && is_done (task_of w.common (own_of w i).root).phase

-- Nothing is left to do.
pub record NothingUnfinished (c : Configuration) (w : World) : Type 0 where
  pub tasks : (t : ℕ) → is_task_unfinished w.common (task_of w.common t) ≡ false
  pub messages : (i : ℕ) → (seat_of w.common i).inbox ≡ []
  pub requests : (r : ℕ) → is_request_unfinished c w r (request_of w.common r) ≡ false
  pub sleepers : (z : ℕ) → is_sleeper_unfinished w.common (sleeper_of w.common z) ≡ false
  pub cancels : (i : ℕ) → is_cancel_untold w.common (own_of w i) ≡ false
  pub workers : (i : ℕ) → has_to_close w i (seat_of w.common i) ≡ false

-- a closing worker that sleeps, though each of its requests is over
abbrev pub sleeps_for_nothing : Common → ℕ → Seat → Bool
sleeps_for_nothing s i seat =
    is_closing seat.phase && not (is_awake seat.rest) && list_all (λ r. not (r.worker == i) || is_resolved r.phase) s.requests

-- Where all workers sleep nothing is unfinished; and wherever a closing worker sleeps, it has a request that isn't over.
pub record IsRightlyAsleep (c : Configuration) (w : World) : Type 0 where
  pub asleep : all_asleep w ≡ true → NothingUnfinished c w
  pub closing : (i : ℕ) → sleeps_for_nothing w.common i (seat_of w.common i) ≡ false

-- So it is in each state of the run.
abbrev pub RightlyAsleepBy : Configuration → World → List Line → List Choice → Type 0
RightlyAsleepBy c w [] choices = IsRightlyAsleep c w
RightlyAsleepBy c w (l ∷ ls) [] = IsRightlyAsleep c w
RightlyAsleepBy c w (l ∷ ls) (choice ∷ choices) =
    IsRightlyAsleep c w × RightlyAsleepBy c (after_line c w l.action l.said choice) ls choices

-- THE SAME AS TESTS THAT COMPUTE

abbrev pub is_nothing_unfinished : Configuration → World → Bool
is_nothing_unfinished c w =
    list_all (λ t. not (is_task_unfinished w.common t)) w.common.tasks
    && list_all (λ seat. is_empty seat.inbox) w.common.seats
    && all_numbered (λ r it. not (is_request_unfinished c w r it)) 0 w.common.requests
    && list_all (λ z. not (is_sleeper_unfinished w.common z)) w.common.sleepers
    && list_all (λ me. not (is_cancel_untold w.common me)) w.workers
    && all_numbered (λ i seat. not (has_to_close w i seat)) 0 w.common.seats

abbrev pub is_rightly_asleep : Configuration → World → Bool
is_rightly_asleep c w =
    (not (all_asleep w) || is_nothing_unfinished c w)
    && all_numbered (λ i seat. not (sleeps_for_nothing w.common i seat)) 0 w.common.seats

abbrev pub is_always_rightly_asleep : Configuration → World → List Line → List Choice → Bool
is_always_rightly_asleep c w [] choices = is_rightly_asleep c w
is_always_rightly_asleep c w (l ∷ ls) [] = is_rightly_asleep c w
is_always_rightly_asleep c w (l ∷ ls) (choice ∷ choices) =
    is_rightly_asleep c w && is_always_rightly_asleep c (after_line c w l.action l.said choice) ls choices

-- A GOOD LOG

-- what a trace sets up: its configuration, its scripts by number, and the script of the root
pub record Plan : Type 0 where
  pub config : Configuration
  pub scripts : List (List ScriptWord)
  pub root : List ScriptWord

abbrev pub begin : Plan → World
begin p = first_world p.config p.scripts p.root
