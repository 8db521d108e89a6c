-- States to look at: one worker with its root, and one request, one sleeper or one open.
use Rattle.std.specs.Prelude.{ℕ, Bool, true, List, [], ◌∷◌, Some, None, replicate, slice_set}
use Rattle.exec_outcomes.specs.declared.outcome.{Kind.Kind as kind, Outcome.TheVariants.Success}
use Rattle.exec_machine.specs.{declared.{config.{Configuration.Configuration, ScriptWord.ScriptWord as word}, event.{StepResult.TheVariants.Did, Line.Line, Event.Event as event}, step.Action.Action, state.{Rest.TheVariants.Forever, Waiting.Waiting, RequestPhase.RequestPhase, Request.Request, Sleeper.Sleeper, WorkerPhase.WorkerPhase as worker, TaskPhase.TaskPhase as task}}, Choice.Choice.Plain, World.{World, Own, Seat, Task, Open, own_of, seat_of, task_of}, Requests.{of_socket, of_file, new_request}, Deadlines.new_sleeper, Run.first_world, Progress.{is_rightly_asleep, is_solo, no_stretch}}
use Rattle.exec_machine.specs.declared.state.Waiting.TheVariants as waiting
use Rattle.exec_machine.specs.declared.state.RequestPhase.TheVariants as phase

-- one worker, and a ring of so many places
abbrev pub one_worker : ℕ → Configuration
one_worker ring =
    record {
      workers = 1;
      interval = 31;
      ring = ring;
      tick = 5000000;
      connect = 10000000;
      rw = 10000000;
      spin = record { budget = 0; most = 0; quick = 0; iterations = 0 };
      files = 1;
      sockets = 1;
    }

abbrev pub the_config : Configuration
the_config = one_worker 16

-- three workers that spin so many microseconds at first and 5 at most, of two iterations each
abbrev pub spinning : ℕ → Configuration
spinning first = record the_config { workers = 3; spin = record { budget = first; most = 5; quick = 0; iterations = 2 } }

-- the state in which a run of a root that ends begins
abbrev pub at_first : World
at_first = first_world the_config [] (word.End ∷ [])

-- with this root, seat, own part or common part of worker zero in place of its own
abbrev pub with_root : Task → World → World
with_root it w = record w { common = record w.common { tasks = slice_set w.common.tasks 0 it } }

abbrev pub with_seat : Seat → World → World
with_seat seat w = record w { common = record w.common { seats = slice_set w.common.seats 0 seat } }

abbrev pub with_own : Own → World → World
with_own me w = record w { workers = slice_set w.workers 0 me }

-- a root that waits, which was polled after its last wake
abbrev pub waits : Waiting → Task
waits what = record (task_of at_first.common 0) { phase = task.Idle; waiting = what; fresh = true }

-- the worker sleeps, while its root waits
abbrev pub asleep : Waiting → World
asleep what = with_seat (record (seat_of at_first.common 0) { rest = Forever }) (with_root (waits what) at_first)

-- with these requests, of which so many are in flight, or this sleeper, at a moment of the clock
abbrev pub with_requests : ℕ → List Request → World → World
with_requests flying rs w =
    let counted = with_own (record (own_of w 0) { in_flight = flying }) w in
    record counted { common = record counted.common { requests = rs } }

abbrev pub with_sleeper : Sleeper → World → World
with_sleeper z w = record w { common = record w.common { sleepers = z ∷ [] } }

abbrev pub with_open : Open → World → World
with_open o w = record w { common = record w.common { opens = o ∷ [] } }

abbrev pub at_clock : ℕ → World → World
at_clock moment w = record w { common = record w.common { clock = moment } }

-- a send whose deadline is on the wheel, in this phase
abbrev pub send_in : RequestPhase → Request
send_in p = record (new_request 0 (of_socket kind.Send 0 10 10000000)) { phase = p; timer = Some 10000000 }

-- a send that is over and released
abbrev pub send_over : Request
send_over = record (send_in (phase.Resolved Success)) { timer = None; released = true }

-- a send in flight that was cancelled
abbrev pub cancelled : Request
cancelled = record (send_in phase.Flying) { timer = None; cancelled = true }

-- a sync that waits for the permit of its open
abbrev pub gated_sync : Request
gated_sync = new_request 0 (of_file kind.Sync 0 0 1)

-- a sleeper of the root until that moment
abbrev pub until_five : Sleeper
until_five = new_sleeper 5000000 0 0

-- the worker waits for one request, or for two, or sleeps for a while
abbrev pub with_one : Request → World
with_one r = with_requests 1 (r ∷ []) (asleep waiting.Wake)

abbrev pub napping : World
napping = with_sleeper until_five (asleep (waiting.Timer 0))

-- the worker closes, and sleeps
abbrev pub closing : List Request → World
closing rs =
    let w = with_requests 1 rs (asleep waiting.Wake) in
    with_seat (record (seat_of w.common 0) { phase = worker.Closing; mailbox_closed = true })
    (with_root (record (waits waiting.Nothing) { phase = task.Done }) w)

-- nobody sleeps on work in the state, or somebody does
abbrev pub is_right : World → Bool
is_right w = is_rightly_asleep the_config w

-- so many lines of this step, at which nothing happens
abbrev pub turns : Action → ℕ → List Line
turns a n = replicate n (record { action = a; said = Did event.Turn })

-- the lines, from this state on, have no stretch of quiet lines that is as long as the bound
abbrev pub are_solo : World → List Line → Bool
are_solo w lines = is_solo the_config w no_stretch lines (replicate 5000 Plain)
