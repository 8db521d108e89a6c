-- States to look at: two workers that sleep, and the same with a wake that was lost, or closed.
use Rattle.std.specs.Prelude.{true, [], ◌∷◌, slice_set}
use Rattle.exec_machine.specs.{Examples.usual, Progress.Plan, World.{Seat, seat_of}, declared.{config.ScriptWord.ScriptWord as word, state.MailMessage.MailMessage as message, step.Step.Step as step}}
use Rattle.exec_moves.specs.{Departures.played, Plays.{Playing, first_playing, log_by_moves}, State.no_word, Thing.{set_global, set_word}}
use Rattle.exec_machine.specs.declared.state.WorkerPhase.TheVariants as phase

-- two workers whose roots wait for a wake that nobody gives
abbrev pub two_waiting : Plan
two_waiting =
    record {
      config = record usual { workers = 2; files = 0; sockets = 0 };
      scripts = [];
      root = word.Await ∷ word.End ∷ [];
    }

-- Each has made its steps, one worker after the other, until it slept.
abbrev pub rested : Playing
rested = played two_waiting.config (first_playing two_waiting) (log_by_moves two_waiting (step.Work 0 64 ∷ step.Work 1 64 ∷ []))

-- a task was put into the global queue, and nobody is to look for a worker
abbrev pub with_a_runnable : Playing
with_a_runnable = record rested { things = set_global rested.things (2 ∷ []) }

-- worker 1 was signalled, and nobody is to end its wait
abbrev pub with_a_latch : Playing
with_a_latch = record rested { things = set_word 1 rested.things (record no_word { latch = true }) }

-- the task set was closed, while worker zero goes on
abbrev pub with_a_closed_set : Playing
with_a_closed_set = record rested { world = record rested.world { common = record rested.world.common { set_closed = true } } }

-- worker 1 is another one to the machine
abbrev pub seated : Seat → Playing
seated seat = record rested { world = record rested.world { common = record rested.world.common { seats = slice_set rested.world.common.seats 1 seat } } }

-- it has a message
abbrev pub with_a_message : Playing
with_a_message = seated (record (seat_of rested.world.common 1) { inbox = message.Root ∷ [] })

-- it has ended
abbrev pub with_an_end : Playing
with_an_end = seated (record (seat_of rested.world.common 1) { phase = phase.Ended })
