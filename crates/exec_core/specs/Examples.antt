-- What the worked examples look at: requests of open 1, each in a phase of its own; and a worker with one task.
use Rattle.std.specs.Prelude.{List, Option, Some, [], false, true, ℕ, ◌∷◌}
use Rattle.exec_core.specs.Words.{Kind, ScriptWord, Request, RequestPhase, TaskPhase, usual, Task, no_operation, no_request, no_task, InPoll, Place, Playing, first_desk, first_playing, Desk, no_queue}

abbrev pub of_open : Kind → RequestPhase → Request
of_open kind phase = record no_request { operation = record no_operation { kind = kind; target = 1 }; phase = phase }

-- a worker that begins
abbrev pub begun : Playing
begun = first_playing (record { config = usual; scripts = []; root = ScriptWord.End ∷ [] })

-- task zero, the root of this worker or an ordinary one
abbrev pub task_zero : Option ℕ → TaskPhase → Task
task_zero home phase = record no_task { phase = phase; home = home }

-- There is this task alone, the worker has this desk, and these runnables are in its run queue.
abbrev pub with_task : Task → Desk → List ℕ → Playing
with_task it desk queued =
    record begun {
      world = record begun.world { common = record begun.world.common { tasks = it ∷ [] } };
      desks = desk ∷ [];
      things = record begun.things { queues = record no_queue { values = queued } ∷ [] };
    }

-- the task set was closed
abbrev pub with_closed_set : Playing → Playing
with_closed_set x = record x { world = record x.world { common = record x.world.common { set_closed = true } } }

-- The worker has no runnable; or it has its root's in the flag, or task zero's in the hand, which it is to poll next.
abbrev pub bare_desk : Desk
bare_desk = record (first_desk usual 0) { root_ready = false }

abbrev pub flagged : Desk → Desk
flagged desk = record desk { root_ready = true }

abbrev pub holding : Desk
holding = record bare_desk { place = Place.Poll 0 InPoll.BeginPoll; hand = Some 0 }
