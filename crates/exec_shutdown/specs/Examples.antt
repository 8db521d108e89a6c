-- States to look at: two workers of which one is held at the shutdown barrier; and two when the pool is stopped.
use Rattle.std.specs.Prelude.{true, [], ◌∷◌, Some, slice_set}
use Rattle.exec_machine.specs.{declared.{config.Configuration.Configuration, state.{Code.TheVariants.{Root, Waits}, Rest.TheVariants.Awake, TaskPhase.TheVariants.{Idle, Done}, Waiting.TheVariants.Wake, WorkerPhase.TheVariants.Closing}}, Examples.usual, Tasks.{new_seat, new_task}, World.{Own, Seat, Task, World, seat_of}}
use Rattle.exec_books.specs.Examples.{begun_with, its_request}
use Rattle.exec_rest.specs.Examples.{rested}

-- Of two that sleep worker zero is closing, awake, and has passed the shutdown barrier; the kernel has a request of worker 1.
abbrev pub held : World
held =
    let s = rested.world.common in
    let seat = seat_of s 0 in
    record rested.world { common = record s { seats = slice_set s.seats 0 (record seat { phase = Closing; left = true; rest = Awake }); requests = record its_request { worker = 1 } ∷ [] } }

-- The root of worker 1 waits until the pool is stopped.
abbrev pub waiting_root : Task
waiting_root = record (new_task Waits (Some 1)) { phase = Idle; waiting = Wake }

-- and is over then
abbrev pub done_root : Task
done_root = record waiting_root { phase = Done }

-- two workers are of the pool
abbrev pub two : Configuration
two = record usual { workers = 2 }

-- Worker zero closes and has stopped the pool; it has this own part, and worker 1 this one, this seat and this root.
abbrev pub stopped_with : Own → Own → Seat → Task → World
stopped_with me other seat root =
    record {
      workers = me ∷ other ∷ [];
      common = record (begun_with []) {
        seats = record (new_seat true) { phase = Closing } ∷ seat ∷ [];
        tasks = record (new_task Root (Some 0)) { phase = Done } ∷ root ∷ [];
        stopped = true;
      };
    }
