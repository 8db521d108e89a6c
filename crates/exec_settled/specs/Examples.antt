-- States to look at: workers that sleep, on a ring or on wake words, with one thing changed.
use Rattle.std.specs.Prelude.{true, [], ◌∷◌, ◌++◌, Some, None, slice_set}
use Rattle.exec_outcomes.specs.declared.outcome.Outcome.TheVariants.{Success}
use Rattle.exec_machine.specs.{declared.state.{Forwarding.TheVariants.Applied, Request.Request, Rest.TheVariants.Awake, Sleeper.Sleeper, Code.TheVariants.Script, WorkerPhase.TheVariants.{Closing, Ended}}, Deadlines.new_sleeper, Tasks.new_task, Tests.set_request, World.{Open, Seat, Task, World, no_open, seat_of, task_of}}
use Rattle.exec_moves.specs.{declared.place.Place.Place, MailLogs.a_write, Plays.{Playing, desk_of}, State.{Desk, no_queue, no_word}, Thing.{set_queue, set_word}}
use Rattle.exec_books.specs.Examples.{its_own, its_request, its_seat, one_asleep, with_own, with_seat}
use Rattle.exec_rest.specs.Examples.{rested, two_waiting}
use Rattle.exec_machine.specs.declared.state.RequestPhase.TheVariants as phase
use Rattle.exec_machine.specs.declared.state.Waiting.TheVariants as waiting

-- a worker that sleeps on its ring, in another world
abbrev pub on_ring : World → Playing
on_ring w = record one_asleep { world = w }

-- the kernel has a send of it, and another one is ready
abbrev pub two_sends : Playing
two_sends =
    let w = with_own (record its_own { ready = 1 ∷ [] }) its_request in
    on_ring (record w { common = record w.common { requests = its_request ∷ record its_request { phase = phase.Queued } ∷ [] } })

-- that worker has ended, with this request
abbrev pub ended_with : Request → World
ended_with r = let w = with_seat (record its_seat { phase = Ended }) in record w { common = set_request w.common 0 r }

-- two that sleep on their wake words, worker 1 with another desk
abbrev pub second : Desk
second = desk_of two_waiting.config rested 1

abbrev pub with_second : Desk → Playing
with_second d = record rested { desks = slice_set rested.desks 1 d }

-- Worker zero is at this place.
abbrev pub acting : Place → Playing
acting p = let first = desk_of two_waiting.config rested 0 in record rested { desks = slice_set rested.desks 0 (record first { place = p }) }

-- The root of worker 1 is another, a sleeper is of it, or something lies in its run queue.
abbrev pub with_root : Task → Playing
with_root it = let s = rested.world.common in record rested { world = record rested.world { common = record s { tasks = slice_set s.tasks 1 it } } }

abbrev pub its_root : Task
its_root = task_of rested.world.common 1

abbrev pub with_sleeper : Sleeper → Playing
with_sleeper z = record rested { world = record rested.world { common = record rested.world.common { sleepers = z ∷ [] } } }

abbrev pub with_queue : Playing
with_queue = record rested { things = set_queue 1 rested.things (record no_queue { values = 2 ∷ [] }) }

-- Worker zero is awake, worker 1 has this seat, and an ordinary task is to be polled.
abbrev pub with_task : Seat → World
with_task seat =
    let s = rested.world.common in
    record rested.world { common = record s { seats = record (seat_of s 0) { rest = Awake } ∷ seat ∷ []; tasks = s.tasks ++ new_task (Script 0) None ∷ [] } }

-- Worker 1 is closing, with this request.
abbrev pub closing_with : Request → Playing
closing_with r =
    let s = rested.world.common in
    let seat = seat_of s 1 in
    record rested { world = record rested.world { common = record s { seats = slice_set s.seats 1 (record seat { phase = Closing }); requests = r ∷ [] } } }

-- A request of worker 1 is the first at the gate of an open, which is this. A write there has the permit, and nobody signals that;
-- another one of its stands behind it; or the wake word has a latch.
abbrev pub with_write : Request → Open → Playing
with_write r o =
    record rested {
      world = record rested.world { common = record rested.world.common { requests = r ∷ []; opens = o ∷ [] } };
      things = record rested.things { gates = (0 ∷ []) ∷ [] };
    }

abbrev pub with_permit : Playing
with_permit = with_write (a_write 1) (record no_open { holder = Some 0 })

abbrev pub with_two_writes : Playing
with_two_writes =
    let x = with_write (a_write 1) (record no_open { holder = Some 0; waiting = 1 ∷ [] }) in
    record x { world = record x.world { common = record x.world.common { requests = a_write 1 ∷ a_write 1 ∷ [] } } }

abbrev pub with_permit_told : Playing
with_permit_told = record with_permit { things = set_word 1 with_permit.things (record no_word { latch = true }) }

-- The root of worker 1 waits for this request; for one of its own that is over; for one of worker zero, which has sent the end; or
-- for a sleeper of its own that has fired.
abbrev pub waits_for : Request → Playing
waits_for r =
    let s = rested.world.common in
    record rested { world = record rested.world { common = record s { tasks = slice_set s.tasks 1 (record (task_of s 1) { waiting = waiting.Request 0 }); requests = r ∷ [] } } }

abbrev pub waits_here : Playing
waits_here = waits_for (record its_request { worker = 1; phase = phase.Resolved Success; released = true; timer = None })

abbrev pub waits_elsewhere : Playing
waits_elsewhere = record (waits_for (record its_request { phase = phase.Resolved Success; forwarding = Applied })) { things = record rested.things { answers = 0 ∷ [] } }

abbrev pub sleeps_here : Playing
sleeps_here =
    let x = with_sleeper (record (new_sleeper 0 1 1) { fired = true }) in
    record x { world = record x.world { common = record x.world.common { tasks = slice_set rested.world.common.tasks 1 (record its_root { waiting = waiting.Timer 0 }) } } }
