-- Events of closing, and what a turn does.
--
-- A worker whose root is over closes. Worker zero then closes the task set and the global queue, stops the pool and
-- sends each other worker a root message. Each worker of the pool drains tasks, passes the barrier, is held there until
-- all have, closes its mailbox, lets go of what tasks still hold, and ends once all its requests are released. A
-- dedicated worker closes its mailbox at once.
use Rattle.std.specs.{Prelude.{ℕ, zero, suc, Bool, true, not, ◌-◌, ◌==◌, ◌&&◌, ◌||◌, if◌then◌else◌, List, [], ◌∷◌, map, slice_set, Option}, List.list_all}
use Rattle.exec_outcomes.specs.declared.outcome.Outcome.{Outcome}
use Rattle.exec_machine.specs.{declared.{config.Configuration.Configuration, state.{Next.Next, TaskPhase.TaskPhase, Sleeper.Sleeper, MailMessage.TheVariants.Root, Letter.Letter, WorkerPhase.WorkerPhase as worker}}, Choice.{Choice, Choice.Passes}, Same.{is_none, is_number, same_end}, World.{Own, Seat, Task, Common, seat_of, task_of, request_of}, Tests.{is_at_large, is_open, is_closing, is_done, is_polled, all_left, set_seat, set_task}, Requests.{outcome_of_drop, after_join}, Tasks.{removed, own_after_over, after_over}}
use Rattle.exec_machine.specs.declared.state.Next.TheVariants as next

-- TURN

-- a worker of the pool has drained what it could, and passes the barrier once
abbrev pub may_pass_barrier : Own → Common → ℕ → List Bool
may_pass_barrier me s i =
    is_at_large me ∷ is_closing (seat_of s i).phase ∷ (seat_of s i).pool ∷ not (seat_of s i).left ∷ s.stopped ∷ []

abbrev pub may_turn : Own → Common → ℕ → Choice → List Bool
may_turn me s i Passes = may_pass_barrier me s i
may_turn me s i _ = []

-- what the line had to do is done; once a worker has passed the barrier, its next line closes the mailbox
abbrev pub own_after_turn : Own → Choice → Own
own_after_turn me Passes = record me { next = next.ClosesMailbox }
own_after_turn me _ = record me { next = next.Free }

-- what was left in the mailbox is dropped
abbrev pub with_closed_mailbox : Seat → Seat
with_closed_mailbox seat = record seat { inbox = []; mailbox_closed = true }

abbrev pub after_next : Common → ℕ → Next → Common
after_next s i next.Free = s
after_next s i (next.Joins r) = after_join s r
after_next s i next.ClosesQueue = record s { queue_closed = true }
after_next s i next.ClosesMailbox = set_seat s i (with_closed_mailbox (seat_of s i))

abbrev pub after_turn : Own → Common → ℕ → Choice → Common
after_turn me s i Passes = set_seat s i (record (seat_of s i) { left = true })
after_turn me s i _ = after_next s i me.next

-- CLOSE, STOP

-- the own root is over
abbrev pub may_close : Own → Common → ℕ → List Bool
may_close me s i = is_at_large me ∷ is_open (seat_of s i).phase ∷ is_number i (task_of s me.root).home ∷ is_done (task_of s me.root).phase ∷ []

abbrev pub next_after_close : Common → ℕ → Next
next_after_close s i = if i == 0 then next.ClosesQueue else if (seat_of s i).pool then next.Free else next.ClosesMailbox

abbrev pub after_close : Common → ℕ → Common
after_close s i =
    record s {
      seats = slice_set s.seats i (record (seat_of s i) { phase = worker.Closing });
      set_closed = s.set_closed || (i == 0);
    }

abbrev pub may_stop_pool : Own → Common → ℕ → List Bool
may_stop_pool me s i = is_at_large me ∷ (i == 0) ∷ is_closing (seat_of s i).phase ∷ not s.stopped ∷ []

-- a root message to each of so many workers from this number on
abbrev pub letters_to_roots : ℕ → ℕ → List Letter
letters_to_roots zero i = []
letters_to_roots (suc more) i = record { to = i; message = Root } ∷ letters_to_roots more (suc i)

abbrev pub own_after_stop : Configuration → Own → Own
own_after_stop c me = record me { owed = letters_to_roots (c.workers - 1) 1 }

-- CLEAR

-- a task of the set, which each is once
abbrev pub may_clear : Own → Common → ℕ → ℕ → List Bool
may_clear me s i t =
    is_at_large me ∷ is_closing (seat_of s i).phase ∷ (seat_of s i).pool ∷ not (seat_of s i).left ∷ s.stopped
    ∷ is_none (task_of s t).home ∷ not (task_of s t).cleared ∷ []

-- a task in a poll ends with that, and one that is over stays so
abbrev pub ends_by_clear : TaskPhase → Bool
ends_by_clear phase = not (is_polled phase) && not (is_done phase)

abbrev pub own_after_clear : Own → Common → ℕ → ℕ → Own
own_after_clear me s i t = if ends_by_clear (task_of s t).phase then own_after_over me s i t else me

abbrev pub with_cleared : Common → ℕ → Common
with_cleared s t = set_task s t (record (task_of s t) { cleared = true })

abbrev pub after_clear : Common → ℕ → ℕ → Common
after_clear s i t = if ends_by_clear (task_of s t).phase then after_over (with_cleared s t) i t else with_cleared s t

-- ORPHAN

abbrev pub may_orphan : Own → Common → ℕ → ℕ → Option Outcome → List Bool
may_orphan me s i r outcome =
    is_at_large me ∷ is_closing (seat_of s i).phase ∷ (seat_of s i).mailbox_closed ∷ ((request_of s r).worker == i)
    ∷ (request_of s r).observed ∷ same_end outcome (outcome_of_drop (request_of s r)) ∷ []

-- END

abbrev pub is_over_or_root : Task → Bool
is_over_or_root t = not (is_none t.home) || is_done t.phase

-- a worker of the pool ends once all have left and no task of the set is live
abbrev pub is_pool_over : Common → Bool
is_pool_over s = all_left s && list_all is_over_or_root s.tasks

abbrev pub may_end : Own → Common → ℕ → List Bool
may_end me s i =
    is_at_large me ∷ is_closing (seat_of s i).phase ∷ (seat_of s i).mailbox_closed ∷ (me.unreleased == 0)
    ∷ (not (seat_of s i).pool || is_pool_over s) ∷ []

-- the sleepers of the worker are gone
abbrev pub gone_with : ℕ → Sleeper → Sleeper
gone_with i z = if z.worker == i then removed z else z

abbrev pub after_end : Common → ℕ → Common
after_end s i =
    record s {
      seats = slice_set s.seats i (record (seat_of s i) { phase = worker.Ended; inbox = [] });
      sleepers = map (gone_with i) s.sleepers;
    }
