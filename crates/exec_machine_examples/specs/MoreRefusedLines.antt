-- Lines that may not come. Each stands in place of a line of a good log, in a state that the log reaches, and
-- is refused for what is said above it.
use Rattle.std.specs.Prelude.{true, false, List, [], ◌∷◌, Some, None}
use Rattle.exec_base.specs.declared.error.Error.{Error as error}
use Rattle.exec_outcomes.specs.declared.outcome.{OpResult.TheVariants.{Count, Errno}, Outcome.TheVariants.{Success, Failure}}
use Rattle.exec_machine.specs.{declared.{step.Action.Action as action, state.MailMessage.MailMessage as message, event.Event.TheVariants.{Turn, Begin, Pend, Done, Fault, Spawn, Dedicated, Closed, Clear, Wait, Got, Timer, GotTimer, Pass, Wake, Grant, Enrol, Stage, Enter, Busy, Reap, Expire, Cancel, Orphan, Release, Fire, Send, Apply, Rouse, Sleep, Close, Stop, End, Peer}}, Choice.{Payer.{ByRequest, BySleeper, ByAct, ByCall, ByStop}, Choice.{Passes, Pays, Posts}}, Examples.{says, does, refuses, passes, pays, posts}}
use Rattle.exec_machine_examples.specs.Refusals.{Refusal, fails, fails_twice, leaves}

abbrev pub refused_in_a_sleeper_elsewhere : List Refusal
refused_in_a_sleeper_elsewhere =
    -- a task sleeps longer than it asks for
    fails 11 (does 0 (Timer 0 1000001)) 1 ∷
    -- a sleeper is made with another number
    fails 11 (does 0 (Timer 1 1000000)) 2 ∷
    -- a task takes a sleeper that has not fired
    fails 12 (does 0 (GotTimer 0)) 3 ∷ []

abbrev pub refused_in_the_barrier : List Refusal
refused_in_the_barrier =
    -- a task is made with another number
    fails 14 (does 0 (Spawn 3 0)) 2 ∷
    -- a spawn meets a closed set, and that is open
    fails 14 (does 0 Closed) 1 ∷
    -- a permit is granted in the middle of a poll
    fails 44 (does 0 (Grant 1 None)) 1 ∷
    -- the pool is stopped by an open worker
    fails 54 (does 0 Stop) 3 ∷
    -- a task is cleared before the pool is closed
    fails_twice 54 (does 0 (Clear 2)) 2 5 ∷
    -- the pool is stopped before the queue is closed
    fails 55 (does 0 Stop) 1 ∷
    -- a worker passes the barrier before the pool is stopped
    fails 57 (passes 0) 5 ∷
    -- a request loses its owner before the mailbox is closed
    fails 57 (does 0 (Orphan 0 (Some (Failure error.Timeout)))) 3 ∷
    -- the stop wakes a root before it has come
    fails 57 (posts (action.Work 0) 1 ByStop false) 1 ∷
    -- a worker closes twice
    fails 57 (does 0 Close) 2 ∷
    -- a task is cleared before the pool is stopped
    fails 57 (does 0 (Clear 2)) 5 ∷
    -- a worker passes the barrier before it has sent what it owes
    fails 58 (passes 0) 1 ∷
    -- the pool is stopped twice
    fails_twice 58 (does 0 Stop) 1 4 ∷
    -- a task is cleared before what is owed was sent
    fails 58 (does 0 (Clear 2)) 1 ∷
    -- a request pays a wake before its worker has sent what it owes
    fails 58 (pays (action.Work 0) 2 (ByRequest 2)) 1 ∷
    -- the root of another worker waits though the pool is stopped
    fails 84 (does 1 (Wait None)) 1 ∷
    -- an open worker clears a task
    fails 85 (does 1 (Clear 2)) 2 ∷
    -- a caller makes a task though the set was closed, and another worker closes after that
    fails 86 (says (action.Spawn 0 0) (Spawn 3 0)) 3 ∷
    -- a root is cleared
    fails 94 (does 1 (Clear 1)) 6 ∷
    -- a worker ends before it has left
    fails_twice 94 (does 1 End) 3 5 ∷
    -- of two owed messages the later is sent first
    fails 95 (does 1 (Send 0 (message.CancelRequest 1))) 1 ∷
    -- a task is cleared twice
    fails 100 (does 1 (Clear 2)) 7 ∷
    -- a worker takes a step that is held at the barrier
    fails 101 (does 1 Turn) 0 ∷
    -- a closing worker applies a message
    fails 102 (does 0 (Apply (message.CancelRequest 0))) 2 ∷
    -- the stop wakes a root twice
    fails 111 (posts (action.Work 0) 1 ByStop false) 1 ∷
    -- a request loses its owner by the line that closes the mailbox
    fails_twice 112 (does 0 (Orphan 0 (Some (Failure error.Timeout)))) 1 3 ∷
    -- a request that the kernel doesn't have is let go, and goes on
    fails 113 (does 0 (Orphan 0 None)) 6 ∷
    -- a task is cleared once more, and by a worker that has left
    fails_twice 113 (does 0 (Clear 2)) 4 7 ∷
    -- a request is forwarded outside a poll, and to a closed mailbox
    fails_twice 113 (does 1 (Send 0 (message.ForwardRequest 1))) 1 5 ∷
    -- a write is over as its owner goes
    fails 114 (does 0 (Orphan 1 (Some (Failure error.Timeout)))) 6 ∷
    -- a request loses its owner twice
    fails 115 (does 0 (Orphan 1 None)) 5 ∷
    -- a worker ends before all its requests are released
    fails 152 (does 0 End) 4 ∷
    -- a worker passes the barrier twice
    fails 164 (passes 1) 4 ∷
    -- a worker takes another worker's request from its owner
    fails_twice 164 (does 1 (Orphan 1 None)) 4 5 ∷ []

abbrev pub refused_in_a_busy_ring : List Refusal
refused_in_a_busy_ring =
    -- a request is released in the middle of a poll
    fails 10 (does 0 (Release 2)) 1 ∷
    -- a peer comes to a listener that isn't there
    fails 12 (says (action.Peer 1) Peer) 0 ∷
    -- a peer is refused though its listener is there
    fails 12 (refuses (action.Peer 0)) 0 ∷
    -- the clock is refused though it comes just as far as its last moment
    fails 12 (refuses (action.Clock 4611686018427387904)) 0 ∷
    -- a deadline is enrolled of a request that is over
    fails_twice 16 (does 0 (Enrol 2 None)) 2 4 ∷
    -- a wait comes outside a poll
    fails 16 (does 0 (Wait None)) 1 ∷
    -- a request is staged though the ring has no place
    fails 26 (does 0 (Stage 1)) 7 ∷
    -- a ring that was set busy takes what is staged
    fails 26 (does 0 Enter) 2 ∷
    -- a ring is busy twice
    fails 39 (does 0 Busy) 2 ∷
    -- a caller wakes a root itself
    fails 44 (pays (action.Wake 0 0) 0 ByCall) 2 ∷
    -- a caller's root message is left out beside none
    fails 44 (posts (action.Wake 0 0) 0 ByCall true) 4 ∷
    -- a caller sends another message, and doesn't pay for it
    fails_twice 44 (says (action.Wake 0 0) (Send 0 (message.CancelRequest 0))) 1 5 ∷
    -- a caller sends a root message to a worker that isn't there
    fails_twice 44 (posts (action.Wake 0 0) 1 ByCall false) 2 3 ∷
    -- a caller's wake of a root meets a closed mailbox, and that is open
    fails 44 (says (action.Wake 0 0) Closed) 1 ∷
    -- a task pays for a caller's root message
    fails 44 (posts (action.Wake 0 0) 0 ByAct false) 5 ∷
    -- a caller rouses a worker that isn't there
    fails 46 (says (action.GoOn 0) (Rouse 1)) 1 ∷
    -- a task pays for a caller's root message that is left out beside another one
    fails 46 (posts (action.Wake 1 0) 0 ByAct true) 5 ∷ []

abbrev pub refused_in_a_deadline : List Refusal
refused_in_a_deadline =
    -- a request that is in flight is over by its deadline
    fails 50 (does 0 (Expire 0 (Some (Failure error.Timeout)))) 3 ∷
    -- a deadline is told twice
    fails 51 (does 0 (Expire 0 None)) 2 ∷
    -- the kernel is told twice to cancel
    fails_twice 67 (does 0 (Cancel 0)) 2 6 ∷
    -- a cancelled operation is told as a failure
    fails 81 (does 0 (Reap 0 (Errno 125) (Some (Failure error.SendFailed)))) 5 ∷ []

abbrev pub refused_in_a_late_enrolment : List Refusal
refused_in_a_late_enrolment =
    -- a deadline that has passed is put on the wheel
    fails 18 (does 0 (Enrol 0 None)) 7 ∷
    -- a worker closes before its root is over
    fails 18 (does 0 Close) 4 ∷
    -- a task takes what it neither waits for nor is to await
    fails 39 (does 0 (Got 0 (Failure error.Timeout))) 1 ∷ []

abbrev pub refused_in_deadlines_in_order : List Refusal
refused_in_deadlines_in_order =
    -- the wheel did not go round, and of two deadlines the later is told first
    fails 53 (does 0 (Expire 1 None)) 2 ∷ []

abbrev pub refused_in_the_wheel_goes_round : List Refusal
refused_in_the_wheel_goes_round =
    -- a task waits for a request that isn't the newest
    fails 65 (does 0 (Wait (Some 0))) 2 ∷
    -- of two new deadlines the later is enrolled first
    fails 74 (does 0 (Enrol 1 None)) 2 ∷
    -- of two queued requests the later is staged first
    fails 76 (does 0 (Stage 1)) 2 ∷
    -- the wheel went round, and deadlines are told by tick
    fails 110 (does 0 (Expire 0 None)) 2 ∷ []

abbrev pub refused_in_a_clock_in_a_service : List Refusal
refused_in_a_clock_in_a_service =
    -- a deadline is told by a clock that the service has not sampled
    fails 53 (does 0 (Expire 0 None)) 2 ∷
    -- a worker sleeps until a moment that has come
    fails 64 (does 0 (Sleep (Some 10000000))) 3 ∷ []

abbrev pub refused_in_a_clock_between_samples : List Refusal
refused_in_a_clock_between_samples =
    -- a sleep is counted from the clock, which the worker has not sampled
    fails 7 (does 0 (Timer 0 15)) 1 ∷ []

abbrev pub refused_in_a_cancel_in_time : List Refusal
refused_in_a_cancel_in_time =
    -- the buffer of a cancelled request is let go before it is judged
    fails_twice 54 (does 0 (Release 0)) 2 4 ∷ []

abbrev pub refused_in_parts : List Refusal
refused_in_parts =
    -- a request is staged in the middle of a poll
    fails 7 (does 0 (Stage 0)) 1 ∷
    -- a task that waits for a request begins to wait for it again
    fails 13 (does 0 (Wait (Some 3))) 1 ∷
    -- a deadline is enrolled of a request that has none
    fails_twice 21 (does 0 (Enrol 0 None)) 2 6 ∷
    -- of two results the later is judged first
    fails 57 (does 0 (Reap 1 (Count 3) None)) 2 ∷
    -- a refused hint is told as a failure
    fails 57 (does 0 (Reap 0 (Errno 95) (Some (Failure error.ReadFailed)))) 5 ∷
    -- a request pays a wake to a task that has not waited for it
    fails 112 (pays (action.Work 0) 0 (ByRequest 0)) 1 ∷
    -- a task waits for what is over
    fails 127 (does 0 (Wait (Some 2))) 5 ∷
    -- a task takes a request that isn't the newest
    fails 127 (does 0 (Got 1 Success)) 2 ∷ []

abbrev pub refused_in_sleepers : List Refusal
refused_in_sleepers =
    -- a task goes on though it is to sleep for a while
    fails 15 (does 0 Pass) 1 ∷
    -- a sleeper fires early
    fails 50 (does 0 (Fire 1)) 4 ∷
    -- a worker sleeps past the first of its sleepers
    fails 50 (does 0 (Sleep (Some 2000000))) 2 ∷
    -- a worker sleeps for ever on a sleeper
    fails 50 (does 0 (Sleep None)) 2 ∷
    -- a sleeper pays a wake before it has fired
    fails 50 (pays (action.Work 0) 2 (BySleeper 1)) 1 ∷
    -- of two sleepers the later fires first
    fails 68 (does 0 (Fire 0)) 5 ∷
    -- a sleeper fires twice
    fails 69 (does 0 (Fire 1)) 3 ∷
    -- a sleeper pays a wake of another task
    fails 70 (pays (action.Work 0) 1 (BySleeper 1)) 1 ∷
    -- a sleeper pays two wakes
    fails 74 (pays (action.Work 0) 2 (BySleeper 1)) 1 ∷
    -- a sleeper fires in the middle of a poll, and for the second time
    fails_twice 87 (does 0 (Fire 1)) 1 3 ∷
    -- a task takes a sleeper that another waits for
    fails 87 (does 0 (GotTimer 0)) 1 ∷
    -- a poll ends though the sleeper that the task waits for has fired
    fails 87 (does 0 (Pend 2)) 3 ∷ []

abbrev pub refused_in_wakes_of_roots : List Refusal
refused_in_wakes_of_roots =
    -- a task goes on without a wake
    fails 6 (does 1 Pass) 1 ∷
    -- a root is polled by another worker
    fails 13 (does 1 (Begin 0)) 4 ∷
    -- a root is woken by another worker
    fails 14 (pays (action.Work 0) 1 ByAct) 2 ∷
    -- a root message is left out beside none
    fails 14 (posts (action.Work 0) 1 ByAct true) 4 ∷
    -- a root sends itself a message by another word
    fails_twice 14 (posts (action.Work 0) 0 ByAct false) 1 2 ∷
    -- a wake of a root meets a closed mailbox, and that is open
    fails 14 (does 0 Closed) 1 ∷
    -- nothing pays for a root message
    fails 14 (does 0 (Send 1 message.Root)) 1 ∷
    -- of a root message it is said that the worker passes the barrier by it
    fails 14 (leaves (action.Work 0) (Send 1 message.Root) Passes) 1 ∷
    -- of a root message it is said who pays a wake
    fails 14 (leaves (action.Work 0) (Send 1 message.Root) (Pays ByAct)) 1 ∷
    -- a request pays for a root message
    fails 14 (posts (action.Work 0) 1 (ByRequest 0) false) 1 ∷
    -- a sleeper pays for a root message
    fails 14 (posts (action.Work 0) 1 (BySleeper 0) false) 1 ∷
    -- a caller pays for a worker's root message
    fails 14 (posts (action.Work 0) 1 ByCall false) 1 ∷
    -- a task ends with a fault by another word
    fails 14 (does 0 (Fault 0 7)) 2 ∷
    -- a sleep of nothing makes a sleeper
    fails 16 (does 0 (Timer 0 0)) 1 ∷
    -- nothing pays a wake
    fails 17 (does 0 (Wake 0)) 1 ∷
    -- of a wake it is said that the worker passes the barrier by it
    fails 17 (leaves (action.Work 0) (Wake 0) Passes) 1 ∷
    -- of a wake it is said who pays a root message
    fails 17 (leaves (action.Work 0) (Wake 0) (Posts ByAct false)) 1 ∷
    -- a caller pays for a worker's wake
    fails 17 (pays (action.Work 0) 0 ByCall) 1 ∷
    -- the stop of the pool pays a wake that is no message
    fails 17 (pays (action.Work 0) 0 ByStop) 1 ∷
    -- a task ends with another fault
    fails 41 (does 0 (Fault 0 8)) 2 ∷
    -- a fault is told as an end
    fails 41 (does 0 (Done 0)) 2 ∷
    -- a worker passes the barrier though it is open
    fails_twice 55 (passes 1) 2 5 ∷
    -- a worker other than zero stops the pool
    fails_twice 55 (does 1 Stop) 2 3 ∷
    -- a message that was left out is applied
    fails 56 (does 1 (Apply message.Root)) 3 ∷
    -- a wake is swallowed
    fails 67 (does 1 (Pend 1)) 3 ∷
    -- the root of another worker is done before the pool is stopped
    fails 68 (does 1 (Done 1)) 2 ∷ []

abbrev pub refused_in_closed : List Refusal
refused_in_closed =
    -- a closing worker polls a task
    fails 27 (does 0 (Begin 2)) 2 ∷
    -- a task is made though the set is closed
    fails 36 (does 1 (Spawn 3 0)) 3 ∷
    -- a worker closes in the middle of a poll
    fails_twice 36 (does 1 Close) 1 4 ∷
    -- a worker is made by another word, and though the set is closed
    fails_twice 36 (does 1 (Dedicated 3 2)) 1 4 ∷
    -- a caller makes a task though the set is closed
    fails 39 (says (action.Spawn 1 0) (Spawn 3 0)) 3 ∷ []

abbrev pub refused_in_two_kinds : List Refusal
refused_in_two_kinds =
    -- a task is made of another script
    fails 6 (does 0 (Spawn 2 1)) 1 ∷
    -- a dedicated worker polls a task that is no root
    fails 13 (does 2 (Begin 2)) 4 ∷
    -- a dedicated worker ends before its mailbox is closed
    fails_twice 18 (does 2 End) 1 3 ∷
    -- a dedicated worker clears a task, and the pool isn't stopped
    fails_twice 19 (does 2 (Clear 2)) 3 5 ∷
    -- a caller sends a root message to a closed mailbox
    fails 29 (posts (action.Wake 0 3) 2 ByCall false) 3 ∷
    -- a caller meets a closed set, and a dedicated worker alone has closed
    fails 29 (says (action.Spawn 0 0) Closed) 1 ∷
    -- a task sends a root message to a closed mailbox
    fails 63 (posts (action.Work 0) 2 ByAct false) 3 ∷ []

abbrev pub refused_in_what_a_task_held : List Refusal
refused_in_what_a_task_held =
    -- of two requests that a task held the newer is released first
    fails 23 (does 0 (Release 1)) 2 ∷
    -- the first of the deadlines is enrolled after its request is over
    fails_twice 23 (does 0 (Enrol 0 None)) 2 4 ∷
    -- a request that was let go of loses its owner
    fails 23 (does 0 (Orphan 0 None)) 5 ∷ []

abbrev pub refused_in_a_late_forward : List Refusal
refused_in_a_late_forward =
    -- a sleeper is forwarded on its own worker
    fails 10 (does 0 (Send 0 (message.ForwardTimer 0))) 3 ∷
    -- a sleeper is forwarded outside a poll
    fails 25 (does 1 (Send 0 (message.ForwardTimer 0))) 1 ∷
    -- a poll ends though the sleeper that the task waits for is another worker's, and wasn't forwarded
    fails 32 (does 1 (Pend 2)) 3 ∷
    -- a task takes another worker's sleeper that wasn't forwarded
    fails 38 (does 1 (GotTimer 0)) 2 ∷
    -- a forward of a sleeper goes to a worker that isn't there
    fails_twice 38 (does 1 (Send 2 (message.ForwardTimer 0))) 2 5 ∷
    -- a sleeper is forwarded twice
    fails 39 (does 1 (Send 0 (message.ForwardTimer 0))) 4 ∷
    -- a worker pays a wake for another worker's sleeper
    fails 40 (pays (action.Work 1) 2 (BySleeper 0)) 1 ∷ []

abbrev pub refused_in_letting_go_elsewhere : List Refusal
refused_in_letting_go_elsewhere =
    -- a task waits for another worker's request
    fails 73 (does 1 (Wait (Some 0))) 3 ∷
    -- a task lets go of a request by a message, by another word
    fails 73 (does 1 (Send 0 (message.CancelRequest 0))) 1 ∷
    -- a task forwards a request that it has let go of
    fails 73 (does 1 (Send 0 (message.ForwardRequest 1))) 1 ∷
    -- a request that was forwarded pays a wake before it is over
    fails 109 (pays (action.Work 0) 2 (ByRequest 0)) 1 ∷
    -- a write that nobody holds is over by that
    fails_twice 112 (does 0 (Release 1)) 2 4 ∷ []

abbrev pub refused_in_cleared_elsewhere : List Refusal
refused_in_cleared_elsewhere =
    -- a sleeper is taken away before its task is cleared
    fails 68 (does 0 (Send 1 (message.CancelTimer 0))) 1 ∷
    -- what takes a sleeper away goes to a worker that isn't there
    fails_twice 69 (does 0 (Send 2 (message.CancelTimer 0))) 1 2 ∷
    -- a worker takes its own sleeper away by a message
    fails 76 (does 0 (Send 0 (message.CancelTimer 1))) 1 ∷
    -- a worker sleeps until the moment of a sleeper that was taken away
    fails 98 (does 1 (Sleep (Some 1000000))) 2 ∷ []

abbrev pub refused_in_orphans : List Refusal
refused_in_orphans =
    -- a sleeper pays a wake before its worker has sent what it owes
    fails 105 (pays (action.Work 0) 3 (BySleeper 0)) 1 ∷
    -- a closing worker sleeps until the moment of a sleeper
    fails 106 (does 0 (Sleep (Some 1000000))) 2 ∷
    -- a request that is in flight loses its owner twice
    fails 145 (does 0 (Orphan 1 None)) 5 ∷
    -- a sleeper fires though its worker closes
    fails 153 (does 0 (Fire 0)) 2 ∷ []

abbrev pub refused_in_a_ring_of_one : List Refusal
refused_in_a_ring_of_one =
    -- a cancel is staged in the middle of a poll
    fails 78 (does 0 (Cancel 1)) 1 ∷
    -- a result is judged in the middle of a poll
    fails 79 (does 0 (Reap 1 (Errno 125) (Some (Failure error.ReadFailed)))) 1 ∷
    -- a cancel is staged of a request that is over
    fails_twice 90 (does 0 (Cancel 1)) 2 4 ∷ []
