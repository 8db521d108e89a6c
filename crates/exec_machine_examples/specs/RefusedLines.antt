-- Lines that may not come. Each stands in place of a line of a good log, in a state that the log reaches, and
-- is refused for what is said above it.
use Rattle.std.specs.Prelude.{false, List, [], ◌∷◌, ◌++◌, map, Some, None}
use Rattle.exec_base.specs.declared.error.{Error.Error as error, Cause.Cause as cause}
use Rattle.exec_outcomes.specs.declared.outcome.{Kind.Kind as kind, OpResult.TheVariants.Count, Outcome.TheVariants.{Success, Failure}}
use Rattle.exec_machine.specs.{declared.{step.Action.Action as action, state.MailMessage.MailMessage as message, event.Event.TheVariants.{Turn, Serve, Begin, Pend, Done, Spawn, Dedicated, Closed, Admit, Wait, Got, Drop, Grant, Enrol, Stage, Enter, Busy, Reap, Expire, Cancel, Orphan, Release, Send, Apply, Rouse, Sleep, End, Return, Land, Clock, Set, Stir, Peer}}, Choice.Payer.{ByRequest, ByAct, ByCall}, Examples.{says, does, refuses, passes, pays, posts}}
use Rattle.exec_machine_examples.specs.Refusals.{Refusal, fails, fails_twice}

abbrev pub refused_in_a_send : List Refusal
refused_in_a_send =
    -- a worker is roused that doesn't sleep
    fails 0 (does 0 (Rouse 0)) 2 ∷
    -- a step that may be taken is refused
    fails 5 (refuses (action.Work 0)) 0 ∷
    -- a worker sleeps until a moment at which nothing is due
    fails 5 (does 0 (Sleep (Some 1))) 2 ∷
    -- a message is applied that nobody sent
    fails 5 (does 0 (Apply message.Root)) 3 ∷
    -- a worker says what only other parties say
    map (λ e. fails 5 (does 0 e) 1) (Return ∷ Land ∷ Clock ∷ Set ∷ Stir ∷ Peer ∷ []) ++
    -- a poll ends that has not come to anything to wait for
    fails 6 (does 0 (Pend 0)) 3 ∷
    -- a task is done before the end of its script
    fails 6 (does 0 (Done 0)) 2 ∷
    -- an act that can't meet anything closed does so
    fails 6 (does 0 Closed) 1 ∷
    -- a request is made with another number
    fails 6 (does 0 (Admit 1 kind.Send None)) 3 ∷
    -- a request is made of another kind
    fails 6 (does 0 (Admit 0 kind.Recv None)) 1 ∷
    -- a request is over as it is made, and its deadline is ahead
    fails 6 (does 0 (Admit 0 kind.Send (Some (Failure error.Timeout)))) 4 ∷
    -- a task wakes itself by another word
    fails 6 (pays (action.Work 0) 0 ByAct) 1 ∷
    -- a worker sleeps in the middle of a poll
    fails 6 (does 0 (Sleep None)) 1 ∷
    -- an enter comes in the middle of a poll
    fails 6 (does 0 Enter) 1 ∷
    -- a service begins in the middle of a poll
    fails 6 (does 0 Serve) 1 ∷
    -- a ring that wasn't set busy takes nothing, in the middle of a poll
    fails_twice 6 (does 0 Busy) 1 2 ∷
    -- a request is made by a word that asks for none
    fails 7 (does 0 (Admit 1 kind.Send None)) 1 ∷
    -- a task waits for a wake alone though it holds a request
    fails 7 (does 0 (Wait None)) 2 ∷
    -- a task takes what isn't over
    fails 7 (does 0 (Got 0 Success)) 4 ∷
    -- a task lets go of a request by another word
    fails 7 (does 0 (Drop 0)) 1 ∷
    -- a poll ends twice
    fails 9 (does 0 (Pend 0)) 1 ∷
    -- a deadline that is ahead is told as passed
    fails 16 (does 0 (Enrol 0 (Some (Failure error.Timeout)))) 7 ∷
    -- a request is staged whose deadline isn't on the wheel
    fails 16 (does 0 (Stage 0)) 6 ∷
    -- a deadline is enrolled twice
    fails_twice 17 (does 0 (Enrol 0 None)) 2 5 ∷
    -- a deadline is told early
    fails 17 (does 0 (Expire 0 (Some (Failure error.Timeout)))) 2 ∷
    -- an operation lands that the kernel doesn't have
    fails 33 (says (action.Land 0 (Count 10)) Land) 0 ∷
    -- a task is polled that wasn't woken
    fails 33 (does 0 (Begin 0)) 3 ∷
    -- a request that is in flight pays a wake
    fails 33 (pays (action.Work 0) 0 (ByRequest 0)) 1 ∷
    -- a request is staged twice
    fails_twice 33 (does 0 (Stage 0)) 2 4 ∷
    -- a ring that wasn't set busy takes nothing
    fails 33 (does 0 Busy) 2 ∷
    -- a stray wake comes to a worker that is awake
    fails 34 (says (action.Stir 0) Stir) 0 ∷
    -- a worker sleeps for ever on a deadline
    fails 34 (does 0 (Sleep None)) 2 ∷
    -- a request is cancelled that nobody asked to cancel
    fails_twice 34 (does 0 (Cancel 0)) 2 5 ∷
    -- the buffer of a request is let go that the kernel may still use
    fails_twice 34 (does 0 (Release 0)) 2 4 ∷
    -- a worker that sleeps takes a step
    fails 35 (does 0 Turn) 0 ∷
    -- the clock passes its last moment
    fails 35 (says (action.Clock 4611686018427387905) Clock) 0 ∷
    -- the clock says what the kernel says
    fails 35 (says (action.Clock 1) Land) 1 ∷
    -- more bytes land than were asked for
    fails 36 (says (action.Land 0 (Count 11)) Land) 0 ∷
    -- another result is judged than has landed
    fails 49 (does 0 (Reap 0 (Count 9) None)) 4 ∷
    -- another outcome is told than the results give
    fails 49 (does 0 (Reap 0 (Count 10) (Some (Failure error.SendFailed)))) 5 ∷
    -- another operation is asked for though all is done
    fails 49 (does 0 (Reap 0 (Count 10) None)) 5 ∷
    -- a request pays two wakes
    fails 57 (pays (action.Work 0) 0 (ByRequest 0)) 1 ∷
    -- a result is judged twice
    fails_twice 57 (does 0 (Reap 0 (Count 10) (Some Success))) 2 4 ∷
    -- a request is released twice
    fails_twice 67 (does 0 (Release 0)) 2 5 ∷
    -- a poll ends though what the task waits for is over
    fails 68 (does 0 (Pend 0)) 3 ∷
    -- a task takes another outcome
    fails 68 (does 0 (Got 0 (Failure error.SendFailed))) 4 ∷
    -- a deadline is told in the middle of a poll, and there is none
    fails_twice 68 (does 0 (Expire 0 None)) 1 2 ∷
    -- a task is done that isn't polled
    fails 69 (does 0 (Done 1)) 1 ∷
    -- a worker of the pool ends before the pool is stopped
    fails_twice 73 (does 0 End) 3 5 ∷
    -- a worker takes a step that isn't there
    fails 89 (does 1 Turn) 0 ∷
    -- a wake poll ends of a worker that isn't there
    fails 89 (says (action.EndPoll 1) Set) 0 ∷
    -- a ring is set busy whose worker has ended
    fails 90 (says (action.SetBusy 0) Set) 0 ∷
    -- a worker that has ended takes a step
    fails 90 (does 0 Turn) 0 ∷ []

abbrev pub refused_in_durable_writes : List Refusal
refused_in_durable_writes =
    -- a dedicated worker is made with another number
    fails 6 (does 0 (Dedicated 1 2)) 3 ∷
    -- a task is made without the worker of its own
    fails 6 (does 0 (Spawn 1 0)) 1 ∷
    -- the root of a dedicated worker is made with another number
    fails 6 (does 0 (Dedicated 2 1)) 2 ∷
    -- a word for a worker of its own meets a closed set, and that is open
    fails 6 (does 0 Closed) 1 ∷
    -- an act comes before a durable request has joined its gate
    fails 8 (does 0 (Wait (Some 0))) 1 ∷
    -- a worker is roused that is awake, and before a durable request has joined its gate
    fails_twice 8 (does 0 (Rouse 1)) 1 2 ∷
    -- a poll ends before a durable request has joined its gate, and without anything to wait for
    fails_twice 8 (does 0 (Pend 0)) 2 3 ∷
    -- a request is granted before the one that came first
    fails 25 (does 1 (Grant 1 None)) 4 ∷
    -- a write is over as it is granted, without a failure
    fails 25 (does 0 (Grant 0 (Some Success))) 5 ∷
    -- a worker grants another worker's request
    fails 25 (does 1 (Grant 0 None)) 2 ∷
    -- a durable write is staged without the permit
    fails_twice 25 (does 0 (Stage 0)) 2 4 ∷
    -- a permit is given to two
    fails 42 (does 1 (Grant 1 None)) 4 ∷
    -- a request is granted twice
    fails 44 (does 0 (Grant 0 None)) 3 ∷
    -- a kept failure isn't told
    fails 110 (does 1 (Grant 1 None)) 5 ∷
    -- a kept failure is told as a failure of its own
    fails 110 (does 1 (Grant 1 (Some (Failure (error.Io (cause.Code 5)))))) 5 ∷
    -- an open worker ends
    fails_twice 126 (does 1 End) 2 3 ∷
    -- a dedicated worker passes the barrier
    fails_twice 129 (passes 1) 3 5 ∷
    -- a closing worker makes a request
    fails_twice 129 (does 1 (Admit 2 kind.Send None)) 1 2 ∷
    -- a request that was taken loses its owner
    fails 136 (does 1 (Orphan 1 None)) 5 ∷ []

abbrev pub refused_in_a_stolen_task : List Refusal
refused_in_a_stolen_task =
    -- a worker polls two tasks at once
    fails 15 (does 0 (Begin 3)) 1 ∷
    -- a root is woken by another word
    fails 17 (posts (action.Work 0) 1 ByAct false) 1 ∷
    -- a task that lets others go first wakes another one
    fails 17 (pays (action.Work 0) 3 ByAct) 1 ∷
    -- a task lets go of another worker's request without a message
    fails 75 (does 1 (Drop 1)) 3 ∷
    -- a request is forwarded that nobody awaits
    fails 75 (does 1 (Send 0 (message.ForwardRequest 1))) 1 ∷
    -- a task lets go of the older of two by a message
    fails 75 (does 1 (Send 0 (message.CancelRequest 0))) 1 ∷
    -- a task lets go of a request by a message to a worker that isn't there
    fails_twice 75 (does 1 (Send 2 (message.CancelRequest 1))) 2 3 ∷
    -- a worker polls another task before it has sent what it owes
    fails 77 (does 1 (Begin 3)) 1 ∷
    -- a task is woken that nothing owes a wake
    fails 77 (pays (action.Work 0) 3 (ByRequest 0)) 1 ∷
    -- a service begins before what is owed was sent
    fails 77 (does 1 Serve) 1 ∷
    -- a worker enrols the deadline of another worker's request
    fails_twice 78 (does 1 (Enrol 0 None)) 2 3 ∷
    -- a task lets go of a request that isn't the newest
    fails 85 (does 0 (Drop 2)) 2 ∷
    -- a deadline is enrolled in the middle of a poll
    fails 85 (does 0 (Enrol 0 None)) 1 ∷
    -- a message is applied in the middle of a poll
    fails 85 (does 0 (Apply (message.CancelRequest 1))) 1 ∷
    -- a task lets go of a request on its own worker by a message
    fails 85 (does 0 (Send 0 (message.CancelRequest 3))) 1 ∷
    -- of two requests that are over the later is released first
    fails 98 (does 0 (Release 2)) 2 ∷
    -- an open worker takes a request from its owner
    fails_twice 106 (does 0 (Orphan 0 (Some (Failure error.Timeout)))) 2 3 ∷
    -- of two messages the later is applied first
    fails 116 (does 0 (Apply (message.CancelRequest 0))) 3 ∷
    -- of two cancels the later is staged first
    fails 135 (does 0 (Cancel 0)) 2 ∷
    -- a worker stages the cancel of another worker's request
    fails_twice 135 (does 1 (Cancel 1)) 2 3 ∷
    -- a worker sleeps until the deadline of a request that was let go of
    fails 135 (does 0 (Sleep (Some 10000000))) 2 ∷ []

abbrev pub refused_in_a_forward : List Refusal
refused_in_a_forward =
    -- a caller makes a task with another number
    fails 0 (says (action.Spawn 0 0) (Spawn 3 0)) 1 ∷
    -- a caller meets a closed set, and that is open
    fails 0 (says (action.Spawn 0 0) Closed) 1 ∷
    -- a caller makes a task of another script
    fails 0 (says (action.Spawn 0 0) (Spawn 2 1)) 2 ∷
    -- a caller makes no task by its spawn
    fails 0 (says (action.Spawn 0 0) Turn) 1 ∷
    -- a caller begins a call that isn't there
    fails 0 (says (action.Spawn 16 0) (Spawn 2 0)) 0 ∷
    -- a caller begins a call in the middle of another
    fails 1 (says (action.Spawn 0 0) (Spawn 3 0)) 0 ∷
    -- a caller goes on by what others say
    fails 1 (says (action.GoOn 0) Land) 1 ∷
    -- a caller ends a call that it has not begun
    fails 4 (says (action.GoOn 0) Return) 0 ∷
    -- a request is forwarded on its own worker
    fails 12 (does 0 (Send 0 (message.ForwardRequest 0))) 3 ∷
    -- a worker stages another worker's request
    fails_twice 29 (does 1 (Stage 0)) 2 3 ∷
    -- a worker sleeps until the deadline of another worker's request
    fails 54 (does 1 (Sleep (Some 10000000))) 2 ∷
    -- a worker judges a result of another worker's request
    fails_twice 55 (does 1 (Reap 0 (Count 8) (Some Success))) 2 3 ∷
    -- a caller wakes a task that isn't there
    fails 69 (pays (action.Wake 0 3) 3 ByCall) 0 ∷
    -- a caller wakes another task than it says
    fails 69 (pays (action.Wake 0 2) 1 ByCall) 1 ∷
    -- a caller's wake meets a closed mailbox, and there is none
    fails 69 (says (action.Wake 0 2) Closed) 1 ∷
    -- a task pays for a caller's wake
    fails 69 (pays (action.Wake 0 2) 2 ByAct) 3 ∷
    -- a caller wakes no task by its wake
    fails 69 (says (action.Wake 0 2) Turn) 1 ∷
    -- a caller wakes a task in the middle of another call
    fails 70 (pays (action.Wake 0 2) 2 ByCall) 0 ∷
    -- a worker pays a wake for another worker's request
    fails 79 (pays (action.Work 1) 2 (ByRequest 0)) 1 ∷
    -- a task takes what is another worker's, and it wasn't forwarded
    fails 80 (does 1 (Got 0 Success)) 3 ∷
    -- a forward goes to another worker than the request's
    fails_twice 80 (does 1 (Send 1 (message.ForwardRequest 0))) 2 3 ∷
    -- a task takes what was forwarded before that is applied
    fails 81 (does 1 (Got 0 Success)) 3 ∷
    -- a request is forwarded twice
    fails 81 (does 1 (Send 0 (message.ForwardRequest 0))) 4 ∷
    -- a worker releases another worker's request
    fails_twice 93 (does 1 (Release 0)) 2 3 ∷
    -- a request that was forwarded pays three wakes
    fails 104 (pays (action.Work 0) 2 (ByRequest 0)) 1 ∷ []
