-- Short runs, without what a worker does between two tasks: what may come after them, and what may not.
use Rattle.std.specs.Prelude.{ℕ, Bool, true, false, ◌+◌, List, [], ◌∷◌, ◌++◌, Some, None}
use Rattle.exec_base.specs.declared.error.Error.{Error as error}
use Rattle.exec_outcomes.specs.declared.outcome.{Kind.Kind as kind, OpResult.TheVariants.{Count, Errno}, Outcome.TheVariants.{Success, Failure}}
use Rattle.exec_machine.specs.{declared.{config.ScriptWord.{ScriptWord as word, ScriptWord}, step.Action.Action as action, state.MailMessage.{MailMessage as message, MailMessage}, event.Event.TheVariants.{Turn, Serve, Begin, Pend, Done, Spawn, Dedicated, Clear, Admit, Wait, Got, Drop, Timer, GotTimer, Grant, Enrol, Stage, Enter, Reap, Expire, Cancel, Fire, Send, Apply, Sleep, Close, Stop, End, Return, Land, Clock}}, Choice.{Payer.{ByRequest, BySleeper, ByAct, ByCall, ByStop}, Choice.Posts}, World.World, Run.{is_run, world_after}, Progress.{Plan, begin}, Examples.{Told, usual, says, does, passes, pays, posts, lines_of, choices_of}}
use Rattle.exec_machine_examples.specs.Refusals.{tests_failed, leaves}

-- the state that the lines reach, whether they are a run, and the places of the tests that this line then fails
abbrev pub reached_by : Plan → List Told → World
reached_by p told = world_after p.config (begin p) (lines_of told) (choices_of told)

abbrev pub are_run : Plan → List Told → Bool
are_run p told = is_run p.config (begin p) (lines_of told) (choices_of told)

abbrev pub fails_after : Plan → List Told → Told → List ℕ
fails_after p told it = tests_failed p.config (reached_by p told) it

-- one worker with this root, and a script of which a task may be made; or two workers, and a root that ends
abbrev pub alone : List ScriptWord → List ScriptWord → Plan
alone script root = record { config = usual; scripts = script ∷ []; root = root }

abbrev pub two_of : List ScriptWord → Plan
two_of script =
    record { config = record usual { workers = 2 }; scripts = script ∷ (word.End ∷ []) ∷ []; root = word.End ∷ [] }

-- TASKS

-- a root wakes a task of the set
abbrev pub waking : Plan
waking = alone (word.End ∷ []) ((word.Wake 1) ∷ word.End ∷ [])

abbrev pub before_a_wake : List Told
before_a_wake = says (action.Spawn 0 0) (Spawn 1 0) ∷ does 0 (Begin 0) ∷ []

abbrev pub a_wake : List Told
a_wake = before_a_wake ++ pays (action.Work 0) 1 ByAct ∷ []

-- A root has nothing to drop, and no task to wake: both words are passed over. Then it lets others go first.
abbrev pub idling : Plan
idling = alone (word.End ∷ []) (word.Drop ∷ (word.Wake 1) ∷ word.Yield ∷ word.End ∷ [])

abbrev pub passed_over : List Told
passed_over = does 0 (Begin 0) ∷ pays (action.Work 0) 0 ByAct ∷ does 0 (Pend 0) ∷ does 0 (Begin 0) ∷ []

-- a task of the set waits for its send on worker zero; and then a caller wakes it, and worker one polls it
abbrev pub sending : Plan
sending = two_of ((word.Send 0 8) ∷ word.Await ∷ word.Yield ∷ word.End ∷ [])

abbrev pub a_wait : List Told
a_wait =
    says (action.Spawn 0 0) (Spawn 2 0) ∷ does 0 (Begin 2) ∷ does 0 (Admit 0 kind.Send None) ∷ does 0 (Wait (Some 0)) ∷
    does 0 (Pend 2) ∷ []

abbrev pub polled_elsewhere : List Told
polled_elsewhere = a_wait ++ pays (action.Wake 1 2) 2 ByCall ∷ does 1 (Begin 2) ∷ []

-- worker one forwards the send, and worker zero polls the task before that is over
abbrev pub polled_again : List Told
polled_again =
    polled_elsewhere ++ does 1 (Send 0 (message.ForwardRequest 0)) ∷ does 1 (Pend 2) ∷
    does 0 (Apply (message.ForwardRequest 0)) ∷ pays (action.Wake 2 2) 2 ByCall ∷ does 0 (Begin 2) ∷ []

-- the root of worker zero is over
abbrev pub root_over : List Told
root_over = does 0 (Begin 0) ∷ does 0 (Done 0) ∷ []

-- the forward is applied on worker zero, where the deadline of the send has passed, and its task has got that
abbrev pub got_after_forward : List Told
got_after_forward =
    polled_elsewhere ++ does 1 (Send 0 (message.ForwardRequest 0)) ∷ does 1 (Pend 2) ∷
    does 0 (Apply (message.ForwardRequest 0)) ∷ says (action.Clock 10000000) Clock ∷ does 0 Serve ∷
    does 0 (Enrol 0 (Some (Failure error.Timeout))) ∷ does 0 Turn ∷ pays (action.Work 0) 2 (ByRequest 0) ∷
    does 0 (Begin 2) ∷ does 0 (Got 0 (Failure error.Timeout)) ∷ []

-- a task that has not waited yet awaits its send on another worker, and that is over
abbrev pub yielding : Plan
yielding = two_of ((word.Send 0 8) ∷ word.Yield ∷ word.Await ∷ word.End ∷ [])

abbrev pub awaited_elsewhere : List Told
awaited_elsewhere =
    says (action.Spawn 0 0) (Spawn 2 0) ∷ does 0 (Begin 2) ∷ does 0 (Admit 0 kind.Send None) ∷
    pays (action.Work 0) 2 ByAct ∷ does 0 (Pend 2) ∷ does 1 (Begin 2) ∷ does 1 (Send 0 (message.ForwardRequest 0)) ∷
    does 1 (Pend 2) ∷ does 0 (Apply (message.ForwardRequest 0)) ∷ says (action.Clock 10000000) Clock ∷
    does 0 Serve ∷ does 0 (Enrol 0 (Some (Failure error.Timeout))) ∷ does 0 Turn ∷ []

-- a forward that says that it was left out, as only a root message may be
abbrev pub forwarded_as_left_out : List Told
forwarded_as_left_out =
    polled_elsewhere ++ leaves (action.Work 1) (Send 0 (message.ForwardRequest 0)) (Posts ByAct true) ∷
    does 1 (Pend 2) ∷ []

-- WHAT IS LET GO

-- worker zero closes and stops the pool
abbrev pub stopped : List Told
stopped = root_over ++ does 0 Close ∷ does 0 Turn ∷ does 0 Stop ∷ posts (action.Work 0) 1 ByStop false ∷ []

-- then it clears a task, and worker one, which is open, applies the message that tells it what to let go of
abbrev pub cleared_by : MailMessage → List Told
cleared_by m =
    stopped ++ does 0 (Clear 2) ∷ does 0 (Send 1 m) ∷ does 1 (Apply message.Root) ∷ does 1 (Apply m) ∷ []

-- a task waits for its write on worker one; and there is forwarded by worker zero
abbrev pub writing : Plan
writing = two_of ((word.Write 0 0 8) ∷ word.Await ∷ word.End ∷ [])

abbrev pub a_write : List Told
a_write =
    says (action.Spawn 0 0) (Spawn 2 0) ∷ does 1 (Begin 2) ∷ does 1 (Admit 0 kind.Write None) ∷
    does 1 (Wait (Some 0)) ∷ does 1 (Pend 2) ∷ []

abbrev pub a_forwarded_write : List Told
a_forwarded_write =
    a_write ++ pays (action.Wake 1 2) 2 ByCall ∷ does 0 (Begin 2) ∷ does 0 (Send 1 (message.ForwardRequest 0)) ∷
    does 0 (Pend 2) ∷ does 1 (Apply (message.ForwardRequest 0)) ∷ []

-- a task sleeps on worker one; or it is cleared in the poll in which it is to sleep there
abbrev pub sleeping : Plan
sleeping = two_of ((word.Sleep 1000000) ∷ word.End ∷ [])

abbrev pub in_a_poll : List Told
in_a_poll = says (action.Spawn 0 0) (Spawn 2 0) ∷ does 1 (Begin 2) ∷ does 1 (Timer 0 1000000) ∷ []

abbrev pub a_sleep : List Told
a_sleep = in_a_poll ++ does 1 (Pend 2) ∷ []

abbrev pub cleared_in_a_poll : List Told
cleared_in_a_poll = in_a_poll ++ stopped ++ does 0 (Clear 2) ∷ does 1 (Pend 2) ∷ []

-- THE END

-- a task on worker one is to make a worker, and the set is closed
abbrev pub making : Plan
making = two_of ((word.Dedicated 1) ∷ word.End ∷ [])

abbrev pub a_closed_set : List Told
a_closed_set = says (action.Spawn 0 0) (Spawn 2 0) ∷ does 1 (Begin 2) ∷ root_over ++ does 0 Close ∷ []

-- the one worker's root is over, and it comes as far as its end
abbrev pub to_the_end : List Told
to_the_end = does 0 (Done 0) ∷ does 0 Close ∷ does 0 Turn ∷ does 0 Stop ∷ passes 0 ∷ does 0 Turn ∷ []

-- a task of the set is live, or the root of a dedicated worker
abbrev pub with_a_task : Plan
with_a_task = alone (word.End ∷ []) (word.End ∷ [])

abbrev pub a_live_task : List Told
a_live_task = says (action.Spawn 0 0) (Spawn 1 0) ∷ does 0 (Begin 0) ∷ to_the_end

abbrev pub with_a_worker : Plan
with_a_worker = alone (word.End ∷ []) ((word.Dedicated 0) ∷ word.End ∷ [])

abbrev pub a_live_worker : List Told
a_live_worker = does 0 (Begin 0) ∷ does 0 (Dedicated 1 1) ∷ to_the_end

-- A sleeper on worker zero is taken away by its end alone, since the message that does so is dropped; then its moment
-- comes.
abbrev pub an_end_with_a_sleeper : List Told
an_end_with_a_sleeper =
    says (action.Spawn 0 0) (Spawn 2 0) ∷ says (action.GoOn 0) Return ∷ does 0 (Begin 2) ∷
    does 0 (Timer 0 1000000) ∷ does 0 (Pend 2) ∷ stopped ++ does 1 (Begin 1) ∷ does 1 (Done 1) ∷ does 1 Close ∷
    does 1 (Clear 2) ∷ does 1 (Send 0 (message.CancelTimer 0)) ∷ passes 1 ∷ passes 0 ∷ does 0 Turn ∷ does 0 End ∷
    does 1 Turn ∷ does 1 End ∷ says (action.Clock 1000000) Clock ∷ []

-- a dedicated worker ends, and the root of worker zero sleeps
abbrev pub a_sleeping_root : Plan
a_sleeping_root = alone (word.End ∷ []) ((word.Dedicated 0) ∷ (word.Sleep 1000000) ∷ word.End ∷ [])

abbrev pub another_end : List Told
another_end =
    does 0 (Begin 0) ∷ does 0 (Dedicated 1 1) ∷ does 0 (Timer 0 1000000) ∷ does 0 (Pend 0) ∷ does 1 (Begin 1) ∷
    does 1 (Done 1) ∷ does 1 Close ∷ does 1 Turn ∷ does 1 End ∷ []

-- THE RING AND THE GATES

-- a ring with two places, and four sends: two are staged, one of them is judged, and the third is staged
abbrev pub ring_of_two : Plan
ring_of_two =
    record {
      config = record usual { ring = 2 };
      scripts = [];
      root = (word.Send 0 8) ∷ (word.Send 0 8) ∷ (word.Send 0 8) ∷ (word.Send 0 8) ∷ word.Await ∷ word.End ∷ [];
    }

abbrev pub a_full_ring : List Told
a_full_ring =
    does 0 (Begin 0) ∷ does 0 (Admit 0 kind.Send None) ∷ does 0 (Admit 1 kind.Send None) ∷
    does 0 (Admit 2 kind.Send None) ∷ does 0 (Admit 3 kind.Send None) ∷ does 0 (Wait (Some 3)) ∷ does 0 (Pend 0) ∷
    does 0 (Enrol 0 None) ∷ does 0 (Enrol 1 None) ∷ does 0 (Enrol 2 None) ∷ does 0 (Enrol 3 None) ∷
    does 0 (Stage 0) ∷ does 0 (Stage 1) ∷ does 0 Enter ∷ says (action.Land 0 (Count 8)) Land ∷
    does 0 (Reap 0 (Count 8) (Some Success)) ∷ does 0 (Stage 2) ∷ []

-- a plain read lands with a refusal such as one of a hint
abbrev pub reading : Plan
reading = alone (word.End ∷ []) ((word.Read 0 0 8) ∷ word.Await ∷ word.End ∷ [])

abbrev pub a_refused_read : List Told
a_refused_read =
    does 0 (Begin 0) ∷ does 0 (Admit 0 kind.Read None) ∷ does 0 (Wait (Some 0)) ∷ does 0 (Pend 0) ∷
    does 0 (Stage 0) ∷ does 0 Enter ∷ says (action.Land 0 (Errno 95)) Land ∷ []

-- of two reads with the hint the first is refused, and the second is staged after that
abbrev pub hinting : Plan
hinting = alone (word.End ∷ []) ((word.Hint 0 0 8) ∷ (word.Hint 0 0 8) ∷ word.Await ∷ word.End ∷ [])

abbrev pub a_refused_hint : List Told
a_refused_hint =
    does 0 (Begin 0) ∷ does 0 (Admit 0 kind.Hint None) ∷ does 0 (Admit 1 kind.Hint None) ∷ does 0 (Wait (Some 1)) ∷
    does 0 (Pend 0) ∷ does 0 (Stage 0) ∷ does 0 Enter ∷ says (action.Land 0 (Errno 95)) Land ∷
    does 0 (Reap 0 (Errno 95) None) ∷ does 0 (Stage 1) ∷ does 0 Enter ∷ says (action.Land 1 (Errno 95)) Land ∷ []

-- the first reads what it was to read, and the second is refused
abbrev pub a_hint_refused_later : List Told
a_hint_refused_later =
    does 0 (Begin 0) ∷ does 0 (Admit 0 kind.Hint None) ∷ does 0 (Admit 1 kind.Hint None) ∷ does 0 (Wait (Some 1)) ∷
    does 0 (Pend 0) ∷ does 0 (Stage 0) ∷ does 0 Enter ∷ says (action.Land 0 (Count 8)) Land ∷
    does 0 (Reap 0 (Count 8) (Some Success)) ∷ does 0 (Stage 1) ∷ does 0 Enter ∷
    says (action.Land 1 (Errno 95)) Land ∷ []

-- a direct read goes on as a buffered one, which has the hint, and that is refused
abbrev pub direct : Plan
direct = alone (word.End ∷ []) ((word.Direct 0 5 8) ∷ word.Await ∷ word.End ∷ [])

abbrev pub a_refused_direct : List Told
a_refused_direct =
    does 0 (Begin 0) ∷ does 0 (Admit 0 kind.Direct None) ∷ does 0 (Wait (Some 0)) ∷ does 0 (Pend 0) ∷
    does 0 (Stage 0) ∷ does 0 Enter ∷ says (action.Land 0 (Count 3)) Land ∷ does 0 (Reap 0 (Count 3) None) ∷
    does 0 (Stage 0) ∷ does 0 Enter ∷ says (action.Land 0 (Errno 95)) Land ∷ []

-- eight bytes are to be received, of which three have come, and the rest is asked for
abbrev pub filling : Plan
filling = alone (word.End ∷ []) ((word.Fill 0 8) ∷ word.Await ∷ word.End ∷ [])

abbrev pub a_part : List Told
a_part =
    does 0 (Begin 0) ∷ does 0 (Admit 0 kind.Fill None) ∷ does 0 (Wait (Some 0)) ∷ does 0 (Pend 0) ∷
    does 0 (Enrol 0 None) ∷ does 0 (Stage 0) ∷ does 0 Enter ∷ says (action.Land 0 (Count 3)) Land ∷
    does 0 (Reap 0 (Count 3) None) ∷ does 0 (Stage 0) ∷ does 0 Enter ∷ []

-- a task lets go of what is in flight: of a write, and of a send whose deadline has come before
abbrev pub letting_go_of : ScriptWord → Plan
letting_go_of it = alone (word.End ∷ []) (it ∷ word.Yield ∷ word.Drop ∷ word.Yield ∷ word.End ∷ [])

abbrev pub let_go : List Told
let_go = does 0 (Begin 0) ∷ does 0 (Drop 0) ∷ pays (action.Work 0) 0 ByAct ∷ does 0 (Pend 0) ∷ []

abbrev pub a_write_let_go : List Told
a_write_let_go =
    does 0 (Begin 0) ∷ does 0 (Admit 0 kind.Write None) ∷ pays (action.Work 0) 0 ByAct ∷ does 0 (Pend 0) ∷
    does 0 (Stage 0) ∷ does 0 Enter ∷ let_go

abbrev pub a_late_send_let_go : List Told
a_late_send_let_go =
    does 0 (Begin 0) ∷ does 0 (Admit 0 kind.Send None) ∷ pays (action.Work 0) 0 ByAct ∷ does 0 (Pend 0) ∷
    does 0 (Enrol 0 None) ∷ does 0 (Stage 0) ∷ does 0 Enter ∷ does 0 Turn ∷ says (action.Clock 10000000) Clock ∷
    does 0 Serve ∷ does 0 (Expire 0 None) ∷ let_go ++ does 0 (Cancel 0) ∷ []

-- a sync comes after a write that is not over; or two come after one that is, and the first of them is over
abbrev pub write_and_sync : Plan
write_and_sync = alone (word.End ∷ []) ((word.Write 0 0 8) ∷ (word.Sync 0) ∷ word.Await ∷ word.End ∷ [])

abbrev pub a_write_ahead : List Told
a_write_ahead =
    does 0 (Begin 0) ∷ does 0 (Admit 0 kind.Write None) ∷ does 0 (Admit 1 kind.Sync None) ∷ does 0 Turn ∷
    does 0 (Wait (Some 1)) ∷ does 0 (Pend 0) ∷ []

abbrev pub write_and_syncs : Plan
write_and_syncs =
    alone (word.End ∷ []) ((word.Write 0 0 8) ∷ word.Yield ∷ (word.Sync 0) ∷ (word.Sync 0) ∷ word.Await ∷ word.End ∷ [])

abbrev pub a_synced_write : List Told
a_synced_write =
    does 0 (Begin 0) ∷ does 0 (Admit 0 kind.Write None) ∷ pays (action.Work 0) 0 ByAct ∷ does 0 (Pend 0) ∷
    does 0 (Stage 0) ∷ does 0 Enter ∷ says (action.Land 0 (Count 8)) Land ∷
    does 0 (Reap 0 (Count 8) (Some Success)) ∷ does 0 (Begin 0) ∷ does 0 (Admit 1 kind.Sync None) ∷ does 0 Turn ∷
    does 0 (Admit 2 kind.Sync None) ∷ does 0 Turn ∷ does 0 (Wait (Some 2)) ∷ does 0 (Pend 0) ∷
    does 0 (Grant 1 None) ∷ does 0 (Stage 1) ∷ does 0 Enter ∷ says (action.Land 1 (Count 0)) Land ∷
    does 0 (Reap 1 (Count 0) (Some Success)) ∷ []

-- three syncs of one open file, or two of two
abbrev pub syncing : Plan
syncing = alone (word.End ∷ []) ((word.Sync 0) ∷ (word.Sync 0) ∷ (word.Sync 0) ∷ word.Await ∷ word.End ∷ [])

abbrev pub three_gated : List Told
three_gated =
    does 0 (Begin 0) ∷ does 0 (Admit 0 kind.Sync None) ∷ does 0 Turn ∷ does 0 (Admit 1 kind.Sync None) ∷ does 0 Turn ∷
    does 0 (Admit 2 kind.Sync None) ∷ does 0 Turn ∷ does 0 (Wait (Some 2)) ∷ does 0 (Pend 0) ∷ []

abbrev pub two_files : Plan
two_files =
    record {
      config = record usual { files = 2 };
      scripts = [];
      root = (word.Sync 0) ∷ (word.Sync 1) ∷ word.Await ∷ word.End ∷ [];
    }

abbrev pub two_gated : List Told
two_gated =
    does 0 (Begin 0) ∷ does 0 (Admit 0 kind.Sync None) ∷ does 0 Turn ∷ does 0 (Admit 1 kind.Sync None) ∷ does 0 Turn ∷
    does 0 (Wait (Some 1)) ∷ does 0 (Pend 0) ∷ []

-- TIME

-- A dedicated worker begins at six milliseconds; or it samples the clock a nanosecond later and sends: the deadline
-- goes on its wheel, whose ticks begin with the worker.
abbrev pub napping_worker : Plan
napping_worker = alone ((word.Sleep 5) ∷ word.End ∷ []) ((word.Dedicated 0) ∷ word.End ∷ [])

abbrev pub a_late_worker : List Told
a_late_worker = says (action.Clock 6000000) Clock ∷ does 0 (Begin 0) ∷ does 0 (Dedicated 1 1) ∷ []

abbrev pub sending_worker : Plan
sending_worker = alone ((word.Send 0 8) ∷ word.Await ∷ word.End ∷ []) ((word.Dedicated 0) ∷ word.End ∷ [])

abbrev pub a_late_send : List Told
a_late_send =
    a_late_worker ++ says (action.Clock 1) Clock ∷ does 1 Serve ∷ does 1 (Begin 1) ∷ does 1 (Admit 0 kind.Send None) ∷
    does 1 (Wait (Some 0)) ∷ does 1 (Pend 1) ∷ does 1 Serve ∷ does 1 (Enrol 0 None) ∷ []

-- two sends of one moment stand on the wheel of worker zero, and that has come: both workers have sampled it
abbrev pub two_sends : Plan
two_sends =
    record {
      config = record usual { workers = 2 };
      scripts = [];
      root = (word.Send 0 8) ∷ (word.Send 0 8) ∷ word.Await ∷ word.End ∷ [];
    }

abbrev pub two_enrolled : List Told
two_enrolled =
    does 0 (Begin 0) ∷ does 0 (Admit 0 kind.Send None) ∷ does 0 (Admit 1 kind.Send None) ∷ does 0 (Wait (Some 1)) ∷
    does 0 (Pend 0) ∷ does 0 Serve ∷ does 0 (Enrol 0 None) ∷ does 0 (Enrol 1 None) ∷ does 0 Turn ∷ []

abbrev pub two_due : List Told
two_due = two_enrolled ++ says (action.Clock 10000000) Clock ∷ does 0 Serve ∷ does 1 Serve ∷ []

-- worker zero sleeps until that moment, and the clock comes as far as one nanosecond before it
abbrev pub nearly_due : List Told
nearly_due = two_enrolled ++ does 0 (Sleep (Some 10000000)) ∷ says (action.Clock 9999999) Clock ∷ []

-- A wheel of eight slots of 5 ms: a receive until 30 ms after the start of the worker stands in slot 6, and a connect
-- until 50 ms after it in slot 2. The worker has sampled 20 ms, and next so many nanoseconds later.
abbrev pub wheel_words : List ScriptWord
wheel_words = (word.Sleep 20000000) ∷ (word.Recv 0 8) ∷ (word.Connect 0) ∷ word.Await ∷ word.End ∷ []

abbrev pub sampled_after : ℕ → ℕ → ℕ → List Told
sampled_after i start later =
    does i (Begin i) ∷ does i (Timer 0 (start + 20000000)) ∷ does i (Pend i) ∷ says (action.Clock 20000000) Clock ∷
    does i Serve ∷ does i (Fire 0) ∷ does i Turn ∷ pays (action.Work i) i (BySleeper 0) ∷ does i (Begin i) ∷
    does i (GotTimer 0) ∷ does i (Admit 0 kind.Recv None) ∷ does i (Admit 1 kind.Connect None) ∷
    does i (Wait (Some 1)) ∷ does i (Pend i) ∷ does i Serve ∷ does i (Enrol 0 None) ∷ does i (Enrol 1 None) ∷
    does i Turn ∷ says (action.Clock later) Clock ∷ does i Serve ∷ []

-- worker zero has the wheel, or a dedicated worker that begins at 10 ms
abbrev pub eight_slots : Plan
eight_slots = record { config = record usual { connect = 30000000 }; scripts = []; root = wheel_words }

abbrev pub eight_slots_late : Plan
eight_slots_late =
    record {
      config = record usual { connect = 30000000 };
      scripts = wheel_words ∷ [];
      root = (word.Dedicated 0) ∷ word.End ∷ [];
    }

abbrev pub sampled_late : List Told
sampled_late =
    says (action.Clock 10000000) Clock ∷ does 0 (Begin 0) ∷ does 0 (Dedicated 1 1) ∷ sampled_after 1 10000000 40000000
