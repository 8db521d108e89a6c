-- Whole logs that are good, with what their lines leave open. `tools/example` wrote them.
use Rattle.std.specs.Prelude.{false, [], ◌∷◌, ◌++◌, Some, None}
use Rattle.exec_base.specs.declared.error.{Error.Error as error, Cause.Cause as cause}
use Rattle.exec_outcomes.specs.declared.outcome.{Kind.Kind as kind, OpResult.TheVariants.{Count, Errno}, Outcome.TheVariants.{Success, Failure}}
use Rattle.exec_machine.specs.{declared.{config.ScriptWord.ScriptWord as word, step.{Step.Step as step, Action.Action as action}, state.MailMessage.MailMessage as message, event.Event.TheVariants.{Turn, Serve, Begin, Pend, Done, Spawn, Dedicated, Clear, Admit, Wait, Got, Drop, Timer, GotTimer, Pass, Grant, Enrol, Stage, Enter, Reap, Cancel, Orphan, Release, Fire, Send, Apply, Rouse, Sleep, Close, Stop, End, Return, Land, Clock}}, Choice.Payer.{ByRequest, BySleeper, ByAct, ByCall, ByStop}, Examples.{Example, usual, says, does, refuses, passes, pays, posts, times}}

-- A root sends ten bytes, waits, is woken and ends.
abbrev pub a_send : Example
a_send =
    record {
      plan =
          record {
            config = usual;
            scripts = [];
            root = (word.Send 0 10) ∷ word.Await ∷ word.End ∷ [];
          };
      steps =
          step.Work 0 36 ∷ step.One (action.Land 0 (Count 10)) ∷ step.Work 0 54 ∷ [];
      told =
          times 5 (does 0 Turn) ++ does 0 (Begin 0) ∷ does 0 (Admit 0 kind.Send None) ∷
          does 0 (Wait (Some 0)) ∷ does 0 (Pend 0) ∷ times 4 (does 0 Turn) ++
          times 3 (does 0 Serve) ++ does 0 (Enrol 0 None) ∷ does 0 (Stage 0) ∷
          times 3 (does 0 Serve) ++ times 12 (does 0 Turn) ++ does 0 Enter ∷
          does 0 (Sleep (Some 10000000)) ∷ refuses (action.Work 0) ∷
          says (action.Land 0 (Count 10)) Land ∷ times 11 (does 0 Turn) ++ does 0 Serve ∷
          does 0 (Reap 0 (Count 10) (Some Success)) ∷ times 4 (does 0 Serve) ++
          times 2 (does 0 Turn) ++ pays (action.Work 0) 0 (ByRequest 0) ∷ does 0 (Release 0) ∷
          times 9 (does 0 Turn) ++ does 0 (Begin 0) ∷ does 0 (Got 0 Success) ∷ does 0 (Done 0) ∷
          does 0 Close ∷ times 2 (does 0 Turn) ++ does 0 Stop ∷ times 5 (does 0 Turn) ++ passes 0 ∷
          times 2 (does 0 Turn) ++ times 6 (does 0 Serve) ++ does 0 Turn ∷ does 0 End ∷
          refuses (action.Work 0) ∷ [];
    }

-- Two durable writes of one open on two workers, the second of a dedicated worker: the first fails, and its
-- failure is kept.
abbrev pub durable_writes : Example
durable_writes =
    record {
      plan =
          record {
            config = usual;
            scripts = ((word.Dsync 0 8 8) ∷ word.Await ∷ word.End ∷ []) ∷ [];
            root = (word.Dedicated 0) ∷ (word.Dsync 0 0 8) ∷ word.Await ∷ word.End ∷ [];
          };
      steps =
          step.Work 0 11 ∷ step.Work 1 7 ∷ step.Work 0 8 ∷ step.Work 1 18 ∷ step.Work 0 17 ∷
          step.One (action.Land 0 (Errno 5)) ∷ step.Work 0 40 ∷ step.Work 1 36 ∷ [];
      told =
          times 5 (does 0 Turn) ++ does 0 (Begin 0) ∷ does 0 (Dedicated 1 1) ∷
          does 0 (Admit 0 kind.Dsync None) ∷ does 0 Turn ∷ does 0 (Wait (Some 0)) ∷ does 0 (Pend 0) ∷
          times 2 (does 1 Turn) ++ does 1 (Begin 1) ∷ does 1 (Admit 1 kind.Dsync None) ∷
          does 1 Turn ∷ does 1 (Wait (Some 1)) ∷ does 1 (Pend 1) ∷ times 4 (does 0 Turn) ++
          times 3 (does 0 Serve) ++ does 0 (Grant 0 None) ∷ times 2 (does 1 Turn) ++
          times 7 (does 1 Serve) ++ times 7 (does 1 Turn) ++ does 1 Enter ∷ does 1 (Sleep None) ∷
          does 0 (Stage 0) ∷ times 3 (does 0 Serve) ++ times 12 (does 0 Turn) ++ does 0 Enter ∷
          says (action.Land 0 (Errno 5)) Land ∷ times 12 (does 0 Turn) ++ does 0 Serve ∷
          does 0 (Reap 0 (Errno 5) (Some (Failure (error.Io (cause.Code 5))))) ∷
          times 2 (does 0 Serve) ++ does 0 (Rouse 1) ∷ times 4 (does 0 Serve) ++
          times 2 (does 0 Turn) ++ pays (action.Work 0) 0 (ByRequest 0) ∷ does 0 (Release 0) ∷
          times 9 (does 0 Turn) ++ does 0 (Begin 0) ∷
          does 0 (Got 0 (Failure (error.Io (cause.Code 5)))) ∷ does 0 (Done 0) ∷ does 0 Close ∷
          times 2 (does 0 Turn) ++ times 5 (does 1 Turn) ++ times 3 (does 1 Serve) ++
          does 1 (Grant 1 (Some (Failure (error.BlobSyncFailed 0 (cause.Code 5))))) ∷
          times 4 (does 1 Serve) ++ times 2 (does 1 Turn) ++ pays (action.Work 1) 1 (ByRequest 1) ∷
          does 1 (Release 1) ∷ times 4 (does 1 Turn) ++ does 1 (Begin 1) ∷
          does 1 (Got 1 (Failure (error.BlobSyncFailed 0 (cause.Code 5)))) ∷ does 1 (Done 1) ∷
          does 1 Close ∷ times 2 (does 1 Turn) ++ times 6 (does 1 Serve) ++ does 1 Turn ∷
          does 1 End ∷ refuses (action.Work 1) ∷ [];
    }

-- A worker steals a task that holds two requests of another worker, and lets go of both by messages.
abbrev pub a_stolen_task : Example
a_stolen_task =
    record {
      plan =
          record {
            config = record usual { workers = 2 };
            scripts = ((word.Send 0 8) ∷ (word.Send 0 8) ∷ word.Yield ∷ word.Drop ∷ word.End ∷ []) ∷ [];
            root = word.Await ∷ word.End ∷ [];
          };
      steps =
          step.One (action.Spawn 0 0) ∷ step.One (action.GoOn 0) ∷ step.One (action.GoOn 0) ∷
          step.One (action.GoOn 0) ∷ step.One (action.Spawn 0 0) ∷ step.One (action.GoOn 0) ∷
          step.One (action.GoOn 0) ∷ step.One (action.GoOn 0) ∷ step.Work 0 25 ∷ step.Work 1 46 ∷
          step.Work 0 60 ∷ [];
      told =
          says (action.Spawn 0 0) (Spawn 2 0) ∷ times 2 (says (action.GoOn 0) Turn) ++
          says (action.GoOn 0) Return ∷ says (action.Spawn 0 0) (Spawn 3 0) ∷
          times 2 (says (action.GoOn 0) Turn) ++ says (action.GoOn 0) Return ∷
          times 6 (does 0 Turn) ++ does 0 (Begin 2) ∷ does 0 (Admit 0 kind.Send None) ∷
          does 0 (Admit 1 kind.Send None) ∷ pays (action.Work 0) 2 ByAct ∷ does 0 (Pend 2) ∷
          times 7 (does 0 Turn) ++ does 0 (Begin 3) ∷ does 0 (Admit 2 kind.Send None) ∷
          does 0 (Admit 3 kind.Send None) ∷ pays (action.Work 0) 3 ByAct ∷ does 0 (Pend 3) ∷
          times 2 (does 0 Turn) ++ times 5 (does 1 Turn) ++ does 1 (Begin 1) ∷ does 1 (Wait None) ∷
          does 1 (Pend 1) ∷ times 4 (does 1 Turn) ++ times 6 (does 1 Serve) ++
          times 23 (does 1 Turn) ++ does 1 (Begin 2) ∷ does 1 (Send 0 (message.CancelRequest 1)) ∷
          does 1 (Done 2) ∷ does 1 (Send 0 (message.CancelRequest 0)) ∷ does 1 Turn ∷
          times 5 (does 0 Turn) ++ does 0 (Begin 3) ∷ does 0 (Drop 3) ∷ does 0 (Done 3) ∷
          times 5 (does 0 Turn) ++ does 0 (Begin 0) ∷ does 0 (Wait None) ∷ does 0 (Pend 0) ∷
          times 3 (does 0 Turn) ++ does 0 (Release 3) ∷ does 0 (Release 2) ∷ times 3 (does 0 Turn) ++
          times 3 (does 0 Serve) ++ does 0 (Enrol 0 None) ∷ does 0 (Enrol 1 None) ∷
          does 0 (Stage 0) ∷ does 0 (Stage 1) ∷ does 0 Serve ∷ does 0 Enter ∷
          times 2 (does 0 Serve) ++ times 2 (does 0 Turn) ++
          does 0 (Apply (message.CancelRequest 1)) ∷ does 0 (Apply (message.CancelRequest 0)) ∷
          times 14 (does 0 Turn) ++ times 3 (does 0 Serve) ++ does 0 (Cancel 1) ∷ does 0 (Cancel 0) ∷
          times 2 (does 0 Serve) ++ [];
    }

-- A caller wakes a task, another worker polls it, and what it awaits is over before the forward is applied.
abbrev pub a_forward : Example
a_forward =
    record {
      plan =
          record {
            config = record usual { workers = 2 };
            scripts = ((word.Send 0 8) ∷ word.Await ∷ word.End ∷ []) ∷ [];
            root = word.Await ∷ word.End ∷ [];
          };
      steps =
          step.One (action.Spawn 0 0) ∷ step.One (action.GoOn 0) ∷ step.One (action.GoOn 0) ∷
          step.One (action.GoOn 0) ∷ step.Work 0 50 ∷ step.One (action.Land 0 (Count 8)) ∷
          step.Work 0 14 ∷ step.One (action.Wake 0 2) ∷ step.One (action.GoOn 0) ∷
          step.One (action.GoOn 0) ∷ step.One (action.GoOn 0) ∷ step.Work 1 9 ∷ step.Work 0 45 ∷ [];
      told =
          says (action.Spawn 0 0) (Spawn 2 0) ∷ times 2 (says (action.GoOn 0) Turn) ++
          says (action.GoOn 0) Return ∷ times 6 (does 0 Turn) ++ does 0 (Begin 2) ∷
          does 0 (Admit 0 kind.Send None) ∷ does 0 (Wait (Some 0)) ∷ does 0 (Pend 2) ∷
          times 4 (does 0 Turn) ++ does 0 (Begin 0) ∷ does 0 (Wait None) ∷ does 0 (Pend 0) ∷
          times 4 (does 0 Turn) ++ times 3 (does 0 Serve) ++ does 0 (Enrol 0 None) ∷
          does 0 (Stage 0) ∷ times 3 (does 0 Serve) ++ times 20 (does 0 Turn) ++ does 0 Enter ∷
          says (action.Land 0 (Count 8)) Land ∷ times 12 (does 0 Turn) ++ does 0 Serve ∷
          does 0 (Reap 0 (Count 8) (Some Success)) ∷ pays (action.Wake 0 2) 2 ByCall ∷
          times 2 (says (action.GoOn 0) Turn) ++ says (action.GoOn 0) Return ∷
          times 6 (does 1 Turn) ++ does 1 (Begin 2) ∷ does 1 (Send 0 (message.ForwardRequest 0)) ∷
          does 1 (Pend 2) ∷ times 4 (does 0 Serve) ++ times 2 (does 0 Turn) ++
          does 0 (Apply (message.ForwardRequest 0)) ∷ does 0 Turn ∷
          pays (action.Work 0) 2 (ByRequest 0) ∷ times 2 (does 0 Turn) ++ does 0 (Release 0) ∷
          does 0 Turn ∷ pays (action.Work 0) 2 (ByRequest 0) ∷ times 8 (does 0 Turn) ++
          does 0 (Begin 2) ∷ does 0 (Got 0 Success) ∷ does 0 (Done 2) ∷ times 9 (does 0 Turn) ++
          times 6 (does 0 Serve) ++ times 5 (does 0 Turn) ++ [];
    }

-- The same with a sleeper.
abbrev pub a_sleeper_elsewhere : Example
a_sleeper_elsewhere =
    record {
      plan =
          record {
            config = record usual { workers = 2 };
            scripts = ((word.Sleep 1000000) ∷ word.End ∷ []) ∷ [];
            root = word.Await ∷ word.End ∷ [];
          };
      steps =
          step.One (action.Spawn 0 0) ∷ step.One (action.GoOn 0) ∷ step.One (action.GoOn 0) ∷
          step.One (action.GoOn 0) ∷ step.Work 0 9 ∷ step.One (action.Wake 0 2) ∷
          step.One (action.GoOn 0) ∷ step.One (action.GoOn 0) ∷ step.One (action.GoOn 0) ∷
          step.Work 1 9 ∷ step.Work 0 20 ∷ step.One (action.Clock 1000000) ∷ step.Work 0 39 ∷ [];
      told =
          says (action.Spawn 0 0) (Spawn 2 0) ∷ times 2 (says (action.GoOn 0) Turn) ++
          says (action.GoOn 0) Return ∷ times 6 (does 0 Turn) ++ does 0 (Begin 2) ∷
          does 0 (Timer 0 1000000) ∷ does 0 (Pend 2) ∷ pays (action.Wake 0 2) 2 ByCall ∷
          times 2 (says (action.GoOn 0) Turn) ++ says (action.GoOn 0) Return ∷
          times 6 (does 1 Turn) ++ does 1 (Begin 2) ∷ does 1 (Send 0 (message.ForwardTimer 0)) ∷
          does 1 (Pend 2) ∷ times 4 (does 0 Turn) ++ does 0 (Begin 0) ∷ does 0 (Wait None) ∷
          does 0 (Pend 0) ∷ times 4 (does 0 Turn) ++ times 6 (does 0 Serve) ++
          times 2 (does 0 Turn) ++ does 0 (Apply (message.ForwardTimer 0)) ∷
          says (action.Clock 1000000) Clock ∷ times 15 (does 0 Turn) ++ times 5 (does 0 Serve) ++
          does 0 (Fire 0) ∷ does 0 Serve ∷ times 3 (does 0 Turn) ++
          pays (action.Work 0) 2 (BySleeper 0) ∷ times 10 (does 0 Turn) ++ does 0 (Begin 2) ∷
          does 0 (GotTimer 0) ∷ does 0 (Done 2) ∷ [];
    }

-- Two workers close: one clears a task that holds requests of the other, is held at the barrier, and the other
-- lets go of them.
abbrev pub the_barrier : Example
the_barrier =
    record {
      plan =
          record {
            config = record usual { workers = 2 };
            scripts = ((word.Send 0 8) ∷ (word.Dsync 0 0 8) ∷ (word.Sync 0) ∷ word.Await ∷ word.End ∷ []) ∷ [];
            root = (word.Spawn 0) ∷ word.Yield ∷ word.End ∷ [];
          };
      steps =
          step.Work 1 8 ∷ step.Work 0 51 ∷ step.Work 1 43 ∷ step.Work 0 33 ∷
          step.One (action.Land 0 (Count 8)) ∷ step.One (action.Land 1 (Count 8)) ∷ step.Work 0 18 ∷
          step.Work 1 11 ∷ step.Work 0 1 ∷ [];
      told =
          times 5 (does 1 Turn) ++ does 1 (Begin 1) ∷ does 1 (Wait None) ∷ does 1 (Pend 1) ∷
          times 5 (does 0 Turn) ++ does 0 (Begin 0) ∷ does 0 (Spawn 2 0) ∷ times 3 (does 0 Turn) ++
          pays (action.Work 0) 0 ByAct ∷ does 0 (Pend 0) ∷ times 4 (does 0 Turn) ++
          times 6 (does 0 Serve) ++ times 10 (does 0 Turn) ++ does 0 (Begin 2) ∷
          does 0 (Admit 0 kind.Send None) ∷ does 0 (Admit 1 kind.Dsync None) ∷ does 0 Turn ∷
          does 0 (Admit 2 kind.Sync None) ∷ does 0 Turn ∷ does 0 (Wait (Some 2)) ∷ does 0 (Pend 2) ∷
          times 4 (does 0 Turn) ++ does 0 (Begin 0) ∷ does 0 (Done 0) ∷ does 0 Close ∷
          times 2 (does 0 Turn) ++ does 0 Stop ∷ posts (action.Work 0) 1 ByStop false ∷
          times 4 (does 1 Turn) ++ times 6 (does 1 Serve) ++ times 2 (does 1 Turn) ++
          does 1 (Apply message.Root) ∷ times 10 (does 1 Turn) ++ does 1 (Begin 1) ∷ does 1 Pass ∷
          does 1 (Done 1) ∷ does 1 Close ∷ times 8 (does 1 Turn) ++ does 1 (Clear 2) ∷
          does 1 (Send 0 (message.CancelRequest 0)) ∷ does 1 (Send 0 (message.CancelRequest 1)) ∷
          does 1 (Send 0 (message.CancelRequest 2)) ∷ times 2 (does 1 Turn) ++ passes 1 ∷
          refuses (action.Work 1) ∷ times 9 (does 0 Turn) ++ passes 0 ∷ does 0 Turn ∷
          does 0 (Orphan 0 (Some (Failure error.Timeout))) ∷ does 0 (Orphan 1 None) ∷
          does 0 (Orphan 2 None) ∷ does 0 Turn ∷ pays (action.Work 0) 2 (ByRequest 2) ∷ does 0 Turn ∷
          does 0 (Release 0) ∷ times 3 (does 0 Serve) ++ does 0 (Grant 1 None) ∷ does 0 (Stage 1) ∷
          does 0 Serve ∷ does 0 Enter ∷ times 2 (does 0 Serve) ++ times 3 (does 0 Turn) ++
          does 0 Enter ∷ does 0 (Sleep None) ∷ refuses (action.Work 0) ∷
          refuses (action.Land 0 (Count 8)) ∷ says (action.Land 1 (Count 8)) Land ∷ does 0 Turn ∷
          does 0 Serve ∷ does 0 (Reap 1 (Count 8) (Some Success)) ∷ times 3 (does 0 Serve) ++
          does 0 (Grant 2 (Some Success)) ∷ times 4 (does 0 Serve) ++ times 3 (does 0 Turn) ++
          does 0 (Release 1) ∷ does 0 (Release 2) ∷ does 0 End ∷ refuses (action.Work 0) ∷
          times 2 (does 1 Turn) ++ times 6 (does 1 Serve) ++ does 1 Turn ∷ does 1 End ∷
          refuses (action.Work 1) ∷ refuses (action.Work 0) ∷ [];
    }
