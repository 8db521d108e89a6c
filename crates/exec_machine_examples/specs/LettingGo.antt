-- More logs that are good, in which things are let go: by tasks elsewhere, by a drain, as a worker closes.
-- `tools/example` wrote them.
use Rattle.std.specs.Prelude.{false, [], ◌∷◌, ◌++◌, Some, None}
use Rattle.exec_base.specs.declared.error.Error.{Error as error}
use Rattle.exec_outcomes.specs.declared.outcome.{Kind.Kind as kind, OpResult.TheVariants.{Count, Errno}, Outcome.TheVariants.{Success, Failure}}
use Rattle.exec_machine.specs.{declared.{config.ScriptWord.ScriptWord as word, step.{Step.Step as step, Action.Action as action}, state.MailMessage.MailMessage as message, event.Event.TheVariants.{Turn, Serve, Begin, Pend, Done, Spawn, Clear, Admit, Wait, Got, Drop, Timer, GotTimer, Pass, Grant, Enrol, Stage, Enter, Reap, Expire, Cancel, Orphan, Release, Fire, Send, Apply, Sleep, Close, Stop, Land, Clock}}, Choice.Payer.{ByRequest, BySleeper, ByAct, ByCall, ByStop}, Examples.{Example, usual, says, does, passes, pays, posts, times}}

-- A sleeper fires before it is forwarded, while another worker polls the task that waits for it: it owes two wakes.
abbrev pub a_late_forward : Example
a_late_forward =
    record {
      plan =
          record {
            config = record usual { workers = 2 };
            scripts = ((word.Sleep 1000000) ∷ word.End ∷ []) ∷ [];
            root = word.Await ∷ word.End ∷ [];
          };
      steps =
          step.One (action.Spawn 0 0) ∷ step.One (action.GoOn 0) ∷ step.Work 0 20 ∷
          step.One (action.Clock 1000000) ∷ step.One (action.Wake 1 2) ∷ step.One (action.GoOn 1) ∷
          step.Work 1 7 ∷ step.Work 0 6 ∷ step.Work 1 2 ∷ step.Work 0 20 ∷ [];
      told =
          says (action.Spawn 0 0) (Spawn 2 0) ∷ says (action.GoOn 0) Turn ∷ times 6 (does 0 Turn) ++
          does 0 (Begin 2) ∷ does 0 (Timer 0 1000000) ∷ does 0 (Pend 2) ∷ times 4 (does 0 Turn) ++
          does 0 (Begin 0) ∷ does 0 (Wait None) ∷ does 0 (Pend 0) ∷ times 4 (does 0 Turn) ++
          says (action.Clock 1000000) Clock ∷ pays (action.Wake 1 2) 2 ByCall ∷
          says (action.GoOn 1) Turn ∷ times 6 (does 1 Turn) ++ does 1 (Begin 2) ∷
          times 5 (does 0 Serve) ++ does 0 (Fire 0) ∷ does 1 (Send 0 (message.ForwardTimer 0)) ∷
          does 1 (Pend 2) ∷ does 0 Serve ∷ times 2 (does 0 Turn) ++
          does 0 (Apply (message.ForwardTimer 0)) ∷ does 0 Turn ∷
          pays (action.Work 0) 2 (BySleeper 0) ∷ times 3 (does 0 Turn) ++
          pays (action.Work 0) 2 (BySleeper 0) ∷ times 8 (does 0 Turn) ++ does 0 (Begin 2) ∷
          does 0 (GotTimer 0) ∷ [];
    }

-- A stolen task lets go of a queued send, which is over by that, and of a write, and awaits what another worker has.
abbrev pub letting_go_elsewhere : Example
letting_go_elsewhere =
    record {
      plan =
          record {
            config = record usual { workers = 2; ring = 1 };
            scripts =
                ((word.Send 0 8) ∷ (word.Write 0 0 8) ∷ (word.Send 0 8) ∷ word.Yield ∷ word.Drop ∷ word.Drop ∷ word.Await ∷ word.End ∷ []) ∷
                (word.Yield ∷ word.End ∷ []) ∷
                [];
            root = word.Await ∷ word.End ∷ [];
          };
      steps =
          step.One (action.Spawn 0 0) ∷ step.One (action.GoOn 0) ∷ step.One (action.Spawn 1 1) ∷
          step.One (action.GoOn 1) ∷ step.Work 0 25 ∷ step.Work 1 46 ∷ step.Work 0 37 ∷ [];
      told =
          says (action.Spawn 0 0) (Spawn 2 0) ∷ says (action.GoOn 0) Turn ∷
          says (action.Spawn 1 1) (Spawn 3 1) ∷ says (action.GoOn 1) Turn ∷ times 6 (does 0 Turn) ++
          does 0 (Begin 2) ∷ does 0 (Admit 0 kind.Send None) ∷ does 0 (Admit 1 kind.Write None) ∷
          does 0 (Admit 2 kind.Send None) ∷ pays (action.Work 0) 2 ByAct ∷ does 0 (Pend 2) ∷
          times 7 (does 0 Turn) ++ does 0 (Begin 3) ∷ pays (action.Work 0) 3 ByAct ∷
          does 0 (Pend 3) ∷ times 3 (does 0 Turn) ++ times 5 (does 1 Turn) ++ does 1 (Begin 1) ∷
          does 1 (Wait None) ∷ does 1 (Pend 1) ∷ times 4 (does 1 Turn) ++ times 6 (does 1 Serve) ++
          times 23 (does 1 Turn) ++ does 1 (Begin 2) ∷ does 1 (Send 0 (message.CancelRequest 2)) ∷
          does 1 (Send 0 (message.CancelRequest 1)) ∷ does 1 (Send 0 (message.ForwardRequest 0)) ∷
          does 1 (Pend 2) ∷ times 4 (does 0 Turn) ++ does 0 (Begin 3) ∷ does 0 (Done 3) ∷
          times 5 (does 0 Turn) ++ does 0 (Begin 0) ∷ does 0 (Wait None) ∷ does 0 (Pend 0) ∷
          times 4 (does 0 Turn) ++ times 3 (does 0 Serve) ++ does 0 (Enrol 0 None) ∷
          does 0 (Enrol 2 None) ∷ does 0 (Stage 0) ∷ does 0 Enter ∷ does 0 Serve ∷ does 0 Enter ∷
          times 2 (does 0 Serve) ++ times 2 (does 0 Turn) ++
          does 0 (Apply (message.CancelRequest 2)) ∷ does 0 (Apply (message.CancelRequest 1)) ∷
          does 0 (Apply (message.ForwardRequest 0)) ∷ times 2 (does 0 Turn) ++ does 0 (Release 2) ∷ [];
    }

-- A worker clears one task that sleeps there, one that sleeps on another worker, and one that is in a poll of that.
abbrev pub cleared_elsewhere : Example
cleared_elsewhere =
    record {
      plan =
          record {
            config = record usual { workers = 2 };
            scripts =
                ((word.Sleep 1000000) ∷ word.End ∷ []) ∷
                ((word.Send 0 8) ∷ word.Await ∷ word.End ∷ []) ∷
                [];
            root = word.End ∷ [];
          };
      steps =
          step.Work 1 8 ∷ step.One (action.Spawn 0 0) ∷ step.One (action.GoOn 0) ∷
          step.One (action.Spawn 1 1) ∷ step.One (action.GoOn 1) ∷ step.Work 1 30 ∷
          step.One (action.Spawn 2 0) ∷ step.One (action.GoOn 2) ∷ step.Work 0 32 ∷ step.Work 1 23 ∷ [];
      told =
          times 5 (does 1 Turn) ++ does 1 (Begin 1) ∷ does 1 (Wait None) ∷ does 1 (Pend 1) ∷
          says (action.Spawn 0 0) (Spawn 2 0) ∷ says (action.GoOn 0) Turn ∷
          says (action.Spawn 1 1) (Spawn 3 1) ∷ says (action.GoOn 1) Turn ∷ times 4 (does 1 Turn) ++
          times 6 (does 1 Serve) ++ times 12 (does 1 Turn) ++ does 1 (Begin 2) ∷
          does 1 (Timer 0 1000000) ∷ does 1 (Pend 2) ∷ times 3 (does 1 Turn) ++ does 1 (Begin 3) ∷
          does 1 (Admit 0 kind.Send None) ∷ says (action.Spawn 2 0) (Spawn 4 0) ∷
          says (action.GoOn 2) Turn ∷ times 6 (does 0 Turn) ++ does 0 (Begin 4) ∷
          does 0 (Timer 1 1000000) ∷ does 0 (Pend 4) ∷ times 4 (does 0 Turn) ++ does 0 (Begin 0) ∷
          does 0 (Done 0) ∷ does 0 Close ∷ times 2 (does 0 Turn) ++ does 0 Stop ∷
          posts (action.Work 0) 1 ByStop false ∷ times 4 (does 0 Turn) ++ does 0 (Clear 2) ∷
          does 0 (Send 1 (message.CancelTimer 0)) ∷ times 2 (does 0 Turn) ++ does 0 (Clear 3) ∷
          times 2 (does 0 Turn) ++ does 0 (Clear 4) ∷ does 1 (Wait (Some 0)) ∷ does 1 (Pend 3) ∷
          times 6 (does 1 Turn) ++ does 1 (Release 0) ∷ times 3 (does 1 Turn) ++
          times 6 (does 1 Serve) ++ times 2 (does 1 Turn) ++ does 1 (Apply message.Root) ∷
          does 1 (Apply (message.CancelTimer 0)) ∷ does 1 Turn ∷ [];
    }

-- What lets go of two requests, one over and one in flight, and of a sleeper is dropped as their worker's mailbox closes.
abbrev pub orphans : Example
orphans =
    record {
      plan =
          record {
            config = record usual { workers = 2 };
            scripts =
                ((word.Send 0 8) ∷ (word.Send 0 8) ∷ word.Await ∷ word.End ∷ []) ∷
                ((word.Sleep 1000000) ∷ word.End ∷ []) ∷
                [];
            root = word.Await ∷ word.End ∷ [];
          };
      steps =
          step.One (action.Spawn 0 0) ∷ step.One (action.GoOn 0) ∷ step.One (action.Spawn 1 1) ∷
          step.One (action.GoOn 1) ∷ step.Work 0 59 ∷ step.One (action.Land 0 (Count 8)) ∷
          step.One (action.Wake 2 0) ∷ step.Work 0 41 ∷ step.Work 1 25 ∷
          step.One (action.Clock 1000000) ∷ step.Work 0 22 ∷ [];
      told =
          says (action.Spawn 0 0) (Spawn 2 0) ∷ says (action.GoOn 0) Turn ∷
          says (action.Spawn 1 1) (Spawn 3 1) ∷ says (action.GoOn 1) Turn ∷ times 6 (does 0 Turn) ++
          does 0 (Begin 2) ∷ does 0 (Admit 0 kind.Send None) ∷ does 0 (Admit 1 kind.Send None) ∷
          does 0 (Wait (Some 1)) ∷ does 0 (Pend 2) ∷ times 3 (does 0 Turn) ++ does 0 (Begin 3) ∷
          does 0 (Timer 0 1000000) ∷ does 0 (Pend 3) ∷ times 4 (does 0 Turn) ++ does 0 (Begin 0) ∷
          does 0 (Wait None) ∷ does 0 (Pend 0) ∷ times 4 (does 0 Turn) ++ times 3 (does 0 Serve) ++
          does 0 (Enrol 0 None) ∷ does 0 (Enrol 1 None) ∷ does 0 (Stage 0) ∷ does 0 (Stage 1) ∷
          times 3 (does 0 Serve) ++ times 20 (does 0 Turn) ++ does 0 Enter ∷
          says (action.Land 0 (Count 8)) Land ∷ posts (action.Wake 2 0) 0 ByCall false ∷
          times 12 (does 0 Turn) ++ does 0 Serve ∷ does 0 (Reap 0 (Count 8) (Some Success)) ∷
          times 2 (does 0 Serve) ++ does 0 Enter ∷ times 2 (does 0 Serve) ++ times 2 (does 0 Turn) ++
          does 0 (Apply message.Root) ∷ does 0 Turn ∷ does 0 (Release 0) ∷ times 9 (does 0 Turn) ++
          does 0 (Begin 0) ∷ does 0 Pass ∷ does 0 (Done 0) ∷ does 0 Close ∷ times 2 (does 0 Turn) ++
          does 0 Stop ∷ posts (action.Work 0) 1 ByStop false ∷ times 5 (does 1 Turn) ++
          does 1 (Begin 1) ∷ does 1 (Done 1) ∷ does 1 Close ∷ times 8 (does 1 Turn) ++
          does 1 (Clear 2) ∷ does 1 (Send 0 (message.CancelRequest 0)) ∷
          does 1 (Send 0 (message.CancelRequest 1)) ∷ times 2 (does 1 Turn) ++ does 1 (Clear 3) ∷
          does 1 (Send 0 (message.CancelTimer 0)) ∷ does 1 Turn ∷ passes 1 ∷
          says (action.Clock 1000000) Clock ∷ times 9 (does 0 Turn) ++ passes 0 ∷ does 0 Turn ∷
          does 0 (Orphan 0 None) ∷ does 0 (Orphan 1 None) ∷ times 2 (does 0 Turn) ++
          pays (action.Work 0) 2 (ByRequest 1) ∷ pays (action.Work 0) 3 (BySleeper 0) ∷ does 0 Turn ∷
          times 3 (does 0 Serve) ++ does 0 (Cancel 1) ∷ [];
    }

-- A ring with one place: a queued send is over by its deadline, a read is dropped in flight, and a sync follows a write.
abbrev pub a_ring_of_one : Example
a_ring_of_one =
    record {
      plan =
          record {
            config = record usual { ring = 1 };
            scripts = [];
            root =
                (word.Write 0 0 8) ∷ (word.Read 0 0 8) ∷ (word.Send 0 8) ∷ word.Await ∷ word.Drop ∷
                (word.Sync 0) ∷ word.Await ∷ word.End ∷ [];
          };
      steps =
          step.Work 0 39 ∷ step.One (action.Land 0 (Count 8)) ∷ step.One (action.Clock 10000000) ∷
          step.Work 0 37 ∷ step.One (action.Land 1 (Errno 125)) ∷ step.Work 0 12 ∷ [];
      told =
          times 5 (does 0 Turn) ++ does 0 (Begin 0) ∷ does 0 (Admit 0 kind.Write None) ∷
          does 0 (Admit 1 kind.Read None) ∷ does 0 (Admit 2 kind.Send None) ∷
          does 0 (Wait (Some 2)) ∷ does 0 (Pend 0) ∷ times 4 (does 0 Turn) ++
          times 3 (does 0 Serve) ++ does 0 (Enrol 2 None) ∷ does 0 (Stage 0) ∷ does 0 Enter ∷
          times 3 (does 0 Serve) ++ times 10 (does 0 Turn) ++ does 0 Enter ∷ times 2 (does 0 Turn) ++
          does 0 Enter ∷ does 0 (Sleep (Some 10000000)) ∷ says (action.Land 0 (Count 8)) Land ∷
          says (action.Clock 10000000) Clock ∷ times 11 (does 0 Turn) ++ does 0 Serve ∷
          does 0 (Reap 0 (Count 8) (Some Success)) ∷ does 0 Serve ∷
          does 0 (Expire 2 (Some (Failure error.Timeout))) ∷ does 0 (Stage 1) ∷ does 0 Serve ∷
          does 0 Enter ∷ times 2 (does 0 Serve) ++ times 2 (does 0 Turn) ++
          pays (action.Work 0) 0 (ByRequest 2) ∷ does 0 (Release 0) ∷ does 0 (Release 2) ∷
          times 9 (does 0 Turn) ++ does 0 (Begin 0) ∷ does 0 (Got 2 (Failure error.Timeout)) ∷
          does 0 (Drop 1) ∷ says (action.Land 1 (Errno 125)) Land ∷ does 0 (Admit 3 kind.Sync None) ∷
          does 0 Turn ∷ does 0 (Wait (Some 3)) ∷ does 0 (Pend 0) ∷ times 4 (does 0 Turn) ++
          does 0 Serve ∷ does 0 (Reap 1 (Errno 125) (Some (Failure error.ReadFailed))) ∷
          does 0 Serve ∷ does 0 (Grant 3 None) ∷ [];
    }
