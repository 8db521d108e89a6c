-- Whole logs that are good, with what their lines leave open. `tools/example` wrote them.
use Rattle.std.specs.Prelude.{true, false, [], ◌∷◌, ◌++◌, Some, None}
use Rattle.exec_base.specs.declared.error.Error.{Error as error}
use Rattle.exec_outcomes.specs.declared.outcome.{Kind.Kind as kind, OpResult.TheVariants.{Count, Errno}, Outcome.TheVariants.{Success, Failure}}
use Rattle.exec_machine.specs.{declared.{config.ScriptWord.ScriptWord as word, step.{Step.Step as step, Action.Action as action}, state.MailMessage.MailMessage as message, event.Event.TheVariants.{Turn, Serve, Begin, Pend, Done, Fault, Spawn, Dedicated, Closed, Admit, Wait, Got, Drop, Timer, GotTimer, Pass, Grant, Enrol, Stage, Enter, Busy, Reap, Expire, Cancel, Release, Fire, Apply, Rouse, Sleep, Close, Stop, End, Return, Land, Clock, Set, Stir}}, Choice.Payer.{ByRequest, BySleeper, ByAct, ByCall}, Examples.{Example, usual, says, does, refuses, passes, pays, posts, times}}

-- A ring with one place is busy once, and its wake poll ends; a caller wakes the root.
abbrev pub a_busy_ring : Example
a_busy_ring =
    record {
      plan =
          record {
            config = record usual { ring = 1 };
            scripts = [];
            root =
                (word.Poll 0) ∷ (word.Send 0 8) ∷ (word.Recv 0 8) ∷ word.Drop ∷ word.Await ∷ word.End ∷ [];
          };
      steps =
          step.Work 0 12 ∷ step.One (action.SetBusy 0) ∷ step.One (action.EndPoll 0) ∷
          step.Work 0 30 ∷ step.One (action.Wake 0 0) ∷ step.One (action.GoOn 0) ∷
          step.One (action.GoOn 0) ∷ step.One (action.GoOn 0) ∷ step.Work 0 34 ∷ [];
      told =
          times 5 (does 0 Turn) ++ does 0 (Begin 0) ∷ does 0 (Admit 0 kind.Poll None) ∷
          does 0 (Admit 1 kind.Send None) ∷ does 0 (Admit 2 kind.Recv None) ∷ does 0 (Drop 2) ∷
          does 0 (Wait (Some 1)) ∷ does 0 (Pend 0) ∷ says (action.SetBusy 0) Set ∷
          says (action.EndPoll 0) Set ∷ times 2 (does 0 Turn) ++ does 0 (Release 2) ∷
          times 3 (does 0 Turn) ++ times 3 (does 0 Serve) ++ does 0 (Enrol 0 None) ∷
          does 0 (Enrol 1 None) ∷ does 0 (Stage 0) ∷ does 0 Busy ∷ times 2 (does 0 Serve) ++
          times 10 (does 0 Turn) ++ does 0 Enter ∷ times 2 (does 0 Turn) ++ does 0 Enter ∷
          does 0 (Sleep (Some 10000000)) ∷ posts (action.Wake 0 0) 0 ByCall false ∷
          says (action.GoOn 0) Turn ∷ says (action.GoOn 0) (Rouse 0) ∷ says (action.GoOn 0) Return ∷
          times 11 (does 0 Turn) ++ times 4 (does 0 Serve) ++ does 0 Enter ∷
          times 2 (does 0 Serve) ++ times 2 (does 0 Turn) ++ does 0 (Apply message.Root) ∷
          times 10 (does 0 Turn) ++ does 0 (Begin 0) ∷ does 0 (Pend 0) ∷ does 0 Turn ∷ [];
    }

-- A deadline comes in flight.
abbrev pub a_deadline : Example
a_deadline =
    record {
      plan =
          record {
            config = usual;
            scripts = [];
            root = (word.Send 0 8) ∷ word.Await ∷ word.End ∷ [];
          };
      steps =
          step.Work 0 35 ∷ step.One (action.Clock 10000000) ∷ step.Work 0 32 ∷
          step.One (action.Land 0 (Errno 125)) ∷ step.Work 0 34 ∷ [];
      told =
          times 5 (does 0 Turn) ++ does 0 (Begin 0) ∷ does 0 (Admit 0 kind.Send None) ∷
          does 0 (Wait (Some 0)) ∷ does 0 (Pend 0) ∷ times 4 (does 0 Turn) ++
          times 3 (does 0 Serve) ++ does 0 (Enrol 0 None) ∷ does 0 (Stage 0) ∷
          times 3 (does 0 Serve) ++ times 12 (does 0 Turn) ++ does 0 Enter ∷
          does 0 (Sleep (Some 10000000)) ∷ says (action.Clock 10000000) Clock ∷
          times 11 (does 0 Turn) ++ times 3 (does 0 Serve) ++ does 0 (Expire 0 None) ∷
          does 0 (Cancel 0) ∷ times 3 (does 0 Serve) ++ times 12 (does 0 Turn) ++ does 0 Enter ∷
          says (action.Land 0 (Errno 125)) Land ∷ times 11 (does 0 Turn) ++ does 0 Serve ∷
          does 0 (Reap 0 (Errno 125) (Some (Failure error.Timeout))) ∷ times 4 (does 0 Serve) ++
          times 2 (does 0 Turn) ++ pays (action.Work 0) 0 (ByRequest 0) ∷ does 0 (Release 0) ∷
          times 9 (does 0 Turn) ++ does 0 (Begin 0) ∷ does 0 (Got 0 (Failure error.Timeout)) ∷
          does 0 (Done 0) ∷ does 0 Close ∷ [];
    }

-- Two deadlines pass before they are put on the wheel.
abbrev pub a_late_enrolment : Example
a_late_enrolment =
    record {
      plan =
          record {
            config = usual;
            scripts = [];
            root = (word.Send 0 8) ∷ (word.Send 0 8) ∷ word.Await ∷ word.End ∷ [];
          };
      steps =
          step.Work 0 10 ∷ step.One (action.Clock 10000000) ∷ step.Work 0 29 ∷ [];
      told =
          times 5 (does 0 Turn) ++ does 0 (Begin 0) ∷ does 0 (Admit 0 kind.Send None) ∷
          does 0 (Admit 1 kind.Send None) ∷ does 0 (Wait (Some 1)) ∷ does 0 (Pend 0) ∷
          says (action.Clock 10000000) Clock ∷ times 4 (does 0 Turn) ++ times 3 (does 0 Serve) ++
          does 0 (Enrol 0 (Some (Failure error.Timeout))) ∷
          does 0 (Enrol 1 (Some (Failure error.Timeout))) ∷ times 3 (does 0 Serve) ++
          times 2 (does 0 Turn) ++ pays (action.Work 0) 0 (ByRequest 1) ∷ does 0 (Release 0) ∷
          does 0 (Release 1) ∷ times 9 (does 0 Turn) ++ does 0 (Begin 0) ∷
          does 0 (Got 1 (Failure error.Timeout)) ∷ does 0 (Done 0) ∷ [];
    }

-- The clock comes as far as two deadlines, in the middle of a service and once more before the next one.
abbrev pub deadlines_in_order : Example
deadlines_in_order =
    record {
      plan =
          record {
            config = record usual { connect = 30000000 };
            scripts = [];
            root = (word.Recv 0 8) ∷ (word.Connect 0) ∷ (word.Sleep 1) ∷ word.Await ∷ word.End ∷ [];
          };
      steps =
          step.Work 0 37 ∷ step.One (action.Clock 30000000) ∷ step.Work 0 17 ∷ [];
      told =
          times 5 (does 0 Turn) ++ does 0 (Begin 0) ∷ does 0 (Admit 0 kind.Recv None) ∷
          does 0 (Admit 1 kind.Connect None) ∷ does 0 (Timer 0 1) ∷ does 0 (Pend 0) ∷
          times 4 (does 0 Turn) ++ times 3 (does 0 Serve) ++ does 0 (Enrol 0 None) ∷
          does 0 (Enrol 1 None) ∷ does 0 (Stage 0) ∷ does 0 (Stage 1) ∷ times 3 (does 0 Serve) ++
          times 12 (does 0 Turn) ++ does 0 Enter ∷ says (action.Clock 30000000) Clock ∷
          times 12 (does 0 Turn) ++ times 3 (does 0 Serve) ++ does 0 (Expire 0 None) ∷
          does 0 (Expire 1 None) ∷ [];
    }

-- Two deadlines are told by slot, since the wheel went all the way round.
abbrev pub the_wheel_goes_round : Example
the_wheel_goes_round =
    record {
      plan =
          record {
            config = record usual { connect = 30000000 };
            scripts = [];
            root = (word.Sleep 20000000) ∷ (word.Recv 0 8) ∷ (word.Connect 0) ∷ word.Await ∷ word.End ∷ [];
          };
      steps =
          step.Work 0 30 ∷ step.One (action.Clock 20000000) ∷ step.Work 0 64 ∷
          step.One (action.Clock 40000000) ∷ step.Work 0 34 ∷ [];
      told =
          times 5 (does 0 Turn) ++ does 0 (Begin 0) ∷ does 0 (Timer 0 20000000) ∷ does 0 (Pend 0) ∷
          times 4 (does 0 Turn) ++ times 6 (does 0 Serve) ++ times 11 (does 0 Turn) ++
          does 0 (Sleep (Some 20000000)) ∷ says (action.Clock 20000000) Clock ∷
          times 11 (does 0 Turn) ++ times 5 (does 0 Serve) ++ does 0 (Fire 0) ∷ does 0 Serve ∷
          times 2 (does 0 Turn) ++ pays (action.Work 0) 0 (BySleeper 0) ∷ times 9 (does 0 Turn) ++
          does 0 (Begin 0) ∷ does 0 (GotTimer 0) ∷ does 0 (Admit 0 kind.Recv None) ∷
          does 0 (Admit 1 kind.Connect None) ∷ does 0 (Wait (Some 1)) ∷ does 0 (Pend 0) ∷
          times 4 (does 0 Turn) ++ times 3 (does 0 Serve) ++ does 0 (Enrol 0 None) ∷
          does 0 (Enrol 1 None) ∷ does 0 (Stage 0) ∷ does 0 (Stage 1) ∷ times 3 (does 0 Serve) ++
          times 12 (does 0 Turn) ++ does 0 Enter ∷ does 0 (Sleep (Some 30000000)) ∷
          says (action.Clock 40000000) Clock ∷ times 11 (does 0 Turn) ++ times 3 (does 0 Serve) ++
          does 0 (Expire 1 None) ∷ does 0 (Expire 0 None) ∷ does 0 (Cancel 1) ∷ does 0 (Cancel 0) ∷
          times 3 (does 0 Serve) ++ times 12 (does 0 Turn) ++ does 0 Enter ∷ [];
    }

-- The clock moves in the middle of a service, which has sampled it before.
abbrev pub a_clock_in_a_service : Example
a_clock_in_a_service =
    record {
      plan =
          record {
            config = usual;
            scripts = [];
            root = (word.Send 0 8) ∷ word.Await ∷ (word.Sleep 5) ∷ word.End ∷ [];
          };
      steps =
          step.Work 0 35 ∷ step.One (action.Stir 0) ∷ step.Work 0 13 ∷
          step.One (action.Clock 10000000) ∷ step.Work 0 16 ∷ [];
      told =
          times 5 (does 0 Turn) ++ does 0 (Begin 0) ∷ does 0 (Admit 0 kind.Send None) ∷
          does 0 (Wait (Some 0)) ∷ does 0 (Pend 0) ∷ times 4 (does 0 Turn) ++
          times 3 (does 0 Serve) ++ does 0 (Enrol 0 None) ∷ does 0 (Stage 0) ∷
          times 3 (does 0 Serve) ++ times 12 (does 0 Turn) ++ does 0 Enter ∷
          does 0 (Sleep (Some 10000000)) ∷ says (action.Stir 0) Stir ∷ times 11 (does 0 Turn) ++
          times 2 (does 0 Serve) ++ says (action.Clock 10000000) Clock ∷ times 4 (does 0 Serve) ++
          times 7 (does 0 Turn) ++ times 3 (does 0 Serve) ++ does 0 (Expire 0 None) ∷
          does 0 (Cancel 0) ∷ [];
    }

-- A root sleeps from the moment that its worker has sampled, though the clock has moved on.
abbrev pub a_clock_between_samples : Example
a_clock_between_samples =
    record {
      plan =
          record {
            config = usual;
            scripts = [];
            root = (word.Sleep 5) ∷ word.End ∷ [];
          };
      steps =
          step.One (action.Clock 10) ∷ step.Work 0 35 ∷ [];
      told =
          says (action.Clock 10) Clock ∷ times 5 (does 0 Turn) ++ does 0 (Begin 0) ∷
          does 0 (Timer 0 5) ∷ does 0 (Pend 0) ∷ times 4 (does 0 Turn) ++ times 5 (does 0 Serve) ++
          does 0 (Fire 0) ∷ does 0 Serve ∷ times 2 (does 0 Turn) ++
          pays (action.Work 0) 0 (BySleeper 0) ∷ times 9 (does 0 Turn) ++ does 0 (Begin 0) ∷
          does 0 (GotTimer 0) ∷ does 0 (Done 0) ∷ does 0 Close ∷ [];
    }

-- A deadline comes in flight, and the cancelled operation lands before the kernel is told: nobody needs to be
-- told.
abbrev pub a_cancel_in_time : Example
a_cancel_in_time =
    record {
      plan =
          record {
            config = usual;
            scripts = [];
            root = (word.Send 0 10) ∷ word.Await ∷ word.Await ∷ word.End ∷ [];
          };
      steps =
          step.Work 0 35 ∷ step.One (action.Clock 10000000) ∷ step.Work 0 16 ∷
          step.One (action.Land 0 (Errno 125)) ∷ step.Work 0 42 ∷ [];
      told =
          times 5 (does 0 Turn) ++ does 0 (Begin 0) ∷ does 0 (Admit 0 kind.Send None) ∷
          does 0 (Wait (Some 0)) ∷ does 0 (Pend 0) ∷ times 4 (does 0 Turn) ++
          times 3 (does 0 Serve) ++ does 0 (Enrol 0 None) ∷ does 0 (Stage 0) ∷
          times 3 (does 0 Serve) ++ times 12 (does 0 Turn) ++ does 0 Enter ∷
          does 0 (Sleep (Some 10000000)) ∷ says (action.Clock 10000000) Clock ∷
          times 11 (does 0 Turn) ++ times 3 (does 0 Serve) ++ does 0 (Expire 0 None) ∷
          does 0 (Cancel 0) ∷ says (action.Land 0 (Errno 125)) Land ∷ does 0 Serve ∷
          does 0 (Reap 0 (Errno 125) (Some (Failure error.Timeout))) ∷ does 0 Serve ∷
          times 2 (does 0 Turn) ++ pays (action.Work 0) 0 (ByRequest 0) ∷ does 0 (Release 0) ∷
          times 9 (does 0 Turn) ++ does 0 (Begin 0) ∷ does 0 (Got 0 (Failure error.Timeout)) ∷
          does 0 (Wait None) ∷ does 0 (Pend 0) ∷ times 4 (does 0 Turn) ++ times 6 (does 0 Serve) ++
          times 11 (does 0 Turn) ++ does 0 (Sleep None) ∷ [];
    }

-- Requests of an open that need several operations: a refused hint, a direct read that goes on as a buffered
-- one, a trailing sync; and a sync of what is clean.
abbrev pub parts : Example
parts =
    record {
      plan =
          record {
            config = usual;
            scripts = [];
            root =
                (word.Hint 0 0 8) ∷ (word.Direct 0 5 8) ∷ (word.Many 0 0 8) ∷ (word.Sync 0) ∷
                word.Await ∷ word.Await ∷ word.Await ∷ word.Await ∷ word.End ∷ [];
          };
      steps =
          step.Work 0 41 ∷ step.One (action.Land 0 (Errno 95)) ∷ step.One (action.Land 1 (Count 3)) ∷
          step.One (action.Land 2 (Count 8)) ∷ step.Work 0 39 ∷ step.One (action.Land 0 (Count 8)) ∷
          step.One (action.Land 1 (Count 8)) ∷ step.One (action.Land 2 (Count 0)) ∷ step.Work 0 45 ∷ [];
      told =
          times 5 (does 0 Turn) ++ does 0 (Begin 0) ∷ does 0 (Admit 0 kind.Hint None) ∷
          does 0 (Admit 1 kind.Direct None) ∷ does 0 (Admit 2 kind.Many None) ∷ does 0 Turn ∷
          does 0 (Admit 3 kind.Sync None) ∷ does 0 Turn ∷ does 0 (Wait (Some 3)) ∷ does 0 (Pend 0) ∷
          times 4 (does 0 Turn) ++ times 3 (does 0 Serve) ++ does 0 (Grant 2 None) ∷
          does 0 (Stage 0) ∷ does 0 (Stage 1) ∷ does 0 (Stage 2) ∷ times 3 (does 0 Serve) ++
          times 12 (does 0 Turn) ++ does 0 Enter ∷ says (action.Land 0 (Errno 95)) Land ∷
          says (action.Land 1 (Count 3)) Land ∷ says (action.Land 2 (Count 8)) Land ∷
          times 12 (does 0 Turn) ++ does 0 Serve ∷ does 0 (Reap 0 (Errno 95) None) ∷
          does 0 (Reap 1 (Count 3) None) ∷ does 0 (Reap 2 (Count 8) None) ∷ times 2 (does 0 Serve) ++
          does 0 (Stage 0) ∷ does 0 (Stage 1) ∷ does 0 (Stage 2) ∷ times 3 (does 0 Serve) ++
          times 12 (does 0 Turn) ++ does 0 Enter ∷ does 0 (Sleep None) ∷ refuses (action.Work 0) ∷
          says (action.Land 0 (Count 8)) Land ∷ says (action.Land 1 (Count 8)) Land ∷
          says (action.Land 2 (Count 0)) Land ∷ times 11 (does 0 Turn) ++ does 0 Serve ∷
          does 0 (Reap 0 (Count 8) (Some Success)) ∷ does 0 (Reap 1 (Count 8) (Some Success)) ∷
          does 0 (Reap 2 (Count 0) (Some Success)) ∷ times 3 (does 0 Serve) ++
          does 0 (Grant 3 (Some Success)) ∷ times 4 (does 0 Serve) ++ times 2 (does 0 Turn) ++
          pays (action.Work 0) 0 (ByRequest 3) ∷ does 0 (Release 0) ∷ does 0 (Release 1) ∷
          does 0 (Release 2) ∷ does 0 (Release 3) ∷ times 9 (does 0 Turn) ++ does 0 (Begin 0) ∷
          does 0 (Got 3 Success) ∷ does 0 (Got 2 Success) ∷ does 0 (Got 1 Success) ∷
          does 0 (Got 0 Success) ∷ does 0 (Done 0) ∷ [];
    }

-- Three tasks sleep; the moments of two come at once.
abbrev pub sleepers : Example
sleepers =
    record {
      plan =
          record {
            config = usual;
            scripts =
                ((word.Sleep 2000000) ∷ word.End ∷ []) ∷
                ((word.Sleep 1000000) ∷ word.Await ∷ word.End ∷ []) ∷
                [];
            root = (word.Sleep 3000000) ∷ word.End ∷ [];
          };
      steps =
          step.One (action.Spawn 0 0) ∷ step.One (action.GoOn 0) ∷ step.One (action.GoOn 0) ∷
          step.One (action.GoOn 0) ∷ step.One (action.Spawn 0 1) ∷ step.One (action.GoOn 0) ∷
          step.One (action.GoOn 0) ∷ step.One (action.GoOn 0) ∷ step.Work 0 43 ∷
          step.One (action.Clock 2000000) ∷ step.Work 0 44 ∷ [];
      told =
          says (action.Spawn 0 0) (Spawn 1 0) ∷ times 2 (says (action.GoOn 0) Turn) ++
          says (action.GoOn 0) Return ∷ says (action.Spawn 0 1) (Spawn 2 1) ∷
          times 2 (says (action.GoOn 0) Turn) ++ says (action.GoOn 0) Return ∷
          times 6 (does 0 Turn) ++ does 0 (Begin 1) ∷ does 0 (Timer 0 2000000) ∷ does 0 (Pend 1) ∷
          times 2 (does 0 Turn) ++ does 0 (Begin 2) ∷ does 0 (Timer 1 1000000) ∷ does 0 (Pend 2) ∷
          times 4 (does 0 Turn) ++ does 0 (Begin 0) ∷ does 0 (Timer 2 3000000) ∷ does 0 (Pend 0) ∷
          times 4 (does 0 Turn) ++ times 6 (does 0 Serve) ++ times 11 (does 0 Turn) ++
          does 0 (Sleep (Some 1000000)) ∷ says (action.Clock 2000000) Clock ∷
          times 11 (does 0 Turn) ++ times 5 (does 0 Serve) ++ does 0 (Fire 1) ∷ does 0 (Fire 0) ∷
          does 0 Serve ∷ times 2 (does 0 Turn) ++ pays (action.Work 0) 2 (BySleeper 1) ∷
          times 2 (does 0 Turn) ++ pays (action.Work 0) 1 (BySleeper 0) ∷ times 9 (does 0 Turn) ++
          does 0 (Begin 2) ∷ does 0 (GotTimer 1) ∷ does 0 (Wait None) ∷ does 0 (Pend 2) ∷
          times 2 (does 0 Turn) ++ does 0 (Begin 1) ∷ does 0 (GotTimer 0) ∷ does 0 (Done 1) ∷
          does 0 Turn ∷ [];
    }

-- A root wakes another twice, of which one message is left out, then itself, and ends with a fault.
abbrev pub wakes_of_roots : Example
wakes_of_roots =
    record {
      plan =
          record {
            config = record usual { workers = 2 };
            scripts = [];
            root = (word.Wake 1) ∷ (word.Wake 1) ∷ (word.Sleep 0) ∷ word.Yield ∷ (word.Fault 7) ∷ [];
          };
      steps =
          step.Work 1 8 ∷ step.Work 0 35 ∷ step.Work 1 27 ∷ [];
      told =
          times 5 (does 1 Turn) ++ does 1 (Begin 1) ∷ does 1 (Wait None) ∷ does 1 (Pend 1) ∷
          times 5 (does 0 Turn) ++ does 0 (Begin 0) ∷ posts (action.Work 0) 1 ByAct false ∷
          posts (action.Work 0) 1 ByAct true ∷ does 0 Pass ∷ pays (action.Work 0) 0 ByAct ∷
          does 0 (Pend 0) ∷ times 4 (does 0 Turn) ++ times 6 (does 0 Serve) ++
          times 11 (does 0 Turn) ++ does 0 (Begin 0) ∷ does 0 (Fault 0 7) ∷ does 0 Close ∷
          times 4 (does 1 Turn) ++ times 6 (does 1 Serve) ++ times 2 (does 1 Turn) ++
          does 1 (Apply message.Root) ∷ times 10 (does 1 Turn) ++ does 1 (Begin 1) ∷ does 1 Pass ∷
          does 1 (Wait None) ∷ does 1 (Pend 1) ∷ [];
    }

-- Worker zero has closed the task set: neither a task of another worker nor a caller can spawn.
abbrev pub closed : Example
closed =
    record {
      plan =
          record {
            config = record usual { workers = 2 };
            scripts = (word.Yield ∷ word.Yield ∷ (word.Spawn 0) ∷ word.Await ∷ word.End ∷ []) ∷ [];
            root = word.End ∷ [];
          };
      steps =
          step.One (action.Spawn 0 0) ∷ step.One (action.GoOn 0) ∷ step.One (action.GoOn 0) ∷
          step.One (action.GoOn 0) ∷ step.Work 1 9 ∷ step.Work 0 9 ∷ step.Work 1 17 ∷
          step.One (action.Spawn 1 0) ∷ step.One (action.GoOn 1) ∷ [];
      told =
          says (action.Spawn 0 0) (Spawn 2 0) ∷ times 2 (says (action.GoOn 0) Turn) ++
          says (action.GoOn 0) Return ∷ times 6 (does 1 Turn) ++ does 1 (Begin 2) ∷
          pays (action.Work 1) 2 ByAct ∷ does 1 (Pend 2) ∷ times 5 (does 0 Turn) ++
          does 0 (Begin 0) ∷ does 0 (Done 0) ∷ does 0 Close ∷ does 0 Turn ∷ times 5 (does 1 Turn) ++
          does 1 (Begin 2) ∷ pays (action.Work 1) 2 ByAct ∷ does 1 (Pend 2) ∷
          times 5 (does 1 Turn) ++ does 1 (Begin 2) ∷ does 1 Closed ∷ does 1 (Wait None) ∷
          does 1 (Pend 2) ∷ says (action.Spawn 1 0) Closed ∷ says (action.GoOn 1) Return ∷ [];
    }

-- A task of the set and one with a worker of its own, whose root nobody wakes any more once its mailbox is closed.
abbrev pub two_kinds : Example
two_kinds =
    record {
      plan =
          record {
            config = record usual { workers = 2 };
            scripts = (word.End ∷ []) ∷ (word.Await ∷ []) ∷ [];
            root = (word.Spawn 0) ∷ (word.Dedicated 0) ∷ word.Await ∷ (word.Wake 3) ∷ word.End ∷ [];
          };
      steps =
          step.Work 0 13 ∷ step.Work 2 16 ∷ step.One (action.Wake 0 3) ∷ step.One (action.GoOn 0) ∷
          step.One (action.Wake 0 0) ∷ step.Work 0 32 ∷ [];
      told =
          times 5 (does 0 Turn) ++ does 0 (Begin 0) ∷ does 0 (Spawn 2 0) ∷ times 3 (does 0 Turn) ++
          does 0 (Dedicated 3 2) ∷ does 0 (Wait None) ∷ does 0 (Pend 0) ∷ times 2 (does 2 Turn) ++
          does 2 (Begin 3) ∷ does 2 (Done 3) ∷ does 2 Close ∷ times 2 (does 2 Turn) ++
          times 6 (does 2 Serve) ++ does 2 Turn ∷ does 2 End ∷ refuses (action.Work 2) ∷
          says (action.Wake 0 3) Closed ∷ says (action.GoOn 0) Return ∷
          posts (action.Wake 0 0) 0 ByCall false ∷ times 4 (does 0 Turn) ++ times 6 (does 0 Serve) ++
          times 2 (does 0 Turn) ++ does 0 (Apply message.Root) ∷ times 9 (does 0 Turn) ++
          does 0 (Begin 2) ∷ does 0 (Done 2) ∷ times 5 (does 0 Turn) ++ does 0 (Begin 0) ∷
          does 0 Pass ∷ does 0 Closed ∷ [];
    }

-- A root ends with two requests, which are over with it.
abbrev pub what_a_task_held : Example
what_a_task_held =
    record {
      plan =
          record {
            config = usual;
            scripts = [];
            root = (word.Send 0 8) ∷ (word.Send 0 8) ∷ word.End ∷ [];
          };
      steps =
          step.Work 0 34 ∷ [];
      told =
          times 5 (does 0 Turn) ++ does 0 (Begin 0) ∷ does 0 (Admit 0 kind.Send None) ∷
          does 0 (Admit 1 kind.Send None) ∷ does 0 (Done 0) ∷ does 0 Close ∷ times 2 (does 0 Turn) ++
          does 0 Stop ∷ times 7 (does 0 Turn) ++ passes 0 ∷ times 2 (does 0 Turn) ++
          does 0 (Release 0) ∷ does 0 (Release 1) ∷ times 6 (does 0 Serve) ++ does 0 Turn ∷
          does 0 End ∷ refuses (action.Work 0) ∷ [];
    }
