-- Whole logs of several workers and callers, with what their lines leave open. `tools/example` wrote them.
use Rattle.std.specs.Prelude.{false, [], ◌∷◌, ◌++◌, None}
use Rattle.exec_machine.specs.{declared.{config.ScriptWord.ScriptWord as word, step.{Step.Step as step, Action.Action as action}, state.MailMessage.MailMessage as message, event.Event.TheVariants.{Turn, Serve, Begin, Pend, Done, Spawn, Clear, Wait, Pass, Apply, Rouse, Sleep, Close, Stop, End, Return}}, Choice.Payer.{ByAct, ByCall, ByStop}, Examples.{Example, usual, says, does, refuses, passes, pays, posts, times}}

-- A caller spawns a task while a worker is about to wait: the worker has published itself, and is claimed and signalled
-- before its look.
abbrev pub a_spawn_beside_the_look : Example
a_spawn_beside_the_look =
    record {
      plan =
          record {
            config = record usual { workers = 2; files = 0; sockets = 0 };
            scripts = (word.End ∷ []) ∷ [];
            root = word.Await ∷ word.End ∷ [];
          };
      steps =
          step.Work 1 31 ∷ step.One (action.Spawn 0 0) ∷ step.One (action.GoOn 0) ∷
          step.One (action.GoOn 0) ∷ step.One (action.GoOn 0) ∷ step.One (action.GoOn 0) ∷
          step.One (action.GoOn 0) ∷ step.One (action.GoOn 0) ∷ step.Work 1 14 ∷ [];
      told =
          times 5 (does 1 Turn) ++ does 1 (Begin 1) ∷ does 1 (Wait None) ∷ does 1 (Pend 1) ∷
          times 4 (does 1 Turn) ++ times 6 (does 1 Serve) ++ times 13 (does 1 Turn) ++
          says (action.Spawn 0 0) (Spawn 2 0) ∷ times 5 (says (action.GoOn 0) Turn) ++
          says (action.GoOn 0) Return ∷ times 12 (does 1 Turn) ++ does 1 (Begin 2) ∷
          does 1 (Done 2) ∷ [];
    }

-- The same, once the worker sleeps: it is roused.
abbrev pub a_worker_is_roused : Example
a_worker_is_roused =
    record {
      plan =
          record {
            config = record usual { workers = 2; files = 0; sockets = 0 };
            scripts = (word.End ∷ []) ∷ [];
            root = word.Await ∷ word.End ∷ [];
          };
      steps =
          step.Work 1 40 ∷ step.One (action.Spawn 0 0) ∷ step.One (action.GoOn 0) ∷
          step.One (action.GoOn 0) ∷ step.One (action.GoOn 0) ∷ step.One (action.GoOn 0) ∷
          step.One (action.GoOn 0) ∷ step.One (action.GoOn 0) ∷ step.Work 1 13 ∷ [];
      told =
          times 5 (does 1 Turn) ++ does 1 (Begin 1) ∷ does 1 (Wait None) ∷ does 1 (Pend 1) ∷
          times 4 (does 1 Turn) ++ times 6 (does 1 Serve) ++ times 19 (does 1 Turn) ++
          does 1 (Sleep None) ∷ refuses (action.Work 1) ∷ says (action.Spawn 0 0) (Spawn 2 0) ∷
          times 5 (says (action.GoOn 0) Turn) ++ says (action.GoOn 0) (Rouse 1) ∷
          times 11 (does 1 Turn) ++ does 1 (Begin 2) ∷ does 1 (Done 2) ∷ [];
    }

-- A worker with two runnables in its queue polls a task. Another has nothing to do, searches, and steals one of the two.
abbrev pub a_steal : Example
a_steal =
    record {
      plan =
          record {
            config = record usual { workers = 2; files = 0; sockets = 0 };
            scripts = (word.End ∷ []) ∷ [];
            root = word.Await ∷ word.End ∷ [];
          };
      steps =
          step.One (action.Spawn 0 0) ∷ step.One (action.GoOn 0) ∷ step.One (action.GoOn 0) ∷
          step.One (action.GoOn 0) ∷ step.One (action.Spawn 0 0) ∷ step.One (action.GoOn 0) ∷
          step.One (action.GoOn 0) ∷ step.One (action.GoOn 0) ∷ step.One (action.Spawn 0 0) ∷
          step.One (action.GoOn 0) ∷ step.One (action.GoOn 0) ∷ step.One (action.GoOn 0) ∷
          step.One (action.Spawn 0 0) ∷ step.One (action.GoOn 0) ∷ step.One (action.GoOn 0) ∷
          step.One (action.GoOn 0) ∷ step.Work 0 7 ∷ step.Work 1 52 ∷ step.Work 0 6 ∷ [];
      told =
          says (action.Spawn 0 0) (Spawn 2 0) ∷ times 2 (says (action.GoOn 0) Turn) ++
          says (action.GoOn 0) Return ∷ says (action.Spawn 0 0) (Spawn 3 0) ∷
          times 2 (says (action.GoOn 0) Turn) ++ says (action.GoOn 0) Return ∷
          says (action.Spawn 0 0) (Spawn 4 0) ∷ times 2 (says (action.GoOn 0) Turn) ++
          says (action.GoOn 0) Return ∷ says (action.Spawn 0 0) (Spawn 5 0) ∷
          times 2 (says (action.GoOn 0) Turn) ++ says (action.GoOn 0) Return ∷
          times 6 (does 0 Turn) ++ does 0 (Begin 2) ∷ times 6 (does 1 Turn) ++ does 1 (Begin 5) ∷
          does 1 (Done 5) ∷ times 5 (does 1 Turn) ++ does 1 (Begin 1) ∷ does 1 (Wait None) ∷
          does 1 (Pend 1) ∷ times 4 (does 1 Turn) ++ times 6 (does 1 Serve) ++
          times 23 (does 1 Turn) ++ does 1 (Begin 3) ∷ does 1 (Done 3) ∷ does 1 Turn ∷
          does 0 (Done 2) ∷ times 4 (does 0 Turn) ++ does 0 (Begin 4) ∷ [];
    }

-- A caller wakes a task in its poll, which is queued again by that, once.
abbrev pub a_wake_in_a_poll : Example
a_wake_in_a_poll =
    record {
      plan =
          record {
            config = record usual { workers = 2; files = 0; sockets = 0 };
            scripts = (word.Await ∷ word.End ∷ []) ∷ [];
            root = word.Await ∷ word.End ∷ [];
          };
      steps =
          step.One (action.Spawn 0 0) ∷ step.One (action.GoOn 0) ∷ step.One (action.GoOn 0) ∷
          step.One (action.GoOn 0) ∷ step.Work 0 8 ∷ step.One (action.Wake 0 2) ∷
          step.One (action.GoOn 0) ∷ step.Work 0 17 ∷ [];
      told =
          says (action.Spawn 0 0) (Spawn 2 0) ∷ times 2 (says (action.GoOn 0) Turn) ++
          says (action.GoOn 0) Return ∷ times 6 (does 0 Turn) ++ does 0 (Begin 2) ∷
          does 0 (Wait None) ∷ pays (action.Wake 0 2) 2 ByCall ∷ says (action.GoOn 0) Return ∷
          does 0 (Pend 2) ∷ times 5 (does 0 Turn) ++ does 0 (Begin 2) ∷ does 0 Pass ∷
          does 0 (Done 2) ∷ times 5 (does 0 Turn) ++ does 0 (Begin 0) ∷ does 0 (Wait None) ∷
          does 0 (Pend 0) ∷ [];
    }

-- Two workers close: worker zero stops the pool, tells the other root, clears a task, and is held at the barrier.
abbrev pub two_close : Example
two_close =
    record {
      plan =
          record {
            config = record usual { workers = 2; files = 0; sockets = 0 };
            scripts = (word.Await ∷ word.End ∷ []) ∷ [];
            root = word.End ∷ [];
          };
      steps =
          step.Work 1 8 ∷ step.One (action.Spawn 0 0) ∷ step.One (action.GoOn 0) ∷
          step.One (action.GoOn 0) ∷ step.One (action.GoOn 0) ∷ step.Work 0 37 ∷ step.Work 1 47 ∷
          step.Work 0 12 ∷ step.Work 1 11 ∷ [];
      told =
          times 5 (does 1 Turn) ++ does 1 (Begin 1) ∷ does 1 (Wait None) ∷ does 1 (Pend 1) ∷
          says (action.Spawn 0 0) (Spawn 2 0) ∷ times 2 (says (action.GoOn 0) Turn) ++
          says (action.GoOn 0) Return ∷ times 6 (does 0 Turn) ++ does 0 (Begin 2) ∷
          does 0 (Wait None) ∷ does 0 (Pend 2) ∷ times 4 (does 0 Turn) ++ does 0 (Begin 0) ∷
          does 0 (Done 0) ∷ does 0 Close ∷ times 2 (does 0 Turn) ++ does 0 Stop ∷
          posts (action.Work 0) 1 ByStop false ∷ times 4 (does 0 Turn) ++ does 0 (Clear 2) ∷
          times 6 (does 0 Turn) ++ passes 0 ∷ refuses (action.Work 0) ∷ times 4 (does 1 Turn) ++
          times 6 (does 1 Serve) ++ times 2 (does 1 Turn) ++ does 1 (Apply message.Root) ∷
          times 10 (does 1 Turn) ++ does 1 (Begin 1) ∷ does 1 Pass ∷ does 1 (Done 1) ∷ does 1 Close ∷
          times 9 (does 1 Turn) ++ passes 1 ∷ times 2 (does 1 Turn) ++ times 6 (does 1 Serve) ++
          does 1 Turn ∷ does 1 End ∷ times 2 (does 0 Turn) ++ times 6 (does 0 Serve) ++ does 0 Turn ∷
          does 0 End ∷ refuses (action.Work 0) ∷ refuses (action.Work 1) ∷ [];
    }

-- A worker that looks reserves a search count, and is claimed besides before it has withdrawn: it returns the second count.
abbrev pub a_claim_beside_the_last_look : Example
a_claim_beside_the_last_look =
    record {
      plan =
          record {
            config = record usual { workers = 2; files = 0; sockets = 0 };
            scripts = (word.Await ∷ word.End ∷ []) ∷ ((word.Wake 2) ∷ (word.Wake 3) ∷ word.End ∷ []) ∷ [];
            root = word.Await ∷ word.End ∷ [];
          };
      steps =
          step.One (action.Spawn 0 0) ∷ step.One (action.GoOn 0) ∷ step.One (action.GoOn 0) ∷
          step.One (action.GoOn 0) ∷ step.One (action.Spawn 0 0) ∷ step.One (action.GoOn 0) ∷
          step.One (action.GoOn 0) ∷ step.One (action.GoOn 0) ∷ step.Work 0 15 ∷
          step.One (action.Spawn 0 1) ∷ step.One (action.GoOn 0) ∷ step.One (action.GoOn 0) ∷
          step.One (action.GoOn 0) ∷ step.Work 0 6 ∷ step.Work 1 31 ∷ step.Work 0 7 ∷ step.Work 1 6 ∷
          step.One (action.Spawn 1 0) ∷ step.One (action.GoOn 1) ∷ step.One (action.GoOn 1) ∷
          step.One (action.GoOn 1) ∷ step.One (action.GoOn 1) ∷ step.One (action.GoOn 1) ∷
          step.One (action.GoOn 1) ∷ step.Work 1 17 ∷ [];
      told =
          says (action.Spawn 0 0) (Spawn 2 0) ∷ times 2 (says (action.GoOn 0) Turn) ++
          says (action.GoOn 0) Return ∷ says (action.Spawn 0 0) (Spawn 3 0) ∷
          times 2 (says (action.GoOn 0) Turn) ++ says (action.GoOn 0) Return ∷
          times 6 (does 0 Turn) ++ does 0 (Begin 2) ∷ does 0 (Wait None) ∷ does 0 (Pend 2) ∷
          times 3 (does 0 Turn) ++ does 0 (Begin 3) ∷ does 0 (Wait None) ∷ does 0 (Pend 3) ∷
          says (action.Spawn 0 1) (Spawn 4 1) ∷ times 2 (says (action.GoOn 0) Turn) ++
          says (action.GoOn 0) Return ∷ times 5 (does 0 Turn) ++ does 0 (Begin 4) ∷
          times 5 (does 1 Turn) ++ does 1 (Begin 1) ∷ does 1 (Wait None) ∷ does 1 (Pend 1) ∷
          times 4 (does 1 Turn) ++ times 6 (does 1 Serve) ++ times 13 (does 1 Turn) ++
          pays (action.Work 0) 2 ByAct ∷ times 2 (does 0 Turn) ++ pays (action.Work 0) 3 ByAct ∷
          times 3 (does 0 Turn) ++ times 6 (does 1 Turn) ++ says (action.Spawn 1 0) (Spawn 5 0) ∷
          times 5 (says (action.GoOn 1) Turn) ++ says (action.GoOn 1) Return ∷
          times 16 (does 1 Turn) ++ does 1 (Begin 2) ∷ [];
    }
