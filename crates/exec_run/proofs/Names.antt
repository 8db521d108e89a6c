-- The names of other crates that proofs cite, passed on from one place. Declares nothing.
pub use Rattle.std.{proofs.lemmas.{Bool.{and_from, and_parts, cases_Bool, cases_lt, eqb-true, false≢true, le-leb, leb-false, leb-true, lt-ltb, ltb-true, not-true, true≢false}, Grind.{common_steps, flat_map-append, replicate_next}, List.{Elements.filter-append, Splits.length-slice_split, Sums.{count_by-le-length, length-filter, sum_by-append, sum_by-cons}, drop-drop, get_or-drop, get_or-set_same, get_or_past, length-map, length-replicate, length-take, set_past, take-append-drop, take_all, take_more}, Option.none-some, Result.err_from_is_err_and, Slice.Eq.bytes_eq-Decides}, specs.{List.{list_all, slice_split}, Prelude.{Vec, if◌then◌else◌, is_some, nat_lt}, Str.{Lines.{lines, lines_of_parts}, bytes_eq}, declared.alloc.Global.Global}}
pub use Rattle.exec_base.{proofs.Ends.given_more, specs.{Io.Rose, declared.limits.TheConstants.{LONGEST_TIMEOUT, MOST_STEPS}}}
pub use Rattle.exec_books.specs.Examples.{its_own, its_request, its_seat, one_asleep, sending, with_own}
pub use Rattle.exec_bufs.specs.Buffers.{resized}
pub use Rattle.exec_core.{proofs.InTurn.orderly, specs.{Lift.{Applies, Carries, IsPlanOf, IsReady, IsRootOf, Shows}, Steady.{IsPacedThere, IsSteady, IsSteadyThere, KeepsOn}, Turns.IsOrderly, declared.executor.Core.Core}}
pub use Rattle.exec_credit.{proofs.CallFalls.{at_most, falls, spawns, wakes}, specs.CallCredit.call_credit}
pub use Rattle.exec_machine.specs.{Callers.is_enabled, Choice.Choice, Deadlines.{next_due, rest_until}, Examples.{Told, choices_of, lines_of}, Progress.{Party, Party.{Caller, Nobody, Worker}, Plan, RightlyAsleepBy, Stretch, begin, is_anyone_closing, is_quiet_step, is_solo, longer, no_stretch, one_more, party_of, quiet_bound, same_party}, Requests.{of_file, of_socket, operation_asked}, Run.{Follows, RunsBy, after_line, after_one, after_step, after_steps, after_work, same_action}, Tests.{is_empty, is_open, is_resolved}, Text.{is_quiet, text_of_log, told_lines}, World.{World, own_of, seat_of}, declared.{config.{Configuration.Configuration, ScriptWord.ScriptWord}, event.{Event.Event, Line.Line, StepResult.{StepResult, TheVariants.{Did, Refused}}}, state.{Code.{Code, TheVariants.{Root, Waits}}, Operation.Operation, RequestPhase.TheVariants.Resolved}, step.{Action.Action, Step.{Step, TheVariants.{One, Work}}}}}
pub use Rattle.exec_moves.specs.{Call.Called, Departures.played, Move.move, MoveOfCaller.move_of_caller, Plays.{GoesByMoves, Playing, by_action, by_call, by_move, by_step, caller_of, desk_of, first_playing}, State.{Moved, Things}}
pub use Rattle.exec_outcomes.specs.{Accounts.is_durable, Lawful.aligned, Outcomes.Asked, declared.outcome.{Kind.Kind, Outcome.TheVariants.Success}}
pub use Rattle.exec_parts.specs.{Scripts.{IsBorn, IsNamed}, Spots.Spot}
pub use Rattle.exec_progress.{proofs.{Lengths.bound_keeps, Stood.still_open}, specs.{Left.left_to, Paced.IsPaced}}
pub use Rattle.exec_request.specs.{Hints.asks_hint, Syncing.{is_syncing, write_kind}, Views.IsDirectRead, Ways.size_for, declared.{buffers.WriteBuffers.TheVariants.Single, cache.Cache.{Cache, TheVariants.{Disabled, Enabled}}, read_at.ReadAtRequest.ReadAtRequest, recv.RecvRequest.RecvRequest, request.Request.Request, send.SendRequest.SendRequest, way.Way.Way, write_at.{WriteAtRequest.WriteAtRequest, WriteAtState.{TheVariants.{Writing, WritingBeforeSync, WritingSync}, WriteAtState}}}}
pub use Rattle.exec_rest.specs.AtRest.{RestsWell}
pub use Rattle.exec_settled.{proofs.Resting.has_let_go, specs.{Parked.{NobodySleepsOnWork, NoneIsForgotten}, Settled.HaveLetGo}}
pub use Rattle.exec_shutdown.specs.Shutdown.{ShutsDown}
pub use Rattle.exec_task.specs.{Sight.{Sight, WouldGrow, open_at}, declared.body.{Act.{Act, TheVariants.Register}, Said.Said}}
pub use Rattle.exec_text.{proofs.{Begins.lines_count, Faults.no_fault, Meanings.meaning_is_one}, specs.{Grammar.{IsFirstFault, IsTraceOf, Meaning, MeaningFits, StepFits, StepNames, WordFits, WordNames, count_of, meaning_of, says_something}, declared.trace.Trace.Trace}}
