-- The names of other crates that definitions and proofs cite, passed on from one place. Declares nothing.
pub use Rattle.exec_base.specs.{Slab.{is_live, value_at, value_in}, declared.{limits.TheConstants.{LAST_MOMENT, LONGEST_TIMEOUT}, one_shot.OneShotState.OneShotState, slab.Slot.{Slot, TheVariants.Vacant}}}
pub use Rattle.exec_books.specs.Booked.{IsBooked, IsOwnMessage}
pub use Rattle.exec_invariants.specs.{Acting.{PerformsAll, StepsWith}, Drained.{HaveLeft, IsBefore, in_set}, Gates.{AreLinedUp, IsLinedUp, JoinsGate, PassesPermit, key_for, line_at}, Holding.{AwaitsNap, AwaitsThing, IsHeldBy, Mail, MayHave, awaited_in, box_of, holder_of, holdings, nap_of, thing_of, under_way}, Places.{Drops, begins_at, drops_at, hands_on_at, has_loot_at, is_number, is_pooled_at, joins_at, one_if, passes_at as passes_there, polled_in}, Sound.{Aims, AreHome, HasBatch, HasQueue, IsConfig, IsInHand, IsLoot, IsMyMail, IsRunnable, Sound, one_of, root_in_hand}, Spares.SparesBy, Whole.{IsWhole, Profile, hands_of}, Works.{Beside, BesideWith, Same, Suits, WorksWith, with_born}}
pub use Rattle.exec_machine.specs.{After.{common_after, made_by, own_after}, Callers.{after_landing, is_enabled}, Choice.Choice, Examples.{refuses, usual}, Progress.{IsRightlyAsleep, Plan, all_asleep, is_quiet_step, is_runnable, quiet_bound}, Ranges.{doubled_up_to, ticks_needed}, Requests.{asked_of, cursor_of}, Run.{Follows, after_event, after_line}, Tests.{has_ended, is_awake, is_closing, is_done, is_flying, is_gated, is_kept, is_open, is_resolved}, World.{Common, Open, Own, Seat, Task, World, no_open, no_operation, no_own, no_request, no_seat, no_task, open_of, own_of as own_at, request_of, seat_of, sleeper_of, task_of}, declared.{config.{Configuration.Configuration, ScriptWord.ScriptWord}, event.{Event.Event, Line.Line, StepResult.TheVariants.{Did, Refused}}, state.{Code.{Code, TheVariants.{Root, Waits}}, MailMessage.MailMessage, Request.Request, RequestPhase.RequestPhase, Sleeper.Sleeper, TaskPhase.TaskPhase, Waiting.{TheVariants.Nothing, Waiting}, WorkerPhase.WorkerPhase}, step.Action.Action}}
pub use Rattle.exec_moves.specs.{Call.{CallDesk, no_call}, Plays.{Played, Playing, by_action, by_move, by_step, desk_of as desk_at, first_desk, first_playing, last_told, newcomers}, Pop.{power_from, shard_count}, Seen.{next_at, polls_at}, Slots.{is_in_slots, is_some_slot, numbers_in, slot_of}, State.{Desk, Things, WakePoll, gate_of, inbox_of, no_queue, passed, queue_of, wake_poll_of}, Thing.set_wake_poll, Told.has_number, declared.{handing.CallPlace.CallPlace, place.{InClosing.InClosing, InPoll.InPoll, Place.Place}}}
pub use Rattle.exec_opens.specs.{Opens.{OpenState, fresh_open}, declared.opens.WaiterKey.WaiterKey}
pub use Rattle.exec_outcomes.specs.{Accounts.is_durable, Lawful.{is_lawful, window_of}, declared.outcome.{Kind.Kind, OpResult.OpResult}}
pub use Rattle.exec_parts.specs.{Dedicated.{Begins, root_slot}, Firsts.shared_of, Phased.{closes_at, closing_in, has_left, has_shut, is_complete, root_over}, Records.{IsCountable, IsFreshSeat, number_in, numbers_held}, Roles.MayBegin, Scripts.IsBorn, Spots.Spot, View.{Views, Visible, common_of, desk_of, driver_of, gate_seen, has_given_up, inbox_at, line_of, message_of, number_of_key, open_seen, own_of, phase_seen, polls_seen, queue_at, seat_seen, seats_seen, slots_from, task_seen, tasks_of, things_with, visible, with_view, word_at}, declared.parts.{mail.{Reply.Reply, Subject.Subject}, record.Record.Record, role.Role.TheVariants.Pool, seat.Seat.Seat as Chair, shared.Shared.Shared, sleeping.SleeperRecord.SleeperRecord, task_slot.TaskSlot.TaskSlot, worker.Worker.Worker}}
pub use Rattle.exec_polling.specs.{Calling.{CallBeside, CallSound, CallSuits, CallWorks, call_of, desk_of_caller, hands_on_in, is_free}, declared.caller.Caller.Caller}
pub use Rattle.exec_progress.specs.{Left.left_to, Paced.IsPaced}
pub use Rattle.exec_rest.specs.{AtRest.{AreBare, AreFresh, IsBare, IsPlaced, IsShut, RestsWell, is_end, is_fed, is_idle, stays_closing}, Places.{is_abed, is_in_call}, Posted.IsPosted, Rested.{IsPoolOpen, IsRestful, is_in_pool, place_at}}
pub use Rattle.exec_ring.specs.declared.store.Store.{Store}
pub use Rattle.exec_settled.specs.{Awaited.IsAwaited, Given.{IsGiven, IsSleptBy, IsWaitedFor, WaitsFor, ends_in_search, gives_up, in_line, passes_at}, Parked.{NobodySleepsOnWork, NoneIsForgotten}, Permits.IsPermitted, Settled.IsSettled}
pub use Rattle.exec_shutdown.specs.{Shutdown.ShutsDown, Stopping.StopsAll}
pub use Rattle.exec_steps.specs.Together.{StandTogether, all_have}
pub use Rattle.exec_task.specs.{Phases.{is_polled, runnable_of}, TaskSet.IsShardCount, declared.{body.Said.{Said, TheVariants.Start}, runnable.Runnable.Runnable, task.Phase.{Phase, TheVariants.Queued}}}
pub use Rattle.exec_waiters.specs.{States.waiter_of, declared.waiter.Entry.Entry}
pub use Rattle.exec_words.specs.{Queue.Queue, Reserved.Reserved, declared.inbox.Message.Message}
