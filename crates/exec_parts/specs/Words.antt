-- The names of other crates that contracts and definitions cite, passed on from one place. Declares nothing.
pub use Rattle.exec_base.specs.{OneShot.{polled, sent}, Slab.{Slab, is_live, live_count, removed, value_at, written}, Spinner.begun as begun_spinner, declared.{error.Error.{Error, TheVariants.{Closed, NoMemory}}, limits.TheConstants.{LAST_MOMENT, LONGEST_TIMEOUT}, one_shot.OneShotState.{OneShotState as shot, TheVariants.{Closed as Shut, Open, Sent as Full}}, slab.{Id.Id, Slot.{Slot, Slot as slot}}, spinner.SpinnerConfig.SpinnerConfig, task_no.TaskNo.TaskNo}}
pub use Rattle.exec_driver.specs.{Driving.{Driving, has_pending, is_full, request_at, seen}, Placed.ListsRequests, Punctual.{IsFirstTick, IsPunctual}, Steps.{IsFresh as IsFreshDriver, is_control, let_go, poll_staged, told_by_let_go}}
pub use Rattle.exec_lists.specs.Lists.{has_first}
pub use Rattle.exec_machine.specs.{Closing.letters_to_roots, Deadlines.{earlier, expired, new_sleeper, outcome_at_expiry}, Progress.Plan, Ranges.{horizon, ring_size, ticks_needed}, Requests.{asked_of as asked_in, asks_hint, cursor_of as cursor_in, dropped, ends_by_drop, flown, granted, joined_if, new_request, operation_asked, reaped, resolved, resolved_if}, Tasks.{begun_waiting, without_newest}, Tests.{has_ended, is_awake, is_empty, is_flying, is_of_file, is_open, is_resolved, is_unsent}, Words.{moved_on, next_word}, World.{Adapter, AdapterCall, Common, Open as OpenFile, Own, Seat, Task, no_operation, open_of}, declared.{config.{Configuration.Configuration, ScriptWord.ScriptWord}, event.Event.{Event, TheVariants.{Apply, Busy, Drop, Enter, Got, GotTimer, Orphan, Rouse, Send, Sleep, Spawn, Turn, Wait, Wake}}, state.{Call.Call, Code.{Code, TheVariants.{Script, Waits}}, Forwarding.Forwarding, Letter.{Letter, Letter as Owed}, MailMessage.{MailMessage, MailMessage as message, TheVariants.{CancelRequest, CancelTimer, ForwardRequest, ForwardTimer, Root}}, Operation.Operation, RequestPhase.{RequestPhase, TheVariants.Resolved}, Rest.Rest, TaskPhase.{TaskPhase, TaskPhase as task}, Waiting.Waiting, WorkerPhase.WorkerPhase}}}
pub use Rattle.exec_moves.specs.{Callback.serve, Claim.{Claimed as Exchanged, claimed as exchanged, idle_after}, Load.has_mail, Look.past_own, Mail.after_message, Parts.{after_send, after_visit, cancels_left, first_pop, next_pick, tells_from}, Pick.after_empty_look, Pop.{after_empty_pop, judge_pop}, Seen.{left_before, left_in_service, next_at, polls_at, serves_at}, Send.after_posting, Slots.Slots, State.{Desk, Moved, Things, WakePoll, raised}, declared.{handing.{AfterCallbacks.{AfterCallbacks, AfterCallbacks as after}, AfterCancels.{AfterCancels, AfterCancels as cancels}, AfterClaim.{AfterClaim, AfterClaim as claim}, AfterKick.{AfterKick, AfterKick as kick}, AfterLeave.{AfterLeave, AfterLeave as leave}, AfterPop.{AfterPop, AfterPop as pop}, AfterPush.{AfterPush, AfterPush as push}, AfterSend.{AfterSend, AfterSend as send}, AfterSignal.{AfterSignal, AfterSignal as signal}, First.First, Heard.Heard, InGlobal.InGlobal as global, InKick.InKick as kicks, InPush.InPush as pushes}, idling.{AfterWait.{AfterWait, AfterWait as next}, InLook.InLook as look, InRingWait.InRingWait as ring, InScan.InScan as scan, InSearch.InSearch as search, InWordWait.InWordWait as word, Stay.{Stay, Stay as stay}}, place.{AfterService.AfterService as back, InCallbacks.InCallbacks as callback, InClosing.{InClosing, InClosing as closing}, InLoads.InLoads as load, InPick.InPick as pick, InPoll.{InPoll, InPoll as poll}, InService.InService, Place.{Place, Place as at}, Reaping.Reaping, Round.{Round, Round as round}, Service.Service}}}
pub use Rattle.exec_opens.specs.{Opens.OpenState, declared.opens.WaiterKey.WaiterKey}
pub use Rattle.exec_outcomes.specs.{Accounts.{Account, fresh_account, is_durable}, Lawful.{is_lawful, window_of}, Outcomes.{bytes_of, counted_for, is_unsupported, moves_on, part_now}, declared.outcome.{Kind.{Kind, TheVariants.{Direct, Hint}}, Outcome.{Outcome, TheVariants.Failure}}}
pub use Rattle.exec_request.specs.{Requests.{asked_of, cursor_of, deadline_of, target_of}, declared.{buffers.WriteBuffers.{TheVariants.Single, WriteBuffers}, output.RequestOutput.RequestOutput, read_at.TheConstants.DIRECT_CHUNK, request.Request.{Request, Request as Asking}, way.Way.Way, window.Opcode.Opcode}}
pub use Rattle.exec_ring.specs.{Completions.is_wake, Kernels.{entered, with_wake}, Rings.{RingState, completions}, Sockets.nothing_moved, Stores.{Same, socket_of, store_byte}, declared.completion.{Completion.Completion, Submission.Submission}}
pub use Rattle.exec_task.specs.{Phases.{begun, cleared, is_idle, is_polled, over, pend_answer, pended, queued_body, runnable_of, woken}, Sight.Sight, TaskSet.{IsFor, IsShardCount, Set, TakesNewest, held, inserted, passed, shard_at}, declared.{body.{Act.Act, Said.{Said, Said as said}}, drain.Drain.Drain, runnable.{AfterPoll.AfterPoll, Runnable.Runnable}, task.Phase.{Phase, Phase as cell, TheVariants.Queued}}}
pub use Rattle.exec_time.specs.{Notes.{Adds, HasRoom}, Sleepers.{IsEmpty, IsFirst, completions_of, is_forwarded}, Wheel.{least_active, next_moment}, declared.{notes.ForwardedResult.ForwardedResult, timers.{Observer.TheVariants.Forwarded, Sleeper.Sleeper as Sleeping}}}
pub use Rattle.exec_waiters.specs.{Events.{IsFirstHeld, changed, forwarded, taken, told_by_close, told_by_forward, told_by_orphan, waker_in, with_waker}, Ids.index_in, States.{flying_count, is_held_at, is_observed_here, pending_count}, Told.{HasPlaces, Tells, is_untold}, declared.{deferred.{Answer.Answer, Deferred.Deferred}, waiter.Entry.{Entry, Entry as entry, TheVariants.Ready}, waiter_id.WaiterId.WaiterId}}
pub use Rattle.exec_words.specs.{Inbox.{is_dropped, is_wake_root, opens_batch, sent as mailed, spare_places, without_mail, word_after}, Queue.{Queue, claimed, head_of, newest, overflowed, popped, released, tail_of}, Reserved.{Reserved, extended}, Word.asks_signal, declared.{inbox.Message.{Message, Message as letter}, mailbox.Mailbox.Mailbox, word.{PureWord.PureWord, WaitTarget.WaitTarget}}}
