-- The names of other crates that definitions cite, passed on from one place. Declares nothing.
pub use Rattle.exec_base.specs.{declared.{error.Error.{Error, TheVariants.NoMemory}, one_shot.OneShotState.{OneShotState, TheVariants.{Closed, Open, Sent}}, slab.{Id.Id, Slot.{Slot, TheVariants.{Live, Retired, Vacant}}}, task_no.TaskNo.TaskNo}, Slab.{inserted, IsPast, live_count, next_id, Slab, TakesId, value_at}}
pub use Rattle.exec_driver.specs.{Admission.{Admits, with_rooms}, Driving.{Driving, is_full, may_stage_one, request_at}, Footprints.{bytes_left, footprint_of}, Placed.ListsRequests, Punctual.IsPunctual, Steps.{cancel_staged, is_control, lowest_gate, newcomer, poll_staged, StagesOne, told_at_admission}}
pub use Rattle.exec_lists.specs.Lists.{first_of, has_first, is_among}
pub use Rattle.exec_machine.specs.{After.{common_after, own_after}, Allowed.allowed, Choice.Choice, Deadlines.{is_first_due, new_sleeper}, declared.{config.Configuration.Configuration, event.Event.{Event, Event as event, TheVariants.{Admit, Cancel, Stage, Timer}}, state.{Forwarding.{Forwarding, Forwarding as forwarding, TheVariants.{Applied, Sent as SentOn, Unsent}}, Letter.Letter, Next.Next, Operation.Operation, Request.Request, RequestPhase.{RequestPhase, TheVariants.{Flying, Landed, Resolved, Staged}}, Waiting.Waiting}}, Progress.Plan, Ranges.{horizon, ring_size, wheel_slots}, Requests.{asked_of as asked_in, cursor_of as cursor_in, new_request, outcome_if_late, resolved_if, with_hint}, Same.same_kind, Tasks.{new_own, without_newest}, Tests.{AllTrue, is_applied, is_asleep, is_empty, is_gated, is_in_flight, is_kept, is_of_file, is_open, is_resolved, is_staged, is_unsent}, Words.{moved_on, next_word}, World.Common}
pub use Rattle.exec_moves.specs.{declared.{handing.{AfterCallbacks.{AfterCallbacks, AfterCallbacks as after}, AfterCancels.{AfterCancels, AfterCancels as cancels}, AfterClaim.{AfterClaim, AfterClaim as claim}, AfterKick.{AfterKick, AfterKick as kick}, AfterLeave.{AfterLeave, AfterLeave as leave}, AfterPop.AfterPop as pop, AfterPush.{AfterPush, AfterPush as push}, AfterSend.{AfterSend, AfterSend as send}, AfterSignal.{AfterSignal, AfterSignal as signal}, Heard.Heard, InGlobal.{InGlobal, InGlobal as global}, InKick.{InKick, InKick as kicks}, InPop.InPop, InPush.{InPush, InPush as pushes}}, idling.{AfterWait.{AfterWait, AfterWait as next}, InLook.{InLook, InLook as look}, InRingWait.{InRingWait, InRingWait as ring}, InScan.{InScan, InScan as scan}, InWordWait.{InWordWait, InWordWait as word}, Scan.Scan, Stay.{Stay, Stay as stay}}, place.{AfterPermit.AfterPermit, AfterService.{AfterService, AfterService as back}, InCallbacks.InCallbacks as callback, InClosing.{InClosing, InClosing as closing}, InMail.{InMail, InMail as mail}, InPick.InPick, InPoll.{InPoll, InPoll as poll}, InService.{InService, InService as service}, Place.{Place, Place as at}, Reaping.Reaping, Service.Service}}, Move.move, Plays.first_desk, Pop.shard_count, Search.from_of, Seen.{left_in_service, next_at, polls_at, serves_at}, Serve.{after_permit, first_numbered}}
pub use Rattle.exec_opens.specs.{declared.opens.WaiterKey.WaiterKey, Opens.{account_in, joined, open_named, OpenState, with_named}}
pub use Rattle.exec_outcomes.specs.{Accounts.is_durable, declared.outcome.{Judged.Judged, Kind.{Kind, Kind as kind}, OpResult.OpResult, Outcome.{Outcome, TheVariants.{Failure, Success}}}, Lawful.{is_lawful, window_of}, Outcomes.{bytes_of, HasCome}}
pub use Rattle.exec_parts.specs.{Calls.IsTold, declared.parts.{held.Held.Held, letters.Letters.Letters, mail.{Reply.Reply, Subject.{Subject, Subject as subject}}, names.Names.Names, record.Record.Record, role.Role.Role, seat.Seat.Seat as Chair, shared.Shared.Shared, sleeping.SleeperRecord.SleeperRecord, task_slot.TaskSlot.TaskSlot, worker.{Moments.Moments, Worker.Worker}}, MailPosts.IsMailbox, Phased.{closes_at, closing_in, is_complete, IsPhased, stage_of}, Polls.{MadeAct, OfSlot}, Pooled.with_raises, Records.{file_named, HasMailRoom, HasRequestRoom, HasTimerRoom, MakesMail, number_in, numbers_held, operation_in, outcome_in, SameNames}, Roles.{is_pool, MayBegin, owns_runner}, Scripts.{Asks, Covers, GoesOn, is_last, IsCodeOf, MakesBody}, Serving.{AreKnown, AreTagged, cancels_in, changed_at, EntersRing, is_one_of, with_staging_ended}, Spots.{Spot, spot_of}, View.{account_seen, body_in, common_of, desk_of, driver_of, is_end, letters_in, number_told, owed_at, own_of, task_seen, things_with, Views, visible, with_view}}
pub use Rattle.exec_request.specs.{declared.{buffers.WriteBuffers.{TheVariants.{Single, Vectored}, WriteBuffers}, output.RequestOutput.RequestOutput, request.Request.Request as Asking, window.Opcode.Opcode}, Hints.has_hint, Kept.seen_by, Requests.{asked_of, cursor_of, deadline_of, hinted_of, target_of, window_by}, States.{as_outcome, asks_cancel}, Syncing.is_syncing}
pub use Rattle.exec_ring.specs.{Completions.result_in, declared.{completion.{Completion.Completion, Submission.Submission}, store.Store.Store}, Kernels.is_of, Rings.{completions, RingState}, Sockets.SocketState, Stores.{HasStretch, Reserves, socket_of}}
pub use Rattle.exec_task.specs.{declared.{body.{Act.Act, Said.Said}, runnable.Runnable.Runnable, task.Phase.{Phase, Phase as cell}}, Phases.{is_polled, runnable_of}, Sight.Sight, TaskSet.{AreAtHome, Set, shard_at}}
pub use Rattle.exec_time.specs.{declared.{notes.ForwardedResult.ForwardedResult, timers.{Observer.Observer as Watching, Sleeper.Sleeper as Sleeping, TimerId.TimerId}}, Wheel.Wheel}
pub use Rattle.exec_waiters.specs.{declared.{deferred.{Answer.Answer, Deferred.Deferred}, observer.Observer.{Observer, TheVariants.{DetachedSync, Forwarded, Local, Orphaned}}, waiter.{Entry.{Entry, TheVariants.Ready}, Waiter.Waiter}, waiter_id.WaiterId.WaiterId}, Events.{is_lawful_for, waker_in}, Ids.{generation_in, index_in, user_data_of}, States.{awaits_tick, file_of, gate_in, is_held, is_held_at, is_held_by, needs_permit, pending_count, takes_tick, tick_in, tick_of, waiter_at}, Told.{HasPlaces, is_untold, nothing_told, Tells}}
pub use Rattle.exec_words.specs.{declared.{head.Head.Head, inbox.Message.Message, word.WaitTarget.WaitTarget}, Head.is_spent, Idle.{is_in, lowest_of}, Queue.{claimed, Queue, released, room_of, tail_of}, Reserved.Reserved}
pub use Rattle.std.specs.{List.{AllByRecursion, list_any, range_with_len}, Option.option_map, Prelude.{[], Bool, Contains, count_by, Err, false, filter, IfSome, is_some, IsSome, length, List, map, nat_le, nat_lt, None, not, Ok, Option, option_to_list, Result, slice_get, slice_set, Some, suc, sum_by, true, ℕ}, Vec.vec_capacity, VecDeque.deque_capacity}
