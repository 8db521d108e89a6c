-- The names of other crates that lemmas cite, passed on from one place. Declares nothing.
unfoldable pub use Rattle.exec_time.specs.Wheel.{removed as unticked, scheduled}
pub use Rattle.exec_base.{proofs.Slots.{Changed, Changed-push, Changed-set, id_cases, IsLiveAt-from_value, live_within, ltb_tells, NextIs, past-free, past-write, some_of_if, Updates-free, Updates-write, was_live}, specs.{declared.{error.Error.{Error, TheVariants.NoMemory}, one_shot.OneShotState.{OneShotState, TheVariants.{Closed as Shut, Open, Sent as Full}}, slab.{Id.Id, Slot.{Slot, TheVariants.{Live, Retired, Vacant}}}, task_no.TaskNo.TaskNo}, Slab.{filled, freed, generation_of, inserted, is_live, IsPast, live_count, next_generation, next_id, removed, Slab, slot_at, TakesId, value_at, value_in, written}}}
pub use Rattle.exec_driver.{proofs.{Endings.one_finished, Expiring.tick_tells}, specs.{Driving.{Driving, has_pending, is_cancelled, is_full as is_ring_full, is_queued, may_stage_one, request_at, seen}, Placed.ListsRequests, Punctual.{IsFirstTick, IsPunctual}, Steps.{cancel_entry, cancel_staged, ended_by, enrolled_by, is_control, noted, swept, swept_from, tick_for, told_by_enrolment, unscheduled, with_landings}}}
pub use Rattle.exec_lists.{proofs.{Counting.{one_written, OneChanged, pending_is, same_written}, Names.same_tells}, specs.Lists.{after_enrolment, first_of, has_first, is_among, is_same, rest_of, withdrawn, without}}
pub use Rattle.exec_machine.specs.{After.{common_after, own_after}, Allowed.allowed, Choice.{Choice, Choice.{Pays, Plain, Posts}, Payer, Payer.ByAct}, Deadlines.{fires_at, first_timer, first_until, next_due, outcome_at_enrol}, declared.{config.{Configuration.Configuration, ScriptWord.ScriptWord}, event.Event.{Event, TheVariants.{Begin, Cancel, Closed, Enrol, Got, GotTimer, Pass, Pend, Send, Turn, Wake}}, state.{Code.Code, Forwarding.{Forwarding, TheVariants.{Applied, Sent, Unsent}}, Letter.Letter, MailMessage.{MailMessage, TheVariants.{CancelRequest, CancelTimer, ForwardRequest, ForwardTimer, Root}}, Next.Next, Request.Request, RequestPhase.{RequestPhase, TheVariants.Resolved}, Rest.Rest, Sleeper.Sleeper, TaskPhase.TaskPhase, Waiting.Waiting, WorkerPhase.WorkerPhase}}, Mail.{has_root_message, is_root_message, posted as seat_posted}, Progress.Plan, Ranges.ring_size, Requests.{dropped, ends_by_drop, is_enrolled, own_after_drop, resolved}, Same.{is_none, is_number, same_end, same_error}, Tasks.{after_over, after_taking, after_wake, after_waking_word, begun, begun_waiting, is_here, is_polled_here, is_woken_here, may_end_by, may_stop, owes as owes_letter, own_after_done, own_after_drops, own_after_waking_up, pended_phase, polls_waiting, removed as removed_sleeper, requests_after_drops, sleepers_after_waking_up, without_newest, woken_phase}, Tests.{AllTrue, has_ended, is_applied, is_asleep, is_at_large, is_empty, is_gated, is_idle, is_in_flight, is_kept, is_landed, is_open, is_queued as is_phase_queued, is_ready, is_resolved, is_resolved_with, is_settled, is_staged, is_unsent, waits_for_nothing, waits_for_request}, Words.{acts, asks_await, asks_end, asks_fault, asks_wake, asks_yield, moved_on, newest_held, next_word, polled_task}, World.{Common, no_request, no_seat, no_sleeper, no_task, Own, Own as Books, request_of, Seat, seat_of, sleeper_of, Task, task_of}}
pub use Rattle.exec_moves.specs.{Callback.{has_callbacks, is_full, is_of_pool, to_queue}, Claim.raised_if, declared.{handing.{AfterCallbacks.AfterCallbacks, AfterCancels.AfterCancels, AfterKick.AfterKick, AfterLeave.AfterLeave, AfterPop.AfterPop, AfterPush.AfterPush, AfterSend.AfterSend, AfterSignal.AfterSignal, Heard.Heard, InGlobal.InGlobal, InKick.InKick, InPop.InPop, InPush.InPush, InSignal.InSignal}, idling.{AfterWait.AfterWait, InRingWait.InRingWait}, place.{InCallbacks.InCallbacks, InClosing.InClosing, InMail.InMail, InPick.InPick, InPoll.InPoll, InService.InService, Place.Place, Service.Service}}, Load.{has_submissions, may_stage}, Move.{move, move_at, move_look_at, move_submit, move_wake}, Parts.{after_cancels, after_poll, after_send, cancels_left, has_others}, Poll.{acts_on, after_begin, after_end, begin_poll, ends as end_moves, is_noted, let_go, pend, pend as pend_moves, resume, Sight.{Asks, HearsRequest, HearsTimer}, sight_by, sight_of, stops}, Pop.{after_empty_pop, after_pop, drain_by, judge_pop, load_pop_head, pops, power_from, same_head, shard_count}, Push.{after_fit, flow_over, in_hand, load_push_head, store_oldest, store_value}, Seen.{next_at, next_in_poll, polls_at, polls_for, polls_in, serves_at}, Send.{after_posting, asks as asks_box, Mailbox, posted, posting, send_message, sent, wake_task}, Slots.{is_in_slots, vacated}, State.{armed as poll_armed, Desk, does, dropped as dropped_from, goes, inbox_of, is_dropped, Moved, no_queue, no_wake_poll, no_word, one_behind, others_left, passed, queue_of, raised, taken_in as poll_taken, Things, told_left, told_once, turns, wake_poll_of, WakePoll, word_of}, Submit.{Due.{Cancels, Enrols}, due_next, first_due, one_more, staging_due, submits}, Thing.{aside, mailbox_of, ring_of, set_global, set_inbox, set_mailbox, set_queue, set_ring, set_wake_poll, set_word, with_alarms, with_mailbox, with_queue}, Told.{has_number, lets_go_all, lets_go_request, lets_go_requests, lets_go_sleep, lets_go_timer, told_of_cancel, told_of_drop, without_request}}
pub use Rattle.exec_opens.specs.Opens.{OpenState}
pub use Rattle.exec_outcomes.specs.{Accounts.{Account, is_durable}, declared.outcome.{Judged.Judged, Kind.Kind, Outcome.{Outcome, TheVariants.{Failure, Success}}}, Outcomes.HasCome}
pub use Rattle.exec_parts.{proofs.{Facts.{and_right, by_name, by_number, false_from_ne_true, found_within, not-false, not-true, not_same, or_left, same_number, same_self, same_Some, set_elsewhere, set_there, zero_false}, Mailboxes.none_any}, specs.{Awaits.{drops, HasNewest, LetsGo, MayLetGo, newest_of, OfNewest}, Calls.{IsTold, sleeper_removed}, declared.parts.{held.Held.Held, letters.Letters.Letters, mail.{Reply.Reply, Subject.{Subject, Subject as subject}}, names.Names.Names, record.Record.Record, role.Role.Role, seat.Seat.Seat as Chair, shared.Shared.Shared, sleeping.SleeperRecord.SleeperRecord, task_slot.TaskSlot.TaskSlot, worker.{Moments.Moments, PutOff.PutOff, Worker.Worker}}, Ending.{ended_place, EndsTask, LetsGoAll, LetsGoOne.{elsewhere, here}, LetsWaiting, MayEndTask, MayLetGoAll, MayLetGoOf, MayLetSleep, others_of}, MailPosts.{HasAnswer, HearsEnd, HearsOutput, IsMailbox, MayAskEnd, MayAskOutput, MayHearOutput, TakesAnswer}, MailTakes.RemovesSleeper, Phased.{closes_at, closing_in, has_left, HasPassed, is_complete, IsPhased, Stage, stage_of, TurnsChair}, Polls.{begun_slot, begun_slot_if, flag_after, IsReady, MadeAct, OfSlot, passed_slot, pended_slot, pended_with, slept_slot, TookOutput, unobserved, yielded_slot}, Pooled.{asks_if_sent, chair_raised, chair_sent, event_sent, is_discard, MaySend, OfChair, overflowed_if, queued_again, with_overflow, with_raises, woken_slot}, Records.{number_in, numbers_held, outcome_in}, Roles.is_pool, Scripts.{Asks as AsksOf, GoesOn, held_after, is_last, IsAnswer, IsAnswered, IsCodeOf}, Serving.{AreKnown, AreTagged, cancels_in, changed_at, changed_in, first_tick, is_cancel, is_one_of, outcome_of_error}, Spots.{Spot, spot_of}, Tests.{after_poll_of, after_push_of, first_push_of, HasToldDue, IsFirstSleep, IsNextIn, IsNextMoment, leave_of, next_callback_of, next_pick_of}, Things.{Goes, Makes, TurnsSlot}, View.{awaited_from, awaits_entry, behind_end, body_in, common_of, completions_in, desk_of, driver_of, inbox_at, is_awaited, is_end, letter_of_request, letter_of_timer, letters_in, message_of, number_told, numbers_of, numbers_of_passing, operations_in, owed_at, own_of, phase_seen, polls_seen, queue_at, queue_seen, raised_times, results_in, seat_seen, seats_seen, slots_seen, spot_by, task_seen, tasks_of, things_of, things_with, trailing, trails_wake, Views, Visible, visible, wake_poll_in, with_view, word_at}}}
pub use Rattle.exec_request.specs.{declared.{output.RequestOutput.RequestOutput, request.Request.Request as Asking, results.WaiterState.WaiterState, window.Opcode.Opcode}, Kept.{kept_of, seen_by}, Requests.{asked_of, cursor_of, deadline_of, goes_on_alone, hinted_of, output_of}, States.{asks_cancel, Ended}}
pub use Rattle.exec_ring.specs.{Completions.{is_wake, wake_completion}, declared.{completion.{Completion.Completion, Posted.Posted, Submission.Submission}, store.Store.Store}, Kernels.{all_taken, has_none, is_quiet, next_completion, reaped, taken_as, taken_in, with_completion, with_poll, with_wake, woken}, Rings.{completions, RingState, spelled}}
pub use Rattle.exec_task.specs.{declared.{body.{Act.Act, Said.Said}, drain.Drain.Drain, runnable.{AfterPoll.AfterPoll, Runnable.Runnable}, task.{Phase.Phase, Task.Task as TaskCell}}, Phases.{begun as cell_begun, given_back, is_idle as is_cell_idle, is_polled, over, over as cell_over, pend_answer, queued_body, requeue_where, runnable_of, woken as cell_woken}, Sight.Sight, TaskSet.{AreAtHome, at_number, IsFor, passed as set_passed, Set, shard_at, TakesNewest}}
pub use Rattle.exec_time.specs.{declared.{notes.ForwardedResult.ForwardedResult, timers.{Observer.Observer as Watching, Sleeper.Sleeper as Sleeping}}, Wheel.{fresh, least_active, moment_of, next_moment, Wheel}}
pub use Rattle.exec_waiters.{proofs.Changes.{entry_of, one_if}, specs.{declared.{deferred.{Answer.Answer, Deferred.Deferred}, observer.Observer.{Observer, TheVariants.{DetachedSync, Forwarded, Local, Orphaned}}, waiter.{Entry.{Entry, TheVariants.{Pending, Ready}}, Waiter.Waiter}, waiter_id.WaiterId.WaiterId}, Events.{finished, finished_for, taken, taken_from, told_by_finish, waker_in, with_tick}, Ids.user_data_of, States.{awaits_tick, counts_pending, flying_count, is_held_by, is_local, is_observed_here, needs_permit, pending_count, takes_tick, tick_in, tick_of, waiter_at, waiter_of}, Told.{is_untold, nothing_told, tasks_of as tasks_told, Tells, Told}}}
pub use Rattle.exec_words.specs.{declared.{head.{Fit.Fit, Head.Head}, inbox.Message.Message, mailbox.Mailbox.Mailbox as Box, word.PureWord.PureWord}, Global.Global, Head.is_spent, Idle.is_in, Inbox.{has_any, is_wake_root}, Queue.{fit_of, head_of, newest, overflowed, popped, published, Queue, restored, room_of, tail_of}, Reserved.{extended, Reserved}, Word.{asks_signal, next_batch}}
pub use Rattle.std.{proofs.{Common.{[], ap, arith, Bool, cond, Contains, count_by, drop, Err, false, filter, get_or, IfSome, if◌then◌else◌, inl, inr, is_some, IsSome, IsTrue, length, List, lit<, lit≤, map, min, nat_le, nat_lt, None, not, Ok, Option, option_map, option_to_list, refl, replicate, Result, set, slice_get, slice_index_or, slice_set, Some, subst, suc, sum_by, sym, take, take-append-drop, true, unwrap_or, zero, ℕ, ⊎_elim, ◌%◌, ◌&&◌, ◌*◌, ◌++◌, ◌+◌, ◌-◌, ◌/◌, ◌<◌, ◌==◌, ◌^◌, ◌||◌, ◌∙◌, ◌∷◌, ◌≡◌, ◌≢◌, ◌≤◌, ◌⊎◌}, lemmas.{Bool.{and_parts, cases_lt, Decides.{eqb_tells, nat_tests}, eq-eqb, false≢true, ltb-false, ltb-true, or_right, true_from_ne_false}, Grind.flat_map-append, List.{append-nil, append_assoc, drop-map, Elements.{Contains-append_cases, Contains-append_left, Contains-append_right, Contains-push_cases, filter-append}, Folds.{list_any-append, list_any_at}, get_or_past, length-append, length-drop, length-map, length-set, map-append, map-set, Recursion.is_count_by, set-get_or, set-set, set_past, Sums.{sum_by-append, sum_by-cons, sum_by-set, sum_by_push}, take-map}, Option.{get_or_from_slice_get, slice_get-get_or, slice_get-map, slice_get_within, unwrap_or-slice_get}}, Math.Bool.or-true}, specs.{List.{AllByRecursion, flat_map, fold, list_all, list_any, range_with_len}, Vec.vec_capacity, VecDeque.deque_capacity}}
