-- The names of other crates that proofs cite, passed on from one place. Declares nothing.
pub use Rattle.std.{proofs.{Common.{Bool, Contains, Err, IfOk, IfSome, IsSome, List, None, Ok, OnErr, Option, Result, Some, [], ap, append_assoc, arith, cond, count_by, drop, false, filter, get_or, if◌then◌else◌, inl, inr, is_some, length, map, nat_le, nat_lt, not, option_map, option_to_list, refl, set, slice_get, slice_index_or, slice_set, subst, suc, sum_by, sym, take, true, zero, ℕ, ⊎_elim, ◌%◌, ◌&&◌, ◌*◌, ◌++◌, ◌+◌, ◌-◌, ◌/◌, ◌<◌, ◌==◌, ◌^◌, ◌||◌, ◌∙◌, ◌∷◌, ◌≡◌, ◌≢◌, ◌≤◌, ◌⊎◌}, Math.{Bool.and-true, Nat.div-lt_iff_lt-mul, Seq.map-set_same}, lemmas.{Bool.{Decides.nat_tests, eq-eqb, false≢true, leb-false, leb-true, lt-leb, lt-ltb, ltb-false, ltb-true, or_parts, true_from_ne_false}, List.{Elements.{Contains-append_cases, Contains-append_left, Contains-append_right, filter-append}, Folds.list_any-append, Quantifiers.position-Some, Recursion.is_count_by, Sums.{get_or-le-sum_by, sum_by-append, sum_by-cons, sum_by-set}, append-nil, drop-map, get_or-set_other, get_or-set_same, length-append, length-drop, length-map, length-set, map-append, map-set, nil_from_length, set-set, take-map}, Map.Keys.any_passes_from_place, Option.{get_or_from_slice_get, slice_get-get_or, slice_get-map, slice_get_within}}}, specs.{BTreeMap.get, Int.div_ceil, List.{list_all, list_any, range_with_len, remove}, Ordering.nat_cmp, Prelude.unwrap_or, Vec.vec_capacity, VecDeque.deque_capacity}}
pub use Rattle.exec_base.{proofs.Slots.{Changed-set, IsLiveAt-from_value, Updates-free, Updates-write, count-set, live_within, past-free, past-write, was_live}, specs.{Slab.{IsPast, Slab, TakesId, freed, is_live, live_count, next_generation, removed, slot_at, value_at, value_in, written}, declared.{error.{Cause.TheVariants.InvalidInput, Error.{Error, TheVariants.{Closed, Io, Timeout}}}, one_shot.OneShotState.{OneShotState, TheVariants.{Open as Unanswered}}, slab.{Id.Id, Slot.{Slot, TheVariants.{Live, Retired, Vacant}}}, task_no.TaskNo.TaskNo}}}
pub use Rattle.exec_driver.{proofs.{Endings.one_finished, Serving.among_others, Turns.gate_from}, specs.{Driving.{Driving, is_cancelled, is_enrolled, is_full as is_ring_full, is_gated as waits_gated, is_queued as is_listed_queued, is_unenrolled, request_at}, Footprints.bytes_left, Placed.ListsRequests, Punctual.IsPunctual, Steps.{EnrolsAs, armed_after, both, cancelled_at, cancelled_from, cancelling, ended, ended_by, expired as expired_at, is_control, lower, lowest_gate, open_after, tick_by, tick_for, timed_out, told_by_cancel, told_by_enrolment, unscheduled, without_observer}}}
pub use Rattle.exec_lists.{proofs.{Counting.{OneChanged, flying_is, one_removed, one_written, pending_is}, Names.same_tells}, specs.Lists.{after_due, first_of, is_among, is_same, rest_of, withdrawn, without}}
pub use Rattle.exec_machine.specs.{After.{common_after, own_after}, Allowed.allowed, Choice.{Choice, Choice.{Pays, Plain}, Payer.ByAct}, Closing.letters_to_roots, Deadlines.{earlier, enrolled, expired, is_due, is_first_due, is_none_earlier, outcome_at_enrol, outcome_at_expiry, tick_from}, Mail.{after_message as made_by, is_first_message, is_root_message, own_after_apply, posted as seat_posted}, Progress.Plan, Ranges.{ring_size, wheel_slots}, Requests.{asks_hint, dropped, ends_by_drop, flown, is_cancelled_by_drop, joined_if, judged_of, left_if, open_joined_by, operation_asked, outcome_given, own_after_drop, resolved, went_on, with_hint}, Same.{is_none, is_number, same_end, same_kind, same_message}, Tasks.{after_waking_word, begun_waiting, is_woken_here, waits_for, woken}, Tests.{AllTrue, has_ended, is_applied, is_asleep, is_closing, is_done, is_empty, is_gated, is_idle, is_in_flight, is_kept, is_landed, is_of_file, is_open, is_queued, is_resolved, is_staged, is_unsent, waits_for_nothing, waits_for_timer}, Words.{acts, asks_yield, moved_on, next_word}, World.{Common, Open, Own, Seat, Task, no_open, no_request, no_seat, no_sleeper, no_task, open_of, request_of, seat_of, sleeper_of, task_of}, declared.{config.{Configuration.Configuration, ScriptWord.ScriptWord}, event.Event.{Event, TheVariants.{Apply, Close, Closed as Shut, Enrol, Expire, GotTimer, Pass, Send, Serve, Stop, Turn, Wake}}, state.{Forwarding.{Forwarding, TheVariants.{Applied, Sent as ForwardSent, Unsent}}, MailMessage.{MailMessage, TheVariants.{CancelRequest, CancelTimer, ForwardRequest, ForwardTimer}}, Next.Next, Operation.Operation, Request.Request, RequestPhase.{RequestPhase, TheVariants.{Landed, Resolved}}, Sleeper.Sleeper, Waiting.Waiting, WorkerPhase.WorkerPhase}}}
pub use Rattle.exec_moves.specs.{Callback.{Item.{LetsGo as ItemLetsGo}, after_callbacks, has_callbacks, has_requests, is_full, is_of_pool, item_next, next_callback, serve}, Claim.{Claimed, after_claim, after_nobody, claim_worker, claimed as claim_made, claimed_if, idle_after, same_bools, set_of}, Close.{after_letting_go, first_asleep, first_held}, Global.{appended_if, has_any as has_some, one_count_more}, Load.{has_mail, leaves_for_turn, next_turn}, Mail.{after_message, load_mail_word, take_mail, to_callbacks, told_by_message}, Move.{move_act, move_at, move_item, move_look_at}, Parts.{after_kick, after_leave, after_push, after_return, first_pop, has_others, tells_from}, Poll.{Sight.{Asks, HearsTimer}, act_asked, acts_on, after_begin, pend, resume, sight_by, sight_of as seen_of}, Pop.same_head, Push.in_hand, Search.{claim_half, from_of}, Seen.{left_before, next_at, next_in_poll, polls_at, polls_in, serves_at}, Send.{asks, posted, published_if}, Serve.{after_service, first_numbered, first_to_fire, is_to_fire}, Slots.{Slots, first_in, is_in_slots, is_some_slot, slot_of, vacated}, State.{Desk, Moved, Things, does, gate_of as gate_at, inbox_of, is_dropped, others_left, passed, queue_of, told_left, turns, word_of}, Submit.{Due.{Enrols, Expires}, due_next, first_due, next_gate, staging_due, submits, waits_at}, Thing.{aside, mailbox_of, set_global, set_idle, set_inbox, set_mailbox, with_idle, with_inbox, with_word}, Told.{awaits_no_more, has_number, one_completion, one_output, one_result, told_of_cancel, told_of_drop, told_of_end, told_of_fire, turned_away, waker_of, without_request, without_timer}, declared.{handing.{AfterCallbacks.AfterCallbacks, AfterClaim.AfterClaim, AfterKick.AfterKick, AfterLeave.AfterLeave, AfterPop.AfterPop, AfterPush.AfterPush, AfterSend.AfterSend, AfterSignal.AfterSignal, Heard.Heard, InGlobal.InGlobal, InKick.InKick, InPop.InPop, InSignal.InSignal}, idling.{InRingWait.InRingWait, InScan.InScan, Scan.Scan, Stay.Stay}, place.{AfterService.AfterService, InCallbacks.InCallbacks, InClosing.InClosing, InLoads.InLoads, InMail.InMail, InPick.InPick, InPoll.InPoll, InService.InService, Place.Place, Round.Round, Service.Service}}}
pub use Rattle.exec_opens.specs.{Opens.{OpenState, account_by, account_in, joined, keeping, open_named, with_account, with_named, with_open_in}, declared.opens.WaiterKey.WaiterKey}
pub use Rattle.exec_outcomes.specs.{Accounts.{Account, is_durable}, Lawful.{is_lawful, window_in, window_of}, Outcomes.{Asked, Cursor, Part, bytes_of, counted_for, cursor_next, is_unsupported, moves_on, outcome_next, part_now, refuses_hint}, declared.outcome.{Judged.Judged, Kind.Kind, OpResult.{OpResult, TheVariants.{Count, Errno}}, Outcome.{Outcome, TheVariants.Failure}}}
pub use Rattle.exec_parts.{proofs.Facts.{and_from, and_parts, and_right, by_name, by_number, false_from_ne_true, not-false, not-true, not_same, or_left, or_right, same_Some, same_number, same_self, set_elsewhere, set_there, some_of, true_false, zero_false}, specs.{Awaits.{LetsGo, drops}, Calls.{IsTold, KeepsRoom, as_sent, paying, releasing, sleeper_forwarded, sleeper_removed}, Ending.ClosesOn, MailPosts.{AsksEnd, IsMailbox}, MailTakes.RemovesSleeper, Phased.{IsGoing, IsPhased, IsPrepared, Stage, TurnsChair, closes_at, closing_in, has_left, has_shut, has_stopped, is_complete, root_over, stage_of}, Polls.{MadeAct, OfSlot, sight_of, unobserved, yielded_slot}, Pooled.{OfChair, Sends, asks_if_sent, chair_sent, polling, with_flag, with_raises, woken_slot}, Records.{file_named, number_in, numbers_held, outcome_in}, Roles.{is_pool, owns_runner}, Scripts.{GoesOn, IsAnswered, Plays, is_last}, Serving.{AreKnown, AreTagged, IsOnWheel, cancels_in, changed_at, changed_in, first_tick, flies, flown_in, is_cancel, is_one_of, outcome_of_error}, Spots.{Spot, spot_of, standing_at}, Tests.{IsNextIn, after_callbacks_of, after_kick_of, after_leave_of, after_push_of, after_return_of, has_open_requests, has_put_off, is_anything_told, leave_of, leaves_turn_of, next_callback_of, next_pick_of, next_turn_of, ring_wait_of}, Things.{Goes, Makes, TurnsSlot}, View.{Views, Visible, account_seen, awaited_from, awaits_entry, behind_end, body_in, common_of, completions_in, desk_of, driver_of, gate_seen, gives_up, has_given_up, inbox_at, is_awaited, is_end, letters_in, line_of, mail_of, message_of, number_heard, number_of_key, number_told, numbers_of, numbers_of_passing, open_seen, operations_in, owed_at, own_of, phase_seen, polls_seen, queue_at, queue_seen, raised_times, results_in, seat_seen, seats_seen, slots_from, slots_seen, spot_by, task_seen, tasks_of, things_of, things_with, trailing, trails_wake, visible, wake_poll_in, with_view, word_at}, declared.parts.{held.Held.Held, letters.Letters.Letters, mail.{Reply.Reply, Subject.{Subject, Subject as subject}}, names.Names.Names, record.Record.Record, role.Role.Role, seat.Seat.{Seat as Chair}, shared.Shared.Shared, sleeping.SleeperRecord.SleeperRecord, task_slot.TaskSlot.TaskSlot, worker.{Moments.Moments, PutOff.PutOff, Worker.Worker}}}}
pub use Rattle.exec_request.specs.{Buffers.{length_of, moved_of}, Hints.{AsksOn, has_hint, without_hint}, Judging.{Judges, judged_as}, Kept.kept_of, Requests.{asked_of, cursor_of, deadline_of, gate_of, goes_on_alone, hinted_of, output_of, target_of, window_by}, States.{Ended, asks_cancel}, Syncing.{is_syncing, write_kind}, declared.{output.RequestOutput.RequestOutput, request.Request.{Request as Asking}, results.WaiterState.{TheVariants.{Active, CancelRequested}, WaiterState}, window.Window.Window, write_at.{WriteAtRequest.WriteAtRequest, WriteAtState.WriteAtState}}}
pub use Rattle.exec_ring.specs.{Completions.{completed, is_wake, number_of, result_in}, Files.HasPage, Kernels.{is_of, landed, last_place, with_entry, without_flight}, Rings.{RingState, completions}, Stores.{CoversIn, HasStretch, socket_of}, declared.{completion.{Completion.Completion, Submission.Submission}, file.File.File, store.Store.Store}}
pub use Rattle.exec_task.specs.{Phases.{is_idle as is_cell_idle, is_polled, runnable_of, woken as cell_woken}, Sight.Sight, TaskSet.Set, declared.{body.{Act.Act, Said.Said}, runnable.Runnable.Runnable, task.{Phase.Phase, Task.{Task as TaskCell}}}}
pub use Rattle.exec_time.specs.{Notes.Adds, Sleepers.{IsDue as IsSleepDue, IsFirst, completions_of, wakes_of}, Wheel.{Wheel, moment_of}, declared.{notes.{ForwardedResult.ForwardedResult, Notes.Notes}, timers.{Observer.{Observer as Watching, Observer as sleep}, Sleeper.{Sleeper as Sleeping}}}}
pub use Rattle.exec_waiters.{proofs.Changes.{at_by, entry_of, one_if}, specs.{Events.{IsFirstHeld, asks_cancel_by_orphan, cancelled as cancelled_of, finished, finished_for, orphaned_from, told_by_finish, told_by_orphan, told_to, untaken, waker_in, with_observer}, Ids.{generation_in, index_in, user_data_of}, States.{awaits_tick, file_of, flying_count, gate_in, is_flying, is_held, is_held_at, is_held_by, needs_permit, pending_count, takes_tick, tick_in, tick_of, waiter_at, waiter_of}, Told.{Tells, Told, is_untold, nothing_told, tasks_of as tasks_told}, declared.{deferred.{Answer.Answer, Deferred.Deferred}, observer.Observer.{Observer, TheVariants.{DetachedSync, Forwarded, Local, Orphaned}}, waiter.{Entry.{Entry, TheVariants.{Pending, Ready}}, Waiter.Waiter}, waiter_id.WaiterId.WaiterId}}}
pub use Rattle.exec_words.specs.{Global.{Global, spare_places}, Head.{claim_at, claimed_head}, Idle.{Idle, is_in, lowest_of}, Inbox.{Inbox, batch_handed, batch_taken, has_any, is_wake_root, opens_batch, word_after}, Queue.{Queue, claimed, head_of, tail_of}, Reserved.Reserved, Word.next_batch, declared.{head.Head.Head, idle.WorkerSet.WorkerSet, inbox.Message.Message, word.PureWord.PureWord}}
