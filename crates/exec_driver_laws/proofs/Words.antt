-- The names of other crates that proofs cite, passed on from one place. Declares nothing.
pub use Rattle.std.{proofs.lemmas.{Bool.{cases_lt, eqb-true, not-true}, Grind.{common_steps, get_or-set_at}, List.{Elements.{All-nil, Contains-append_left, Contains-push, Contains-push_cases}, Folds.{list_all-append, list_any-append}, Sums.{sum_by-cons, sum_by_push}, get_or-set_other, get_or_append_left, get_or_past, get_or_push}, Map.Views.any-filter_same, Option.same_Some}, specs.{List.{Contains, list_all, remove}, Option.option_map, Prelude.{IsSomeAnd, count_by, fold, is_none, replicate}}}
pub use Rattle.exec_base.{proofs.Slots.{Changed-set, Updates-free, Updates-write, same_id, some_of_if}, specs.{Slab.{IsPast, Updates, filled, freed, generation_of, next_generation, next_id, removed, slot_at, value_in}, declared.{error.Error.{Error, TheVariants.Timeout}, slab.Slot.{Slot, TheVariants.{Live, Retired, Vacant}}}}}
pub use Rattle.exec_driver.{proofs.{Advancing.all_alone, Arriving.{placed_is, put}, Endings.{one_changed, one_finished}, Granting.{permit_there, same_some}, Serving.reaps_ring, Turns.{completed_there, if_tells}, Windows.deadline_same, Words.{Account, Completion, Deferred, DetachedSync, Driving, Ended, Entry, Forwarded, Id, Local, Observer, OpResult, OpenState, Orphaned, Pending, Posted, Ready, Request, RingState, Slab, Submission, TaskNo, Waiter, WaiterId, account_in, advanced, after_due, after_enrolment, asked_of, asks_cancel, asks_cancel_by_orphan, cancelled, deadline_of, ended, entry_of, eqb_tells, false≢true, file_of, first_of, flight_of, fresh_open, is_among, is_durable, is_flying, is_gated, is_queued, is_some, is_unenrolled, next_completion, one_if, open_after, request_at, result_in, taken_out, tick_for, told_by_finish, value_at, waiter_at, waiter_in, waiter_of, with_account, with_permit, with_tick, written}}, specs.{Admission.Admits, Driving.{is_enrolled, is_full}, Examples.{first, idle, with_one}, Placed.{FliesPermitted, HasDeadlines, ListsRequests, Says}, Service.{Busy, EnrolsOne, Enter, ExpiresOne, GrantsAt, GrantsBelow, NextGate, NoGate, NoStep, NoTurn, OneMore, Parks, Passes, Reached, ReapsOne, Refused, Repeats, ServesInOrder, Staged, StagesAll, StagesEntry, Turn, Waited, WakePoll, entered_if, permit_by, permit_of}, Steps.{Grants, GrantsAs, LandsOne, Reaps, ReapsNext, StagesOne, advanced_to, both, cancel_entry, cancel_staged, cancelled_at, cancelled_from, cancelling, completed_in, enrolled_by, entered, expired, granted, is_control, landed_at, lawful_of, let_go, newcomer, noted, opens_after_end, permit_after, permitted, placed_at, plainly_written, poll_staged, queued_or_ended, swept, swept_from, taken_in, timed_out, told_as, told_at_admission, told_by_cancel, told_by_end, told_by_enrolment, told_by_let_go, wake_entry, with_landings, without_observer}, Turns.must_enter, declared.driver.{reaping.Reaped.Reaped, staging.Granted.Granted}}}
pub use Rattle.exec_lists.{proofs.{Counting.{OneChanged, one_removed}, Names.{among_without, same_tells}}, specs.Lists.{Lists, after_queued, is_same, no_lists, with_cancel, with_queued, withdrawn, without, without_gated}}
pub use Rattle.exec_opens.{proofs.Lines.set_there, specs.{Opens.{displaced, holder_at, holder_in, joined, keeping, open_at, open_named, passed, placed, with_named, with_open, writing}, declared.opens.WaiterKey.WaiterKey}}
pub use Rattle.exec_outcomes.specs.{Accounts.{fresh_account, outcome_at_grant}, Lawful.{is_lawful, window_of}, declared.outcome.{Kind.Kind, OpResult.TheVariants.Errno, Outcome.TheVariants.Failure}}
pub use Rattle.exec_request.specs.{Hints.has_hint, Kept.kept_of, Requests.{cursor_of, gate_of, goes_on_alone, outcome_if_granted, output_of, record_after, window_by}, States.{as_answer, told_by}, declared.{output.RequestOutput.{RequestOutput, TheVariants.Sync}, window.{Opcode.Opcode, Window.Window}}}
pub use Rattle.exec_ring.specs.{Completions.{completed, is_operation, number_of, wake_completion}, Examples.{bytes, send_flying}, Kernels.{Landing, MayAllLand, all_landed, all_taken, allows, entered_with, is_of, landed, last_place, may_land, next_in, posted_left, reaped, taken_as, with_completion, with_entry, with_wake, without_flight, woken}, Landings.Moves, declared.store.Store.Store}
pub use Rattle.exec_time.specs.declared.{notes.ForwardedResult.ForwardedResult, timers.Observation.{Observation, TheVariants.Refresh}}
pub use Rattle.exec_waiters.{proofs.{Changes.at_by, Over.{others, over}}, specs.{Events.{changed_from, ending_of, finished, finished_for, forwarded_from, orphaned_from, output_told, seen_by, taken_from, told_by_close, told_by_orphan, told_to, with_observer, with_waker}, Examples.{here, poll, sync}, Ids.{index_in, user_data_of}, States.{gate_in, is_held_by, is_local, named, named_in, output_at}, Told.{Tells, Told, nothing_told}, declared.deferred.{Answer.Answer, Untaken.Untaken}}}
