-- The names that most proofs cite, passed on from one place. Declares nothing.
pub use Rattle.exec_base.specs.{Slab.{Slab, value_at, written}, declared.{slab.Id.Id, task_no.TaskNo.TaskNo}}
pub use Rattle.exec_driver.specs.{Driving.{Driving, is_enrolled, request_at, is_queued, is_gated, is_unenrolled, is_cancelled, seen}, Sound.{IsSound, IsHeld, is_at_tick, is_tick, is_unpermitted, is_undated, may_cancel}, Steps.{fallen_due, all_due, advanced_to, ended, cancelling, is_control, under_way_after, armed_after, tick_for, lower, lowest_gate, noted, taken_out, open_after}}
pub use Rattle.exec_lists.specs.{Lists.{Lists, is_among, with_due, is_same, without, first_of, rest_of, after_due, after_enrolment, with_queued}, Listed.{IsListed, count_of, are_all, is_once}}
pub use Rattle.exec_opens.specs.Opens.{OpenState, account_in, with_account, fresh_open}
pub use Rattle.exec_outcomes.specs.{Accounts.{Account, is_durable}, Outcomes.Asked, declared.outcome.{Kind.Kind, OpResult.OpResult}}
pub use Rattle.exec_request.specs.{Requests.{deadline_of, asked_of, hinted_of}, States.{Ended, asks_cancel}, declared.{request.Request.Request, results.WaiterState.{WaiterState, TheVariants.{Active, CancelRequested}}}}
pub use Rattle.exec_ring.specs.{Completions.{wake_completion, result_in}, Kernels.{Landing, landed, may_land, reaped, next_completion, next_in, posted_left, flight_of}, Rings.{taken_places, RingState}, declared.completion.{Completion.Completion, Posted.Posted, Submission.Submission}}
pub use Rattle.exec_time.specs.{Turning.{advanced, turned}, Wheel.{Wheel, tick_at, least_active, moment_of, target_of, scheduled}, WheelView.{room_of, wheel_of}}
pub use Rattle.exec_waiters.{proofs.Changes.{one_if, entry_of}, specs.{Events.{told_by_finish, cancelled, changed, with_permit, with_tick, may_complete, asks_cancel_by_orphan}, States.{waiter_at, tick_in, tick_of, waiter_in, waiter_of, is_flying, pending_count, flying_count, gate_in, needs_permit, takes_tick, is_unset, file_of, file_in}, Told.Tells, declared.{deferred.Deferred.Deferred, observer.Observer.{Observer, TheVariants.{Local, Forwarded, DetachedSync, Orphaned}}, waiter.{Entry.{Entry, TheVariants.{Pending, Ready}}, Waiter.Waiter}, waiter_id.WaiterId.WaiterId}}}
pub use Rattle.std.{proofs.lemmas.Bool.{false≢true, ltb-true, ltb-false, cases_Bool, and_parts, and_from, or_parts, not-true, not-false, or_left, or_right, cond_both, Decides.eqb_tells}, specs.Prelude.is_some}
