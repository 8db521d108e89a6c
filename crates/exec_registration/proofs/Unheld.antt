-- What was let go is held by nobody, and what is to wake a task is found to do so.
use Rattle.std.proofs.{Common.{◌≡◌, Bool, true, false, Option, Some, None, refl, ap}, lemmas.Bool.eq-eqb}
use Rattle.exec_base.{proofs.Slots.{Changed-set, IsLiveAt-from_value, Updates-free, Updates-write, live_within, was_live}, specs.{Slab.{Slab, value_at, written, removed, freed}, declared.{slab.Id.Id, task_no.TaskNo.TaskNo}}}
use Rattle.exec_driver.specs.{Driving.Driving, Steps.{let_go, cancelled_from}}
use Rattle.exec_request.specs.{Requests.goes_on_alone, States.asks_cancel}
use Rattle.exec_time.specs.{Sleepers.{observation, is_forwarded}, declared.timers.{Observation.TheVariants.{Pending as IsAwaited, Refresh}, Observer.TheVariants.Local as ByTask, Sleeper.Sleeper}}
use Rattle.exec_waiters.specs.{Events.{cancelled, changed, seen_by, with_observer, with_waker}, States.{is_held_at, is_held_by, may_be_seen, waiter_of}, declared.{observer.Observer.TheVariants.Orphaned, waiter.{Entry.{Entry, TheVariants.{Pending, Ready}}, Waiter.Waiter}, waiter_id.WaiterId.WaiterId}}

module _ {T : Type 0} where
  -- what is written stands there, and what is removed doesn't
  at_written : (s : Slab T) (id : Id) (was is : T) → value_at s id ≡ Some was → value_at (written s id is) id ≡ Some is
  at_written s id was is at = (Updates-write s id is (rw at refl)).changed

  at_removed : (s : Slab T) (id : Id) (was : T) → value_at s id ≡ Some was → value_at (removed s id) id ≡ None
  at_removed s id was at =
      let live = IsLiveAt-from_value s.slots id.index id.generation s.first (rw at refl) in
      let held = was_live s id (rw at refl) in
      (Updates-free s (removed s id) id held.0 (Changed-set s (removed s id) id.index (freed id.generation) refl refl (live_within s.slots id.index id.generation live.value live.is)) held.1).changed

-- a sleeper that was removed, or wasn't there, is gone
pub timer_gone : {S : Type 0} → (s new : Slab (Sleeper S)) (id : Id) (o : Option (Sleeper S)) → value_at s id ≡ o → ((sleeper : Sleeper S) → value_at s id ≡ Some sleeper → new ≡ removed s id) → (value_at s id ≡ None → new ≡ s) → value_at new id ≡ None
timer_gone s new id None at gone same = rw (same at) at
timer_gone s new id (Some sleeper) at gone same = rw (gone sleeper at) (at_removed s id sleeper at)

module _ {S F : Type 0} where
  -- a request that nobody waits for is cancelled, or over
  cancelled_unheld : (d : Driving S F) (id : WaiterId) (w : Waiter S F) (flies asks : Bool) → value_at d.requests id.0 ≡ Some (Pending w) → w.in_flight ≡ flies → asks_cancel w.state ≡ asks → w.observer ≡ Orphaned → is_held_at (value_at (cancelled_from d id (Some w)).requests id.0) ≡ false
  cancelled_unheld d id w true true at flying asked alone = rw (flying, asked, at, alone) refl
  cancelled_unheld d id w true false at flying asked alone =
      rw (flying, asked, at_written d.requests id.0 (Pending w) (Pending (record (cancelled w) { in_flight = true })) at, alone) refl
  cancelled_unheld d id w false asks at flying asked alone =
      rw (flying, alone, at_removed d.requests id.0 (Pending w) at) refl

  pending_unheld : (d : Driving S F) (id : WaiterId) (w : Waiter S F) (held goes : Bool) → value_at d.requests id.0 ≡ Some (Pending w) → is_held_by w.observer ≡ held → goes_on_alone w.request ≡ goes → is_held_at (value_at (let_go d id).requests id.0) ≡ false
  pending_unheld d id w false goes at holds alone = rw (at, holds, at, holds) refl
  pending_unheld d id w true true at holds alone =
      rw (at, holds, alone, at_written d.requests id.0 (Pending w) (Pending (with_observer Orphaned w)) at) refl
  pending_unheld d id w true false at holds alone =
      let v : Waiter S F = with_observer Orphaned w in
      let e : Driving S F = record d { requests = written d.requests id.0 (Pending v) } in
      let there : value_at e.requests id.0 ≡ Some (Pending v) = at_written d.requests id.0 (Pending w) (Pending v) at in
      rw (at, holds, alone, ap waiter_of there) (cancelled_unheld e id v v.in_flight (asks_cancel v.state) there refl refl refl)

  unheld_from : (d : Driving S F) (id : WaiterId) (o : Option (Entry S F)) → value_at d.requests id.0 ≡ o → is_held_at (value_at (let_go d id).requests id.0) ≡ false
  unheld_from d id None at = rw (at, at) refl
  unheld_from d id (Some (Ready told)) at = rw (at, at_removed d.requests id.0 (Ready told) at) refl
  unheld_from d id (Some (Pending w)) at = pending_unheld d id w (is_held_by w.observer) (goes_on_alone w.request) at refl refl

  -- nobody holds a request that was let go
  pub let_go_unheld : (d : Driving S F) (id : WaiterId) → is_held_at (value_at (let_go d id).requests id.0) ≡ false
  let_go_unheld d id = unheld_from d id (value_at d.requests id.0) refl

  -- a request that is to wake a task is found to do so, and the task may look at it
  pub request_wakes : (s : Slab (Entry S F)) (id : Id) (task : TaskNo) (o : Option (Entry S F)) → value_at s id ≡ o → may_be_seen o ≡ true → seen_by task o ≡ Refresh → (seen_by task (value_at (changed s id (with_waker task)) id) ≡ IsAwaited) × (may_be_seen (value_at (changed s id (with_waker task)) id) ≡ true)
  request_wakes s id task None at seen stale = absurd (cc)
  request_wakes s id task (Some (Ready told)) at seen stale = absurd (cc)
  request_wakes s id task (Some (Pending w)) at seen stale =
      rw (at, at_written s id (Pending w) (Pending (with_waker task w)) at, eq-eqb task.0 task.0 refl) (refl, refl)

module _ {S : Type 0} where
  -- and so is a sleeper
  pub sleeper_wakes : (s new : Slab (Sleeper S)) (id : Id) (task : TaskNo) (o : Option (Sleeper S)) → value_at s id ≡ o → observation task o ≡ Refresh → ((sleeper : Sleeper S) → value_at s id ≡ Some sleeper → new ≡ written s id (record sleeper { observer = ByTask task })) → (observation task (value_at new id) ≡ IsAwaited) × (is_forwarded (value_at new id) ≡ false)
  sleeper_wakes s new id task None at stale set = absurd (cc)
  sleeper_wakes s new id task (Some sleeper) at stale set =
      rw (set sleeper at, at_written s id sleeper (record sleeper { observer = ByTask task }) at, eq-eqb task.0 task.0 refl) (refl, refl)
