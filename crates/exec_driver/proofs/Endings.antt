-- A request that ends, or is cancelled, keeps a driver sound.
use Rattle.std.{proofs.Common.{◌≡◌, ℕ, ◌+◌, ◌<◌, ◌≤◌, true, false, [], ◌∷◌, length, Option, Some, None, refl, sym, ap, ◌∙◌, inr, arith, length-append}, specs.Option.IfSome}
use Rattle.exec_driver.{proofs.Words.{is_some, Slab, value_at, written, Id, Account, Ended, asks_cancel, Wheel, told_by_finish, cancelled, changed, waiter_at, is_flying, pending_count, tick_in, Observer, Local, Forwarded, DetachedSync, Orphaned, Waiter, Entry, Pending, Ready, WaiterId, WaiterState, CancelRequested, entry_of, one_if, Driving, request_at, is_queued, is_gated, is_unenrolled, is_enrolled, is_cancelled, without, IsSound, IsHeld, is_tick, is_unpermitted, is_undated, is_at_tick, may_cancel, count_of, Tells, Deferred, ended, cancelling, not-true, not-false}, specs.Steps.{unscheduled, told_by_cancel, timed_out}}
use Rattle.exec_lists.proofs.{Names.fewer_without, Counting.{OneChanged, same_written, one_written, one_removed, pending_is, flying_is}, Shifts.{Left, Kept, Joined, shifted, nowhere, room_for}}
use Rattle.exec_request.specs.{Requests.output_of, declared.output.RequestOutput.RequestOutput}
use Rattle.exec_time.specs.Wheel.{removed}
use Rattle.exec_waiters.specs.{Events.{finished, finished_for}, States.is_idle}

-- the active entries of the wheel without one
pub ticks_after : (w : Wheel) (tick : Option ℕ) (n n' : ℕ → ℕ) → ((t : ℕ) → w.active t ≡ n t) → ((t : ℕ) → n' t + one_if (is_tick t tick) ≡ n t) → (t : ℕ) → (unscheduled w tick).active t ≡ n' t
unfolding removed
ticks_after = grind arith

pub ready_after : (w : Wheel) (tick : Option ℕ) → (unscheduled w tick).ready ≡ w.ready
unfolding removed
ready_after = grind arith

-- what stands in the wheel is active there
pub active_there : (tick : Option ℕ) (n : ℕ → ℕ) → ((t : ℕ) → one_if (is_tick t tick) ≤ n t) → IfSome tick (λ t. 0 < n t)
active_there = grind arith

-- who asked for a cancel
state_of : (s : WaiterState) → asks_cancel s ≡ true → s ≡ CancelRequested
state_of = grind arith

module _ {S F : Type 0} where
  -- a request without an operation is there
  pub record IsIdle (o : Option (Waiter S F)) : Type 0 where
    pub w : Waiter S F
    pub is : o ≡ Some w
    pub idle : w.in_flight ≡ false

  pub idle_there : (o : Option (Waiter S F)) → is_idle o ≡ true → IsIdle o
  idle_there = grind arith

  -- a request in flight is there
  pub record IsFlying (o : Option (Waiter S F)) : Type 0 where
    pub w : Waiter S F
    pub is : o ≡ Some w
    pub flies : w.in_flight ≡ true

  pub flying_there : (o : Option (Waiter S F)) → is_flying o ≡ true → IsFlying o
  flying_there = grind arith

  pub pending_there : (o : Option (Waiter S F)) → is_some o ≡ true → is_flying o ≡ false → IsIdle o
  pending_there = grind arith

  -- what a change of a request is
  pub changed_is : (s : Slab (Entry S F)) (id : Id) (w : Waiter S F) (f : Waiter S F → Waiter S F) → waiter_at s id ≡ Some w → changed s id f ≡ written s id (Pending (f w))
  changed_is s id w f at = rw (entry_of _ w at) refl

  -- a cancel that was asked for changes nothing more
  pub cancelled_before : (s : Slab (Entry S F)) (id : Id) (w : Waiter S F) → waiter_at s id ≡ Some w → asks_cancel w.state ≡ true → changed s id cancelled ≡ s
  cancelled_before s id w at asked =
      let same : cancelled w ≡ w = ap (λ (st : WaiterState). record w { state = st }) (sym (state_of w.state asked)) in
      changed_is s id w cancelled at ∙ ap (λ (v : Waiter S F). written s id (Pending v)) same ∙ same_written s id (Pending w) (entry_of _ w at)

  pub unasked : (o : Option (Waiter S F)) (w : Waiter S F) → o ≡ Some w → may_cancel o ≡ true → asks_cancel w.state ≡ false
  unasked o w is may = not-true _ (rw is at may)

  pub asked : (o : Option (Waiter S F)) (w : Waiter S F) → o ≡ Some w → may_cancel o ≡ false → asks_cancel w.state ≡ true
  asked o w is may = not-false _ (rw is at may)

  finished_by : (s : Slab (Entry S F)) (id : Id) (w : Waiter S F) (told : RequestOutput) (observer : Observer S F) → value_at s id ≡ Some (Pending w) → OneChanged s (finished_for s id told observer) id (Some w) None
  finished_by s id w told (Local waker) at = one_written s id (Pending w) (Ready told) at
  finished_by s id w told (Forwarded sender) at = one_removed s id (Pending w) at
  finished_by s id w told (DetachedSync sender) at = one_removed s id (Pending w) at
  finished_by s id w told Orphaned at = one_removed s id (Pending w) at

  pub one_finished : (s : Slab (Entry S F)) (id : Id) (w : Waiter S F) (how : Ended) (account : Option Account) → waiter_at s id ≡ Some w → OneChanged s (finished s id w how account) id (Some w) None
  one_finished s id w how account at = finished_by s id w (output_of w.request how account) w.observer (entry_of _ w at)

  pub one_changed : (s : Slab (Entry S F)) (id : Id) (w w' : Waiter S F) → waiter_at s id ≡ Some w → OneChanged s (written s id (Pending w')) id (Some w) (Some w')
  one_changed s id w w' at = one_written s id (Pending w) (Pending w') (entry_of _ w at)

  -- its tick is active in the wheel
  pub ticked_in : (s : Slab (Entry S F)) (active : ℕ → ℕ) (id : Id) (w : Waiter S F) → waiter_at s id ≡ Some w → ((t : ℕ) → active t ≡ count_of (is_at_tick t) s) → IfSome (tick_in w.state) (λ t. 0 < active t)
  ticked_in s active id w at counts =
      let gone = one_removed s id (Pending w) (entry_of _ w at) in
      active_there (tick_in w.state) active (λ t. let n = gone.numbers (is_at_tick t) refl in omega (arith, n, counts t))

  pub ticked : (d : Driving S F) (id : WaiterId) (w : Waiter S F) → request_at d id ≡ Some w → IsSound d → IfSome (tick_in w.state) (λ t. 0 < d.wheel.active t)
  ticked d id w at sound = ticked_in d.requests d.wheel.active id.0 w at sound.ticks

  pub sound_ended : (d : Driving S F) (id : WaiterId) (w : Waiter S F) (how : Ended) (account : Option Account) → request_at d id ≡ Some w → w.in_flight ≡ false → IsSound d → IsSound (ended d id w how account)
  sound_ended d id w how account at idle sound =
      let one = one_finished d.requests id.0 w how account at in
      let fewer = one.numbers is_some refl in
      let flying = rw idle at (one.numbers is_flying refl) in
      let uncancelled = one.numbers may_cancel refl in
      let s' = finished d.requests id.0 w how account in
      record {
        queued = shifted is_queued _ _ id _ _ _ _ one (Left refl) sound.queued;
        gated = shifted is_gated _ _ id _ _ _ _ one (Left refl) sound.gated;
        enrolments = shifted is_unenrolled _ _ id _ _ _ _ one (Left refl) sound.enrolments;
        due = shifted is_enrolled _ _ id _ _ _ _ one (Left refl) sound.due;
        cancels = shifted is_cancelled _ _ id _ _ _ _ one (Left refl) sound.cancels;
        permits = nowhere is_unpermitted _ _ id.0 _ _ one refl sound.permits;
        dated = nowhere is_undated _ _ id.0 _ _ one refl sound.dated;
        ticks = ticks_after d.wheel (tick_in w.state) (λ t. count_of (is_at_tick t) d.requests) (λ t. count_of (is_at_tick t) s') sound.ticks (λ t. let n = one.numbers (is_at_tick t) refl in omega (arith, n));
        drained = ready_after d.wheel (tick_in w.state) ∙ sound.drained;
        entries = omega (arith, sound.entries, flying, flying_is d.requests, flying_is s');
        places = omega (arith, sound.places, fewer, uncancelled, fewer_without id d.lists.cancels, pending_is d.requests, pending_is s');
      }

  pub held_ended : (d : Driving S F) (id : WaiterId) (w : Waiter S F) (how : Ended) (account : Option Account) (room room' most spots : ℕ) → request_at d id ≡ Some w → w.in_flight ≡ false → room ≤ room' → IsHeld d room most spots → IsHeld (ended d id w how account) room' most spots
  held_ended d id w how account room room' most spots at idle more held =
      let s' = finished d.requests id.0 w how account in
      let fewer = (one_finished d.requests id.0 w how account at).numbers is_some refl in
      let sound = sound_ended d id w how account at idle held.sound in
      let within : pending_count s' ≤ d.lists.room = omega (arith, held.room, fewer, pending_is d.requests, pending_is s') in
      let wheel_room : length (without id d.lists.enrolments) ≤ room' = omega (arith, held.wheel_room, more, fewer_without id d.lists.enrolments) in
      assumption (sound, within, wheel_room)

  -- CANCELS

  -- what is told of one that has no operation
  pub told_idle : (before after : Deferred S F) (id : WaiterId) (o : Option (Waiter S F)) (w : Waiter S F) → o ≡ Some w → w.in_flight ≡ false → Tells before after (told_by_finish id.0 w timed_out None) → Tells before after (told_by_cancel id o)
  told_idle before after id o w is idle told = rw (is, idle) told

  pub sound_cancelling : (d : Driving S F) (id : WaiterId) (w : Waiter S F) → request_at d id ≡ Some w → w.in_flight ≡ true → asks_cancel w.state ≡ false → IsSound d → IsSound (cancelling d id w)
  sound_cancelling d id w at flies un sound =
      let one = one_changed d.requests id.0 w (cancelled w) at in
      let same = one.numbers is_some refl in
      let flying = one.numbers is_flying refl in
      let uncancelled = rw un at (one.numbers may_cancel refl) in
      let s' = written d.requests id.0 (Pending (cancelled w)) in
      record {
        queued = shifted is_queued _ _ id _ _ _ _ one (Kept refl (inr (rw flies refl))) sound.queued;
        gated = shifted is_gated _ _ id _ _ _ _ one (Kept refl (inr (rw flies refl))) sound.gated;
        enrolments = shifted is_unenrolled _ _ id _ _ _ _ one (Kept refl (inr (rw flies refl))) sound.enrolments;
        due = shifted is_enrolled _ _ id _ _ _ _ one (Left refl) sound.due;
        cancels = shifted is_cancelled _ _ id _ _ _ _ one (Joined refl un refl) sound.cancels;
        permits = nowhere is_unpermitted _ _ id.0 _ _ one (ap is_unpermitted (sym one.was_at) ∙ sound.permits id.0) sound.permits;
        dated = nowhere is_undated _ _ id.0 _ _ one refl sound.dated;
        ticks = ticks_after d.wheel (tick_in w.state) (λ t. count_of (is_at_tick t) d.requests) (λ t. count_of (is_at_tick t) s') sound.ticks (λ t. let n = one.numbers (is_at_tick t) refl in omega (arith, n));
        drained = ready_after d.wheel (tick_in w.state) ∙ sound.drained;
        entries = omega (arith, sound.entries, flying, flying_is d.requests, flying_is s');
        places = omega (arith, sound.places, same, uncancelled, length-append d.lists.cancels (id ∷ []), pending_is d.requests, pending_is s');
      }

  pub held_cancelling : (d : Driving S F) (id : WaiterId) (w : Waiter S F) (room room' most spots : ℕ) → request_at d id ≡ Some w → w.in_flight ≡ true → asks_cancel w.state ≡ false → room ≤ room' → IsHeld d room most spots → IsHeld (cancelling d id w) room' most spots
  held_cancelling d id w room room' most spots at flies un more held =
      let s' = written d.requests id.0 (Pending (cancelled w)) in
      let same = (one_changed d.requests id.0 w (cancelled w) at).numbers is_some refl in
      let sound = sound_cancelling d id w at flies un held.sound in
      let within : pending_count s' ≤ d.lists.room = omega (arith, held.room, same, pending_is d.requests, pending_is s') in
      let wheel_room : length d.lists.enrolments ≤ room' = omega (arith, held.wheel_room, more) in
      assumption (sound, within, wheel_room)

  pub room_to_cancel : (d : Driving S F) (id : WaiterId) (w : Waiter S F) (room most spots : ℕ) → request_at d id ≡ Some w → w.in_flight ≡ true → asks_cancel w.state ≡ false → IsHeld d room most spots → length d.lists.cancels < d.lists.room
  room_to_cancel d id w room most spots at flies un held =
      let one = one_changed d.requests id.0 w (cancelled w) at in
      let same = one.numbers is_some refl in
      let s' = written d.requests id.0 (Pending (cancelled w)) in
      room_for is_cancelled d.requests s' id (Some w) (cancelled w) d.lists.cancels d.lists.room refl one un refl held.sound.cancels (omega (arith, held.room, same, pending_is d.requests, pending_is s'))
