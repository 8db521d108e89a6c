-- A permit, a deadline that is enrolled, and one that has come, keep a driver as it should be.
use Rattle.std.proofs.Common.{◌≡◌, ℕ, ◌+◌, ◌<◌, ◌≤◌, Bool, true, false, not, ◌&&◌, List, [], ◌∷◌, ◌++◌, length, Option, Some, None, refl, sym, ap, ◌∙◌, inl, inr, arith}
use Rattle.exec_driver.{proofs.{Words.{is_some, false≢true, Slab, written, Id, is_durable, asked_of, deadline_of, asks_cancel, Active, Wheel, with_permit, with_tick, waiter_at, is_flying, needs_permit, Waiter, Entry, Pending, WaiterId, one_if, Driving, request_at, is_queued, is_gated, is_unenrolled, is_enrolled, is_cancelled, first_of, rest_of, is_among, with_queued, after_enrolment, IsSound, IsHeld, is_unpermitted, is_undated, is_at_tick, is_tick, may_cancel, are_all, is_once, count_of, and_parts}, Endings.one_changed, Stepping.{stays, there_by, first_tells}, Arriving.durable_gated}, specs.Placed.{ListsRequests, HasDeadlines, FliesPermitted, Says}}
use Rattle.exec_lists.{proofs.{Names.same_tells, Counting.{pending_is, flying_is}, Shifts.{Left, Kept, Joined, First, shifted, nowhere, room_for}}, specs.Lists.without_gated}
use Rattle.exec_ring.specs.Kernels.{MayAllLand, all_taken}
use Rattle.exec_time.specs.Wheel.{scheduled}

-- one more is active at a tick
ticks_more : (w : Wheel) (id : Id) (tick : ℕ) (n n' : ℕ → ℕ) → ((t : ℕ) → w.active t ≡ n t) → ((t : ℕ) → n' t ≡ n t + one_if (is_tick t (Some tick))) → (t : ℕ) → (scheduled w id tick).active t ≡ n' t
unfolding scheduled
ticks_more = grind arith

ready_scheduled : (w : Wheel) (id : Id) (tick : ℕ) → (scheduled w id tick).ready ≡ w.ready
unfolding scheduled
ready_scheduled w id tick = refl

pub permit_there : (b : Bool) → (b && not true) ≡ false
permit_there = grind arith

-- a choice that is both is one
pub same_some : {A : Type 0} (o : Option A) (x y : A) → o ≡ Some x → o ≡ Some y → x ≡ y
same_some o x y a b = cc

-- the first of a list isn't there twice
pub once_first : (id : WaiterId) (ids : List WaiterId) → is_once ids ≡ true → first_of ids ≡ Some id → is_among id (rest_of ids) ≡ false
once_first = grind arith

granted_by : (flies durable permit : Bool) → (flies && (durable && not permit)) ≡ false → flies ≡ true → durable ≡ true → permit ≡ true
granted_by = grind arith

module _ {S F : Type 0} where
  -- what is listed is in its place
  pub among_in : (p : Option (Waiter S F) → Bool) (s : Slab (Entry S F)) (id : WaiterId) (ids : List WaiterId) → are_all p s ids ≡ true → is_among id ids ≡ true → p (waiter_at s id.0) ≡ true
  among_in p s id [] all among = absurd (false≢true among)
  among_in p s id (x ∷ ids) all among =
      let parts = and_parts (p (waiter_at s x.0)) (are_all p s ids) all in
      elim (same_tells x id) [
        | inl same ↦ rw (← same.1) parts.0
        | inr other ↦ among_in p s id ids parts.1 (rw other.0 at among)
      ]

  pub flies_permitted : (d : Driving S F) → IsSound d → FliesPermitted d
  flies_permitted d sound =
      record { flies = λ id w file at flies gate. granted_by w.in_flight (is_durable (asked_of w.request).kind) w.permit (ap is_unpermitted (sym at) ∙ sound.permits id.0) flies (durable_gated w.request ∙ ap is_some gate) }

  pub has_deadlines : (d : Driving S F) → IsSound d → HasDeadlines d
  has_deadlines = grind arith

  pub lists_requests : (d : Driving S F) → IsSound d → ListsRequests d
  lists_requests = grind (arith, among_in, is_queued, is_gated, is_unenrolled, is_enrolled, is_cancelled, once_first)

  pub says_of : (d : Driving S F) → IsSound d → MayAllLand d.landings (all_taken d.ring) → Says d
  says_of d sound lands = record { permitted = flies_permitted d sound; lists = lists_requests d sound; dated = has_deadlines d sound; lands = lands }

  -- one that waits at a gate
  pub record IsWaiting (w : Waiter S F) : Type 0 where
    pub idle : w.in_flight ≡ false
    pub lacks : needs_permit w ≡ true
    pub active : asks_cancel w.state ≡ false

  pub waiting_tells : (w : Waiter S F) → is_gated (Some w) ≡ true → IsWaiting w
  waiting_tells = grind arith

  pub permitted_now : (w : Waiter S F) → needs_permit (with_permit w) ≡ false
  permitted_now w = permit_there _

  -- who stands in the list of those that wait is there, and waits
  pub record IsThere (d : Driving S F) (id : WaiterId) : Type 0 where
    pub w : Waiter S F
    pub at : request_at d id ≡ Some w
    pub waits : IsWaiting w

  pub gated_there : (d : Driving S F) (id : WaiterId) → IsSound d → is_among id d.lists.gated ≡ true → IsThere d id
  gated_there d id sound among =
      let place = among_in is_gated d.requests id d.lists.gated sound.gated.all among in
      let there = there_by is_gated (waiter_at d.requests id.0) refl place in
      record { w = there.0; at = there.1; waits = waiting_tells there.0 (rw there.1 at place) }

  pub held_permitted : (d : Driving S F) (id : WaiterId) (w : Waiter S F) (room most spots : ℕ) → request_at d id ≡ Some w → IsWaiting w → IsHeld d room most spots → IsHeld (record d { requests = written d.requests id.0 (Pending (with_permit w)); lists = without_gated id d.lists }) room most spots
  held_permitted d id w room most spots at waits held =
      let sound = held.sound in
      let w' = with_permit w in
      let one = one_changed d.requests id.0 w w' at in
      let same = one.numbers is_some refl in
      let flying = one.numbers is_flying refl in
      let uncancelled = one.numbers may_cancel refl in
      let s' = written d.requests id.0 (Pending w') in
      record {
        sound = record {
          queued = shifted is_queued _ _ id _ _ _ _ one (Kept refl (inr (rw (waits.idle, waits.active, waits.lacks) refl))) sound.queued;
          gated = shifted is_gated _ _ id _ _ _ _ one (Left refl) sound.gated;
          enrolments = shifted is_unenrolled _ _ id _ _ _ _ one (stays is_unenrolled (Some w) (Some w') id _ refl) sound.enrolments;
          due = shifted is_enrolled _ _ id _ _ _ _ one (stays is_enrolled (Some w) (Some w') id _ refl) sound.due;
          cancels = shifted is_cancelled _ _ id _ _ _ _ one (stays is_cancelled (Some w) (Some w') id _ refl) sound.cancels;
          permits = nowhere is_unpermitted _ _ id.0 _ _ one (rw waits.idle refl) sound.permits;
          dated = nowhere is_undated _ _ id.0 _ _ one (ap is_undated (sym one.was_at) ∙ sound.dated id.0) sound.dated;
          ticks = λ t. let n = one.numbers (is_at_tick t) refl in omega (arith, n, sound.ticks t);
          drained = sound.drained;
          entries = omega (arith, sound.entries, flying, flying_is d.requests, flying_is s');
          places = omega (arith, sound.places, same, uncancelled, pending_is d.requests, pending_is s');
        };
        room = omega (arith, held.room, same, pending_is d.requests, pending_is s');
        wheel_room = held.wheel_room;
        limit = held.limit;
        places = held.places;
      }

  pub held_granted : (d : Driving S F) (id : WaiterId) (w : Waiter S F) (room most spots : ℕ) → request_at d id ≡ Some w → IsWaiting w → IsHeld d room most spots → IsHeld (record d { requests = written d.requests id.0 (Pending (with_permit w)); lists = with_queued id (without_gated id d.lists) }) room most spots
  held_granted d id w room most spots at waits held =
      let before = held_permitted d id w room most spots at waits held in
      let one = one_changed d.requests id.0 w (with_permit w) at in
      let queued = shifted is_queued _ _ id _ _ _ (d.lists.queued ++ id ∷ []) one (Joined refl (rw (waits.idle, waits.active, waits.lacks) refl) (rw (waits.idle, waits.active, permitted_now w) refl)) held.sound.queued in
      assumption (before, queued)

  pub room_to_grant : (d : Driving S F) (id : WaiterId) (w : Waiter S F) (room most spots : ℕ) → request_at d id ≡ Some w → IsWaiting w → IsHeld d room most spots → length d.lists.queued < d.lists.room
  room_to_grant d id w room most spots at waits held =
      let one = one_changed d.requests id.0 w (with_permit w) at in
      let same = one.numbers is_some refl in
      let s' = written d.requests id.0 (Pending (with_permit w)) in
      room_for is_queued d.requests s' id (Some w) (with_permit w) d.lists.queued d.lists.room refl one (rw (waits.idle, waits.active, waits.lacks) refl) (rw (waits.idle, waits.active, permitted_now w) refl) held.sound.queued (omega (arith, held.room, same, pending_is d.requests, pending_is s'))

  -- ENROLLED
  pub record IsUnset (w : Waiter S F) : Type 0 where
    pub idle : w.in_flight ≡ false
    pub state : w.state ≡ Active None
    pub deadline : is_some (deadline_of w.request) ≡ true

  pub unset_tells : (w : Waiter S F) → is_unenrolled (Some w) ≡ true → IsUnset w
  unset_tells = grind arith

  pub held_enrolled : (d : Driving S F) (id : WaiterId) (w : Waiter S F) (tick room room' most spots : ℕ) → request_at d id ≡ Some w → first_of d.lists.enrolments ≡ Some id → IsUnset w → room ≤ room' + 1 → IsHeld d room most spots → IsHeld (record d { requests = written d.requests id.0 (Pending (with_tick tick w)); wheel = scheduled d.wheel id.0 tick; lists = after_enrolment d.lists }) room' most spots
  held_enrolled d id w tick room room' most spots at first unset more held =
      let sound = held.sound in
      let w' = with_tick tick w in
      let one = one_changed d.requests id.0 w w' at in
      let same = one.numbers is_some refl in
      let flying = one.numbers is_flying refl in
      let uncancelled = rw unset.state at (one.numbers may_cancel refl) in
      let s' = written d.requests id.0 (Pending w') in
      let long = ap length (first_tells d.lists.enrolments id first) in
      record {
        sound = record {
          queued = shifted is_queued _ _ id _ _ _ _ one (stays is_queued (Some w) (Some w') id _ (rw unset.state refl)) sound.queued;
          gated = shifted is_gated _ _ id _ _ _ _ one (stays is_gated (Some w) (Some w') id _ (rw unset.state refl)) sound.gated;
          enrolments = shifted is_unenrolled _ _ id _ _ _ _ one (First (first_tells d.lists.enrolments id first)) sound.enrolments;
          due = shifted is_enrolled _ _ id _ _ _ _ one (Kept refl (inl refl)) sound.due;
          cancels = shifted is_cancelled _ _ id _ _ _ _ one (Kept refl (inr (rw unset.state refl))) sound.cancels;
          permits = nowhere is_unpermitted _ _ id.0 _ _ one (rw unset.idle refl) sound.permits;
          dated = nowhere is_undated _ _ id.0 _ _ one (rw unset.deadline refl) sound.dated;
          ticks = ticks_more d.wheel id.0 tick (λ t. count_of (is_at_tick t) d.requests) (λ t. count_of (is_at_tick t) s') sound.ticks (λ t. let n = rw unset.state at (one.numbers (is_at_tick t) refl) in omega (arith, n));
          drained = ready_scheduled d.wheel id.0 tick ∙ sound.drained;
          entries = omega (arith, sound.entries, flying, flying_is d.requests, flying_is s');
          places = omega (arith, sound.places, same, uncancelled, pending_is d.requests, pending_is s');
        };
        room = omega (arith, held.room, same, pending_is d.requests, pending_is s');
        wheel_room = omega (arith, held.wheel_room, long, more);
        limit = held.limit;
        places = held.places;
      }
