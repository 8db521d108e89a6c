-- The request whose deadline has come first.
use Rattle.exec_time.specs.Wheel.{removed}
use Rattle.exec_invariants.{proofs.{Names.{◌≡◌, ℕ, suc, ◌<◌, ◌^◌, ◌&&◌, not, arith, Bool, true, false, List, [], ◌∷◌, length, Option, Some, None, refl, sym, ap, ◌∙◌, slice_get, slice_set, is_some, if◌then◌else◌, Err, false≢true, deque_capacity, value_at, Timeout, Wheel, deadline_of, asks_cancel, WaiterState, Active, CancelRequested, waiter_at, tick_in, Tells, Waiter, WaiterId, entry_of, request_at, is_enrolled, IsPunctual, expired_at, told_by_cancel, unscheduled, first_of, Event, Expire, RequestPhase, Request, Configuration, Own, Common, outcome_at_expiry, expired, is_first_due, joined_if, is_in_flight, is_queued, is_gated, first_numbered, Desk, due_next, first_due, Expires, Reply, Record, Shared, Worker, number_in, changed_at, changed_in, driver_of, some_of, Place, Id}, Enrolled.timed_free, Known.low_there, Resolving.slab_after, Staging.among_first}, specs.{Names.IsAlike, Submits.IsDueIn, Sound.SoundAt}}

-- nobody asked for the cancel of what stands on the wheel
unasked_by : (x : WaiterState) (t : ℕ) → tick_in x ≡ Some t → asks_cancel x ≡ false
unasked_by (Active tick) t h = refl
unasked_by CancelRequested t h = absurd (cc)

-- whose it is
pub record DueAt {B : Type 0} (w : Worker) (s : Shared B) (id : WaiterId) : Type 0 where
  pub it : Waiter Reply Reply
  pub r : Record
  pub tick : ℕ
  pub live : waiter_at (driver_of w).requests id.0 ≡ Some it
  pub there : slice_get s.requests.items (number_in w.names.requests.items id.0) ≡ Some r
  pub named : r.id.0 ≡ id.0
  pub worker : r.shown.worker ≡ w.index
  pub alike : IsAlike (driver_of w).wheel.start (driver_of w).wheel.tick it r.shown
  pub enrolled : tick_in it.state ≡ Some tick
  pub unasked : asks_cancel it.state ≡ false
  pub ungated : is_gated r.shown.phase ≡ false
  pub dated : is_some (deadline_of it.request) ≡ true
  pub small : id.0.generation < 2 ^ 64

-- there is room for the end of what isn't over
pub room_ends : {B : Type 0} (q : Place) (w : Worker) (s : Shared B) → SoundAt q w s → (id : Id) (it : Waiter Reply Reply) → id.generation < 2 ^ 64 → waiter_at (driver_of w).requests id ≡ Some it → length w.names.ended.items < deque_capacity w.names.ended
room_ends q w s sound id it small live = omega (arith, sound.over.counted, (slab_after (driver_of w).requests id it (Err Timeout) None small live).pending, sound.flown.ending)

module _ {B : Type 0} (w : Worker) (s : Shared B) (due : IsDueIn w s) (id : WaiterId) (first : first_of (driver_of w).lists.due ≡ Some id) where
  due_by : (o : Option (Waiter Reply Reply)) → request_at (driver_of w) id ≡ o → DueAt w s id
  due_by None gone = absurd (false≢true (ap is_enrolled (sym gone) ∙ due.submits.lists.due id (among_first id (driver_of w).lists.due first)))
  due_by (Some it) live =
      let sound = due.submits.sound in
      let tick = some_of (tick_in it.state) (ap is_enrolled (sym live) ∙ due.submits.lists.due id (among_first id (driver_of w).lists.due first)) in
      let r = sound.named.requests id.0 (rw (entry_of (value_at (driver_of w).requests id.0) it live) refl) in
      let a = sound.named.alike id.0 it r.0 live r.1 in
      record {
        it = it;
        r = r.0;
        tick = tick.0;
        live = live;
        there = r.1;
        named = r.2;
        worker = r.3;
        alike = a;
        enrolled = tick.1;
        unasked = unasked_by it.state tick.0 tick.1;
        ungated = a.permit ∙ ap (λ b. b && not it.permit) (timed_free it.request (a.dated (ap is_some tick.1)));
        dated = a.dated (ap is_some tick.1);
        small = let low = low_there w.index w.names.requests.items (driver_of w).requests s.opens s.requests.items sound.known id.0 (rw (entry_of (value_at (driver_of w).requests id.0) it live) refl) in omega (arith, low);
      }

  pub due_first : DueAt w s id
  due_first = due_by (request_at (driver_of w) id) refl

  pub due_room : length w.names.ended.items < deque_capacity w.names.ended
  due_room = room_ends _ w s due.submits.sound id.0 due_first.it due_first.small due_first.live

-- what an expiry does to a request
abbrev pub expires : Record → Record
expires r = record r { shown = expired (outcome_at_expiry r.shown) r.shown }

pub record HasExpired {B : Type 0} (w w' : Worker) (s s' : Shared B) (e : Event) (id : WaiterId) (r : Record) : Type 0 where
  pub event : e ≡ Expire (number_in w.names.requests.items id.0) (outcome_at_expiry r.shown)
  pub driver : driver_of w' ≡ expired_at (driver_of w) id
  pub tells : Tells w.home.deferred w'.home.deferred (told_by_cancel id (request_at (driver_of w) id))
  pub punctual : IsPunctual (driver_of w')
  pub records : s'.requests.items ≡ changed_at s.requests.items (number_in w.names.requests.items id.0) expires
  pub ended : w'.names.ended.items ≡ joined_if (is_some (outcome_at_expiry r.shown)) w.names.ended.items (number_in w.names.requests.items id.0)
  pub capacity : deque_capacity w'.names.ended ≡ deque_capacity w.names.ended
  pub worker : w' ≡ record w { home = record w.home { driver = w'.home.driver; deferred = w'.home.deferred }; names = record w.names { ended = w'.names.ended } }
  pub still : outcome_at_expiry r.shown ≡ None → w'.names ≡ w.names
  pub shared : s' ≡ record s { requests = s'.requests }

-- another function that makes the same of the record there
pub same_change : (rs : List Record) (k : ℕ) (r : Record) (f g : Record → Record) → slice_get rs k ≡ Some r → f r ≡ g r → changed_at rs k f ≡ changed_at rs k g
same_change rs k r f g there same = ap (changed_in rs k f) there ∙ ap (slice_set rs k) same ∙ sym (ap (changed_in rs k g) there)

pub flies_not_queued : (p : RequestPhase) → is_in_flight p ≡ true → is_queued p ≡ false
flies_not_queued = grind arith

-- THE WHEEL without it

removed_start : (w : Wheel) (t : ℕ) → (removed w t).start ≡ w.start
unfolding removed
removed_start w t = refl

removed_tick : (w : Wheel) (t : ℕ) → (removed w t).tick ≡ w.tick
unfolding removed
removed_tick w t = refl

pub unticked_start : (w : Wheel) (t : Option ℕ) → (unscheduled w t).start ≡ w.start
unticked_start w None = refl
unticked_start w (Some t) = removed_start w t

pub unticked_tick : (w : Wheel) (t : Option ℕ) → (unscheduled w t).tick ≡ w.tick
unticked_tick w None = refl
unticked_tick w (Some t) = removed_tick w t

-- THE MACHINE'S FIRST

-- what is found passes the test
passes_by : {X : Type 0} (test : ℕ → X → Bool) (n k : ℕ) (x : X) (xs : List X) (b : Bool) → test n x ≡ b → (first_numbered test (suc n) xs ≡ Some k → (y : X) × (test k y ≡ true)) → (if b then Some n else first_numbered test (suc n) xs) ≡ Some k → (y : X) × (test k y ≡ true)
passes_by = grind arith

found_passes : {X : Type 0} (test : ℕ → X → Bool) (n k : ℕ) (xs : List X) → first_numbered test n xs ≡ Some k → (x : X) × (test k x ≡ true)
found_passes test n k [] h = absurd (cc)
found_passes test n k (x ∷ xs) h = passes_by test n k x xs (test n x) refl (found_passes test (suc n) k xs) h

pub told_first : (c : Configuration) (me : Own) (i : ℕ) (rs : List Request) (k : ℕ) → first_numbered (λ r it. is_first_due c me i rs r) 0 rs ≡ Some k → is_first_due c me i rs k ≡ true
told_first c me i rs k h = (found_passes (λ r it. is_first_due c me i rs r) 0 k rs h).1

pub comes_to_due : (c : Configuration) (i gate k : ℕ) (me : Own) (s : Common) (d : Desk) → first_due c i me s ≡ Some k → due_next c i gate me s d ≡ Expires k
comes_to_due c i gate k me s d first = rw first refl
