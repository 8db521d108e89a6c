-- A request of a worker that is over: what its record, its slot and the desk say of that.
use Rattle.exec_invariants.{proofs.{Names.{◌≡◌, ◌&&◌, ◌||◌, not, Bool, true, false, length, map, Some, None, refl, sym, ap, ◌∙◌, arith, slice_get, false≢true, value_at, Id, TaskNo, Outcome, RequestOutput, finished_for, waker_in, is_held_by, waiter_at, Tells, Told, Deferred, Observer, DetachedSync, Forwarded, Local, Orphaned, Pending, Waiter, entry_of, RequestPhase, Resolved, is_applied, is_resolved, Place, told_of_end, Reply, Record, Shared, Worker, number_in, outcome_in, awaited_from, completions_in, desk_of, driver_of, results_in, slots_seen}, DeskEnds.desk_ended, ServedEnds.TellsEnd, ServedWakes.EndsThing, Slotted.OneSlot, LetSlots.{slot_here, slot_here_is}}, specs.{Holding.thing_of, Places.one_if, Rooted.IsNear, Names.IsAlike, Sound.SoundAt}}

outcome_open : (p : RequestPhase) → is_resolved p ≡ false → outcome_in p ≡ None
outcome_open (Resolved x) h = absurd (false≢true (sym h))
outcome_open _ h = refl

module _ {B : Type 0} (w : Worker) (s : Shared B) (q : Place) (sound : SoundAt q w s) (id : Id) (it : Waiter Reply Reply) (live : waiter_at (driver_of w).requests id ≡ Some it) where
  value : value_at (driver_of w).requests id ≡ Some (Pending it)
  value = entry_of (value_at (driver_of w).requests id) it live

  -- its slot is its own
  pub one_slot : OneSlot w.names.requests.items (driver_of w).requests id
  one_slot = slot_here q w s sound id (Pending it) value

  module _ (r : Record) (there : slice_get s.requests.items (number_in w.names.requests.items id) ≡ Some r) where
    alike : IsAlike (driver_of w).wheel.start (driver_of w).wheel.tick it r.shown
    alike = sound.named.alike id it r live there

    held_of : (o : Observer Reply Reply) (u : TaskNo) → waker_in o ≡ Some u → is_held_by o ≡ true
    held_of (Local x) u h = refl
    held_of (Forwarded reply) u h = refl
    held_of (DetachedSync reply) u h = absurd (let no : None ≡ Some u = h in cc)
    held_of Orphaned u h = absurd (let no : None ≡ Some u = h in cc)

    near_of : (o : Observer Reply Reply) (u : TaskNo) → waker_in o ≡ Some u → IsNear o r.shown.forwarding → is_applied r.shown.forwarding ≡ false
    near_of (Local x) u h near = near
    near_of (Forwarded reply) u h near = absurd (let no : None ≡ Some u = h in cc)
    near_of (DetachedSync reply) u h near = absurd near
    near_of Orphaned u h near = absurd (let no : None ≡ Some u = h in cc)

    seen : (u : TaskNo) → waker_in it.observer ≡ Some u → r.shown.observed ≡ true
    seen u h = alike.observed ∙ held_of it.observer u h

    unsent : (u : TaskNo) → waker_in it.observer ≡ Some u → r.shown.worker ≡ w.index → r.sent ≡ false
    unsent u h mine =
        by r.sent (omega (arith, sound.rooted.sent (number_in w.names.requests.items id) r there mine, ap one_if (ap (λ b. b && (is_resolved r.shown.phase || not r.shown.observed)) (near_of it.observer u h alike.near))))
      where
        by : (b : Bool) → one_if b ≡ 0 → b ≡ false
        by true h = absurd (let no : 1 ≡ 0 = h in omega (arith, no))
        by false h = refl

    pub ends_thing : (f : Record → Record) (outcome : Outcome) → r.shown.worker ≡ w.index → thing_of (f r) ≡ record (thing_of r) { ended = Some outcome } → EndsThing w.index r f outcome (waker_in it.observer)
    ends_thing f outcome mine thing =
        let unpaid : (u : TaskNo) → (waker_in it.observer) ≡ Some u → r.shown.wakes_paid ≡ 0 = λ u h. (sound.rooted.pays (number_in w.names.requests.items id) r there mine).unpaid alike.open_still (seen u h) in
        let unsent_so : (u : TaskNo) → (waker_in it.observer) ≡ Some u → r.sent ≡ false = λ u h. unsent u h mine in
        assumption (thing, outcome_open r.shown.phase alike.open_still, mine, seen, unpaid, unsent_so, alike)

    -- the desk, where the ring stays
    pub desk_over : (told : RequestOutput) (t : Told Reply Reply) (left : Deferred Reply Reply) → TellsEnd id told it.observer t → Tells w.home.deferred left t
        → record (desk_of (record w { place = q })) {
          wakes = map (λ t. t.0) left.notes.wakes.items;
          outputs = length left.outputs.items;
          completions = completions_in left.notes.completions.items;
          results = results_in left.results.items;
          requests = slots_seen w.names.requests.items (finished_for (driver_of w).requests id told it.observer);
          awaited = awaited_from 0 w.names.requests.items (finished_for (driver_of w).requests id told it.observer).slots;
        } ≡ told_of_end (number_in w.names.requests.items id) r.shown (desk_of (record w { place = q }))
    unfolding one_slot
    desk_over told t left tells adds =
        desk_ended (desk_of (record w { place = q })) w.names.requests.items (driver_of w).requests w.home.deferred left id it told t r.shown (record { wakes = refl; outputs = refl; completions = refl; results = refl; requests = refl; awaited = refl }) one_slot (slot_here_is q w s sound id (Pending it) value) tells adds alike.near alike.observed alike.waiter
        (λ reply is. (sound.rooted.replies id it reply r live is there).of)
