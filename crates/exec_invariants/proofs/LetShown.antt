-- WHAT IS SEEN of a request that its worker has let go of, where it isn't over; and all together.
use Rattle.exec_invariants.{proofs.{Names.{◌≡◌, ◌≢◌, ℕ, ◌+◌, ◌==◌, ◌&&◌, Bool, true, false, not, List, [], ◌∷◌, ◌++◌, filter, length, Some, None, IsSome, refl, sym, ap, subst, ◌∙◌, arith, slice_get, if◌then◌else◌, append-nil, length-append, map-append, Slab, value_at, written, removed, Id, Live, asked_of, goes_on_alone, asks_cancel, cancelled_of, told_by_finish, told_to, flying_count, is_held_by, waiter_at, waiter_of, Told, Tells, nothing_told, Forwarded, Orphaned, Entry, Pending, Ready, Waiter, WaiterId, entry_of, one_if, Driving, request_at, is_listed_queued, is_unenrolled, is_cancelled, both, cancelling, cancelled_from, ended, timed_out, told_by_cancel, is_among, without, RequestPhase, ends_by_drop, is_cancelled_by_drop, joined_if, left_if, own_after_drop, is_gated, is_in_flight, is_kept, is_queued, Common, request_of, Heard, Desk, one_output, told_of_drop, turned_away, without_request, Reply, Record, Shared, Worker, LetsGo, number_in, awaited_from, awaits_entry, desk_of, driver_of, numbers_of, own_of, slots_seen, visible, and_right, by_number, same_Some, set_elsewhere, ⊎_elim, inl, inr, false≢true, set-set, Timeout, Failure, output_of, orphaned_from, tick_in, Deferred, IsPunctual, without_observer, is_landed, is_resolved, AfterCallbacks, InCallbacks, Place, drops, unobserved, changed_at, RequestOutput}, ReapKinds.{durable_kept, kept_alone}, Changing.{flying_after, changes_one}, Ends.{flying_ended, numbers_without}, Expiring.{flies_not_queued, unticked_start, unticked_tick}, LetKept.{told_to_so, without_waiter, written_twice, alike_cancelled, alike_orphaned, asks_once, cancels_now, ends_it, ends_now, let_cancel, not_gone, pending_let, punctual_watched, number, final, still_on, records_are, gone, output_gone}, LetSeen.{IsSeen, desk_so, desk_there, one_slot, own_so, seen_gone, seen_over, turned_so, visible_so}, Mine.stands, ServingHolds.{KeepsSpare, KeepsWith}, Slotted.{OneSlot, awaited_removed, slot_in, slots_vacated}, Starting.queued_phase, Cancelling.among_last, Orders.{alike_self, alike_unticked}, Ousting.keeps_ended, Over.{OneEnds, leaves_all}, Resolving.{slab_after, unticked_at}, ServedEnds.ends_told, Watching.{Watched, now_there, watched}}, specs.{Gates.AreLinedUp, Sound.served_in, Due.{IsDue, IsWheelAt}, Flown.HasFlown, HoldPlaces.{has_wakes_at, is_bare_at}, Names.IsAlike}}

pub same_flight : (s : Slab (Entry Reply Reply)) (id : Id) (it it' : Waiter Reply Reply) → waiter_at s id ≡ Some it → it'.in_flight ≡ it.in_flight → flying_count (written s id (Pending it')) ≡ flying_count s
same_flight s id it it' at same =
    omega (arith, flying_after s id it it' at, ap one_if same)

none_cleared : (id : WaiterId) (ids : List WaiterId) → ids ≡ [] → without id ids ≡ []
none_cleared id ids none = ap (without id) none

module _ {B : Type 0} (k : ℕ) (w v : Worker) (s s' : Shared B) (idle : served_in w.place ≡ None) (gates : AreLinedUp s.opens s.requests.items) {spare : ℕ} (keeps : KeepsSpare spare w s) (lets : LetsGo k w v s s') (mine : lets.r.shown.worker ≡ w.index) (seen : lets.r.shown.observed ≡ true) where
  abbrev pub d : Driving Reply Reply
  d = driver_of w

  abbrev pub id : Id
  id = lets.r.id.0

  abbrev pub kk : ℕ
  kk = number_in w.names.requests.items lets.r.id.0

  -- IT IS PENDING

  -- what the driver has of it once nobody holds it
  abbrev pub alone_driver : Waiter Reply Reply → Driving Reply Reply
  alone_driver it = record d { requests = written d.requests id (Pending (without_waiter it)) }

  -- the waits there: for whom, and so on
  pub record IsGoing (it : Waiter Reply Reply) : Type 0 where
    pub live : waiter_at d.requests id ≡ Some it
    pub is : number_in w.names.requests.items lets.r.id.0 ≡ k
    pub at_number : slice_get s.requests.items kk ≡ Some lets.r
    pub alike : IsAlike d.wheel.start d.wheel.tick it lets.r.shown
    pub held : is_held_by it.observer ≡ true
    pub without_it : without_observer d lets.r.id ≡ alone_driver it
    pub driver : driver_of v ≡ (if is_held_by it.observer && not (goes_on_alone it.request) then cancelled_from (alone_driver it) lets.r.id (Some (without_waiter it)) else alone_driver it)
    pub tells : Tells w.home.deferred v.home.deferred (if is_held_by it.observer && not (goes_on_alone it.request) then both (told_to id it.observer) (told_by_cancel lets.r.id (Some (without_waiter it))) else told_to id it.observer)
    pub alone : waiter_at (alone_driver it).requests id ≡ Some (without_waiter it)
    pub undue : d.lists.due ≡ []
    pub wheel : IsWheelAt s.config w.moments.start w.moments.sampled d.wheel

  pub is_going : (it : Waiter Reply Reply) → waiter_at d.requests id ≡ Some it → IsGoing it
  is_going it live =
      let d1 = alone_driver it in
      let it1 = without_waiter it in
      let value : value_at d.requests id ≡ Some (Pending it) = entry_of (value_at d.requests id) it live in
      let is = number k w v s s' idle gates keeps lets mine seen (rw value refl) in
      let at_number : slice_get s.requests.items kk ≡ Some lets.r = ap (slice_get s.requests.items) is ∙ lets.request in
      let a = keeps.named.alike id it lets.r live at_number in
      let held : is_held_by it.observer ≡ true = sym a.observed ∙ seen in
      let without_it : without_observer d lets.r.id ≡ d1 = ap (λ o. record d { requests = orphaned_from d.requests id o }) value ∙ ap (λ b. record d { requests = if b then written d.requests id (Pending it1) else d.requests }) held in
      let alone : waiter_at d1.requests id ≡ Some it1 = (changes_one d.requests id it it1 live).is_at in
      grind arith

  -- it is told to who waits elsewhere alone
  pub told_alone : (it : Waiter Reply Reply) → Tells w.home.deferred v.home.deferred (both (told_to id it.observer) nothing_told) → Tells w.home.deferred v.home.deferred (told_to id it.observer)
  told_alone = grind arith

  -- nobody waits for it: its record and the driver, where it isn't cancelled by this
  orphaned_by : (it : Waiter Reply Reply) → IsGoing it → Watched w.names d (alone_driver it) s.requests.items (changed_at s.requests.items kk unobserved) id lets.r unobserved
  orphaned_by it going =
      let a = going.alike in
      watched w.names d (alone_driver it) s.requests.items id it (without_waiter it) lets.r unobserved going.live going.at_number refl refl a.open_still refl refl refl (λ h. h) (λ h. h) (λ t h. h) (alike_orphaned d.wheel.start d.wheel.tick it lets.r a)
      refl refl refl refl (alike_self d.wheel) refl refl (λ x among. inl among)

  orphaned_keeps : (it : Waiter Reply Reply) → IsGoing it → (left1 : Deferred Reply Reply) → Tells w.home.deferred left1 (told_to id it.observer) → KeepsWith spare (record w { home = record w.home { deferred = left1 } }) (alone_driver it) w.home.timers (changed_at s.requests.items kk unobserved) s.sleepers.items s
  orphaned_keeps it going left1 tells =
      let a = going.alike in
      pending_let w s d (alone_driver it) id it (without_waiter it) lets.r unobserved left1 keeps (assumption (idle, orphaned_by it going, seen, tells, going, a)) (punctual_watched d (alone_driver it) id it (without_waiter it) going.live refl refl keeps.due.punctual) going.undue going.wheel

  -- so the worker keeps it
  goes_alone : (it : Waiter Reply Reply) → IsGoing it → driver_of v ≡ alone_driver it → Tells w.home.deferred v.home.deferred (told_to id it.observer) → ends_by_drop lets.r.shown ≡ false → is_cancelled_by_drop lets.r.shown ≡ false → KeepsSpare spare v s'
  goes_alone it going drv tells ends unasked =
      let zs = w.home.timers in
      let same : drops lets.r ≡ unobserved lets.r = ap (λ q. record lets.r { shown = q }) (not_gone lets.r.shown ends unasked) in
      still_on k w v s s' idle gates keeps lets mine seen ends (subst (λ xs. KeepsWith spare (record w { home = record w.home { deferred = v.home.deferred } }) (driver_of v) zs xs s.sleepers.items s) (records_are k w v s s' idle gates keeps lets mine seen unobserved going.is same)
      (subst (λ x. KeepsWith spare (record w { home = record w.home { deferred = v.home.deferred } }) x zs (changed_at s.requests.items kk unobserved) s.sleepers.items s) (sym drv) (orphaned_keeps it going v.home.deferred tells)))

  -- it is cancelled now
  goes_cancelled : (it : Waiter Reply Reply) → IsGoing it → it.in_flight ≡ true → asks_cancel it.state ≡ false → is_kept lets.r.shown.operation.kind ≡ false → driver_of v ≡ cancelling (alone_driver it) lets.r.id (without_waiter it) → Tells w.home.deferred v.home.deferred (told_to id it.observer) → KeepsSpare spare v s'
  goes_cancelled it going flies unasked lets_it drv tells =
      let zs = w.home.timers in
      let it1 = without_waiter it in
      let it' : Waiter Reply Reply = cancelled_of it1 in
      let d' = cancelling (alone_driver it) lets.r.id it1 in
      let a = going.alike in
      let ends : ends_by_drop lets.r.shown ≡ false = ap (λ b. b && not (is_kept lets.r.shown.operation.kind)) (flies_not_queued lets.r.shown.phase (a.flying ∙ flies)) in
      let uncancelled : lets.r.shown.cancelled ≡ false = a.cancelled ∙ unasked in
      let cancels_it : is_cancelled_by_drop lets.r.shown ≡ true = ap (λ b. b && not (is_kept lets.r.shown.operation.kind) && not lets.r.shown.cancelled) (a.flying ∙ flies) ∙ ap (λ b. not b && not lets.r.shown.cancelled) lets_it ∙ ap not uncancelled in
      let same : drops lets.r ≡ let_cancel lets.r = ap (λ q. record lets.r { shown = q }) (cancels_now lets.r.shown ends cancels_it) in
      let slab : d'.requests ≡ written d.requests id (Pending it') = written_twice d.requests id (Pending it1) (Pending it') in
      let by = watched w.names d d' s.requests.items id it it' lets.r let_cancel going.live going.at_number refl refl a.open_still slab refl refl (λ h. absurd (false≢true h)) (λ h. h) (λ t h. let no : None ≡ Some t = h in absurd (cc)) (alike_cancelled d.wheel.start d.wheel.tick it lets.r flies (ap (λ q. is_kept q.kind) (sym a.asked) ∙ lets_it) a) refl refl
      (unticked_start d.wheel (tick_in it.state)) (unticked_tick d.wheel (tick_in it.state)) (alike_unticked d.wheel (tick_in it.state)) refl refl
      (λ x among. ⊎_elim (λ was. inl was) (λ is. inr (is, asks_once lets.r.shown.cancel_staged lets.r.shown.cancelled a.told_once uncancelled)) (among_last x lets.r.id d.lists.cancels among)) in
      let again = pending_let w s d d' id it it' lets.r let_cancel v.home.deferred keeps (assumption (idle, slab, by, seen, tells, going, a)) (subst IsPunctual drv (lets.punctual keeps.due.punctual)) (none_cleared lets.r.id d.lists.due going.undue) (unticked_at s.config w.moments.start w.moments.sampled d.wheel (tick_in it.state) going.wheel) in
      still_on k w v s s' idle gates keeps lets mine seen ends (subst (λ xs. KeepsWith spare (record w { home = record w.home { deferred = v.home.deferred } }) (driver_of v) zs xs s.sleepers.items s) (records_are k w v s s' idle gates keeps lets mine seen let_cancel going.is same)
      (subst (λ x. KeepsWith spare (record w { home = record w.home { deferred = v.home.deferred } }) x zs (changed_at s.requests.items kk let_cancel) s.sleepers.items s) (sym drv) again))

  -- the kernel hasn't got it: it is over by this
  goes_over : (it : Waiter Reply Reply) → IsGoing it → it.in_flight ≡ false → is_kept lets.r.shown.operation.kind ≡ false → driver_of v ≡ ended (alone_driver it) lets.r.id (without_waiter it) timed_out None
      → Tells w.home.deferred v.home.deferred (both (told_to id it.observer) (told_by_finish id (without_waiter it) timed_out None)) → KeepsSpare spare v s'
  goes_over it going flies lets_it drv tells =
      let kept_so : (it : Waiter Reply Reply) → IsGoing it → is_kept lets.r.shown.operation.kind ≡ false → is_kept (asked_of it.request).kind ≡ false = λ it going lets_it. ap (λ q. is_kept q.kind) (sym going.alike.asked) ∙ lets_it in
      -- the same at a place that is in no service either
      let elsewhere : (x : Worker) (left1 : Deferred Reply Reply) (d1 : Driving Reply Reply) (rs1 : List Record) (q : Place) → served_in q ≡ None → has_wakes_at q ≡ true → is_bare_at q ≡ false → KeepsWith spare (record w { home = record w.home { deferred = left1 } }) d1 w.home.timers rs1 s.sleepers.items s → KeepsWith spare (record w { place = q; home = record w.home { deferred = left1 } }) d1 w.home.timers rs1 s.sleepers.items s =
      grind arith in
      let zs = w.home.timers in
      let ss = s.sleepers.items in
      let d1 = alone_driver it in
      let it1 = without_waiter it in
      let d' = ended d1 lets.r.id it1 timed_out None in
      let a = going.alike in
      let told = output_of it.request timed_out None in
      let t1 : Told Reply Reply = told_to id it.observer in
      let t : Told Reply Reply = told_by_finish id it1 timed_out None in
      let left1 : Deferred Reply Reply = record w.home.deferred { results = v.home.deferred.results } in
      let tells1 : Tells w.home.deferred left1 t1 = grind (arith, append-nil) in
      let tells2 : Tells left1 v.home.deferred t = grind (arith, append-nil) in
      let rs1 = changed_at s.requests.items kk unobserved in
      let r1 = unobserved lets.r in
      let q' : Place = Place.Callbacks InCallbacks.TakeBatch AfterCallbacks.Look in
      let w1 : Worker = record w { place = q'; home = record w.home { deferred = left1 } } in
      let here : slice_get rs1 kk ≡ Some r1 = now_there w.index w.names d d1 zs s.requests.items rs1 ss id lets.r unobserved (orphaned_by it going) in
      let small = (keeps.known.past k lets.r lets.request mine).0 in
      let ungated : is_gated lets.r.shown.phase ≡ false = a.permit ∙ ap (λ b. b && not it.permit) (durable_kept (asked_of it.request).kind (kept_so it going lets_it)) in
      let queued : lets.r.shown.phase ≡ RequestPhase.Queued = queued_phase lets.r.shown.phase (a.flying ∙ flies) a.open_still ungated in
      let one : OneEnds w.names d1 d'.requests rs1 id it1 r1 ends_now (Failure Timeout) told = record { at = going.alone; there = here; slab = slab_after d1.requests id it1 timed_out None small going.alone; ends = record { same = refl }; less = leaves_all r1 (Failure Timeout) (ap is_landed queued) (ap is_resolved queued) } in
      let ends : ends_by_drop lets.r.shown ≡ true = ap (λ p. is_queued p && not (is_kept lets.r.shown.operation.kind)) queued ∙ ap not lets_it in
      let plain = keeps.flown.plain k lets.r lets.request mine in
      let over = keeps_ended w1 s d1 d' zs rs1 ss id it1 r1 ends_now (Failure Timeout) told q' v.names v.home.deferred t one (elsewhere w left1 d1 rs1 q' refl refl refl (orphaned_keeps it going left1 tells1))
      (ends_told id it1 timed_out None lets.r.shown.forwarding tt) tells2 (lets.ended ∙ ap (λ b. joined_if b w.names.ended.items k) ends ∙ ap (λ q. w.names.ended.items ++ q ∷ []) (sym going.is)) lets.capacity flies
      (record { bounded = plain.bounded; moved = plain.moved; deadline = plain.deadline })
      (λ held. absurd (false≢true held)) refl refl refl (unticked_start d.wheel (tick_in it.state)) (unticked_tick d.wheel (tick_in it.state)) (subst IsPunctual drv (lets.punctual keeps.due.punctual)) (λ h. none_cleared lets.r.id d.lists.due going.undue)
      (unticked_at s.config w.moments.start w.moments.sampled d.wheel (tick_in it.state) going.wheel) (alike_unticked d.wheel (tick_in it.state)) refl refl in
      let quiet : has_wakes_at w.place ≡ false → v.home.deferred.notes.wakes.items ≡ [] = λ h. (tells2.notes.wakes_added ∙ append-nil w.home.deferred.notes.wakes.items) ∙ keeps.quiet h in
      let due = subst (λ x. IsDue x w.home.closing w.index w.moments s.config (record w.names { ended = v.names.ended }) d' zs (changed_at rs1 kk ends_now) ss) (sym idle) over.due in
      let flown = subst (λ x. HasFlown x w.index (record w.names { ended = v.names.ended }) d' (changed_at rs1 kk ends_now)) (sym idle) over.flown in
      let now : KeepsWith spare (record w { names = record w.names { ended = v.names.ended }; home = record w.home { deferred = v.home.deferred } }) d' zs (changed_at rs1 kk ends_now) ss s = assumption (quiet, due, flown, over, keeps) in
      let records : changed_at rs1 kk ends_now ≡ s'.requests.items = grind (arith, here, going.at_number, set-set s.requests.items kk r1 (ends_now r1), going.is, ends_it lets.r.shown ends, lets.records) in
      final k w v s s' idle gates keeps lets mine seen (subst (λ rs. KeepsWith spare (record w { names = record w.names { ended = v.names.ended }; home = record w.home { deferred = v.home.deferred } }) (driver_of v) zs rs ss s) records
      (subst (λ x. KeepsWith spare (record w { names = record w.names { ended = v.names.ended }; home = record w.home { deferred = v.home.deferred } }) x zs (changed_at rs1 kk ends_now) ss s) (sym drv) now))

  -- WHAT COMES OF ONE, by what its driver has of it: it is gone, its output was kept, it goes on, it is cancelled, or it is over
  module _ {P : Type 0} (none_left : value_at d.requests id ≡ None → P) (kept_output : (told : RequestOutput) → value_at d.requests id ≡ Some (Ready told) → P)
      (on_alone : (it : Waiter Reply Reply) → IsGoing it → driver_of v ≡ alone_driver it → Tells w.home.deferred v.home.deferred (told_to id it.observer) → ends_by_drop lets.r.shown ≡ false → is_cancelled_by_drop lets.r.shown ≡ false → P)
      (on_cancelled : (it : Waiter Reply Reply) → IsGoing it → it.in_flight ≡ true → asks_cancel it.state ≡ false → is_kept lets.r.shown.operation.kind ≡ false → driver_of v ≡ cancelling (alone_driver it) lets.r.id (without_waiter it) → Tells w.home.deferred v.home.deferred (told_to id it.observer) → P)
      (on_over : (it : Waiter Reply Reply) → IsGoing it → it.in_flight ≡ false → is_kept lets.r.shown.operation.kind ≡ false → driver_of v ≡ ended (alone_driver it) lets.r.id (without_waiter it) timed_out None → Tells w.home.deferred v.home.deferred (both (told_to id it.observer) (told_by_finish id (without_waiter it) timed_out None)) → P) where
    by_flight : (it : Waiter Reply Reply) → IsGoing it → is_kept lets.r.shown.operation.kind ≡ false → driver_of v ≡ cancelled_from (alone_driver it) lets.r.id (Some (without_waiter it)) → Tells w.home.deferred v.home.deferred (both (told_to id it.observer) (told_by_cancel lets.r.id (Some (without_waiter it))))
        → (flies : Bool) → it.in_flight ≡ flies → (asked : Bool) → asks_cancel it.state ≡ asked → P
    by_flight it going lets_it drv tells false idle asked is =
        on_over it going idle lets_it (drv ∙ ap (λ b. if b then (if asks_cancel it.state then alone_driver it else cancelling (alone_driver it) lets.r.id (without_waiter it)) else ended (alone_driver it) lets.r.id (without_waiter it) timed_out None) idle)
        (subst (λ x. Tells w.home.deferred v.home.deferred (both (told_to id it.observer) x)) (ap (λ b. if b then nothing_told else told_by_finish id (without_waiter it) timed_out None) idle) tells)
    by_flight it going lets_it drv tells true flies true is =
        let a = going.alike in
        on_alone it going
        (drv ∙ ap (λ b. if b then (if asks_cancel it.state then alone_driver it else cancelling (alone_driver it) lets.r.id (without_waiter it)) else ended (alone_driver it) lets.r.id (without_waiter it) timed_out None) flies ∙ ap (λ b. if b then alone_driver it else cancelling (alone_driver it) lets.r.id (without_waiter it)) is)
        (told_alone it (subst (λ x. Tells w.home.deferred v.home.deferred (both (told_to id it.observer) x)) (ap (λ b. if b then nothing_told else told_by_finish id (without_waiter it) timed_out None) flies) tells))
        (ap (λ b. b && not (is_kept lets.r.shown.operation.kind)) (flies_not_queued lets.r.shown.phase (a.flying ∙ flies)))
        (ap (λ b. b && not (is_kept lets.r.shown.operation.kind) && not lets.r.shown.cancelled) (a.flying ∙ flies) ∙ ap (λ b. not b && not lets.r.shown.cancelled) lets_it ∙ ap not (a.cancelled ∙ is))
    by_flight it going lets_it drv tells true flies false is =
        on_cancelled it going flies is lets_it
        (drv ∙ ap (λ b. if b then (if asks_cancel it.state then alone_driver it else cancelling (alone_driver it) lets.r.id (without_waiter it)) else ended (alone_driver it) lets.r.id (without_waiter it) timed_out None) flies ∙ ap (λ b. if b then alone_driver it else cancelling (alone_driver it) lets.r.id (without_waiter it)) is)
        (told_alone it (subst (λ x. Tells w.home.deferred v.home.deferred (both (told_to id it.observer) x)) (ap (λ b. if b then nothing_told else told_by_finish id (without_waiter it) timed_out None) flies) tells))

    kept_is : (it : Waiter Reply Reply) → IsGoing it → is_kept lets.r.shown.operation.kind ≡ goes_on_alone it.request
    kept_is it going = ap (λ q. is_kept q.kind) going.alike.asked ∙ kept_alone it.request

    by_alone : (it : Waiter Reply Reply) → IsGoing it → (b : Bool) → goes_on_alone it.request ≡ b → P
    by_alone it going true alone =
        let kept : is_kept lets.r.shown.operation.kind ≡ true = kept_is it going ∙ alone in
        on_alone it going
        (going.driver ∙ ap (λ b. if is_held_by it.observer && not b then cancelled_from (alone_driver it) lets.r.id (Some (without_waiter it)) else alone_driver it) alone ∙ ap (λ b. if b && false then cancelled_from (alone_driver it) lets.r.id (Some (without_waiter it)) else alone_driver it) going.held)
        (subst (Tells w.home.deferred v.home.deferred) (ap (λ b. if is_held_by it.observer && not b then both (told_to id it.observer) (told_by_cancel lets.r.id (Some (without_waiter it))) else told_to id it.observer) alone ∙ ap (λ b. if b && false then both (told_to id it.observer) (told_by_cancel lets.r.id (Some (without_waiter it))) else told_to id it.observer) going.held) going.tells)
        (ap (λ b. is_queued lets.r.shown.phase && not b) kept ∙ and_right (is_queued lets.r.shown.phase) false refl)
        (ap (λ b. is_in_flight lets.r.shown.phase && not b && not lets.r.shown.cancelled) kept ∙ kept_flight (is_in_flight lets.r.shown.phase))
      where
        kept_flight : (b : Bool) → (b && not true && not lets.r.shown.cancelled) ≡ false
        kept_flight true = refl
        kept_flight false = refl
    by_alone it going false alone =
        by_flight it going (kept_is it going ∙ alone)
        (going.driver ∙ ap (λ b. if is_held_by it.observer && not b then cancelled_from (alone_driver it) lets.r.id (Some (without_waiter it)) else alone_driver it) alone ∙ ap (λ b. if b && true then cancelled_from (alone_driver it) lets.r.id (Some (without_waiter it)) else alone_driver it) going.held)
        (subst (Tells w.home.deferred v.home.deferred) (ap (λ b. if is_held_by it.observer && not b then both (told_to id it.observer) (told_by_cancel lets.r.id (Some (without_waiter it))) else told_to id it.observer) alone ∙ ap (λ b. if b && true then both (told_to id it.observer) (told_by_cancel lets.r.id (Some (without_waiter it))) else told_to id it.observer) going.held) going.tells)
        it.in_flight refl (asks_cancel it.state) refl

    by_driver : P
    by_driver =
        elim (value_at d.requests id) as (λ o. value_at d.requests id ≡ o → P) [
          | None ↦ none_left
          | Some (Ready told) ↦ kept_output told
          | Some (Pending it) ↦ λ pending. by_alone it (is_going it (ap waiter_of pending)) (goes_on_alone it.request) refl
        ] refl

  let_kept : KeepsSpare spare v s'
  let_kept = by_driver (gone k w v s s' idle gates keeps lets mine seen) (output_gone k w v s s' idle gates keeps lets mine seen) goes_alone goes_cancelled goes_over

  -- WHAT IS SEEN of it

  abbrev n : List ℕ
  n = w.names.requests.items

  replies_so : (it : Waiter Reply Reply) → IsGoing it → (reply : Reply) → it.observer ≡ Forwarded reply → reply.of ≡ Heard.Request kk
  replies_so it going reply is = (keeps.rooted.replies id it reply lets.r going.live is going.at_number).of

  value_of : (it : Waiter Reply Reply) → IsGoing it → value_at d.requests id ≡ Some (Pending it)
  value_of it going = entry_of (value_at d.requests id) it going.live

  -- it goes on, alone or cancelled
  seen_on : (it it' : Waiter Reply Reply) (d' : Driving Reply Reply) → IsGoing it → it'.observer ≡ Orphaned → it'.in_flight ≡ it.in_flight → driver_of v ≡ d' → d'.requests ≡ written d.requests id (Pending it') → d'.ring ≡ d.ring → d'.armed ≡ d.armed → d'.lists.queued ≡ d.lists.queued → d'.lists.enrolments ≡ d.lists.enrolments
      → numbers_of n d'.lists.cancels ≡ joined_if (is_cancelled_by_drop lets.r.shown) (numbers_of n d.lists.cancels) k → Tells w.home.deferred v.home.deferred (told_to id it.observer) → ends_by_drop lets.r.shown ≡ false → IsSeen k w v s s' idle gates keeps lets mine seen
  seen_on it it' d' going alone flies drv slab ring armed queued enrolments cancels tells ends =
      let d0 = desk_of w in
      let a = going.alike in
      let to = told_to_so id it.observer in
      let value = value_of it going in
      let one = one_slot k w v s s' idle gates keeps lets mine seen (Pending it) value in
      let turned = turned_so k w v s s' idle gates keeps lets mine seen it it' v.home.deferred.results.items value alone a.near going.held (replies_so it going) tells.results_added in
      let slab_v : (driver_of v).requests ≡ written d.requests id (Pending it') = ap (λ x. x.requests) drv ∙ slab in
      let then_is : told_of_drop kk lets.r.shown d0 ≡ turned_away kk lets.r.shown d0 = grind (arith, desk_there kk lets.r.shown d0 seen (slot_in n d.requests id one), a.open_still, ends) in
      record {
        ring = ap (λ x. x.ring) drv ∙ ring;
        armed = ap (λ x. x.armed) drv ∙ armed;
        ready = ap (λ x. numbers_of n x.lists.queued) drv ∙ ap (numbers_of n) queued ∙ ap (λ b. left_if b (numbers_of n d.lists.queued) k) (sym ends);
        unenrolled = ap (λ x. numbers_of n x.lists.enrolments) drv ∙ ap (numbers_of n) enrolments ∙ ap (λ b. left_if b (numbers_of n d.lists.enrolments) k) (sym ends);
        cancels = ap (λ x. numbers_of n x.lists.cancels) drv ∙ cancels ∙ ap (λ b. joined_if (is_cancelled_by_drop lets.r.shown) (left_if b (numbers_of n d.lists.cancels) k) k) (sym ends);
        flying = ap flying_count slab_v ∙ same_flight d.requests id it it' going.live flies;
        wakes = tells.notes.wakes_added ∙ ap (λ xs. w.home.deferred.notes.wakes.items ++ xs) to.wakes ∙ append-nil w.home.deferred.notes.wakes.items;
        completed = tells.notes.completions_added ∙ ap (λ xs. w.home.deferred.notes.completions.items ++ xs) to.completions ∙ append-nil w.home.deferred.notes.completions.items;
        desk = grind (arith, tells.outputs_added ∙ ap (λ xs. w.home.deferred.outputs.items ++ xs) to.outputs ∙ append-nil w.home.deferred.outputs.items, slab_v, turned, then_is, going.is);
      }

  seen_alone : (it : Waiter Reply Reply) → IsGoing it → driver_of v ≡ alone_driver it → Tells w.home.deferred v.home.deferred (told_to id it.observer) → ends_by_drop lets.r.shown ≡ false → is_cancelled_by_drop lets.r.shown ≡ false → IsSeen k w v s s' idle gates keeps lets mine seen
  seen_alone it going drv tells ends unasked = seen_on it (without_waiter it) (alone_driver it) going refl refl drv refl refl refl refl refl (ap (λ b. joined_if b (numbers_of n d.lists.cancels) k) (sym unasked)) tells ends

  seen_cancelled : (it : Waiter Reply Reply) → IsGoing it → it.in_flight ≡ true → asks_cancel it.state ≡ false → is_kept lets.r.shown.operation.kind ≡ false → driver_of v ≡ cancelling (alone_driver it) lets.r.id (without_waiter it) → Tells w.home.deferred v.home.deferred (told_to id it.observer) → IsSeen k w v s s' idle gates keeps lets mine seen
  seen_cancelled it going flies unasked lets_it drv tells =
      let a = going.alike in
      let it1 = without_waiter it in
      let it' : Waiter Reply Reply = cancelled_of it1 in
      let ends : ends_by_drop lets.r.shown ≡ false = ap (λ b. b && not (is_kept lets.r.shown.operation.kind)) (flies_not_queued lets.r.shown.phase (a.flying ∙ flies)) in
      let cancels_it : is_cancelled_by_drop lets.r.shown ≡ true = ap (λ b. b && not (is_kept lets.r.shown.operation.kind) && not lets.r.shown.cancelled) (a.flying ∙ flies) ∙ ap (λ b. not b && not lets.r.shown.cancelled) lets_it ∙ ap not (a.cancelled ∙ unasked) in
      seen_on it it' (cancelling (alone_driver it) lets.r.id it1) going refl refl drv (written_twice d.requests id (Pending it1) (Pending it')) refl refl refl refl
      (map-append (λ (x : WaiterId). number_in n x.0) d.lists.cancels (lets.r.id ∷ []) ∙ ap (λ q. numbers_of n d.lists.cancels ++ q ∷ []) going.is ∙ ap (λ b. joined_if b (numbers_of n d.lists.cancels) k) (sym cancels_it)) tells ends

  -- its slot is its own still, once nobody waits for it
  slot_alone : (it : Waiter Reply Reply) → IsGoing it → OneSlot n (alone_driver it).requests id
  slot_alone it going =
      let one = one_slot k w v s s' idle gates keeps lets mine seen (Pending it) (value_of it going) in
      record {
        e = Pending (without_waiter it);
        live = entry_of (value_at (alone_driver it).requests id) (without_waiter it) going.alone;
        low = one.low;
        alone = λ j x at alive same.
            by_number j id.index
            (λ apart. one.alone j x (sym (set_elsewhere d.requests.slots id.index j (Live id.generation (Pending (without_waiter it))) apart) ∙ at) alive same)
            (λ is. is);
      }

  slot_alone_is : (it : Waiter Reply Reply) (going : IsGoing it) → (slot_alone it going).e ≡ Pending (without_waiter it)
  unfolding slot_alone
  slot_alone_is it going = refl

  seen_ended : (it : Waiter Reply Reply) → IsGoing it → it.in_flight ≡ false → is_kept lets.r.shown.operation.kind ≡ false → driver_of v ≡ ended (alone_driver it) lets.r.id (without_waiter it) timed_out None
      → Tells w.home.deferred v.home.deferred (both (told_to id it.observer) (told_by_finish id (without_waiter it) timed_out None)) → IsSeen k w v s s' idle gates keeps lets mine seen
  seen_ended it going flies lets_it drv tells =
      let outputs_back : (x : Desk) → turned_away kk lets.r.shown (desk_of w) ≡ x → one_output (without_request kk (record x { outputs = (desk_of w).outputs })) ≡ one_output (without_request kk x) = grind arith in
      let d0 = desk_of w in
      let a = going.alike in
      let it1 = without_waiter it in
      let d1 = alone_driver it in
      let to = told_to_so id it.observer in
      let t1 : Told Reply Reply = told_to id it.observer in
      let t : Told Reply Reply = told_by_finish id it1 timed_out None in
      let value = value_of it going in
      let one1 = slot_alone it going in
      let ungated : is_gated lets.r.shown.phase ≡ false = a.permit ∙ ap (λ b. b && not it.permit) (durable_kept (asked_of it.request).kind (ap (λ q. is_kept q.kind) (sym a.asked) ∙ lets_it)) in
      let ends : ends_by_drop lets.r.shown ≡ true = ap (λ p. is_queued p && not (is_kept lets.r.shown.operation.kind)) (queued_phase lets.r.shown.phase (a.flying ∙ flies) a.open_still ungated) ∙ ap not lets_it in
      let unasked : is_cancelled_by_drop lets.r.shown ≡ false = ap (λ b. b && not (is_kept lets.r.shown.operation.kind) && not lets.r.shown.cancelled) (a.flying ∙ flies) in
      let results : v.home.deferred.results.items ≡ w.home.deferred.results.items ++ t1.results = tells.results_added ∙ ap (λ xs. w.home.deferred.results.items ++ xs) (append-nil t1.results) in
      let turned = turned_so k w v s s' idle gates keeps lets mine seen it it1 v.home.deferred.results.items value refl a.near going.held (replies_so it going) results in
      let outputs : length v.home.deferred.outputs.items ≡ d0.outputs + 1 = ap length (tells.outputs_added ∙ ap (λ xs. w.home.deferred.outputs.items ++ (xs ++ t.outputs)) to.outputs) ∙ length-append w.home.deferred.outputs.items t.outputs in
      let slab_v : (driver_of v).requests ≡ removed d1.requests id = ap (λ x. x.requests) drv in
      let awaited : awaited_from 0 n (driver_of v).requests.slots ≡ awaited_from 0 n d1.requests.slots = ap (λ x. awaited_from 0 n x.slots) slab_v ∙ awaited_removed n d1.requests id one1 (ap awaits_entry (slot_alone_is it going)) in
      let then_is : told_of_drop kk lets.r.shown d0 ≡ one_output (without_request kk (turned_away kk lets.r.shown d0)) =
      desk_there kk lets.r.shown d0 seen (slot_in n d.requests id (one_slot k w v s s' idle gates keeps lets mine seen (Pending it) value))
      ∙ ap (λ b. if b then one_output (without_request kk d0) else if ends_by_drop lets.r.shown then one_output (without_request kk (turned_away kk lets.r.shown d0)) else turned_away kk lets.r.shown d0) a.open_still
      ∙ ap (λ b. if b then one_output (without_request kk (turned_away kk lets.r.shown d0)) else turned_away kk lets.r.shown d0) ends in
      let apart : (x : WaiterId) → IsSome (value_at d.requests x.0) → x.0 ≢ id → number_in n x.0 ≡ kk → ⊥ = λ x some differs same.
      let found = keeps.named.requests x.0 some in
      differs (sym found.2 ∙ ap (λ (y : Record). y.id.0) (same_Some found.0 lets.r (sym found.1 ∙ ap (slice_get s.requests.items) same ∙ going.at_number))) in
      let fewer : (ids : List WaiterId) → ((x : WaiterId) → is_among x ids ≡ true → IsSome (value_at d.requests x.0)) → numbers_of n (without lets.r.id ids) ≡ left_if (ends_by_drop lets.r.shown) (numbers_of n ids) k = λ ids some.
      numbers_without n lets.r.id ids (λ x among. apart x (some x among)) ∙ ap (λ q. filter (λ j. not (j == q)) (numbers_of n ids)) going.is ∙ ap (λ b. left_if b (numbers_of n ids) k) (sym ends) in
      record {
        ring = ap (λ x. x.ring) drv;
        armed = ap (λ x. x.armed) drv;
        ready = ap (λ x. numbers_of n x.lists.queued) drv ∙ fewer d.lists.queued (λ x among. stands d x is_listed_queued (request_at d x) refl refl (lets.lists.queued x among));
        unenrolled = ap (λ x. numbers_of n x.lists.enrolments) drv ∙ fewer d.lists.enrolments (λ x among. stands d x is_unenrolled (request_at d x) refl refl (lets.lists.enrolments x among));
        cancels = ap (λ x. numbers_of n x.lists.cancels) drv ∙ fewer d.lists.cancels (λ x among. stands d x is_cancelled (request_at d x) refl refl (lets.lists.cancels x among))
            ∙ ap (λ b. joined_if b (left_if (ends_by_drop lets.r.shown) (numbers_of n d.lists.cancels) k) k) (sym unasked);
        flying = ap (λ x. flying_count x.requests) drv ∙ flying_ended d1.requests id it1 timed_out None going.alone flies ∙ same_flight d.requests id it it1 going.live refl;
        wakes = tells.notes.wakes_added ∙ ap (λ xs. w.home.deferred.notes.wakes.items ++ (xs ++ t.wakes)) to.wakes ∙ append-nil w.home.deferred.notes.wakes.items;
        completed = tells.notes.completions_added ∙ ap (λ xs. w.home.deferred.notes.completions.items ++ (xs ++ t.completions)) to.completions ∙ append-nil w.home.deferred.notes.completions.items;
        desk = grind (arith, outputs, ap (slots_seen n) slab_v ∙ slots_vacated n d1.requests id one1, awaited, turned, outputs_back (turned_away kk lets.r.shown d0) refl, then_is, going.is);
      }

  seen_so : IsSeen k w v s s' idle gates keeps lets mine seen
  seen_so = by_driver (seen_gone k w v s s' idle gates keeps lets mine seen) (seen_over k w v s s' idle gates keeps lets mine seen) seen_alone seen_cancelled seen_ended

  -- ONE OF THE WORKER'S IS LET GO OF: what holds, and what is seen of it
  pub record SeenLet : Type 0 where
    pub keeps_on : KeepsSpare spare v s'
    pub own : (all : Common) → request_of all k ≡ lets.r.shown → own_of v ≡ own_after_drop (own_of w) all k
    pub desk : desk_of v ≡ told_of_drop k lets.r.shown (desk_of w)
    pub shows : visible v ≡ visible w

  pub let_seen : SeenLet
  let_seen =
      assumption (let_kept, own_so k w v s s' idle gates keeps lets mine seen seen_so, desk_so k w v s s' idle gates keeps lets mine seen seen_so, visible_so k w v s s' idle gates keeps lets mine seen seen_so)
