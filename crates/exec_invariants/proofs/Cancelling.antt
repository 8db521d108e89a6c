-- A deadline that has come cancels its request, which the kernel has.
use Rattle.exec_invariants.{proofs.{Names.{◌⊎◌, ⊎_elim, ◌++◌, ◌||◌, ◌≡◌, ℕ, ◌==◌, Bool, true, false, List, [], ◌∷◌, map, Option, Some, None, refl, sym, ap, subst, ◌∙◌, arith, inl, is_some, slice_set, if◌then◌else◌, false≢true, append-nil, map-append, slice_get, value_at, Id, Timeout, Failure, asked_of, deadline_of, cancelled_of, told_by_finish, needs_permit, takes_tick, tick_in, flying_count, waiter_at, Tells, nothing_told, Pending, Waiter, WaiterId, entry_of, Driving, IsPunctual, cancelling, told_by_cancel, timed_out, first_of, is_among, is_same, after_due, same_tells, Said, Event, Expire, RequestPhase, expired, outcome_at_expiry, same_end, is_kept, Common, request_of, first_due, Place, InService, Reply, Names, Record, Shared, Worker, number_in, changed_at, Spot, visible, with_view, own_of, desk_of, driver_of, common_of, seat_seen, numbers_of, by_name, Err, Error, finished, unscheduled, rest_of, without, withdrawn, is_queued as is_phase_queued, joined_if}, Enrolled.timed_kept, Serving.{at_large, balances_still, SparesRecords, spares_one}, ServingHolds.{serves_to, IsServed, OthersKept, keeps_home, Serves, Keeps, KeepsBy}, Recorded.request_seen, Flown.landed_on, Known.known_written, Lined.{map_changed, opens_same}, Marking.{mark_if, mark_kept, marked, plain_kept, was_marked, submitted_kept}, Slotted.{awaited_written, slots_written}, Carries.carried_still, Changing.{OneGoesOn, all_go_one, changes_one, flying_after, keeps_one}, Going.{GoesOn, owning_on}, Seeing.{shows, served, common_changed, common_same, things_kept}, Staging.{stages_again, split_first}, Timed.keeps_untold, Expiring.{HasExpired, comes_to_due, due_first, expires, flies_not_queued, same_change, told_first, unticked_start, unticked_tick}, Resolving.unticked_at, Orders.{alike_unticked, eased, eases_written, part_after, part_self}, Late.{ends_as, same_error_self, late_ends}, Ends.without_first, Starting.queued_phase, Results.same_error_self}, specs.{Flown.{HasFlown, operations, AreLanded}, Holding.{nap_of, thing_of}, Places.passes_at, Names.{IsAlike, IsSubmitted}, Sound.served_in, Submits.{IsDueIn, IsInOrder}, Works.Steps}}

module _ {B L : Type 0} (left : B → L) (spot : L → Option Said → Spot) where
  pub expiry_ends : (w w' : Worker) (s s' : Shared B) (e : Event) (id : WaiterId) → (new : IsDueIn w s) → IsInOrder w s → (first : first_of (driver_of w).lists.due ≡ Some id) → (due_first w s new id first).it.in_flight ≡ false → HasExpired w w' s s' e id (due_first w s new id first).r → Steps left spot w s e w' s'
  expiry_ends w w' s s' e id new order first idle by =
      let v = new.submits.service in
      let gate = new.submits.gate in
      let sound = new.submits.sound in
      let d = driver_of w in
      let k = number_in w.names.requests.items id.0 in
      let who = due_first w s new id first in
      let it = who.it in
      let w0 : Worker = record w { place = Place.Service (InService.Submit gate) v } in
      let outcome = Failure Timeout in
      let error : Error = Timeout in
      let queued : who.r.shown.phase ≡ RequestPhase.Queued = queued_phase who.r.shown.phase (who.alike.flying ∙ idle) who.alike.open_still who.ungated in
      let ends : outcome_at_expiry who.r.shown ≡ Some outcome = ap (λ x. if is_phase_queued x then Some outcome else None) queued in
      let others = rest_of d.lists.due in
      let dues : without id others ≡ without id d.lists.due = sym (ap (without id) (split_first id d.lists.due first) ∙ without_first id others) in
      let driver : driver_of w' ≡ record d { requests = finished d.requests id.0 it (Err error) None; wheel = unscheduled d.wheel (tick_in it.state); lists = withdrawn id d.lists } = grind (arith, by.driver, who.live, idle, dues) in
      let tells : Tells w.home.deferred w'.home.deferred (told_by_finish id.0 it (Err error) None) =
      subst (λ x. Tells w.home.deferred w'.home.deferred x)
      (ap (told_by_cancel id) who.live ∙ ap (λ b. if b then nothing_told else told_by_finish id.0 it timed_out None) idle) by.tells in
      let ended_by : w'.names.ended.items ≡ w.names.ended.items ++ k ∷ [] = by.ended ∙ ap (λ o. joined_if (is_some o) w.names.ended.items k) ends in
      let records : s'.requests.items ≡ changed_at s.requests.items k (ends_as outcome) = by.records ∙ same_change s.requests.items k who.r expires (ends_as outcome) who.there (ap (λ o. record who.r { shown = expired o who.r.shown }) ends) in
      subst (λ x. Steps left spot w s x w' s') (sym (by.event ∙ ap (Expire k) ends))
      (late_ends left spot gate v w w' s s' (Expire k (Some outcome)) id it who.r error sound new.submits.lists who.live who.there who.named who.worker who.alike who.small idle who.dated queued driver by.punctual tells ended_by by.capacity records by.worker by.shared
      (λ p vs suits.
      let cp = p.config in
      let all = common_of left spot p vs s in
      let request : request_of all k ≡ who.r.shown = request_seen s.requests.items k who.r who.there in
      let found : first_due cp w.index (own_of w0) all ≡ Some k = subst (λ x. first_due x w.index (own_of w0) all ≡ Some k) suits.config (order id first) in
      record {
        moves = grind (arith, comes_to_due cp w.index gate k (own_of w0) all (desk_of w0) found, request, ends);
        may = (at_large _ w s sound refl, (told_first cp (own_of w0) w.index all.requests k found, (ap (same_end (Some outcome)) (ap outcome_at_expiry request ∙ ends) ∙ same_error_self error, tt)));
        own = refl;
        common = refl;
      }))

-- THE LIST

-- who stands there stood there before, or came last
last_by : {id : Id} (other x : WaiterId) (ids : List WaiterId) (b : Bool) → is_same x other ≡ b → (b ≡ false → (is_among other ids ≡ true) ⊎ (other.0 ≡ id)) → ((b || is_among other ids) ≡ true) ⊎ (other.0 ≡ id)
last_by other x ids true is later = inl refl
last_by other x ids false is later = later refl

pub among_last : (other id : WaiterId) (ids : List WaiterId) → is_among other (ids ++ id ∷ []) ≡ true → (is_among other ids ≡ true) ⊎ (other.0 ≡ id.0)
among_last other id [] h = grind (arith, same_tells, false≢true)
among_last other id (x ∷ ids) h = last_by other x ids (is_same x other) refl (λ none. among_last other id ids (rw none at h))

-- THE RECORD

abbrev cancels : Record → Record
cancels r = record r { shown = record r.shown { timer = None; cancelled = true } }

untold_by : (b : Bool) (c : Bool) → c ≡ false → (b ≡ true → c ≡ true) → b ≡ false
untold_by true c none h = absurd (false≢true (sym none ∙ h refl))
untold_by false c none h = refl

-- WHAT HOLDS AGAIN

module _ {B : Type 0} (w : Worker) (s : Shared B) (new : IsDueIn w s) (id : WaiterId) (first : first_of (driver_of w).lists.due ≡ Some id) (flies : (due_first w s new id first).it.in_flight ≡ true) where
  abbrev cancelled_waiter : Waiter Reply Reply
  cancelled_waiter = cancelled_of (due_first w s new id first).it

  abbrev cancelled_driver : Driving Reply Reply
  cancelled_driver = cancelling (record (driver_of w) { lists = after_due (driver_of w).lists }) id (due_first w s new id first).it

  abbrev cancelled_records : List Record
  cancelled_records = changed_at s.requests.items (number_in w.names.requests.items id.0) cancels

  alike_cancelled : IsAlike (driver_of w).wheel.start (driver_of w).wheel.tick cancelled_waiter (cancels (due_first w s new id first).r).shown
  alike_cancelled =
      let a = (due_first w s new id first).alike in
      let going : true ≡ true → (due_first w s new id first).it.in_flight ≡ true = λ h. flies in
      let dated : false ≡ true → is_some (deadline_of (due_first w s new id first).it.request) ≡ true = λ h. absurd (false≢true h) in
      let alone : true ≡ true → is_kept (asked_of (due_first w s new id first).it.request).kind ≡ false = λ h. timed_kept (due_first w s new id first).it.request (due_first w s new id first).dated in
      assumption (going, dated, alone, a)

  cancels_on : GoesOn (due_first w s new id first).r (cancels (due_first w s new id first).r)
  cancels_on = record { same = refl; over = refl; ended = λ h. refl }

  submitted_cancelled : IsSubmitted w.index w.names.staged.items w.names.untold.items (driver_of w).ring cancelled_records
  submitted_cancelled = submitted_kept cancels s.requests.items (number_in w.names.requests.items id.0) (λ r. refl) (λ r. refl) w.index w.names.staged.items w.names.untold.items (driver_of w).ring new.submits.sound.named.submitted

  flown_cancelled : HasFlown (served_in (Place.Service (InService.Submit new.submits.gate) new.submits.service)) w.index w.names cancelled_driver cancelled_records
  flown_cancelled =
      let d = driver_of w in
      let d' = cancelled_driver in
      let rs = s.requests.items in
      let k = number_in w.names.requests.items id.0 in
      let who = due_first w s new id first in
      let it = who.it in
      let it' = cancelled_waiter in
      let flown = new.submits.sound.flown in
      let changed = changes_one d.requests id.0 it it' who.live in
      let gated : (id : WaiterId) (it : Waiter Reply Reply) → waiter_at cancelled_driver.requests id.0 ≡ Some it → needs_permit it ≡ true → is_among id cancelled_driver.lists.gated ≡ true = λ other x live needs.
      by_name other.0 id.0 (λ apart. flown.gated other x (sym (changed.others other.0 apart) ∙ live) needs)
      (λ eq.
      let is_it : x ≡ it' = cc (live, eq, changed.is_at) in
      flown.gated other it (ap (waiter_at d.requests) eq ∙ who.live) (ap needs_permit (sym is_it) ∙ needs)) in
      let plain = plain_kept cancels rs k (λ r p. record { bounded = p.bounded; moved = p.moved; deadline = p.deadline }) w.index (λ r. refl) flown.plain in
      let landed_so : AreLanded w.names cancelled_driver cancelled_records (operations cancelled_driver.ring) = landed_on w.names w.names d d' rs cancelled_records (operations d.ring) flown.landed
      (λ other x r given live flying found landed.
      let j = number_in w.names.requests.items other in
      let phase = mark_kept RequestPhase (λ x. x.shown.phase) cancels (λ x. refl) (k == j) r in
      by_name other id.0
      (λ apart. record { it' = x; r' = mark_if cancels (k == j) r; live = changed.others other apart ∙ live; flies = refl; same = refl; number = refl; there = marked cancels rs k j r found; phase = phase })
      (λ same.
      let both : x ≡ it = cc (live, who.live, same) in
      record {
        it' = it';
        r' = mark_if cancels (k == j) r;
        live = ap (waiter_at d'.requests) same ∙ changed.is_at;
        flies = ap (λ y. y.in_flight) (sym both);
        same = ap (λ y. y.request) (sym both);
        number = refl;
        there = marked cancels rs k j r found;
        phase = phase;
      })) in
      let enrolling : (id : WaiterId) (it : Waiter Reply Reply) → waiter_at cancelled_driver.requests id.0 ≡ Some it → takes_tick it.state ≡ true → is_some (deadline_of it.request) ≡ true → is_among id cancelled_driver.lists.enrolments ≡ true = λ other x live takes some.
      by_name other.0 id.0 (λ apart. flown.enrolling other x (sym (changed.others other.0 apart) ∙ live) takes some)
      (λ eq.
      let is_it : x ≡ it' = cc (live, eq, changed.is_at) in
      absurd (false≢true (ap (λ y. takes_tick y.state) (sym is_it) ∙ takes))) in
      let uncancelled : (id : WaiterId) (r : Record) → is_among id cancelled_driver.lists.cancels ≡ true → slice_get cancelled_records (number_in w.names.requests.items id.0) ≡ Some r → r.shown.worker ≡ w.index → r.shown.cancel_staged ≡ false = λ other x among found mine.
      let j = number_in w.names.requests.items other.0 in
      let old = was_marked cancels rs k j x found in
      ap (λ y. y.shown.cancel_staged) old.2 ∙ mark_kept Bool (λ x. x.shown.cancel_staged) cancels (λ x. refl) (k == j) old.0
      ∙ ⊎_elim (λ before. flown.uncancelled other old.0 before old.1 (sym (mark_kept ℕ (λ y. y.shown.worker) cancels (λ y. refl) (k == j) old.0) ∙ sym (ap (λ y. y.shown.worker) old.2) ∙ mine))
      (λ same.
      let both : old.0 ≡ who.r = cc (old.1, who.there, ap (number_in w.names.requests.items) same) in
      ap (λ y. y.shown.cancel_staged) both ∙ untold_by who.r.shown.cancel_staged who.r.shown.cancelled (who.alike.cancelled ∙ who.unasked) who.alike.told_once)
      (among_last other id d.lists.cancels among) in
      assumption (gated, plain, landed_so, owning_on rs cancelled_records (all_go_one rs k cancels who.r who.there cancels_on) flown.owning, enrolling, uncancelled, flown)

  keeps_cancelled : IsPunctual cancelled_driver
      → KeepsBy (record w { place = Place.Service (InService.Submit new.submits.gate) new.submits.service }) cancelled_driver w.home.timers cancelled_records s.sleepers.items s
  keeps_cancelled punctual =
      let v = new.submits.service in
      let gate = new.submits.gate in
      let q : Place = Place.Service (InService.Submit gate) v in
      let sound = new.submits.sound in
      let d = driver_of w in
      let who = due_first w s new id first in
      let it = who.it in
      let one : OneGoesOn w.names w.names d cancelled_driver s.requests.items id.0 it cancelled_waiter who.r cancels = grind (arith, alike_cancelled, unticked_start, unticked_tick) in
      keeps_one q q w.put_off w.names w s cancelled_driver id.0 it cancelled_waiter who.r cancels sound (stages_again gate v) one punctual (λ h. absurd (false≢true (sym h)))
      (eased (eases_written d.requests id.0 it cancelled_waiter who.live (λ t is. absurd (cc)) (λ none. refl)) (alike_unticked d.wheel (tick_in it.state)) (part_self d.lists.enrolments) (part_after id d.lists.due) sound.due.order)
      (unticked_at s.config w.moments.start w.moments.sampled d.wheel (tick_in it.state) sound.due.wheel) refl submitted_cancelled flown_cancelled
      (carried_still w.names.requests.items d.requests d.ring s.requests.items s.store sound.carried id.0 it cancelled_waiter who.live refl (number_in w.names.requests.items id.0) cancels (λ r there. refl) (λ r there. refl) (λ r there. refl))
      refl
      (known_written w.index w.names.requests.items d.requests s.opens s.opens s.requests.items (number_in w.names.requests.items id.0) cancels (λ y. record { id = refl; worker = refl; kind = refl; target = refl; unrefused = λ h. h }) (λ file h. h) id.0 it cancelled_waiter who.r refl who.live who.there (inl (λ h. inl h)) sound.known)

-- A STEP

module _ {B L : Type 0} (left : B → L) (spot : L → Option Said → Spot) where
  pub expiry_cancels : (w w' : Worker) (s s' : Shared B) (e : Event) (id : WaiterId) → (new : IsDueIn w s) → IsInOrder w s → (first : first_of (driver_of w).lists.due ≡ Some id) → (due_first w s new id first).it.in_flight ≡ true → HasExpired w w' s s' e id (due_first w s new id first).r → Steps left spot w s e w' s'
  expiry_cancels w w' s s' e id new order first flies by =
      let v = new.submits.service in
      let gate = new.submits.gate in
      let q : Place = Place.Service (InService.Submit gate) v in
      let sound = new.submits.sound in
      let d = driver_of w in
      let rs = s.requests.items in
      let k = number_in w.names.requests.items id.0 in
      let who = due_first w s new id first in
      let it = who.it in
      let w0 : Worker = record w { place = q } in
      let it' = cancelled_waiter w s new id first flies in
      let d' = cancelled_driver w s new id first flies in
      let rs' = cancelled_records w s new id first flies in
      let ends : outcome_at_expiry who.r.shown ≡ None = ap (λ b. if b then Some (Failure Timeout) else None) (flies_not_queued who.r.shown.phase (who.alike.flying ∙ flies)) in
      let driver : driver_of w' ≡ d' = grind (arith, by.driver, who.live, flies, who.unasked) in
      let tells : Tells w.home.deferred w'.home.deferred nothing_told =
      subst (λ x. Tells w.home.deferred w'.home.deferred x)
      (ap (told_by_cancel id) who.live ∙ ap (λ b. if b then nothing_told else told_by_finish id.0 it timed_out None) flies) by.tells in
      let records : s'.requests.items ≡ rs' = by.records ∙ same_change rs k who.r expires cancels who.there (ap (λ o. record who.r { shown = expired o who.r.shown }) ends) in
      let names = by.still ends in
      let deferred = w'.home.deferred in
      let w1 : Worker = record w { place = q; home = record w.home { deferred = deferred } } in
      let w2 : Worker = record w1 { home = record w1.home { driver = w'.home.driver } } in
      let same : w' ≡ record w { home = record w.home { driver = w'.home.driver; deferred = deferred } } =
      by.worker ∙ ap (λ (x : Names). record w { home = record w.home { driver = w'.home.driver; deferred = deferred }; names = record w.names { ended = x.ended } }) names in
      let there : w'.place ≡ q = ap (λ x. x.place) same ∙ sound.here in
      let same2 : w' ≡ w2 = same ∙ ap (λ y. record w { place = y; home = record w.home { driver = w'.home.driver; deferred = deferred } }) sound.here in
      let kept : KeepsBy w0 d' w.home.timers rs' s.sleepers.items s = keeps_cancelled w s new id first flies (subst IsPunctual driver by.punctual) in
      let keeps : Keeps w' s' = keeps_home w1 w' s s' rs' d' same2 by.shared driver records (keeps_untold w0 d' w.home.timers rs' s.sleepers.items s deferred tells kept) in
      let serves : Serves q w w' s s' = serves_to q q w w' s s' (subst (IsServed w) (sym same) refl) (subst (OthersKept s) (sym by.shared) refl) there (stages_again gate v) in
      let show = shows q w w' s s' d' serves driver (ap (λ (x : Worker). x.home.timers) same) in
      let seen : visible w' ≡ visible w = show.seen in
      let spares : SparesRecords w.index s s' = spares_one w.index s s' k who.r cancels (opens_same s.opens s'.opens s.requests.items sound.gates (ap (λ (y : Shared B). y.opens) by.shared)) (record { at = refl; over = λ h. h; sent = refl; forwarded = λ h. h }) records (ap (λ (y : Shared B). y.sleepers.items) by.shared) who.there who.worker (λ y. refl) in
      let wakes : deferred.notes.wakes.items ≡ w.home.deferred.notes.wakes.items = tells.notes.wakes_added ∙ append-nil w.home.deferred.notes.wakes.items in
      let completions : deferred.notes.completions.items ≡ w.home.deferred.notes.completions.items = tells.notes.completions_added ∙ append-nil w.home.deferred.notes.completions.items in
      let results : deferred.results.items ≡ w.home.deferred.results.items = tells.results_added ∙ append-nil w.home.deferred.results.items in
      let was = entry_of (value_at d.requests id.0) it who.live in
      let slots = slots_written w.names.requests.items d.requests id.0 (Pending it) (Pending it') was in
      let awaited = awaited_written w.names.requests.items d.requests id.0 (Pending it) (Pending it') was refl in
      let flying : flying_count d'.requests ≡ flying_count d.requests =
      omega (arith, flying_after d.requests id.0 it it' who.live) in
      let numbers : numbers_of w.names.requests.items (d.lists.cancels ++ id ∷ []) ≡ numbers_of w.names.requests.items d.lists.cancels ++ k ∷ [] = map-append (λ (x : WaiterId). number_in w.names.requests.items x.0) d.lists.cancels (id ∷ []) in
      subst (λ x. Steps left spot w s x w' s') (sym (by.event ∙ ap (Expire k) ends))
      (served left spot q w w' s s' (Expire k None) sound serves keeps spares (balances_still q w w' s s' sound.here serves spares (ap passes_at there) (ap (λ (x : Worker). x.home.deferred.notes.wakes.items) same ∙ wakes) (ap (map thing_of) records ∙ map_changed thing_of rs k who.r cancels who.there refl) (ap (λ (y : Shared B). map nap_of y.sleepers.items) by.shared))
      (λ p vs suits.
      let cp = p.config in
      let all = common_of left spot p vs s in
      let request : request_of all k ≡ who.r.shown = request_seen rs k who.r who.there in
      let found : first_due cp w.index (own_of w0) all ≡ Some k = subst (λ x. first_due x w.index (own_of w0) all ≡ Some k) suits.config (order id first) in
      let desk : desk_of w' ≡ desk_of w0 = show.desk ∙ rw (there, ap (λ x. x.put_off) same, wakes, tells.outputs_added ∙ append-nil w.home.deferred.outputs.items, completions, results, slots, awaited) refl in
      record {
        moves = grind (arith, comes_to_due cp w.index gate k (own_of w0) all (desk_of w0) found, request, ends, desk, things_kept vs w.index (visible w) (visible w') s s' suits.seen (ap (λ y. y.wakes) seen) serves.shared spares);
        may = (at_large q w s sound refl, (told_first cp (own_of w0) w.index all.requests k found, (ap (same_end None) (ap outcome_at_expiry request ∙ ends), tt)));
        own = show.own ∙ rw (there, ap (λ x. x.names.ended) same, ap (λ x. x.names.untold) same, numbers, flying) refl;
        common =
            common_changed left spot p (with_view vs w.index (visible w')) s s' k who.r cancels by.shared records who.there refl
            ∙ ap (λ (x : Common). record x { requests = slice_set (map (λ r. r.shown) rs) k (cancels who.r).shown }) (common_same left spot p vs w w' s suits (λ c'. ap (λ y. seat_seen y c') seen))
            ∙ ap (λ x. record all { requests = slice_set (map (λ r. r.shown) rs) k (record x { timer = None; cancelled = true }) }) (sym request);
      }))

  -- by whether the kernel has it
  pub expiry_steps : (w w' : Worker) (s s' : Shared B) (e : Event) (id : WaiterId) → (new : IsDueIn w s) → IsInOrder w s → (first : first_of (driver_of w).lists.due ≡ Some id) → HasExpired w w' s s' e id (due_first w s new id first).r → Steps left spot w s e w' s'
  expiry_steps w w' s s' e id new order first by =
      elim ((due_first w s new id first).it.in_flight) as (λ b. (due_first w s new id first).it.in_flight ≡ b → Steps left spot w s e w' s') [
        | true ↦ λ flies. expiry_cancels w w' s s' e id new order first flies by
        | false ↦ λ idle. expiry_ends left spot w w' s s' e id new order first idle by
      ] refl
