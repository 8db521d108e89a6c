-- What holds again once a request has its permit, and waits to be staged.
use Rattle.std.{proofs.{Common.{◌≡◌, ◌≢◌, ℕ, ◌+◌, ◌^◌, ◌<◌, ◌≤◌, ◌==◌, ◌&&◌, Bool, true, false, not, List, [], ◌++◌, length, option_to_list, Option, Some, None, is_some, if◌then◌else◌, refl, sym, ap, subst, ◌∙◌, arith, inl, slice_get}, lemmas.Bool.false≢true}, specs.Vec.vec_capacity}
use Rattle.exec_base.specs.{Slab.{value_at, written}, declared.slab.Id.Id}
use Rattle.exec_outcomes.specs.{Accounts.is_durable, declared.outcome.OpResult.OpResult}
use Rattle.exec_request.specs.{Requests.{asked_of, deadline_of}, States.asks_cancel}
use Rattle.exec_waiters.{specs.{Events.with_permit, Ids.user_data_of, States.{needs_permit, takes_tick, waiter_at}, declared.{waiter.{Entry.TheVariants.Pending, Waiter.Waiter}, waiter_id.WaiterId.WaiterId}}, proofs.Changes.entry_of}
use Rattle.exec_driver.{specs.{Driving.{Driving, is_gated as waits_gated, request_at}, Punctual.IsPunctual}, proofs.Serving.among_others}
use Rattle.exec_lists.specs.Lists.{is_among, without}
use Rattle.exec_opens.specs.{Opens.{OpenState, holder_at, holder_in}, declared.opens.WaiterKey.WaiterKey}
use Rattle.exec_machine.specs.{declared.state.RequestPhase.RequestPhase, Tests.{is_gated, is_resolved, is_staged}}
use Rattle.exec_moves.specs.declared.place.{Place.Place, Service.Service}
use Rattle.exec_parts.{specs.{declared.parts.{mail.Reply.Reply, record.Record.Record, shared.Shared.Shared, worker.Worker.Worker}, Records.number_in, Serving.changed_at, View.driver_of}, proofs.Facts.{and_parts, by_name, not-true, same_number, same_Some}}
use Rattle.exec_invariants.{specs.{Carried.{IsCarried, IsUnderWay, may_move, moves_by, those_of, unlanded}, Due.{IsWheelAt, may_be_due, wheel_moment}, Flown.{AreLanded, HasFlown, IsPolled, operations}, Gates.{IsKnown, key_for, line_at}, Ordered.{IsOrdered, went_round}, Names.{IsAlike, IsSubmitted}, Sound.{SoundAt, served_in}, Submits.IsGatedIn}, proofs.{Changing.{OneGoesOn, all_go_one, apart_number, changes_one, keeps_one}, Conveying.carried_one, Flown.landed_on, Going.{GoesOn, owning_on}, Known.{known_written, low_there}, Marking.{known_then, mark_if, mark_kept, marked, plain_kept, was_marked}, Orders.{Eases, IsPartOf, TurnsAlike, alike_self, eased, eases_written, part_self}, ServingHolds.{Follows, KeepsBy}}}
use Rattle.exec_serving.proofs.PermitGrants.{Granted}

abbrev key_made : ℕ → WaiterId → WaiterKey
key_made worker name = record { worker = worker; id = name }

-- THE RECORD

abbrev pub queues : Record → Record
queues r = record r { shown = record r.shown { phase = RequestPhase.Queued } }

gated_phase : (p : RequestPhase) → is_gated p ≡ true → p ≡ RequestPhase.Gated
gated_phase RequestPhase.Gated h = refl
gated_phase _ h = absurd (false≢true h)

-- WHO IS GRANTED: the first of the gate, of this worker

pub record GrantAt {B : Type 0} (w : Worker) (s : Shared B) (file : ℕ) (id : WaiterId) : Type 0 where
  pub it : Waiter Reply Reply
  pub r : Record
  pub o : OpenState
  pub live : waiter_at (driver_of w).requests id.0 ≡ Some it
  pub there : slice_get s.requests.items (number_in w.names.requests.items id.0) ≡ Some r
  pub named : r.id.0 ≡ id.0
  pub worker : r.shown.worker ≡ w.index
  pub alike : IsAlike (driver_of w).wheel.start (driver_of w).wheel.tick it r.shown
  pub idle : it.in_flight ≡ false
  pub unasked : asks_cancel it.state ≡ false
  pub durable : is_durable (asked_of it.request).kind ≡ true
  pub phase : r.shown.phase ≡ RequestPhase.Gated
  pub target : r.shown.operation.target ≡ file
  pub open_there : slice_get s.opens file ≡ Some o
  pub holds : o.holder ≡ Some (key_for r)
  pub small : id.0.generation < 2 ^ 64

module _ {B : Type 0} (w : Worker) (s : Shared B) (v : Service) (file : ℕ) (new : IsGatedIn v file w s) (id : WaiterId) (holder : holder_at s.opens file ≡ Some (record { worker = w.index; id = id })) (among : is_among id (driver_of w).lists.gated ≡ true) where
  grant_by : (o : Option (Waiter Reply Reply)) → request_at (driver_of w) id ≡ o → GrantAt w s file id
  grant_by None gone = absurd (false≢true (ap waits_gated (sym gone) ∙ new.lists.gated id among))
  grant_by (Some it) live =
      let sound = new.sound in
      let d = driver_of w in
      let old = sound.named.requests id.0 (rw (entry_of (value_at d.requests id.0) it live) refl) in
      let r = old.0 in
      let a = sound.named.alike id.0 it r live old.1 in
      let parts = and_parts (not it.in_flight && needs_permit it) (not (asks_cancel it.state)) (ap waits_gated (sym live) ∙ new.lists.gated id among) in
      let more = and_parts (not it.in_flight) (needs_permit it) parts.0 in
      let durable = (and_parts (is_durable (asked_of it.request).kind) (not it.permit) more.1).0 in
      let found = there_by (slice_get s.opens file) refl in
      let key : key_for r ≡ record { worker = w.index; id = id } = same_key r old.2 old.3 in
      let holds : found.0.holder ≡ Some (key_for r) = found.2 ∙ ap (λ x. Some x) (sym key) in
      let first : slice_get (line_at found.0) 0 ≡ Some (key_for r) = ap (λ h. slice_get (option_to_list h ++ found.0.waiting) 0) holds in
      let low = low_there w.index w.names.requests.items d.requests s.opens s.requests.items sound.known id.0 (rw (entry_of (value_at d.requests id.0) it live) refl) in
      let small : id.0.generation < 2 ^ 64 = omega (arith, low) in
      let target = ((sound.gates.lines file found.0 found.1).durable 0 (key_for r) (number_in w.names.requests.items id.0) r first old.1 refl).1 in
      search (live, old.1, old.2, old.3, a, not-true it.in_flight more.0, not-true (asks_cancel it.state) parts.1, durable, gated_phase r.shown.phase (a.permit ∙ more.1), target, found.1, holds, small)
    where
      same_key : (r : Record) → r.id.0 ≡ id.0 → r.shown.worker ≡ w.index → key_for r ≡ record { worker = w.index; id = id }
      same_key r name mine = ap (λ (n : ℕ). key_made n r.id) mine ∙ ap (λ (x : Id). key_made w.index (record { 0 = x })) name

      there_by : (o : Option OpenState) → slice_get s.opens file ≡ o → (x : OpenState) × (slice_get s.opens file ≡ Some x) × (x.holder ≡ Some (record { worker = w.index; id = id }))
      there_by None none = absurd (let no : None ≡ Some (record { worker = w.index; id = id }) = sym (ap holder_in none) ∙ holder in cc)
      there_by (Some x) at = (x, at, sym (ap holder_in at) ∙ holder)

  pub granted_at : GrantAt w s file id
  granted_at = grant_by (request_at (driver_of w) id) refl

-- what changes of a record by that
pub granted_of : {B : Type 0} (w : Worker) (s : Shared B) (file : ℕ) (id : WaiterId) (who : GrantAt w s file id) (f : Record → Record) → key_for (f who.r) ≡ key_for who.r → (f who.r).shown.operation ≡ who.r.shown.operation → is_gated (f who.r).shown.phase ≡ false
    → Granted (number_in w.names.requests.items id.0) who.r f who.o s.opens s.requests.items
granted_of = grind arith

-- WHAT HOLDS AGAIN

module _ {B : Type 0} (q q' : Place) (w : Worker) (s : Shared B) (sound : SoundAt q w s) (file : ℕ) (id : WaiterId) (who : GrantAt w s file id) (d' : Driving Reply Reply) (slab : d'.requests ≡ written (driver_of w).requests id.0 (Pending (with_permit who.it)))
    (ring : d'.ring ≡ (driver_of w).ring) (armed : d'.armed ≡ (driver_of w).armed) (wheel : d'.wheel ≡ (driver_of w).wheel) (gated : d'.lists.gated ≡ without id (driver_of w).lists.gated) (enrolments : d'.lists.enrolments ≡ (driver_of w).lists.enrolments) (dues : d'.lists.due ≡ (driver_of w).lists.due) (cancels : d'.lists.cancels ≡ (driver_of w).lists.cancels) where
  abbrev pub permitted_waiter : Waiter Reply Reply
  permitted_waiter = with_permit who.it

  abbrev pub queued_records : List Record
  queued_records = changed_at s.requests.items (number_in w.names.requests.items id.0) queues

  on : GoesOn who.r (queues who.r)
  on = record { same = refl; over = sym (ap is_resolved who.phase); ended = λ h. absurd (false≢true (sym (ap is_resolved who.phase) ∙ h)) }

  alike_queued : IsAlike (driver_of w).wheel.start (driver_of w).wheel.tick permitted_waiter (queues who.r).shown
  alike_queued = grind arith

  one : OneGoesOn w.names w.names (driver_of w) d' s.requests.items id.0 who.it permitted_waiter who.r queues
  one = record { at = who.live; there = who.there; slab = slab; on = on; alike = alike_queued; start = ap (λ x. x.start) wheel; tick = ap (λ x. x.tick) wheel; requests = refl; timers = refl }

  staged_by : (j : ℕ) (b : Bool) (x : Record) → is_staged (mark_if queues b x).shown.phase ≡ true → is_staged x.shown.phase ≡ true
  staged_by j true x h = absurd (false≢true h)
  staged_by j false x h = h

  submitted_queued : IsSubmitted w.index w.names.staged.items w.names.untold.items d'.ring queued_records
  submitted_queued =
      let sub = sound.named.submitted in
      let rs = s.requests.items in
      let k = number_in w.names.requests.items id.0 in
      subst (λ x. IsSubmitted w.index w.names.staged.items w.names.untold.items x queued_records) (sym ring)
      (record {
        tagged = sub.tagged;
        cancels = sub.cancels;
        known = known_then queues rs k w.names.staged.items sub.known;
        own = λ j x h found. let old = was_marked queues rs k j x found in ap (λ y. y.shown.worker) old.2 ∙ mark_kept ℕ (λ x. x.shown.worker) queues (λ x. refl) (k == j) old.0 ∙ sub.own j old.0 h old.1;
        all = λ j x found mine staged.
            let old = was_marked queues rs k j x found in
            sub.all j old.0 old.1 (sym (mark_kept ℕ (λ x. x.shown.worker) queues (λ x. refl) (k == j) old.0) ∙ sym (ap (λ y. y.shown.worker) old.2) ∙ mine) (staged_by j (k == j) old.0 (sym (ap (λ y. is_staged y.shown.phase) old.2) ∙ staged));
      })

  flown_queued : HasFlown (served_in q') w.index w.names d' queued_records
  flown_queued =
      let d = driver_of w in
      let rs = s.requests.items in
      let k = number_in w.names.requests.items id.0 in
      let it = who.it in
      let it' = permitted_waiter in
      let flown = sound.flown in
      let changed = changes_one d.requests id.0 it it' who.live in
      let waiters : (other : Id) → waiter_at d'.requests other ≡ waiter_at (written d.requests id.0 (Pending it')) other = λ other. ap (λ x. waiter_at x other) slab in
      record {
        ending = flown.ending;
        staging = subst (λ x. x.size ≤ vec_capacity w.names.staged) (sym ring) flown.staging;
        telling = subst (λ x. x.size ≤ vec_capacity w.names.untold) (sym ring) flown.telling;
        entries = subst (λ x. length w.names.staged.items + length w.names.untold.items ≤ length x.staged) (sym ring) flown.entries;
        gated = λ other x live needs.
            let apart : other.0 ≢ id.0 = λ eq.
            let is_it : x ≡ it' = same_Some x it' (sym live ∙ waiters other.0 ∙ ap (waiter_at (written d.requests id.0 (Pending it'))) eq ∙ changed.is_at) in
            false≢true (sym (none_needed (is_durable (asked_of it.request).kind)) ∙ ap needs_permit (sym is_it) ∙ needs) in
            ap (is_among other) gated ∙ among_others other id d.lists.gated apart (flown.gated other x (sym (changed.others other.0 apart) ∙ sym (waiters other.0) ∙ live) needs);
        plain = plain_kept queues rs k (λ r p. record { bounded = p.bounded; moved = p.moved; deadline = p.deadline }) w.index (λ r. refl) flown.plain;
        landed = subst (λ x. AreLanded w.names d' queued_records (operations x)) (sym ring)
            (landed_on w.names w.names d d' rs queued_records (operations d.ring) flown.landed
            (λ other x r given live flies found landed.
            let j = number_in w.names.requests.items other in
            let apart : other ≢ id.0 = λ same.
            false≢true (sym who.idle ∙ ap (λ y. y.in_flight) (sym (same_Some x it (sym live ∙ ap (waiter_at d.requests) same ∙ who.live))) ∙ flies) in
            record { it' = x; r' = mark_if queues (k == j) r; live = waiters other ∙ changed.others other apart ∙ live; flies = refl; same = refl; number = refl; there = marked queues rs k j r found; phase = kept_phase j (k == j) r given refl found landed }));
        polled = polled_so flown.polled;
        owning = owning_on rs queued_records (all_go_one rs k queues who.r who.there on) flown.owning;
        enrolling = λ other x live takes some.
            ap (is_among other) enrolments
            ∙ by_name other.0 id.0 (λ apart. flown.enrolling other x (sym (changed.others other.0 apart) ∙ sym (waiters other.0) ∙ live) takes some)
            (λ eq.
            let is_it : x ≡ it' = same_Some x it' (sym live ∙ waiters other.0 ∙ ap (waiter_at (written d.requests id.0 (Pending it'))) eq ∙ changed.is_at) in
            flown.enrolling other it (ap (waiter_at d.requests) eq ∙ who.live) (ap (λ y. takes_tick y.state) (sym is_it) ∙ takes) (ap (λ y. is_some (deadline_of y.request)) (sym is_it) ∙ some));
        uncancelled = λ other x among found mine.
            let j = number_in w.names.requests.items other.0 in
            let old = was_marked queues rs k j x found in
            ap (λ y. y.shown.cancel_staged) old.2 ∙ mark_kept Bool (λ x. x.shown.cancel_staged) queues (λ x. refl) (k == j) old.0 ∙ flown.uncancelled other old.0 (ap (is_among other) (sym cancels) ∙ among) old.1 (sym (mark_kept ℕ (λ y. y.shown.worker) queues (λ y. refl) (k == j) old.0) ∙ sym (ap (λ y. y.shown.worker) old.2) ∙ mine);
      }
    where
      none_needed : (b : Bool) → (b && false) ≡ false
      none_needed true = refl
      none_needed false = refl

      polled_so : IsPolled (driver_of w).ring (driver_of w).armed → IsPolled d'.ring d'.armed
      polled_so h = subst (λ x. IsPolled x d'.armed) (sym ring) (subst (IsPolled (driver_of w).ring) (sym armed) h)

      kept_phase : (j : ℕ) (b : Bool) (r : Record) (n : OpResult) → (number_in w.names.requests.items id.0 == j) ≡ b → slice_get s.requests.items j ≡ Some r → r.shown.phase ≡ RequestPhase.Landed n → (mark_if queues b r).shown.phase ≡ r.shown.phase
      kept_phase j true r n is found landed =
          let same : who.r ≡ r = same_Some who.r r (sym who.there ∙ ap (slice_get s.requests.items) (same_number (number_in w.names.requests.items id.0) j is) ∙ found) in
          absurd (false≢true (sym (ap is_gated landed) ∙ ap (λ y. is_gated y.shown.phase) (sym same) ∙ ap is_gated who.phase))
      kept_phase j false r n is found landed = refl

  carried_queued : IsCarried w.names.requests.items d'.requests d'.ring queued_records s.store
  carried_queued =
      let d = driver_of w in
      let rs = s.requests.items in
      let n = w.names.requests.items in
      let it' = permitted_waiter in
      let none : (those_of (user_data_of id.0) d.ring.flying ≡ []) × (those_of (user_data_of id.0) d.ring.staged ≡ []) = subst (λ p. IsUnderWay p (user_data_of id.0) who.it.request d.ring) who.phase (sound.carried.carried id.0 who.it who.r who.live who.there) in
      subst (λ x. IsCarried n x d'.ring queued_records s.store) (sym slab)
      (subst (λ x. IsCarried n (written d.requests id.0 (Pending it')) x queued_records s.store) (sym ring)
      (carried_one n d.requests d.ring rs s.store sound.carried id.0 who.it it' who.r queues d.ring who.live who.there (λ v differs. refl) (λ v differs. refl) none (sound.carried.whole id.0 who.it who.live) (sound.carried.target id.0 who.it who.r who.live who.there)
      (λ out socket. let same : may_move out socket (queues who.r) ≡ may_move out socket who.r = ap (λ p. if moves_by out socket who.r.shown.operation then unlanded p who.r.shown.released who.r.shown.operation else 0) (sym who.phase) in omega (arith, same))
      (sound.carried.stretch id.0 who.it who.live)
      (λ other x live apart. apart_number w.index w.names w.names d d' w.home.timers rs s.sleepers.items id.0 who.it it' who.r queues one sound.named other (rw (entry_of (value_at d.requests other) x live) refl) apart)))

  order_queued : IsOrdered (went_round s.config w.moments) w.names.requests.items d'.requests d'.wheel d'.lists.enrolments d'.lists.due
  order_queued =
      let d = driver_of w in
      eased (subst (Eases d.requests) (sym slab) (eases_written d.requests id.0 who.it permitted_waiter who.live (λ t is. is) (λ none. none)))
      (subst (TurnsAlike d.wheel) (sym wheel) (alike_self d.wheel))
      (subst (λ l. IsPartOf l d.lists.enrolments) (sym enrolments) (part_self d.lists.enrolments))
      (subst (λ l. IsPartOf l d.lists.due) (sym dues) (part_self d.lists.due)) sound.due.order

  known_queued : IsKnown w.index w.names.requests.items d'.requests s.opens queued_records
  known_queued =
      subst (λ x. IsKnown w.index w.names.requests.items x s.opens queued_records) (sym slab)
      (known_written w.index w.names.requests.items (driver_of w).requests s.opens s.opens s.requests.items (number_in w.names.requests.items id.0) queues (λ y. record { id = refl; worker = refl; kind = refl; target = refl; unrefused = λ h. h }) (λ file h. h)
      id.0 who.it permitted_waiter who.r refl who.live who.there (inl (λ h. inl h)) sound.known)

  pub keeps_queued : Follows q q' → IsPunctual d' → (may_be_due (served_in q') ≡ false → (driver_of w).lists.due ≡ []) → KeepsBy (record w { place = q' }) d' w.home.timers queued_records s.sleepers.items s
  keeps_queued follows punctual due =
      keeps_one q q' w.put_off w.names w s d' id.0 who.it permitted_waiter who.r queues sound follows one punctual (λ h. dues ∙ due h) order_queued
      (subst (λ x. IsWheelAt s.config w.moments.start (wheel_moment (served_in q) w.moments) x) (sym wheel) sound.due.wheel) (ap (λ x. x.size) ring) submitted_queued flown_queued carried_queued refl known_queued
