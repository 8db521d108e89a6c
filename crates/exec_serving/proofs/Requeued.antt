-- What holds again once an operation has landed whose request goes on.
use Rattle.std.proofs.{Common.{◌≡◌, ◌≢◌, ℕ, ◌+◌, ◌^◌, ◌<◌, ◌≤◌, ◌==◌, ◌&&◌, inl, not, Bool, true, false, List, [], ◌∷◌, ◌++◌, map, Some, None, refl, sym, ap, subst, ◌∙◌, slice_get, slice_index_or, is_some, arith}, lemmas.Bool.{false≢true, eq-eqb, or_parts}}
use Rattle.exec_base.specs.{Slab.{value_at, written}, declared.slab.Id.Id}
use Rattle.exec_outcomes.specs.{Accounts.is_durable, Lawful.{is_lawful, window_of}, Outcomes.{HasCome, bytes_of, refuses_hint}, declared.outcome.OpResult.OpResult}
use Rattle.exec_request.specs.{Judging.{Judges, judged_as}, Kept.kept_of, Requests.{asked_of, cursor_of, deadline_of, hinted_of}, declared.request.Request.Request as Asking}
use Rattle.exec_ring.specs.{Completions.result_in, declared.completion.Completion.Completion}
use Rattle.exec_waiters.{specs.{States.{needs_permit, waiter_at, takes_tick}, declared.waiter.{Entry.TheVariants.Pending, Waiter.Waiter}}, proofs.Changes.entry_of}
use Rattle.exec_driver.specs.{Driving.Driving, Punctual.IsPunctual}
use Rattle.exec_lists.specs.Lists.{is_among, with_queued}
use Rattle.exec_opens.specs.Opens.{OpenState}
use Rattle.exec_machine.specs.{declared.state.{Request.Request, RequestPhase.TheVariants.Landed}, Requests.{judged_of, reaped, went_on, asked_of as asked_in, cursor_of as cursor_in}, Tests.{is_gated, is_kept, is_staged}}
use Rattle.exec_moves.specs.declared.place.Place.{Place}
use Rattle.exec_parts.{specs.{declared.parts.{mail.Reply.Reply, names.Names.Names, record.Record.Record, shared.Shared.Shared, worker.Worker.Worker}, Records.number_in, Serving.{changed_at, is_one_of, cancels_in, AreTagged}, View.{driver_of, number_told}}, proofs.Facts.{and_parts, by_name, same_number, not_same}}
use Rattle.exec_invariants.{specs.{Carried.{IsCarried, those_of}, Due.{IsWheelAt, may_be_due, wheel_moment}, Flown.{AreLanded, HasFlown, HasLanded, IsPlain}, Gates.{IsKnown, has_hint_at}, Sound.{SoundAt, served_in}, Names.{IsAlike, IsSubmitted}, Ordered.{IsOrdered, went_round}}, proofs.{Going.owning_on, Hinting.stretch_judged, Known.known_written, Marking.{known_then, mark_kept, mark_if, marked, was_marked}, Mine.live_mine, Changing.{OneGoesOn, all_go_one, changes_one, keeps_one, apart_number}, Conveying.{carried_judged, carried_ring}, Flown.FliesOn, Judging.{asks_after, cancel_decides, forgets_after, given_is, moved_bytes, moved_fits, moved_is, switched_is, total_fits}, ServingHolds.{Follows, KeepsBy}, Swept.RingAfter, Orders.{Eases, IsPartOf, TurnsAlike, alike_self, eased, eases_written, part_self}}}
use Rattle.exec_serving.proofs.Whole.{whole_kept}

-- THE OTHERS THAT HAVE LANDED have other numbers

pub number_landed : (n : Names) (d : Driving Reply Reply) (rs : List Record) (c : Completion) → (h : HasLanded n d rs c) → number_told n.requests.items c ≡ number_in n.requests.items h.id
number_landed n d rs c h = ap (λ i. slice_index_or n.requests.items i 0) (sym h.index)

pub landed_rest : (n : Names) (d d' : Driving Reply Reply) (rs rs' : List Record) (k : ℕ) (cs : List Completion) → AreLanded n d rs cs → is_one_of k (map (number_told n.requests.items) cs) ≡ false
    → ((id : Id) (it : Waiter Reply Reply) (r : Record) (given : OpResult) → waiter_at d.requests id ≡ Some it → it.in_flight ≡ true → slice_get rs (number_in n.requests.items id) ≡ Some r → r.shown.phase ≡ Landed given
    → (k ≡ number_in n.requests.items id → ⊥) → FliesOn n n d d' rs rs' id it r)
    → AreLanded n d' rs' cs
landed_rest n d d' rs rs' k [] are once keeps = tt
landed_rest n d d' rs rs' k (c ∷ cs) are once keeps =
    let h = are.0 in
    let number = number_landed n d rs c h in
    let parts = or_parts (number_told n.requests.items c == k) (is_one_of k (map (number_told n.requests.items) cs)) once in
    let on = keeps h.id h.it h.r (result_in c.result) h.live h.flies h.there h.landed (λ e. false≢true (sym parts.0 ∙ eq-eqb (number_told n.requests.items c) k (number ∙ sym e))) in (
      search (on.flies ∙ h.flies, ap (λ q. is_lawful (window_of (asked_of q) (cursor_of q)) (result_in c.result)) on.same ∙ h.lawful, on.phase ∙ h.landed, on, h),
      are.1,
      landed_rest n d d' rs rs' k cs are.2 parts.1 keeps,
    )

-- WHAT THE DRIVER DID

pub record GoesBack {B : Type 0} (w : Worker) (s : Shared B) (d' : Driving Reply Reply) (c : Completion) (cs : List Completion) : Type 0 where
  pub h : HasLanded w.names (driver_of w) s.requests.items c
  pub rest : AreLanded w.names (driver_of w) s.requests.items cs
  pub once : is_one_of (number_told w.names.requests.items c) (map (number_told w.names.requests.items) cs) ≡ false
  pub request : Asking
  pub judges : Judges (asked_of h.it.request) (cursor_of h.it.request) (cursor_of request) (judged_as (hinted_of h.it.request) h.it.state (result_in c.result)) None
  pub kept : kept_of request ≡ kept_of h.it.request
  pub ring : RingAfter (number_told w.names.requests.items) (driver_of w) d' cs
  pub requests : d'.requests ≡ written (driver_of w).requests h.id (Pending (record h.it { in_flight = false; request = request }))
  pub lists : d'.lists ≡ with_queued (record { 0 = h.id }) (driver_of w).lists
  pub wheel : d'.wheel ≡ (driver_of w).wheel

-- THE RECORD

abbrev pub goes_back : OpResult → Record → Record
goes_back given r = record r { shown = reaped given None r.shown }

-- its bytes stay within its length
pub lawful_shown : (start tick : ℕ) (it : Waiter Reply Reply) (r : Request) (given : OpResult) → IsAlike start tick it r → is_lawful (window_of (asked_of it.request) (cursor_of it.request)) given ≡ true → is_lawful (window_of (asked_in r.operation) (cursor_in r.operation)) given ≡ true
lawful_shown = grind arith

-- one more result leaves it within its length
pub fits_shown : (r : Request) (given : OpResult) → IsPlain r → is_lawful (window_of (asked_in r.operation) (cursor_in r.operation)) given ≡ true → (went_on r given).moved ≤ r.operation.skip + r.operation.length + 4095
fits_shown r given p lawful = moved_fits (asked_in r.operation) (cursor_in r.operation) (judged_of r given) p.moved lawful

pub total_shown : (r : Request) (given : OpResult) → IsPlain r → is_lawful (window_of (asked_in r.operation) (cursor_in r.operation)) given ≡ true → bytes_of given + r.operation.moved < 2 ^ 64
total_shown r given p lawful =
    total_fits (window_of (asked_in r.operation) (cursor_in r.operation)) r.operation.moved (r.operation.skip + r.operation.length + 4095) given p.moved p.bounded lawful

module _ {B : Type 0} (q q' : Place) (w : Worker) (s : Shared B) (sound : SoundAt q w s) (d' : Driving Reply Reply) (c : Completion) (cs : List Completion) (back : GoesBack w s d' c cs) where
  abbrev pub back_waiter : Waiter Reply Reply
  back_waiter = record back.h.it { in_flight = false; request = back.request }

  abbrev pub back_records : List Record
  back_records = changed_at s.requests.items (number_in w.names.requests.items back.h.id) (goes_back (result_in c.result))

  pub back_alike : IsAlike (driver_of w).wheel.start (driver_of w).wheel.tick back.h.it back.h.r.shown
  back_alike = sound.named.alike back.h.id back.h.it back.h.r back.h.live back.h.there

  pub back_plain : IsPlain back.h.r.shown
  back_plain = sound.flown.plain (number_in w.names.requests.items back.h.id) back.h.r back.h.there (live_mine w.index w.names (driver_of w) w.home.timers s.requests.items s.sleepers.items sound.named back.h.id back.h.it back.h.r back.h.live back.h.there)

  kept_asked : asked_of back.request ≡ asked_of back.h.it.request
  kept_asked = ap (λ k. k.asked) back.kept

  alike_then : IsAlike (driver_of w).wheel.start (driver_of w).wheel.tick back_waiter (goes_back (result_in c.result) back.h.r).shown
  alike_then =
      let d = driver_of w in
      let it = back.h.it in
      let r = back.h.r.shown in
      let given = result_in c.result in
      let a = back_alike in
      let results = a.come.0 ++ judged_as (hinted_of it.request) it.state given ∷ [] in
      record {
        asked = a.asked ∙ sym kept_asked;
        moved = moved_is d.wheel.start d.wheel.tick it r a given back.h.flies back.request None back.judges;
        switched = switched_is d.wheel.start d.wheel.tick it r a given back.h.flies back.request None back.judges;
        come = (results, subst (λ x. HasCome x (cursor_of back.request) results) (sym kept_asked) (back.judges.goes_on a.come.0 a.come.1 refl));
        hinted = λ flies. absurd (false≢true flies);
        asks_hint = λ asks.
            let still = asks_after d.wheel.start d.wheel.tick it r a given back.h.flies back.request None back.judges asks in
            let was = a.asks_hint still.0 in
            (was.0, still.1 ∙ was.1);
        seen = λ durable. a.seen durable ∙ ap (λ k. k.seen) (sym back.kept);
        deadline = a.deadline ∙ ap (λ k. k.deadline) (sym back.kept);
        cancelled = a.cancelled;
        timer = a.timer;
        observed = a.observed;
        waiter = a.waiter;
        flying = refl;
        permit = sym (ap is_gated back.h.landed) ∙ a.permit ∙ ap (λ x. is_durable x.kind && not it.permit) (sym kept_asked);
        open_still = refl;
        near = a.near;
        going = λ e. absurd (cancel_decides (asked_in r.operation) (cursor_in r.operation) (judged_of r given) (a.cancelled ∙ e) (given_is d.wheel.start d.wheel.tick it r a given back.h.flies back.request None back.judges));
        told_once = a.told_once;
        dated = λ ticks. ap is_some (ap (λ k. k.deadline) back.kept) ∙ a.dated ticks;
        alone = λ asks. ap (λ x. is_kept x.kind) kept_asked ∙ a.alone asks;
      }

  plain_then : IsPlain (goes_back (result_in c.result) back.h.r).shown
  plain_then = grind (arith, back_plain, back_alike, fits_shown, lawful_shown)

  one_back : OneGoesOn w.names w.names (driver_of w) d' s.requests.items back.h.id back.h.it back_waiter back.h.r (goes_back (result_in c.result))
  one_back = grind (arith, back_alike, false≢true, alike_then)

  staged_by : (j : ℕ) (b : Bool) (x : Record) → is_staged (mark_if (goes_back (result_in c.result)) b x).shown.phase ≡ true → is_staged x.shown.phase ≡ true
  staged_by j true x h = absurd (false≢true h)
  staged_by j false x h = h

  submitted_back : IsSubmitted w.index w.names.staged.items w.names.untold.items d'.ring back_records
  submitted_back =
      let sub = sound.named.submitted in
      let rs = s.requests.items in
      let k = number_in w.names.requests.items back.h.id in
      let given = result_in c.result in
      let f = goes_back given in
      record {
        tagged = subst AreTagged (sym back.ring.staged) sub.tagged;
        cancels = ap cancels_in back.ring.staged ∙ sub.cancels;
        known = known_then f rs k w.names.staged.items sub.known;
        own = λ j x h found. let old = was_marked f rs k j x found in ap (λ y. y.shown.worker) old.2 ∙ mark_kept ℕ (λ x. x.shown.worker) (goes_back given) (λ x. refl) (k == j) old.0 ∙ sub.own j old.0 h old.1;
        all = λ j x found mine staged.
            let old = was_marked f rs k j x found in
            sub.all j old.0 old.1 (sym (mark_kept ℕ (λ x. x.shown.worker) (goes_back given) (λ x. refl) (k == j) old.0) ∙ sym (ap (λ y. y.shown.worker) old.2) ∙ mine) (staged_by j (k == j) old.0 (sym (ap (λ y. is_staged y.shown.phase) old.2) ∙ staged));
      }

  plain_by : (j : ℕ) (b : Bool) (x : Record) → (number_in w.names.requests.items back.h.id == j) ≡ b → slice_get s.requests.items j ≡ Some x → x.shown.worker ≡ w.index → IsPlain (mark_if (goes_back (result_in c.result)) b x).shown
  plain_by j true x is found mine =
      let same : back.h.r ≡ x = cc (back.h.there, found, same_number (number_in w.names.requests.items back.h.id) j is) in
      subst (λ y. IsPlain (goes_back (result_in c.result) y).shown) same plain_then
  plain_by j false x is found mine = sound.flown.plain j x found mine

  flown_back : HasFlown (served_in q') w.index w.names d' back_records
  flown_back =
      let d = driver_of w in
      let rs = s.requests.items in
      let k = number_in w.names.requests.items back.h.id in
      let given = result_in c.result in
      let f = goes_back given in
      let it = back.h.it in
      let it' = back_waiter in
      let flown = sound.flown in
      let changed = changes_one d.requests back.h.id it it' back.h.live in
      let waiters : (other : Id) → waiter_at d'.requests other ≡ waiter_at (written d.requests back.h.id (Pending it')) other = λ other. ap (λ x. waiter_at x other) back.requests in
      let once : is_one_of k (map (number_told w.names.requests.items) cs) ≡ false = ap (λ j. is_one_of j (map (number_told w.names.requests.items) cs)) (sym (number_landed w.names d rs c back.h)) ∙ back.once in
      record {
        ending = flown.ending;
        staging = rw back.ring.size flown.staging;
        telling = rw back.ring.size flown.telling;
        entries = rw back.ring.staged flown.entries;
        gated = λ other x live needs.
            let listed : is_among other d.lists.gated ≡ true =
            by_name other.0 back.h.id (λ apart. flown.gated other x (sym (changed.others other.0 apart) ∙ sym (waiters other.0) ∙ live) needs)
            (λ eq.
            let is_it : x ≡ it' = cc (sym (waiters other.0) ∙ live, eq, changed.is_at) in
            flown.gated other it (ap (waiter_at d.requests) eq ∙ back.h.live) (ap (λ a. is_durable a.kind && not it.permit) (sym kept_asked) ∙ ap needs_permit (sym is_it) ∙ needs)) in
            ap (λ l. is_among other l.gated) back.lists ∙ listed;
        plain = λ j x found mine.
            let old = was_marked f rs k j x found in
            subst (λ y. IsPlain y.shown) (sym old.2) (plain_by j (k == j) old.0 refl old.1 (sym (mark_kept ℕ (λ x. x.shown.worker) (goes_back given) (λ x. refl) (k == j) old.0) ∙ sym (ap (λ y. y.shown.worker) old.2) ∙ mine));
        landed = subst (λ ops. AreLanded w.names d' back_records ops) (sym back.ring.landed)
            (landed_rest w.names d d' rs back_records k cs back.rest once
            (λ other x r g live flies found landed apart.
            let j = number_in w.names.requests.items other in
            let differs : other ≢ back.h.id = λ e. apart (ap (number_in w.names.requests.items) (sym e)) in
            record { it' = x; r' = r; live = waiters other ∙ changed.others other differs ∙ live; flies = refl; same = refl; number = refl; there = marked f rs k j r found ∙ ap (λ b. Some (mark_if f b r)) (not_same k j apart); phase = refl }));
        polled = back.ring.polled;
        owning = owning_on rs back_records (all_go_one rs k f back.h.r back.h.there one_back.on) flown.owning;
        enrolling = λ other x live takes some.
            let listed : is_among other d.lists.enrolments ≡ true =
            let differs : other.0 ≢ back.h.id → is_among other d.lists.enrolments ≡ true = λ apart. flown.enrolling other x (sym (changed.others other.0 apart) ∙ sym (waiters other.0) ∙ live) takes some in
            by_name other.0 back.h.id differs
            (λ eq.
            let is_it : x ≡ it' = cc (sym (waiters other.0) ∙ live, eq, changed.is_at) in
            flown.enrolling other it (ap (waiter_at d.requests) eq ∙ back.h.live) (ap (λ y. takes_tick y.state) (sym is_it) ∙ takes)
            (ap (λ y. is_some y.deadline) (sym back.kept) ∙ ap (λ y. is_some (deadline_of y.request)) (sym is_it) ∙ some)) in
            ap (λ l. is_among other l.enrolments) back.lists ∙ listed;
        uncancelled = λ other x among found mine.
            let j = number_in w.names.requests.items other.0 in
            let old = was_marked f rs k j x found in
            ap (λ y. y.shown.cancel_staged) old.2 ∙ mark_kept Bool (λ x. x.shown.cancel_staged) (goes_back given) (λ x. refl) (k == j) old.0 ∙ flown.uncancelled other old.0 (ap (λ l. is_among other l.cancels) (sym back.lists) ∙ among) old.1 (sym (mark_kept ℕ (λ y. y.shown.worker) (goes_back given) (λ y. refl) (k == j) old.0) ∙ sym (ap (λ y. y.shown.worker) old.2) ∙ mine);
      }

  carried_back : IsCarried w.names.requests.items d'.requests d'.ring back_records s.store
  carried_back =
      let d = driver_of w in
      let it' = back_waiter in
      let rs = s.requests.items in
      let given = result_in c.result in
      let n = w.names.requests.items in
      subst (λ x. IsCarried n x d'.ring back_records s.store) (sym back.requests)
      (carried_ring n (written d.requests back.h.id (Pending it')) d.ring back_records s.store
      (carried_judged n d.requests d.ring rs s.store sound.carried back.h.id back.h.it it' back.h.r (goes_back given) given back.h.live back.h.there back.h.landed refl refl
      (λ of_bytes. moved_bytes (asked_in back.h.r.shown.operation) (cursor_in back.h.r.shown.operation) (judged_of back.h.r.shown given) of_bytes) (whole_kept back.h.it.request back.request back.kept (sound.carried.whole back.h.id back.h.it back.h.live)) (stretch_judged back.h.it.request back.request (judged_as (hinted_of back.h.it.request) back.h.it.state given) s.store back.kept back.judges.cursor (sound.carried.stretch back.h.id back.h.it back.h.live)) (ap (λ x. x.target) back.kept)
      (λ other x live apart. apart_number w.index w.names w.names d d' w.home.timers rs s.sleepers.items back.h.id back.h.it it' back.h.r (goes_back given) one_back sound.named other (rw (entry_of (value_at d.requests other) x live) refl) apart))
      d'.ring (λ v small. ap (those_of v) back.ring.flying) (λ v small. ap (those_of v) back.ring.staged))

  order_back : IsOrdered (went_round s.config w.moments) w.names.requests.items d'.requests d'.wheel d'.lists.enrolments d'.lists.due
  order_back =
      let d = driver_of w in
      eased (subst (Eases d.requests) (sym back.requests) (eases_written d.requests back.h.id back.h.it back_waiter back.h.live (λ t is. is) (λ none. none)))
      (subst (TurnsAlike d.wheel) (sym back.wheel) (alike_self d.wheel))
      (subst (λ l. IsPartOf l.enrolments d.lists.enrolments) (sym back.lists) (part_self d.lists.enrolments))
      (subst (λ l. IsPartOf l.due d.lists.due) (sym back.lists) (part_self d.lists.due)) sound.due.order

  -- it asks for its hint as before, or its record says that it was refused
  pub known_back : {opens' : List OpenState} → ((file : ℕ) → has_hint_at s.opens file ≡ false → has_hint_at opens' file ≡ false)
      → IsKnown w.index w.names.requests.items (written (driver_of w).requests back.h.id (Pending back_waiter)) opens' back_records
  known_back {opens' = opens'} hints =
      known_written w.index w.names.requests.items (driver_of w).requests s.opens opens' s.requests.items (number_in w.names.requests.items back.h.id) (goes_back (result_in c.result))
      (λ y. record { id = refl; worker = refl; kind = refl; target = refl; unrefused = λ h. (and_parts y.shown.operation.unrefused (not (refuses_hint (judged_of y.shown (result_in c.result)))) h).0 })
      hints back.h.id back.h.it back_waiter back.h.r refl back.h.live back.h.there
      (inl (forgets_after (driver_of w).wheel.start (driver_of w).wheel.tick back.h.it back.h.r.shown back_alike (result_in c.result) back.h.flies back.request None back.judges)) sound.known

  pub keeps_back : Follows q q' → IsPunctual d' → (may_be_due (served_in q') ≡ false → d'.lists.due ≡ []) → KeepsBy (record w { place = q' }) d' w.home.timers back_records s.sleepers.items s
  keeps_back follows punctual due =
      keeps_one q q' w.put_off w.names w s d' back.h.id back.h.it back_waiter back.h.r (goes_back (result_in c.result)) sound follows one_back punctual due order_back
      (subst (λ x. IsWheelAt s.config w.moments.start (wheel_moment (served_in q) w.moments) x) (sym back.wheel) sound.due.wheel) back.ring.size submitted_back flown_back carried_back refl
      (subst (λ x. IsKnown w.index w.names.requests.items x s.opens back_records) (sym back.requests) (known_back (λ file h. h)))
