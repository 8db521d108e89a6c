-- What the staging of a request's operation is to the machine.
use Rattle.exec_invariants.{specs.{Submitting.staged_with, Flown.IsPlain, Names.IsAlike, Submits.IsIdle}, proofs.{Words.{◌≡◌, ℕ, ◌+◌, ◌*◌, ◌<◌, ◌&&◌, Bool, true, false, not, List, [], ◌∷◌, ◌++◌, length, Option, Some, None, refl, sym, ap, ◌∙◌, slice_get, is_some, false≢true, option_map, arith, value_at, Judged, HasCome, kept_of, seen_by, asked_of, cursor_of, hinted_of, deadline_of, asks_cancel, Asking, WaiterState, Submission, waiter_at, takes_tick, tick_in, needs_permit, Waiter, WaiterId, entry_of, request_at, is_queued, first_of, is_among, OpenState, Request, RequestPhase, is_enrolled, is_gated, is_in_flight, is_resolved, Service, Reply, Record, Shared, Worker, number_in, AreKnown, AreTagged, cancels_in, is_cancel, driver_of}, Going.GoesOn, Marking.mark_if, Staging.among_first}}

-- ITS PHASE

-- it waits to be staged
pub queued_phase : (p : RequestPhase) → is_in_flight p ≡ false → is_resolved p ≡ false → is_gated p ≡ false → p ≡ RequestPhase.Queued
queued_phase = grind arith

-- with a deadline, and without a tick that is set, it is yet to be enrolled
pub takes_by : (s : WaiterState) → asks_cancel s ≡ false → tick_in s ≡ None → takes_tick s ≡ true
takes_by = grind arith

-- WHAT HAS COME OF IT STAYS

pub record SameCursor (q q' : Asking) : Type 0 where
  pub asked : asked_of q' ≡ asked_of q
  pub deadline : deadline_of q' ≡ deadline_of q
  pub moved : (cursor_of q').moved ≡ (cursor_of q).moved
  pub switched : (cursor_of q').switched ≡ (cursor_of q).switched
  pub come : (results : List Judged) × HasCome (asked_of q') (cursor_of q') results

pub came_on : (q q' : Asking) (results : List Judged) → kept_of q' ≡ kept_of q → HasCome (asked_of q) (cursor_of q) results → HasCome (asked_of q') (cursor_of q') results → SameCursor q q'
came_on = grind arith

-- THE SUBMISSION QUEUE

pub tagged_by : (es : List Submission) (e : Submission) → is_cancel e.window.kind ≡ false → AreTagged es → AreTagged (es ++ e ∷ [])
tagged_by [] e none t = ((λ h. absurd (false≢true (sym none ∙ h))), tt)
tagged_by (x ∷ es) e none t = (t.0, tagged_by es e none t.1)

pub cancels_by : (es : List Submission) (e : Submission) → is_cancel e.window.kind ≡ false → cancels_in (es ++ e ∷ []) ≡ cancels_in es
cancels_by [] e none = rw none refl
cancels_by (x ∷ es) e none = rw (cancels_by es e none) refl

-- THE RECORD

abbrev pub starts : List OpenState → Record → Record
starts opens r = staged_with opens r

pub starts_on : (opens : List OpenState) (r : Record) → is_resolved r.shown.phase ≡ false → GoesOn r (starts opens r)
starts_on opens r unresolved = record { same = refl; over = sym unresolved; ended = λ h. absurd (false≢true (sym unresolved ∙ h)) }

pub starts_alike : (opens : List OpenState) (start tick : ℕ) (it : Waiter Reply Reply) (q : Asking) (r : Record) → IsAlike start tick it r.shown → SameCursor it.request q → (starts opens r).shown.operation.hinted ≡ hinted_of q
    → ((cursor_of q).hinted ≡ true → (cursor_of it.request).hinted ≡ true) → seen_by q ≡ seen_by it.request → asks_cancel it.state ≡ false → needs_permit it ≡ false → IsAlike start tick (record it { in_flight = true; request = q }) (starts opens r).shown
starts_alike = grind arith

-- A STEP

queued_parts : (a b c : Bool) → (not a && not b && not c) ≡ true → (a ≡ false) × (b ≡ false) × (c ≡ false)
queued_parts = grind arith

pub starts_if_worker : (opens : List OpenState) (b : Bool) (r : Record) → (mark_if (starts opens) b r).shown.worker ≡ r.shown.worker
starts_if_worker opens true r = refl
starts_if_worker opens false r = refl

pub starts_if_cancel : (opens : List OpenState) (b : Bool) (r : Record) → (mark_if (starts opens) b r).shown.cancel_staged ≡ r.shown.cancel_staged
starts_if_cancel opens true r = refl
starts_if_cancel opens false r = refl

pub starts_plain : (opens : List OpenState) (r : Record) → IsPlain r.shown → IsPlain (starts opens r).shown
starts_plain opens r p = record { bounded = p.bounded; moved = p.moved; deadline = p.deadline }

pub known_and : (ks : List ℕ) (k : ℕ) (rs : List Record) → AreKnown ks rs → k < length rs → AreKnown (ks ++ k ∷ []) rs
known_and [] k rs known more = (more, tt)
known_and (q ∷ ks) k rs known more = (known.0, known_and ks k rs known.1 more)

-- who waits first to be staged, and may be
pub record Starts {B : Type 0} (w : Worker) (s : Shared B) (id : WaiterId) : Type 0 where
  pub it : Waiter Reply Reply
  pub r : Record
  pub live : waiter_at (driver_of w).requests id.0 ≡ Some it
  pub there : slice_get s.requests.items (number_in w.names.requests.items id.0) ≡ Some r
  pub named : r.id.0 ≡ id.0
  pub worker : r.shown.worker ≡ w.index
  pub alike : IsAlike (driver_of w).wheel.start (driver_of w).wheel.tick it r.shown
  pub idle : it.in_flight ≡ false
  pub unasked : asks_cancel it.state ≡ false
  pub free : needs_permit it ≡ false
  pub queued : r.shown.phase ≡ RequestPhase.Queued
  pub enrolled : is_enrolled r.shown ≡ true

module _ {B : Type 0} (v : Service) (w : Worker) (s : Shared B) (idle : IsIdle v w s) (id : WaiterId) (first : first_of (driver_of w).lists.queued ≡ Some id) where
  enrolled_by : (it : Waiter Reply Reply) (r : Request) (t d : Option ℕ) → r.timer ≡ t → r.operation.deadline ≡ d → (t ≡ None → d ≡ None) → is_enrolled r ≡ true
  enrolled_by = grind arith

  tickless : (start tick : ℕ) (o : Option ℕ) → option_map (λ t. start + t * tick) o ≡ None → o ≡ None
  tickless start tick None h = refl
  tickless start tick (Some t) h = absurd (cc)

  dateless : (d : Option ℕ) → (is_some d ≡ true → ⊥) → d ≡ None
  dateless None h = refl
  dateless (Some m) h = absurd (h refl)

  starts_by : (o : Option (Waiter Reply Reply)) → request_at (driver_of w) id ≡ o → Starts w s id
  starts_by None gone = absurd (false≢true (ap is_queued (sym gone) ∙ idle.lists.queued id (among_first id (driver_of w).lists.queued first)))
  starts_by (Some it) live =
      let waits : (not it.in_flight && not (asks_cancel it.state) && not (needs_permit it)) ≡ true = ap is_queued (sym live) ∙ idle.lists.queued id (among_first id (driver_of w).lists.queued first) in
      let parts = queued_parts it.in_flight (asks_cancel it.state) (needs_permit it) waits in
      let r = idle.sound.named.requests id.0 (rw (entry_of (value_at (driver_of w).requests id.0) it live) refl) in
      let a = idle.sound.named.alike id.0 it r.0 live r.1 in
      let none : r.0.shown.timer ≡ None → r.0.shown.operation.deadline ≡ None = λ untimed.
      dateless r.0.shown.operation.deadline
      (λ some.
      let takes = takes_by it.state parts.1 (tickless (driver_of w).wheel.start (driver_of w).wheel.tick (tick_in it.state) (sym a.timer ∙ untimed)) in
      false≢true (ap (is_among id) (sym idle.enrolments) ∙ (idle.sound.flown.enrolling id it live takes (ap is_some (sym a.deadline) ∙ some)))) in
      grind (arith, it, r.0, live, r.1, r.2, r.3, parts.0, parts.1, parts.2, queued_phase, r.0.shown.phase, a.flying, a.open_still, a.permit, enrolled_by, r.0.shown, r.0.shown.timer, r.0.shown.operation.deadline, none)

  pub starts_first : Starts w s id
  starts_first = starts_by (request_at (driver_of w) id) refl
