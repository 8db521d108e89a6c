-- What holds again once a deadline is on the wheel.
use Rattle.exec_invariants.{specs.{Names.IsSubmitted, Sound.served_in, Due.IsWheelAt, Flown.{HasFlown, IsPlain, operations, AreLanded}, Submits.IsNewIn, Ordered.{IsOrdered, went_round}}, proofs.{Words.{◌≡◌, ◌≢◌, ℕ, ◌+◌, ◌^◌, ◌<◌, ◌==◌, Bool, true, false, List, [], Some, None, IfSome, refl, sym, ap, subst, ◌∙◌, arith, inl, slice_get, Ok, false≢true, unwrap_or, is_some, written, Id, Wheel, scheduled, asks_cancel, WaiterState, deadline_of, with_tick, needs_permit, takes_tick, tick_in, waiter_at, Pending, Waiter, WaiterId, Driving, IsPunctual, tick_for, tick_tells, first_of, rest_of, is_among, after_enrolment, RequestPhase, Configuration, is_staged, Own, Common, Desk, due_next, first_due, Enrols, Place, InService, Reply, Record, Shared, Worker, number_in, changed_at, first_tick, is_one_of, own_of, driver_of, by_name}, Known.known_written, Changing.{all_go_one, OneGoesOn, changes_one, keeps_one}, Going.{owning_on, GoesOn}, Marking.{known_then, plain_kept, mark_kept, mark_if, marked, was_marked}, Carries.carried_still, Enrolled.new_first, Enrolling.enrolled_at, Flown.landed_on, ServingHolds.KeepsBy, Staging.{split_first, stages_again}, Orders.ticks_so}}
pub use Rattle.exec_invariants.proofs.Untold.{keeps_untold, told_still}

-- THE WHEEL

pub one_more : (c : Configuration) (start moment : ℕ) (w : Wheel) (id : Id) (t : ℕ) → IsWheelAt c start moment w → IsWheelAt c start moment (scheduled w id t)
unfolding scheduled
one_more c start moment w id t it = record { start = it.start; tick = it.tick; horizon = it.horizon; slots = it.slots; current = it.current }

pub same_start : (w : Wheel) (id : Id) (t : ℕ) → (scheduled w id t).start ≡ w.start
unfolding scheduled
same_start w id t = refl

pub same_tick : (w : Wheel) (id : Id) (t : ℕ) → (scheduled w id t).tick ≡ w.tick
unfolding scheduled
same_tick w id t = refl

-- THE RECORD

abbrev pub times : ℕ → ℕ → Record → Record
times start tick r = record r { shown = record r.shown { timer = Some (first_tick start tick (unwrap_or r.shown.operation.deadline 0)) } }

times_plain : (start tick : ℕ) (r : Record) → IsPlain r.shown → IsPlain (times start tick r).shown
times_plain start tick r p = record { bounded = p.bounded; moved = p.moved; deadline = p.deadline }

-- no tick was set, and nobody asked for its cancel
pub unset : (x : WaiterState) → takes_tick x ≡ true → (tick_in x ≡ None) × (asks_cancel x ≡ false)
unset = grind arith

-- who else waits to be enrolled does so still
among_rest : (other id : WaiterId) (ids : List WaiterId) → first_of ids ≡ Some id → is_among other ids ≡ true → other.0 ≢ id.0 → is_among other (rest_of ids) ≡ true
among_rest = grind arith

-- WHAT IS NEXT

pub comes_to_new : (c : Configuration) (i gate k : ℕ) (me : Own) (s : Common) (d : Desk) → first_due c i me s ≡ None → slice_get me.unenrolled 0 ≡ Some k → due_next c i gate me s d ≡ Enrols k
comes_to_new c i gate k me s d none new = rw (none, new) refl

-- WHAT HOLDS AGAIN

module _ {B : Type 0} (w : Worker) (s : Shared B) (new : IsNewIn w s) (id : WaiterId) (first : first_of (driver_of w).lists.enrolments ≡ Some id) where
  abbrev pub timed_waiter : ℕ → Waiter Reply Reply
  timed_waiter t = with_tick t (new_first w s new id first).it

  -- the driver with that deadline on its wheel
  abbrev pub timed_driver : ℕ → Driving Reply Reply
  timed_driver t =
      let d = driver_of w in
      record d { lists = after_enrolment d.lists; requests = written d.requests id.0 (Pending (timed_waiter t)); wheel = scheduled d.wheel id.0 t }

  abbrev pub timed_records : List Record
  timed_records = changed_at s.requests.items (number_in w.names.requests.items id.0) (times w.moments.start s.config.tick)

  submitted_timed : (t : ℕ) → IsSubmitted w.index w.names.staged.items w.names.untold.items (driver_of w).ring timed_records
  submitted_timed t =
      let rs = s.requests.items in
      let k = number_in w.names.requests.items id.0 in
      let f = times w.moments.start s.config.tick in
      let sub = new.submits.sound.named.submitted in
      let own : (k : ℕ) (x : Record) → is_one_of k w.names.staged.items ≡ true → slice_get timed_records k ≡ Some x → x.shown.worker ≡ w.index =
      λ j x h found. let old = was_marked f rs k j x found in ap (λ y. y.shown.worker) old.2 ∙ mark_kept ℕ (λ x. x.shown.worker) (times w.moments.start s.config.tick) (λ x. refl) (k == j) old.0 ∙ sub.own j old.0 h old.1 in
      let all : (k : ℕ) (x : Record) → slice_get timed_records k ≡ Some x → x.shown.worker ≡ w.index → is_staged x.shown.phase ≡ true → is_one_of k w.names.staged.items ≡ true = λ j x found mine staged.
      let old = was_marked f rs k j x found in
      sub.all j old.0 old.1 (sym (mark_kept ℕ (λ x. x.shown.worker) (times w.moments.start s.config.tick) (λ x. refl) (k == j) old.0) ∙ sym (ap (λ y. y.shown.worker) old.2) ∙ mine)
      (sym (ap is_staged (mark_kept RequestPhase (λ x. x.shown.phase) (times w.moments.start s.config.tick) (λ x. refl) (k == j) old.0)) ∙ sym (ap (λ y. is_staged y.shown.phase) old.2) ∙ staged) in
      assumption (known_then f rs k w.names.staged.items sub.known, own, all, sub)

  flown_timed : (t : ℕ) → HasFlown (served_in (Place.Service (InService.Submit new.submits.gate) new.submits.service)) w.index w.names (timed_driver t) timed_records
  flown_timed t =
      let d = driver_of w in
      let rs = s.requests.items in
      let k = number_in w.names.requests.items id.0 in
      let c = s.config in
      let start = w.moments.start in
      let f = times start c.tick in
      let who = new_first w s new id first in
      let it = who.it in
      let it' = timed_waiter t in
      let d' = timed_driver t in
      let flown = new.submits.sound.flown in
      let changed = changes_one d.requests id.0 it it' who.live in
      let all = all_go_one rs k f who.r who.there (record { same = refl; over = refl; ended = λ h. refl }) in
      let gated : (id : WaiterId) (it : Waiter Reply Reply) → waiter_at (timed_driver t).requests id.0 ≡ Some it → needs_permit it ≡ true → is_among id (timed_driver t).lists.gated ≡ true = λ other x live needs.
      by_name other.0 id.0 (λ apart. flown.gated other x (sym (changed.others other.0 apart) ∙ live) needs)
      (λ eq.
      let is_it : x ≡ it' = cc (live, eq, changed.is_at) in
      flown.gated other it (ap (waiter_at d.requests) eq ∙ who.live) (ap needs_permit (sym is_it) ∙ needs)) in
      let plain = plain_kept f rs k (times_plain start c.tick) w.index (λ r. refl) flown.plain in
      let landed_so : AreLanded w.names (timed_driver t) timed_records (operations (timed_driver t).ring) = landed_on w.names w.names d d' rs timed_records (operations d.ring) flown.landed
      (λ other x r given live flies found landed.
      let j = number_in w.names.requests.items other in
      let apart : other ≢ id.0 = λ same.
      let both : x ≡ it = cc (live, who.live, same) in
      false≢true (sym who.idle ∙ ap (λ y. y.in_flight) (sym both) ∙ flies) in
      record { it' = x; r' = mark_if f (k == j) r; live = changed.others other apart ∙ live; flies = refl; same = refl; number = refl; there = marked f rs k j r found; phase = mark_kept RequestPhase (λ x. x.shown.phase) (times start c.tick) (λ x. refl) (k == j) r }) in
      let enrolling : (id : WaiterId) (it : Waiter Reply Reply) → waiter_at (timed_driver t).requests id.0 ≡ Some it → takes_tick it.state ≡ true → is_some (deadline_of it.request) ≡ true → is_among id (timed_driver t).lists.enrolments ≡ true = λ other x live takes some.
      let differs : other.0 ≢ id.0 → is_among other (rest_of d.lists.enrolments) ≡ true = λ apart.
      among_rest other id d.lists.enrolments first (flown.enrolling other x (sym (changed.others other.0 apart) ∙ live) takes some) apart in
      by_name other.0 id.0 differs
      (λ eq.
      let is_it : x ≡ it' = cc (live, eq, changed.is_at) in
      absurd (false≢true (ap (λ y. takes_tick y.state) (sym is_it) ∙ takes))) in
      let uncancelled : (id : WaiterId) (r : Record) → is_among id (timed_driver t).lists.cancels ≡ true → slice_get timed_records (number_in w.names.requests.items id.0) ≡ Some r → r.shown.worker ≡ w.index → r.shown.cancel_staged ≡ false = λ other x among found mine.
      let j = number_in w.names.requests.items other.0 in
      let old = was_marked f rs k j x found in
      ap (λ y. y.shown.cancel_staged) old.2 ∙ mark_kept Bool (λ x. x.shown.cancel_staged) (times start c.tick) (λ x. refl) (k == j) old.0
      ∙ flown.uncancelled other old.0 among old.1 (sym (mark_kept ℕ (λ y. y.shown.worker) (times start c.tick) (λ y. refl) (k == j) old.0) ∙ sym (ap (λ y. y.shown.worker) old.2) ∙ mine) in
      assumption (gated, plain, landed_so, owning_on rs timed_records all flown.owning, enrolling, uncancelled, flown)

  pub keeps_timed : (t : ℕ) → id.0.generation < 2 ^ 64 → tick_for (driver_of w).wheel (new_first w s new id first).deadline w.moments.sampled ≡ Ok t → IsPunctual (timed_driver t)
      → KeepsBy (record w { place = Place.Service (InService.Submit new.submits.gate) new.submits.service }) (timed_driver t) w.home.timers timed_records s.sleepers.items s
  keeps_timed t fits okay punctual =
      let q : Place = Place.Service (InService.Submit new.submits.gate) new.submits.service in
      let sound = new.submits.sound in
      let d = driver_of w in
      let who = new_first w s new id first in
      let it = who.it in
      let it' = timed_waiter t in
      let c = s.config in
      let w0 : Worker = record w { place = q } in
      let now = w.moments.sampled in
      let f = times w.moments.start c.tick in
      let plain = sound.flown.plain (number_in w.names.requests.items id.0) who.r who.there who.worker in
      let within : who.deadline + c.tick < 2 ^ 64 = omega (arith, subst (λ o. IfSome o (λ m. m < 2 ^ 63)) who.told plain.deadline, sound.config.tick) in
      let wheel : IsWheelAt c w.moments.start now d.wheel = sound.due.wheel in
      let place = enrolled_at c (own_of w0) d.wheel now who.deadline wheel refl sound.config.some_tick (omega (arith, sound.time.begun, sound.time.ordered)) within t okay in
      let on : GoesOn who.r (f who.r) = record { same = refl; over = refl; ended = λ h. refl } in
      let a = who.alike in
      let free = unset it.state who.takes in
      let one : OneGoesOn w.names w.names d (timed_driver t) s.requests.items id.0 it it' who.r f = grind (arith, false≢true, same_start, same_tick) in
      keeps_one q q w.put_off w.names w s (timed_driver t) id.0 it it' who.r f sound (stages_again new.submits.gate new.submits.service) one punctual (λ h. new.due)
      (subst (IsOrdered (went_round c w.moments) w.names.requests.items (timed_driver t).requests (timed_driver t).wheel (rest_of d.lists.enrolments)) (sym new.due)
      (ticks_so (went_round c w.moments) w.names.requests.items d.requests d.wheel id (rest_of d.lists.enrolments) it t who.live who.takes fits (tick_tells d.wheel who.deadline now t okay).span
      (subst (λ ids. IsOrdered (went_round c w.moments) w.names.requests.items d.requests d.wheel ids []) (split_first id d.lists.enrolments first)
      (subst (IsOrdered (went_round c w.moments) w.names.requests.items d.requests d.wheel d.lists.enrolments) new.due sound.due.order))))
      (one_more c w.moments.start now d.wheel id.0 t wheel) refl (submitted_timed t) (flown_timed t)
      (carried_still w.names.requests.items d.requests d.ring s.requests.items s.store sound.carried id.0 it it' who.live refl (number_in w.names.requests.items id.0) f (λ r there. refl) (λ r there. refl) (λ r there. refl))
      refl
      (known_written w.index w.names.requests.items d.requests s.opens s.opens s.requests.items (number_in w.names.requests.items id.0) f (λ y. record { id = refl; worker = refl; kind = refl; target = refl; unrefused = λ h. h }) (λ file h. h) id.0 it it' who.r refl who.live who.there (inl (λ h. inl h)) sound.known)
