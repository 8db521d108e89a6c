-- A request that a task made: its driver once it is queued or waits at its gate, and where it is over at once.
use Rattle.std.{proofs.{Common.{◌≡◌, ℕ, ◌+◌, ◌^◌, ◌<◌, ◌≤◌, Bool, true, false, not, List, [], ◌∷◌, ◌++◌, length, Option, Some, None, refl, sym, ap, subst, ◌∙◌, arith, inr, slice_get, slice_set, if◌then◌else◌}, lemmas.{List.{append-nil, length-set, set_past, Elements.filter-append}, Option.slice_get_within}}, specs.Vec.vec_capacity}
use Rattle.exec_base.{specs.{Slab.{Slab, slot_at, generation_of, filled, inserted, next_id, written, IsPast, TakesId}, declared.slab.{Id.Id, Slot.TheVariants.Live}}, proofs.Slots.{NextIs, some_of_if}}
use Rattle.exec_outcomes.specs.{declared.outcome.Outcome.Outcome, Accounts.is_durable}
use Rattle.exec_request.specs.{Requests.{deadline_of, gate_of, output_of}, declared.request.Request.Request as Asking}
use Rattle.exec_waiters.specs.{Events.finished, declared.{observer.Observer.TheVariants.Local, waiter.Entry.{Entry, TheVariants.{Pending, Ready}}, waiter_id.WaiterId.WaiterId}}
use Rattle.exec_driver.specs.{Admission.with_rooms, Driving.{Driving, seen}, Steps.{ended, in_place, is_late, newcomer, placed_at, taken_in, timed_out, with_deadline}}
use Rattle.exec_lists.specs.Lists.{Lists, is_same, with_enrolment, with_gated, with_queued, withdrawn, without}
use Rattle.exec_machine.specs.{declared.state.{Operation.Operation, RequestPhase.RequestPhase}, Requests.{new_request, resolved_if}}
use Rattle.exec_parts.{specs.{declared.parts.{mail.Reply.Reply, names.Names.Names, seat.Seat.Seat as Chair, shared.Shared.Shared, task_slot.TaskSlot.TaskSlot, worker.Worker.Worker}, Records.outcome_in, View.driver_of}, proofs.Facts.{same_self, same_Some, set_there}}
use Rattle.exec_invariants.{specs.Admitting.{MayMake, TakesIn}, proofs.Taken.{Takes, takes_by, takes_room, enrolled_if}}
use Rattle.exec_polling.proofs.Growing.{rooms_there, rooms_within}

-- THE DRIVER, once the request is queued, or waits at a gate

abbrev pub enrolled_in : WaiterId → Option ℕ → Lists → Lists
enrolled_in id None l = l
enrolled_in id (Some deadline) l = with_enrolment id l

abbrev pub placed_in : WaiterId → Option ℕ → Lists → Lists
placed_in id None l = with_queued id l
placed_in id (Some file) l = with_gated id l

-- by another driver's rooms
abbrev pub queued_driver : Driving Reply Reply → Driving Reply Reply → WaiterId → Asking → Driving Reply Reply
queued_driver like d id q =
    with_rooms like (record d { requests = inserted d.requests (Pending (newcomer q (Local None))); lists = placed_in id (gate_of q) (enrolled_in id (deadline_of q) d.lists) })

pub enrolments_are : (id : WaiterId) (o : Option ℕ) (l : Lists) → (enrolled_in id o l).enrolments ≡ enrolled_if o id l.enrolments
enrolments_are id None l = refl
enrolments_are id (Some deadline) l = refl

pub queued_are : (id : WaiterId) (o : Option ℕ) (l : Lists) → (enrolled_in id o l).queued ≡ l.queued
queued_are id None l = refl
queued_are id (Some deadline) l = refl

-- where it is placed changes one list
pub record IsPlacing (id : WaiterId) (gate : Option ℕ) (l l' : Lists) : Type 0 where
  pub enrolments : l'.enrolments ≡ l.enrolments
  pub cancels : l'.cancels ≡ l.cancels
  pub due : l'.due ≡ l.due
  pub gated : l'.gated ≡ enrolled_if gate id l.gated
  pub queued : gate ≡ None → l'.queued ≡ l.queued ++ id ∷ []
  pub still : (file : ℕ) → gate ≡ Some file → l'.queued ≡ l.queued

pub placing : (id : WaiterId) (gate : Option ℕ) (l : Lists) → IsPlacing id gate l (placed_in id gate l)
placing id None l = record { enrolments = refl; cancels = refl; due = refl; gated = refl; queued = λ h. refl; still = λ file never. absurd (let no : None ≡ Some file = never in cc) }
placing id (Some file) l = record { enrolments = refl; cancels = refl; due = refl; gated = refl; queued = λ never. absurd (let no : Some file ≡ None = never in cc); still = λ f h. refl }

pub gated_are : (id : WaiterId) (o : Option ℕ) (l : Lists) → (enrolled_in id o l).gated ≡ l.gated
gated_are id None l = refl
gated_are id (Some deadline) l = refl

pub cancels_are : (id : WaiterId) (o : Option ℕ) (l : Lists) → (enrolled_in id o l).cancels ≡ l.cancels
cancels_are id None l = refl
cancels_are id (Some deadline) l = refl

pub due_are : (id : WaiterId) (o : Option ℕ) (l : Lists) → (enrolled_in id o l).due ≡ l.due
due_are id None l = refl
due_are id (Some deadline) l = refl

-- it is so where the deadline hasn't passed
pub placed_queued : (like d : Driving Reply Reply) (id : WaiterId) (q : Asking) (now : ℕ) → is_late (deadline_of q) now ≡ false
    → with_rooms like (placed_at (taken_in d q (Local None)) id (newcomer q (Local None)) now) ≡ queued_driver like d id q
placed_queued like d id q now late =
    let x : Driving Reply Reply = taken_in d q (Local None) in
    ap (λ b. with_rooms like (if b then ended x id (newcomer q (Local None)) timed_out None else in_place (with_deadline x id (deadline_of q)) id (gate_of q))) late
    ∙ by (deadline_of q) (gate_of q)
  where
    by : (o gate : Option ℕ) → with_rooms like (in_place (with_deadline (taken_in d q (Local None)) id o) id gate)
        ≡ with_rooms like (record d { requests = inserted d.requests (Pending (newcomer q (Local None))); lists = placed_in id gate (enrolled_in id o d.lists) })
    by None None = refl
    by None (Some file) = refl
    by (Some deadline) None = refl
    by (Some deadline) (Some file) = refl

without_last : (id : WaiterId) (ids : List WaiterId) → without id (ids ++ id ∷ []) ≡ without id ids
without_last id ids =
    filter-append (λ other. not (is_same other id)) ids (id ∷ [])
    ∙ ap (λ b. without id ids ++ (if not b then id ∷ [] else [])) (same_self id) ∙ append-nil (without id ids)

pub withdrawn_queued : (id : WaiterId) (o gate : Option ℕ) (l : Lists) → withdrawn id (placed_in id gate (enrolled_in id o l)) ≡ withdrawn id l
withdrawn_queued id None None l = ap (λ ids. record (withdrawn id l) { queued = ids }) (without_last id l.queued)
withdrawn_queued id None (Some file) l = ap (λ ids. record (withdrawn id l) { gated = ids }) (without_last id l.gated)
withdrawn_queued id (Some deadline) None l =
    ap (λ ids. record (withdrawn id (with_enrolment id l)) { queued = ids }) (without_last id l.queued)
    ∙ ap (λ ids. record (withdrawn id l) { enrolments = ids }) (without_last id l.enrolments)
withdrawn_queued id (Some deadline) (Some file) l =
    ap (λ ids. record (withdrawn id (with_enrolment id l)) { gated = ids }) (without_last id l.gated)
    ∙ ap (λ ids. record (withdrawn id l) { enrolments = ids }) (without_last id l.enrolments)

pub placed_late : (like d : Driving Reply Reply) (id : WaiterId) (q : Asking) (now : ℕ) → is_late (deadline_of q) now ≡ true
    → with_rooms like (placed_at (taken_in d q (Local None)) id (newcomer q (Local None)) now)
    ≡ record (queued_driver like d id q) { requests = finished (queued_driver like d id q).requests id.0 (newcomer q (Local None)) timed_out None; lists = withdrawn id (queued_driver like d id q).lists }
placed_late like d id q now late =
    let x : Driving Reply Reply = taken_in d q (Local None) in
    ap (λ b. with_rooms like (if b then ended x id (newcomer q (Local None)) timed_out None else in_place (with_deadline x id (deadline_of q)) id (gate_of q))) late
    ∙ ap (λ l. record (with_rooms like (ended x id (newcomer q (Local None)) timed_out None)) { lists = record l { room = like.lists.room } }) (sym (withdrawn_queued id (deadline_of q) (gate_of q) d.lists))

-- ITS SLOT

-- what became past by the admission was the name of the slot that was taken
pub takes_in : (d d' : Driving Reply Reply) (id : WaiterId) (q : Asking) (now : ℕ) → next_id d.requests ≡ Some id.0 → (IsPast d.requests id.0 → ⊥) → TakesId d.requests d'.requests id.0
    → d' ≡ with_rooms d' (placed_at (taken_in d q (Local None)) id (newcomer q (Local None)) now) → Takes d.requests (queued_driver d' d id q).requests id.0 (Pending (newcomer q (Local None)))
takes_in d d' id q now next new past is = by (is_late (deadline_of q) now) refl
  where
    v : Entry Reply Reply
    v = Pending (newcomer q (Local None))

    filled_first : (vacant : List ℕ) → (filled d.requests vacant v).first ≡ d.requests.first
    filled_first [] = refl
    filled_first (i ∷ rest) = refl

    there : (s : Slab (Entry Reply Reply)) → d'.requests ≡ s → s.first ≡ d.requests.first → ((i : ℕ) (rest : List ℕ) → d.requests.vacant ≡ i ∷ rest → length d.requests.slots ≤ i → s.slots ≡ d.requests.slots) → Takes d.requests (queued_driver d' d id q).requests id.0 v
    there s same first beyond =
        takes_room d.requests (inserted d.requests v) id.0 v d'.requests.room
        (takes_by d.requests d'.requests v id.0 next new (ap (λ (x : Slab (Entry Reply Reply)). x.first) same ∙ first)
        (λ i rest lists past_end. ap (λ (x : Slab (Entry Reply Reply)). x.slots) same ∙ beyond i rest lists past_end) ((past.past id.0).1 (inr refl)))

    by : (b : Bool) → is_late (deadline_of q) now ≡ b → Takes d.requests (queued_driver d' d id q).requests id.0 v
    by false late =
        there (record (inserted d.requests v) { room = d'.requests.room }) (ap (λ (x : Driving Reply Reply). x.requests) (is ∙ placed_queued d' d id q now late)) (filled_first d.requests.vacant)
        (λ i rest lists past_end. ap (λ l. (filled d.requests l v).slots) lists ∙ set_past d.requests.slots i (Live (generation_of (slot_at d.requests i)) v) past_end)
    by true late =
        let told = Ready (output_of q timed_out None) in
        let at_set : (i : ℕ) (rest : List ℕ) → d.requests.vacant ≡ i ∷ rest → length d.requests.slots ≤ i → slice_set (inserted d.requests v).slots id.0.index (Live id.0.generation told) ≡ d.requests.slots = λ i rest lists past_end.
        let slots : (inserted d.requests v).slots ≡ d.requests.slots = ap (λ l. (filled d.requests l v).slots) lists ∙ set_past d.requests.slots i (Live (generation_of (slot_at d.requests i)) v) past_end in
        let named : i ≡ id.0.index = ap (λ (x : Id). x.index) (some_of_if _ _ _ (subst (λ l. NextIs d.requests l id.0) lists next)) in
        ap (λ xs. slice_set xs id.0.index (Live id.0.generation told)) slots ∙ set_past d.requests.slots id.0.index (Live id.0.generation told) (omega (arith, past_end, named)) in
        there (record (written (inserted d.requests v) id.0 told) { room = d'.requests.room }) (ap (λ (x : Driving Reply Reply). x.requests) (is ∙ placed_late d' d id q now late)) (filled_first d.requests.vacant) at_set

module _ {B : Type 0} (t : ℕ) (q : Asking) (id : WaiterId) (w w' : Worker) (s s' : Shared B) (in_it : TakesIn t q id w w' s s') where
  -- the driver that it came to, and the worker's names
  pub driver_was : driver_of in_it.mid ≡ driver_of w
  driver_was = ap seen in_it.driver

  pub names_were : w'.names ≡ in_it.mid.names
  names_were = ap (λ (x : Worker). x.names) in_it.worker

  pub driver_then : driver_of w' ≡ with_rooms (driver_of w') (placed_at (taken_in (driver_of w) q (Local None)) id (newcomer q (Local None)) w.moments.sampled)
  driver_then =
      in_it.admits.driver ∙ ap (λ d. with_rooms (driver_of w') (placed_at (taken_in d q (Local None)) id (newcomer q (Local None)) in_it.mid.moments.sampled)) driver_was
      ∙ ap (λ (x : Worker). with_rooms (driver_of w') (placed_at (taken_in (driver_of w) q (Local None)) id (newcomer q (Local None)) x.moments.sampled)) in_it.rooms.worker

  pub taken_by : Takes (driver_of w).requests (queued_driver (driver_of w') (driver_of w) id q).requests id.0 (Pending (newcomer q (Local None)))
  taken_by =
      takes_in (driver_of w) (driver_of w') id q w.moments.sampled
      (subst (λ (d : Driving Reply Reply). next_id d.requests ≡ Some id.0) driver_was in_it.next)
      (subst (λ (d : Driving Reply Reply). IsPast d.requests id.0 → ⊥) driver_was in_it.unnamed)
      (subst (λ (d : Driving Reply Reply). TakesId d.requests (driver_of w').requests id.0) driver_was in_it.named) driver_then

  -- what naming it needs
  pub named_within : MayMake w → id.0.index ≤ length w'.names.requests.items
  named_within may =
      let same : length w'.names.requests.items ≡ length w.names.requests.items = ap (λ (n : Names). length n.requests.items) names_were ∙ ap (λ (xs : List ℕ). length xs) in_it.rooms.names.requests in
      omega (arith, taken_by.within, may.slots, same)

  pub records_same : s'.requests.items ≡ s.requests.items
  records_same = ap (λ (x : Shared B). x.requests.items) in_it.shared ∙ in_it.rooms.requests

  -- its seat then
  pub seat_within : w'.index < length s'.seats.items
  seat_within =
      let at : w'.index ≡ w.index = ap (λ (x : Worker). x.index) in_it.worker ∙ ap (λ (x : Worker). x.index) in_it.rooms.worker in
      let seats : s'.seats.items ≡ slice_set s.seats.items w.index in_it.rooms.mails.chair' = ap (λ (x : Shared B). x.seats.items) in_it.shared ∙ in_it.rooms.mails.seats in
      rw (at, seats, length-set) (slice_get_within s.seats.items w.index in_it.rooms.mails.chair in_it.rooms.mails.seated)

  pub seat_is : (chair : Chair) → slice_get s'.seats.items w'.index ≡ Some chair → chair ≡ in_it.rooms.mails.chair'
  seat_is chair there =
      let at : w'.index ≡ w.index = ap (λ (x : Worker). x.index) in_it.worker ∙ ap (λ (x : Worker). x.index) in_it.rooms.worker in
      let seats : s'.seats.items ≡ slice_set s.seats.items w.index in_it.rooms.mails.chair' = ap (λ (x : Shared B). x.seats.items) in_it.shared ∙ in_it.rooms.mails.seats in
      let found = subst (λ i. slice_get s'.seats.items i ≡ Some chair) at there in
      same_Some chair in_it.rooms.mails.chair' (sym found ∙ ap (λ xs. slice_get xs w.index) seats ∙ set_there s.seats.items w.index in_it.rooms.mails.chair' in_it.rooms.mails.chair in_it.rooms.mails.seated)

  pub seat_counted : (chair : Chair) → slice_get s'.seats.items w'.index ≡ Some chair → chair.made + 1 < 2 ^ 64
  seat_counted chair there =
      let at : w'.index ≡ in_it.mid.index = ap (λ (x : Worker). x.index) in_it.worker in
      let seats : s'.seats.items ≡ in_it.all.seats.items = ap (λ (x : Shared B). x.seats.items) in_it.shared in
      (in_it.has.mail chair (ap (λ xs. slice_get xs in_it.mid.index) (sym seats) ∙ subst (λ i. slice_get s'.seats.items i ≡ Some chair) at there)).counted

  pub slot_within : t < length s'.tasks.items
  slot_within = subst (λ (x : Shared B). t < length x.tasks.items) (sym in_it.shared) (rooms_within in_it.rooms)

  pub slot_room : (o : TaskSlot B) → slice_get s'.tasks.items t ≡ Some o → length o.held.items < vec_capacity o.held
  slot_room o there = in_it.has.held o (subst (λ (x : Shared B). slice_get x.tasks.items t ≡ Some o) in_it.shared there)

  pub slot_is : (o : TaskSlot B) → slice_get s'.tasks.items t ≡ Some o → o ≡ in_it.rooms.slot'
  slot_is o there = rooms_there in_it.rooms o (subst (λ (x : Shared B). slice_get x.tasks.items t ≡ Some o) in_it.shared there)

-- how a new record ended, if it did
pub outcome_shown : (o : Option Outcome) (i : ℕ) (x : Operation) → outcome_in (resolved_if o (new_request i x)).phase ≡ o
outcome_shown (Some outcome) i x = refl
outcome_shown None i x = by (is_durable x.kind)
  where
    by : (b : Bool) → outcome_in (if b then RequestPhase.Gated else RequestPhase.Queued) ≡ None
    by true = refl
    by false = refl
