-- A POLL ENDS AT A LOOK: what its task waits for is its worker's, and hasn't come.
use Rattle.std.proofs.{Common.{◌≡◌, inr, ℕ, ◌||◌, Bool, true, false, Option, Some, refl, sym, ap, subst, ◌∙◌, slice_get, arith}, lemmas.Bool.false≢true}
use Rattle.exec_task.specs.declared.body.Said.{Said}
use Rattle.exec_machine.specs.{declared.{state.{MailMessage.TheVariants.{ForwardRequest, ForwardTimer}, Waiting.Waiting}}, Tests.{is_resolved, is_unsent}, World.{Task, request_of, sleeper_of, task_of}}
use Rattle.exec_moves.specs.{declared.{handing.AfterSend.AfterSend, place.{InPoll.InPoll, Place.Place}}, Move.move_look_at, Poll.{Sight.{Asks, HearsRequest, HearsTimer}, resume, sight_by, sight_of}, State.{Moved, Things}, Thing.aside}
use Rattle.exec_parts.{specs.{declared.parts.{record.Record.Record, shared.Shared.Shared, sleeping.SleeperRecord.SleeperRecord, task_slot.TaskSlot.TaskSlot, worker.Worker.Worker}, Spots.Spot, View.{common_of, desk_of, task_seen, things_with}}, proofs.Facts.same_Some}
use Rattle.exec_invariants.{specs.{Holding.{awaited_in, holder_of, nap_of}, Sound.{MayStop, may_end}, Whole.HasWhole}, proofs.{Here.{IsHere, going_on}, Seen.{request_at, sleeper_at}, Slots.task_there, TaskTakes.{holder_there, nap_there}}}
use Rattle.exec_polling.proofs.Guests.{EndsHere}

module _ {B L : Type 0} (left : B → L) (spot : L → Option Said → Spot) where
  pub request_pends : (t k : ℕ) (w : Worker) (s : Shared B) (slot : TaskSlot B) (r : Record) → slice_get s.tasks.items t ≡ Some slot → slot.waiting ≡ Waiting.Request k → slice_get s.requests.items k ≡ Some r → is_unsent r.shown.forwarding ≡ true → r.shown.worker ≡ w.index → is_resolved r.shown.phase ≡ false
      → EndsHere left spot InPoll.Resume t w s
  request_pends t k w s slot r there waits at_k unsent mine going p vs suits =
      let all = common_of left spot p vs s in
      let d = desk_of (record w { place = Place.Poll t InPoll.Resume }) in
      let x = things_with vs s in
      let b : AfterSend = AfterSend.Pend t in
      let y : Task = record (task_seen left spot slot) { waiting = Waiting.Request k } in
      let it : task_of all t ≡ task_seen left spot slot = task_there left spot s.tasks.items t slot there in
      let seen : task_of all t ≡ y = it ∙ ap (λ u. record (task_seen left spot slot) { waiting = u }) waits in
      let request : request_of all k ≡ r.shown = request_at s.requests.items k r at_k in
      let looks : Task → Moved Things = λ z. move_look_at p.config all d x t b (aside x (resume w.index t all d z)) (sight_of w.index all z.waiting) in
      let finds : Bool → Bool → Moved Things = λ u m. move_look_at p.config all d x t b (aside x (resume w.index t all d y)) (sight_by u m (Asks r.shown.worker (ForwardRequest k)) (HearsRequest k)) in
      grind arith

  pub timer_pends : (t k : ℕ) (w : Worker) (s : Shared B) (slot : TaskSlot B) (z : SleeperRecord) → slice_get s.tasks.items t ≡ Some slot → slot.waiting ≡ Waiting.Timer k → slice_get s.sleepers.items k ≡ Some z → is_unsent z.shown.forwarding ≡ true → z.shown.worker ≡ w.index → z.shown.fired ≡ false
      → EndsHere left spot InPoll.Resume t w s
  timer_pends t k w s slot z there waits at_k unsent mine going p vs suits =
      let all = common_of left spot p vs s in
      let d = desk_of (record w { place = Place.Poll t InPoll.Resume }) in
      let x = things_with vs s in
      let b : AfterSend = AfterSend.Pend t in
      let y : Task = record (task_seen left spot slot) { waiting = Waiting.Timer k } in
      let it : task_of all t ≡ task_seen left spot slot = task_there left spot s.tasks.items t slot there in
      let seen : task_of all t ≡ y = it ∙ ap (λ u. record (task_seen left spot slot) { waiting = u }) waits in
      let sleeper : sleeper_of all k ≡ z.shown = sleeper_at s.sleepers.items k z at_k in
      let looks : Task → Moved Things = λ v. move_look_at p.config all d x t b (aside x (resume w.index t all d v)) (sight_of w.index all v.waiting) in
      let finds : Bool → Bool → Moved Things = λ u m. move_look_at p.config all d x t b (aside x (resume w.index t all d y)) (sight_by u m (Asks z.shown.worker (ForwardTimer k)) (HearsTimer k)) in
      grind arith

module _ {B : Type 0} where
  -- what it waits for may still come
  pub stops_request : (k i : ℕ) (u : Waiting) (s : Shared B) (r : Record) → u ≡ Waiting.Request k → slice_get s.requests.items k ≡ Some r → r.shown.worker ≡ i → is_resolved r.shown.phase ≡ false → (may_end u ≡ true) × MayStop i u s.requests.items s.sleepers.items
  stops_request k i u s r waits at_k mine going = (ap may_end waits, subst (λ v. MayStop i v s.requests.items s.sleepers.items) (sym waits) (r, at_k, inr (mine, going)))

  pub stops_timer : (t k : ℕ) (w : Worker) (s : Shared B) (z : SleeperRecord) → HasWhole w s → (at : IsHere InPoll.Resume t w s) → at.slot.waiting ≡ Waiting.Timer k → slice_get s.sleepers.items k ≡ Some z → z.shown.worker ≡ w.index → z.shown.fired ≡ false
      → (may_end at.slot.waiting ≡ true) × MayStop w.index at.slot.waiting s.requests.items s.sleepers.items
  stops_timer t k w s z has at waits at_k mine going =
      let asleep = has.whole.holding.asleep t (holder_of at.slot) k (holder_there s.tasks.items t at.slot at.there) (ap awaited_in waits) in
      let same : asleep.0 ≡ nap_of z = same_Some asleep.0 (nap_of z) (sym asleep.1 ∙ nap_there s.sleepers.items k z at_k) in
      let kept : (z.shown.removed || z.closed) ≡ false = sym (ap (λ x. x.removed) same) ∙ asleep.2.kept (going_on at.slot.cell.phase at.polled) in
      (ap may_end waits, subst (λ v. MayStop w.index v s.requests.items s.sleepers.items) (sym waits) (z, at_k, inr (mine, going, first_none z.shown.removed z.closed kept)))
    where
      first_none : (a b : Bool) → (a || b) ≡ false → a ≡ false
      first_none true b h = absurd (false≢true (sym h))
      first_none false b h = refl
