-- The act by which a task that holds nothing waits for a wake.
use Rattle.std.proofs.Common.{◌≡◌, ℕ, ◌-◌, true, List, length, Option, Some, None, refl, sym, subst, slice_get, arith}
use Rattle.exec_task.specs.{Phases.is_polled, Sight.Sight, declared.body.{Act.Act, Said.Said}}
use Rattle.exec_machine.specs.{Choice.Choice.Plain, declared.{event.Event.{Event, TheVariants.{Wait}}, state.Waiting.Waiting}, Progress.Plan}
use Rattle.exec_moves.specs.declared.place.{Place.Place, InPoll.InPoll}
use Rattle.exec_parts.specs.{declared.parts.{shared.Shared.Shared, task_slot.TaskSlot.TaskSlot, worker.Worker.Worker}, Records.numbers_held, Spots.Spot, View.{Views, common_of}, Things.TurnsSlot}
use Rattle.exec_invariants.{specs.{Acting.{ActsAs, HasActed, StepsOf}}, proofs.{Acting.{StaysOn, acted, actor, acts_so, me_at, moved_seen}, Performing.performs_waiting, Slots.{IsEvent, task_there}}}
use Rattle.exec_polling.proofs.TaskAwaits.{await_nothing}
use Rattle.exec_base.proofs.Slots.{no_last}

module _ {B L : Type 0} (left : B → L) (runs : L → Plan → Option ℕ → Type 0) (holds : L → Option Said → List ℕ) (spot : L → Option Said → Spot) (gives : L → Option Sight → Said → Act B → L → Option Sight → Type 0) where
  wait_event : (t : ℕ) (w : Worker) (s : Shared B) (slot : TaskSlot B) (b' : B) (r : Option ℕ) → w.hand ≡ None → slice_get s.tasks.items t ≡ Some slot → slot.waiting ≡ Waiting.Nothing → is_polled slot.cell.phase ≡ true → slice_get (numbers_held slot.held.items) (length (numbers_held slot.held.items) - 1) ≡ None
      → (p : Plan) (vs : Views) → ActsAs left runs holds spot gives (common_of left spot p vs s) p w.moments.sampled slot b' (Act.Await r)
      → IsEvent left spot (Place.Poll t InPoll.Act) (Place.Poll t InPoll.Pend) t w w.root_ready None s (record slot { body = Some b'; told = None; waiting = Waiting.Wake }) (Wait None) Plain p vs
  wait_event = grind (arith, me_at, task_there, moved_seen, await_nothing, acts_so, no_last)

  pub waited_by : (t : ℕ) (w w' : Worker) (s s1 s' : Shared B) (e : Event) (r : Option ℕ) → (h : HasActed left runs holds spot gives t w s s1 (Act.Await r)) → slice_get (numbers_held h.made.slot.held.items) (length (numbers_held h.made.slot.held.items) - 1) ≡ None
      → e ≡ Wait None → w' ≡ record w { place = Place.Poll t InPoll.Pend } → TurnsSlot t s1 s' (λ slot. record slot { waiting = Waiting.Wake }) → StepsOf left runs holds spot w s e w' s'
  waited_by t w w' s s1 s' e r h none event same turns =
      let m = h.made in
      let it = actor left runs holds spot gives t w s s1 (Act.Await r) h in
      let stays : StaysOn InPoll.Pend t m.slot (record m.slot { body = Some m.acts.body'; told = None; waiting = Waiting.Wake }) = grind arith in
      subst (λ z. StepsOf left runs holds spot w s z w' s') (sym event)
      (acted left runs holds spot gives t InPoll.Pend w w' s s1 s' (Wait None) Plain (Act.Await r) (λ slot. record slot { waiting = Waiting.Wake }) h stays
      (λ p vs so. wait_event t w s m.slot m.acts.body' r h.sound.hand m.there it.waits it.polled none p vs so) (λ p goes. performs_waiting left runs holds spot gives p m.slot m.acts.body' r it.polled goes) refl same turns)
