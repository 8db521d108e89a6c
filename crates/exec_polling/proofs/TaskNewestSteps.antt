-- WHAT A TASK'S ACT DOES with the newest request that it holds: the whole steps, by where that is and whether it is over.
use Rattle.std.proofs.Common.{◌≡◌, ℕ, true, false, List, [], Option, Some, None, IsSome, refl, sym, ap, subst, ◌∙◌, slice_get}
use Rattle.exec_task.specs.{Sight.Sight, declared.body.{Act.Act, Said.Said}}
use Rattle.exec_machine.specs.{declared.event.Event.Event, Progress.Plan, Tests.is_resolved}
use Rattle.exec_parts.{specs.{declared.parts.{shared.Shared.Shared, task_slot.TaskSlot.TaskSlot, worker.Worker.Worker}, Awaits.{AwaitsNewest, DropsRequest, OfNewest, newest_of}, Polls.OfSlot, Scripts.IsAnswered, Spots.Spot}, proofs.Facts.{by_number, same_Some, set_there}}
use Rattle.exec_invariants.{specs.{Acting.{HasActed, StepsOf}, Whole.HasWhole}, proofs.{SparedRecord.there_within, TaskNewest.newest_known}}
use Rattle.exec_polling.proofs.{TaskAwaits.{awaits_elsewhere, awaits_got}, TaskBegins.awaits_on, TaskDrops.drops_own, TaskTells.drops_elsewhere, Waited.waited_by}

module _ {B L : Type 0} (left : B → L) (runs : L → Plan → Option ℕ → Type 0) (holds : L → Option Said → List ℕ) (spot : L → Option Said → Spot) (gives : L → Option Sight → Said → Act B → L → Option Sight → Type 0) (answered : IsAnswered spot) where
  awaits_acted : (t : ℕ) (w w' : Worker) (s s1 s' : Shared B) (e : Event) (o : Option ℕ) → (h : HasActed left runs holds spot gives t w s s1 (Act.Await o)) → HasWhole w s → newest_of h.made.slot ≡ o → AwaitsNewest t o w w' s1 s' e → StepsOf left runs holds spot w s e w' s'
  awaits_acted t w w' s s1 s' e None h has newest it = waited_by left runs holds spot gives t w w' s s1 s' e None h newest it.0 it.1 it.2
  awaits_acted t w w' s s1 s' e (Some k) h has newest it =
      let m = h.made in
      let found = there_within s.requests.items k (newest_known t k w s m.slot has m.there newest) in
      let r = found.0 in
      let at_1 : slice_get s1.requests.items k ≡ Some r = ap (λ (y : Shared B). slice_get y.requests.items k) m.kept ∙ found.1 in
      by_number r.shown.worker w.index
      (λ other. awaits_elsewhere left runs holds spot gives answered t k w w' s s1 s' e r h has newest found.1 other (it.elsewhere r at_1 other))
      (λ mine. elim (is_resolved r.shown.phase) as (λ b. is_resolved r.shown.phase ≡ b → StepsOf left runs holds spot w s e w' s') [
        | true ↦ λ over. awaits_got left runs holds spot gives answered t k w w' s s1 s' e r h has newest found.1 mine (it.over r at_1 mine over)
        | false ↦ λ going. awaits_on left runs holds spot gives answered t k w w' s s1 s' e r h has newest found.1 mine going (it.waits r at_1 mine going)
      ] refl)

  -- for its slot once it has acted
  pub await_steps : (t : ℕ) (w w' : Worker) (s s1 s' : Shared B) (e : Event) (a : Option ℕ) → (h : HasActed left runs holds spot gives t w s s1 (Act.Await a)) → HasWhole w s → OfSlot t s1 (λ slot. AwaitsNewest t (newest_of slot) w w' s1 s' e) → StepsOf left runs holds spot w s e w' s'
  await_steps t w w' s s1 s' e a h has awaits =
      let m = h.made in
      let asked : a ≡ newest_of m.slot = (h.asks h.one.0 (record { workers = []; calls = [] }) h.one.2).asks.1 in
      let found : slice_get s1.tasks.items t ≡ Some m.slot' = ap (λ ts. slice_get ts t) m.tasks ∙ set_there s.tasks.items t m.slot' m.slot m.there in
      let same : newest_of m.slot' ≡ a = ap newest_of m.acts.slot ∙ sym asked in
      awaits_acted t w w' s s1 s' e a h has (sym asked) (subst (λ o. AwaitsNewest t o w w' s1 s' e) same (awaits m.slot' found))

  pub drop_steps : (t : ℕ) (w w' : Worker) (s s1 s' : Shared B) (e : Event) (k : ℕ) → (h : HasActed left runs holds spot gives t w s s1 (Act.Drop k)) → HasWhole w s → OfNewest t s1 (λ j. DropsRequest t j w w' s1 s' e) → StepsOf left runs holds spot w s e w' s'
  drop_steps t w w' s s1 s' e k h has drops_it =
      let m = h.made in
      let found : slice_get s1.tasks.items t ≡ Some m.slot' = ap (λ ts. slice_get ts t) m.tasks ∙ set_there s.tasks.items t m.slot' m.slot m.there in
      let newest : newest_of m.slot ≡ Some k = (h.asks h.one.0 (record { workers = []; calls = [] }) h.one.2).asks.1 in
      let it = drops_it m.slot' found k (ap newest_of m.acts.slot ∙ newest) in
      let at_r : slice_get s.requests.items k ≡ Some it.r = sym (ap (λ (y : Shared B). slice_get y.requests.items k) m.kept) ∙ it.request in
      by_number it.r.shown.worker w.index
      (λ other. drops_elsewhere left runs holds spot gives answered t k w w' s s1 s' e it.r h has newest at_r other (it.elsewhere other))
      (λ mine. drops_own left runs holds spot gives answered t k w w' s s1 s' e it.r h has newest at_r mine (it.here mine))

  -- there is one to let go of
  pub drops_some : (t : ℕ) (w : Worker) (s s1 : Shared B) (k : ℕ) → HasActed left runs holds spot gives t w s s1 (Act.Drop k) → OfSlot t s1 (λ slot. IsSome (newest_of slot))
  drops_some t w s s1 k h slot at_task =
      let m = h.made in
      let found : slice_get s1.tasks.items t ≡ Some m.slot' = ap (λ ts. slice_get ts t) m.tasks ∙ set_there s.tasks.items t m.slot' m.slot m.there in
      subst (λ (o : TaskSlot B). IsSome (newest_of o)) (same_Some m.slot' slot (sym found ∙ at_task)) (rw (ap newest_of m.acts.slot ∙ (h.asks h.one.0 (record { workers = []; calls = [] }) h.one.2).asks.1) refl)
