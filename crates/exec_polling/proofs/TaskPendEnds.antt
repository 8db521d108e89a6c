-- A POLL ENDS where it stands (Pend, or at what its task waits for): whether its task was cleared meanwhile or not.
use Rattle.std.proofs.{Common.{◌≡◌, Bool, true, false, ℕ, Option, refl, sym, ap, subst, ◌∙◌}, lemmas.Bool.false≢true}
use Rattle.exec_task.specs.{Phases.pend_answer, declared.body.Said.Said}
use Rattle.exec_machine.specs.declared.event.Event.{Event, TheVariants.Pend}
use Rattle.exec_moves.specs.declared.place.{InPoll.InPoll, Place.Place}
use Rattle.exec_parts.{specs.{declared.parts.{shared.Shared.Shared, task_slot.TaskSlot.TaskSlot, worker.Worker.Worker}, Ending.{MayPend, PendsTask}, Phased.is_complete, Polls.pended_slot, Pooled.queued_again, Spots.Spot, Tests.after_poll_of}, proofs.Facts.same_Some}
use Rattle.exec_invariants.{specs.{Sound.{MayStop, SoundAt, may_end}, Whole.HasWhole, Works.Steps}, proofs.{Here.IsHere, Pending.{MayEnd, at_end}, TaskOverFold.LetsSeen, TaskOverGone.RemovesSeen, TaskOverPolls.InPollAt}}
use Rattle.exec_polling.proofs.{Guests.{EndsHere, poll_stopped}, TaskOverPends.{may_let_pended, pended_cleared}, TaskPends.pended_going}

-- one that is over was cleared
cleared_by : {b : Bool} → (b ≡ false → ⊥) → b ≡ true
cleared_by {b = true} kept = refl
cleared_by {b = false} kept = absurd (kept refl)

module _ {B L : Type 0} (left : B → L) (spot : L → Option Said → Spot) (x : InPoll) (t : ℕ) (w : Worker) (s : Shared B) (sound : SoundAt (Place.Poll t x) w s) (may : MayEnd x t) (at : InPollAt x t) (here : IsHere x t w s) (has : HasWhole w s) (seen : LetsSeen B) (removes : RemovesSeen B) where
  pub may_pend : MayPend t w s
  may_pend =
      let it = at_end x t w s sound may in
      record {
        there = it.there;
        polled = it.polled;
        body = it.body;
        agrees = it.agrees;
        lets = λ slot found over mid turns.
            let is : slot ≡ here.slot = same_Some slot here.slot (sym found ∙ here.there) in
            let gone : here.slot.cell.cancelled ≡ true = cleared_by (λ kept. false≢true (sym (pended_going here.slot here.body here.polled kept) ∙ ap (λ (o : TaskSlot B). is_complete (pended_slot o).cell.phase) (sym is) ∙ over)) in
            may_let_pended left spot x t w s sound may at here gone has seen removes mid turns;
      }

  module _ (w' : Worker) (s' : Shared B) (e : Event) (event : e ≡ Pend t) (moves_here : EndsHere left spot x t w s) (ends : may_end here.slot.waiting ≡ true) (stop : MayStop w.index here.slot.waiting s.requests.items s.sleepers.items) (pends : PendsTask t w w' s s') where
    plainly : here.slot.cell.cancelled ≡ false → Steps left spot w s e w' s'
    plainly kept =
        let is : pends.slot ≡ here.slot = same_Some pends.slot here.slot (sym pends.there ∙ here.there) in
        let going : is_complete (pended_slot pends.slot).cell.phase ≡ false = ap (λ (o : TaskSlot B). is_complete (pended_slot o).cell.phase) is ∙ pended_going here.slot here.body here.polled kept in
        let then_is = pends.still going in
        let goes : w' ≡ queued_again t (pend_answer here.slot.cell) (record w { place = after_poll_of t w }) = then_is.0 ∙ ap (λ (o : TaskSlot B). queued_again t (pend_answer o.cell) (record w { place = after_poll_of t w })) is in
        let done : Steps left spot w s e w' pends.mid = poll_stopped left spot x t w w' s pends.mid e sound may moves_here event here kept ends stop goes pends.pended_is in
        subst (Steps left spot w s e w') (sym then_is.1) done

    pub poll_ends : Steps left spot w s e w' s'
    poll_ends = by here.slot.cell.cancelled refl
      where
        by : (b : Bool) → here.slot.cell.cancelled ≡ b → Steps left spot w s e w' s'
        by false kept = plainly kept
        by true gone = pended_cleared left spot x t w s sound may at here gone has seen removes w' s' e event moves_here ends stop pends
