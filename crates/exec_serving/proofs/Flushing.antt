-- An enter that took nothing ends the staging.
use Rattle.std.proofs.Common.{◌≡◌, Bool, true, false, refl, sym, ◌∙◌, if◌then◌else◌}
use Rattle.exec_machine.specs.declared.event.Event.{Event, TheVariants.{Busy, Enter}}
use Rattle.exec_moves.specs.declared.place.Service.{Service}
use Rattle.exec_parts.specs.{declared.parts.worker.Worker.Worker, Serving.with_staging_ended}
use Rattle.exec_invariants.specs.Submitting.{after_flush}

pub flushed_none : (v : Service) (busy : Bool) (e : Event) (w w' : Worker) → e ≡ (if busy then Busy else Enter) → e ≡ Busy → w' ≡ with_staging_ended v w → w' ≡ after_flush v busy w
flushed_none v true e w w' event is ends = ends
flushed_none v false e w w' event is ends = absurd (let no : Enter ≡ Busy = sym event ∙ is in cc)

pub flushed_all : (v : Service) (busy : Bool) (e : Event) (w : Worker) → e ≡ (if busy then Busy else Enter) → (e ≡ Busy → ⊥) → w ≡ after_flush v busy w
flushed_all v true e w event not_busy = absurd (not_busy event)
flushed_all v false e w event not_busy = refl
