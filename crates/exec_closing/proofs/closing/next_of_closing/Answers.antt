use Rattle.std.proofs.Common.{◌≡◌, Option, Some, None, true, is_some, refl, sym, ◌∙◌, IfSome}
use Rattle.exec_waiters.specs.{Events.IsFirstHeld, declared.waiter_id.WaiterId.WaiterId}
use Rattle.exec_moves.specs.declared.place.{InClosing.InClosing, Place.Place}
use Rattle.exec_parts.specs.{Ending.{ClosesOn, ClosesOn.holds}, View.driver_of, declared.parts.worker.Worker.Worker}
use Rattle.exec_closing.proofs.closing.next_of_closing.Goals as goal

first_of : (w : Worker) (o : Option WaiterId) → IfSome o (λ id. IsFirstHeld (driver_of w).requests id.0) → is_some o ≡ true → ClosesOn (driver_of w) w.home.timers (Place.Closing InClosing.Orphan)
first_of w (Some id) first some = holds id.0 first refl
first_of w None first some = absurd (cc)

pub returns-then-is_some : goal.returns-then-is_some
returns-then-is_some c = first_of c.args.worker.now c.first_observed.result c.first_observed.ensures.first (sym c.is_some.ensures ∙ c.if-is_some.true)
