-- What the steps of a signal leave as it was.
use Rattle.std.proofs.Common.{◌≡◌, subst, arith}
use Rattle.exec_moves.specs.declared.place.Place.{Place}
use Rattle.exec_parts.specs.declared.parts.{shared.Shared.Shared, worker.Worker.Worker}
use Rattle.exec_invariants.proofs.Turning.{Arrives}

module _ {B : Type 0} where
  -- what is said of such a place, with the seats as they are then
  pub arrives_there : (q : Place) (w v : Worker) (s t : Shared B) → t ≡ record s { seats = t.seats } → Arrives q w v t t → Arrives q w v s t
  arrives_there q w v s t kept to =
      let u : Shared B = record s { seats = t.seats } in
      let it : Arrives q w v u t = subst (λ z. Arrives q w v z t) kept to in
      grind arith
