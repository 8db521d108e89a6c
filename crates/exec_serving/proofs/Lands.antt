-- An operation lands, once the wakes that wait at its worker's seat are in the ring.
use Rattle.std.proofs.Common.{◌≡◌, ℕ, Option, Some, sym, ap, ◌∙◌, slice_get, slice_set}
use Rattle.exec_outcomes.specs.declared.outcome.OpResult.{OpResult}
use Rattle.exec_request.specs.declared.request.Request.{Request as Asking}
use Rattle.exec_task.specs.declared.body.Said.{Said}
use Rattle.exec_machine.specs.{Callers.after_landing, Progress.Plan}
use Rattle.exec_moves.specs.{State.{Desk, passed, wake_poll_of}, Thing.set_wake_poll}
use Rattle.exec_parts.{specs.{declared.parts.{seat.Seat.Seat as Chair, shared.Shared.Shared, worker.Worker.Worker}, Phased.TurnsChair, Records.{landed_on, roused}, Spots.Spot, View.{Views, visible, with_view, driver_of, own_of, desk_of, common_of, things_with}}, proofs.Facts.set_there}
use Rattle.exec_invariants.{specs.{Raises.TakesRaises, Sound.Sound, Works.{Beside, Suits}}, proofs.Raising.{beside_first, common_taken, desk_taken, own_taken, set_twice, suits_taken, things_taken, view_twice}}
use Rattle.exec_serving.proofs.{LandMoves.{Leaves, Refilled}, Landing.{Lander, driver_then, records_then}, LandSeen.{landed_beside, landed_common, landed_desk, landed_own, landed_things}}

module _ {B L : Type 0} (left : B → L) (spot : L → Option Said → Spot) (w w1 w' : Worker) (s s1 s' : Shared B) (k : ℕ) (n : OpResult) (sound : Sound w s) (takes : TakesRaises w s w1 s1) (sound1 : Sound w1 s1) (who : Lander w1 s1 k n)
    (q : Asking) (request : Refilled who.it.request q) (driver : driver_of w' ≡ driver_then w1 s1 k n who q) (same : w' ≡ record w1 { home = record w1.home { driver = w'.home.driver } }) (records : s'.requests.items ≡ records_then w1 s1 k n who) (leaves : Leaves who.r.shown.operation n s1.store s'.store)
    (kept : s' ≡ record s1 { seats = s'.seats; requests = s'.requests; store = s'.store }) (turns : TurnsChair w1.index roused s1 s') where
  index : w1.index ≡ w.index
  index = ap (λ x. x.index) takes.worker

  place : w1.place ≡ w.place
  place = ap (λ x. x.place) takes.worker

  pub lands_own : own_of w' ≡ own_of w
  lands_own = landed_own w1 s1 k n who q request sound1 w' driver same ∙ own_taken w.place w w1 s s1 sound takes

  pub lands_desk : desk_of w' ≡ record (desk_of w) { others = 0 }
  lands_desk = landed_desk w1 s1 k n who q request sound1 w' driver same ∙ ap (λ (d : Desk). record d { others = 0 }) (desk_taken w.place w w1 s s1 sound takes)

  pub lands_chair : TurnsChair w.index landed_on s s'
  lands_chair chair there =
      let set = takes.seats chair there in
      let chair' : Chair = record chair { raised = 0 } in
      let found : slice_get s1.seats.items w1.index ≡ Some chair' = ap (slice_get s1.seats.items) index ∙ ap (λ xs. slice_get xs w.index) set ∙ set_there s.seats.items w.index chair' chair there in
      turns chair' found ∙ ap (λ j. slice_set s1.seats.items j (roused chair')) index ∙ ap (λ xs. slice_set xs w.index (roused chair')) set ∙ set_twice s.seats.items w.index chair' (roused chair')

  pub lands_beside : Sound w' s' → Beside w s w' s'
  lands_beside holds = beside_first w.place w w1 s s1 sound takes w' s' (landed_beside w1 s1 k n who q request sound1 w' s' same holds records leaves kept turns)

  -- the view after both
  again : (vs : Views) → with_view (with_view vs w.index (visible w1)) w1.index (visible w') ≡ with_view vs w.index (visible w')
  again vs = ap (λ j. with_view (with_view vs w.index (visible w1)) j (visible w')) index ∙ view_twice vs w.index (visible w1) (visible w')

  pub lands_things : (p : Plan) (vs : Views) → Suits p vs w s → things_with (with_view vs w.index (visible w')) s' ≡ set_wake_poll w.index (things_with vs s) (passed (wake_poll_of (things_with vs s) w.index))
  lands_things p vs suits =
      let vs1 = with_view vs w.index (visible w1) in
      let none : sound1.seated.seat.raised ≡ 0 =
      let chair' : Chair = record sound.seated.seat { raised = 0 } in
      let now : slice_get s1.seats.items w1.index ≡ Some chair' =
      ap (slice_get s1.seats.items) index ∙ ap (λ xs. slice_get xs w.index) (takes.seats sound.seated.seat sound.seated.there) ∙ set_there s.seats.items w.index chair' sound.seated.seat sound.seated.there in
      let is : sound1.seated.seat ≡ chair' = cc (sound1.seated.there, now) in
      ap (λ c. c.raised) is in
      ap (λ v. things_with v s') (sym (again vs))
      ∙ landed_things w1 s1 k n who q request sound1 w' s' driver same records kept turns none vs1 (suits_taken w.place w w1 s s1 sound takes p vs suits).seen
      ∙ ap (λ j. set_wake_poll j (things_with vs1 s1) (passed (wake_poll_of (things_with vs1 s1) j))) index
      ∙ ap (λ x. set_wake_poll w.index x (passed (wake_poll_of x w.index))) (things_taken w.place w w1 s s1 sound takes vs suits.seen)

  pub lands_common : (p : Plan) (vs : Views) → Suits p vs w s → common_of left spot p (with_view vs w.index (visible w')) s' ≡ after_landing (common_of left spot p vs s) k n
  lands_common p vs suits =
      let suits1 = suits_taken w.place w w1 s s1 sound takes p vs suits in
      ap (λ v. common_of left spot p v s') (sym (again vs))
      ∙ landed_common w1 s1 k n who q request sound1 left spot w' s' driver same records kept turns p (with_view vs w.index (visible w1)) suits1
      ∙ ap (λ c. after_landing c k n) (common_taken w.place w w1 s s1 sound takes left spot p vs suits.seen)
