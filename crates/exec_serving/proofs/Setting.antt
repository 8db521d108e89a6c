-- A ring that was set busy, or to end its wake poll.
use Rattle.std.proofs.Common.{◌≡◌, Bool, true, Option, Some, refl, sym, ap, subst, ◌∙◌, slice_get, arith}
use Rattle.exec_ring.specs.Rings.{RingState}
use Rattle.exec_driver.specs.Driving.{Driving}
use Rattle.exec_task.specs.declared.body.Said.{Said}
use Rattle.exec_machine.specs.Progress.{Plan}
use Rattle.exec_moves.specs.{Plays.last_told, State.wake_poll_of, Thing.set_wake_poll}
use Rattle.exec_parts.{specs.{declared.parts.{mail.Reply.Reply, seat.Seat.Seat as Chair, shared.Shared.Shared, worker.Worker.Worker}, Spots.Spot, View.{Views, visible, with_view, driver_of, own_of, desk_of, common_of, seat_seen, things_with}}, proofs.Facts.set_there}
use Rattle.exec_invariants.{specs.{Raises.TakesRaises, Sound.{SoundAt, Sound}, Works.{Beside, Suits}}, proofs.{Aside.{SameProfile, beside_calm, seats_same}, PoolKept.gates_same, Raising.{beside_first, common_taken, desk_taken, own_taken, poll_shows, poll_shown, sound_taken, things_taken, view_twice, views_kept}, Ringed.sound_ring, Shown.{desk_with, own_with, visible_with}}}

module _ {B : Type 0} where
  pub set_sound : (w w' : Worker) (s : Shared B) (busy last : Bool) → Sound w s → driver_of w' ≡ record (driver_of w) { ring = record (driver_of w).ring { busy = busy; last = last } }
      → w' ≡ record w { home = record w.home { driver = w'.home.driver } } → Sound w' s
  set_sound w w' s busy last sound driver same =
      let r : RingState = record (driver_of w).ring { busy = busy; last = last } in
      subst (λ y. SoundAt y w' s) (sym (ap (λ x. x.place) same))
      (sound_ring w.place w w' s r sound (record { size = refl; staged = refl; flying = refl; landed = refl; polled = sound.flown.polled }) driver same)

  -- and leaves others as they were
  pub set_beside : (w w' : Worker) (s : Shared B) → w' ≡ record w { home = record w.home { driver = w'.home.driver } } → Beside w s w' s
  set_beside = grind (arith, beside_calm, seats_same, gates_same)

-- THE NEXT COMPLETION OF THE WAKE POLL ENDS IT, once all raises are in the ring
module _ {B L : Type 0} (left : B → L) (spot : L → Option Said → Spot) (w w1 w' : Worker) (s s1 : Shared B) (sound : Sound w s) (takes : TakesRaises w s w1 s1)
    (driver : driver_of w' ≡ record (driver_of w1) { ring = record (driver_of w1).ring { last = true } }) (same : w' ≡ record w1 { home = record w1.home { driver = w'.home.driver } }) where
  at_place : w1.place ≡ w.place
  at_place = ap (λ x. x.place) takes.worker

  sound_mid : Sound w1 s1
  sound_mid = subst (λ q. SoundAt q w1 s1) (sym at_place) (sound_taken w.place w w1 s s1 sound takes)

  pub ending_sound : Sound w' s1
  ending_sound = set_sound w1 w' s1 (driver_of w1).ring.busy true sound_mid driver same

  pub ending_own : own_of w' ≡ own_of w
  ending_own =
      ap own_of same ∙ ap (own_with w1 w1.place w1.names.ended.items w1.names.untold.items) driver ∙ own_taken w.place w w1 s s1 sound takes

  pub ending_desk : desk_of w' ≡ desk_of w
  ending_desk = ap desk_of same ∙ ap (desk_with w1 w1.place w1.put_off w1.home.deferred) driver ∙ desk_taken w.place w w1 s s1 sound takes

  shows : visible w' ≡ record (visible w1) { wakes = last_told (visible w1).wakes }
  shows = ap visible same ∙ ap (λ (x : Driving Reply Reply). visible_with w1.names.requests.items (visible w1).taken x.ring) driver

  pub ending_beside : Beside w s w' s1
  ending_beside =
      let profile : SameProfile w1 w' = subst (SameProfile w1) (sym same) (record { hand = refl; loot = refl; polls = refl; claims = refl; searching = refl; counts = refl; index = refl; published = refl; drops = refl; told = record { batch = refl; letters = refl; left = refl } }) in
      beside_first w.place w w1 s s1 sound takes w' s1 (beside_calm w1 w' s1 s1 profile refl (seats_same w1.index s1.seats.items s1.seats.items refl) (gates_same s1.seats.items s1.seats.items refl) refl refl refl refl)

  pub ending_things : (p : Plan) (vs : Views) → Suits p vs w s → things_with (with_view vs w.index (visible w')) s1 ≡ set_wake_poll w.index (things_with vs s) (last_told (wake_poll_of (things_with vs s) w.index))
  ending_things p vs suits =
      let vs1 = with_view vs w.index (visible w1) in
      let chair : Chair = record sound.seated.seat { raised = 0 } in
      let there : slice_get s1.seats.items w.index ≡ Some chair = ap (λ xs. slice_get xs w.index) (takes.seats sound.seated.seat sound.seated.there) ∙ set_there s.seats.items w.index chair sound.seated.seat sound.seated.there in
      let seen : slice_get vs1.workers w.index ≡ Some (visible w1) = set_there vs.workers w.index (visible w1) (visible w) suits.seen in
      ap (λ v. things_with v s1) (sym (view_twice vs w.index (visible w1) (visible w')))
      ∙ poll_shows vs1 w.index s1 chair there refl (visible w')
      ∙ ap (λ p. set_wake_poll w.index (things_with vs1 s1) p) (ap (λ v. v.wakes) shows ∙ ap last_told (sym (poll_shown vs1 w.index s1 chair there refl (visible w1) seen)))
      ∙ ap (λ x. set_wake_poll w.index x (last_told (wake_poll_of x w.index))) (things_taken w.place w w1 s s1 sound takes vs suits.seen)

  pub ending_common : (p : Plan) (vs : Views) → Suits p vs w s → common_of left spot p (with_view vs w.index (visible w')) s1 ≡ common_of left spot p vs s
  ending_common p vs suits =
      let vs1 = with_view vs w.index (visible w1) in
      let seen : slice_get vs1.workers w.index ≡ Some (visible w1) = set_there vs.workers w.index (visible w1) (visible w) suits.seen in
      ap (λ v. common_of left spot p v s1) (sym (view_twice vs w.index (visible w1) (visible w')))
      ∙ ap (λ xs. record (common_of left spot p vs1 s1) { seats = xs }) (views_kept vs1.workers s1.seats.items w.index (visible w1) (visible w') seen (λ c. ap (λ v. seat_seen v c) shows))
      ∙ common_taken w.place w w1 s s1 sound takes left spot p vs suits.seen
