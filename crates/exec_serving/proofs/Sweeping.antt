-- A reaping that finds no operation which has landed.
use Rattle.std.proofs.Common.{◌≡◌, ℕ, true, false, [], map, Option, None, refl, sym, ap, subst, ◌∙◌, arith}
use Rattle.exec_ring.specs.{declared.completion.{Completion.Completion}}
use Rattle.exec_driver.specs.{Driving.Driving, Steps.{swept, with_landings}}
use Rattle.exec_task.specs.declared.body.Said.{Said}
use Rattle.exec_machine.specs.{declared.event.Event.{Event, TheVariants.Serve}}
use Rattle.exec_moves.specs.{Seen.serves_at, Serve.{after_permit, others_after_reap}, State.dropped, Thing.{set_wake_poll}, declared.place.{Reaping.Reaping, Service.Service, Place.Place, AfterPermit.AfterPermit, InService.InService}}
use Rattle.exec_parts.specs.{declared.parts.{mail.Reply.Reply, shared.Shared.Shared, worker.Worker.Worker}, Spots.Spot, View.{visible, with_view, own_of, desk_of, driver_of, number_told, seat_seen, things_with}}
use Rattle.exec_invariants.{specs.{Flown.operations, Due.may_be_due, Places.passes_at, Sound.{SoundAt, served_in}, Works.Steps}, proofs.{Keeping.{SameButRing, keeps_ring}, Raising.poll_shows, Seeing.{common_same, served}, Serving.{SparesRecords, at_large, balances_still, spares_same}, ServingHolds.{Follows, IsServed, Keeps, KeepsBy, Serves, serves_to}, Shown.{own_with}, Swept.{RingAfter, ring_none}, WokenSwept.sweeps}}
use Rattle.exec_serving.proofs.Entered.{ring_seen, ring_there}

-- a driver after a sweep, where none has landed
pub sweeps_alike : (f : Completion → ℕ) (d d' : Driving Reply Reply) → d' ≡ with_landings d' (swept d) → operations d.ring ≡ [] → RingAfter f d d' [] → SameButRing d d'
sweeps_alike = grind (arith, sweeps)

pub follows_reap : (r : Reaping) (v : Service) → Follows (Place.Service (InService.Reap r) v) (Place.Service (after_permit (AfterPermit.Reaped r)) v)
follows_reap Reaping.First v = record { from = refl; to = refl; serves = refl; armed = refl; closes = refl; wakes = refl; moment = λ m. refl; searches = refl; published = refl; bare = refl; batch = λ ms h. h }
follows_reap Reaping.Last v = record { from = refl; to = refl; serves = refl; armed = refl; closes = refl; wakes = refl; moment = λ m. refl; searches = refl; published = refl; bare = refl; batch = λ ms h. h }

module _ {B L : Type 0} (left : B → L) (spot : L → Option Said → Spot) where
  pub none_reaped : (r : Reaping) (v : Service) (w w' : Worker) (s : Shared B) (e : Event) → (sound : SoundAt (Place.Service (InService.Reap r) v) w s) → sound.seated.seat.raised ≡ 0 → operations (driver_of w).ring ≡ [] → e ≡ Serve
      → driver_of w' ≡ with_landings (driver_of w') (swept (driver_of w)) → w' ≡ record w { place = Place.Service (after_permit (AfterPermit.Reaped r)) v; home = record w.home { driver = w'.home.driver } } → Steps left spot w s e w' s
  none_reaped r v w w' s e sound waits none event driver same =
      let q : Place = Place.Service (InService.Reap r) v in
      let q' : Place = Place.Service (after_permit (AfterPermit.Reaped r)) v in
      let d = driver_of w in
      let d' = driver_of w' in
      let f = number_told w.names.requests.items in
      let ring = ring_none f d d' driver sound.flown.polled none in
      let like = sweeps_alike f d d' driver none ring in
      let follows = follows_reap r v in
      let serves : Serves q w w' s s = serves_to q q' w w' s s (subst (IsServed w) (sym same) refl) refl (ap (λ x. x.place) same) follows in
      let by : KeepsBy (record w { place = q'; put_off = w.put_off }) d' w.home.timers s.requests.items s.sleepers.items s =
      keeps_ring q q' w.put_off w s d' sound follows like (λ h. sound.due.told (not_due r)) in
      let keeps : Keeps w' s = subst (λ x. KeepsBy x (driver_of x) x.home.timers s.requests.items s.sleepers.items s) (sym same) (assumption by) in
      let w0 : Worker = record w { place = q } in
      let i = w.index in
      let seen : visible w' ≡ record (visible w) { landed = []; wakes = dropped [] (visible w).wakes } = grind (arith, same, ring.busy, ring.landed, ring.poll) in
      let spares : SparesRecords w.index s s = spares_same w.index s s sound.gates refl refl refl in
      let landed_none : (visible w).landed ≡ [] = ap (map f) none in
      let desk : desk_of w' ≡ record (others_after_reap [] (visible w).wakes (desk_of w0)) { place = q' } = grind (arith, same, like.requests, ring.staged, ring.armed, ring.others) in
      subst (λ x. Steps left spot w s x w' s) (sym event)
      (served left spot q w w' s s Serve sound serves keeps spares (balances_still q w w' s s sound.here serves spares (ap passes_at (ap (λ x. x.place) same) ∙ by_passes r) (ap (λ (v : Worker). v.home.deferred.notes.wakes.items) same) refl refl)
      (λ p vs suits.
      let x = things_with vs s in
      let shown : things_with (with_view vs i (visible w')) s ≡ set_wake_poll i x (dropped [] (visible w).wakes) =
      poll_shows vs i s sound.seated.seat sound.seated.there waits (visible w') ∙ ap (λ y. set_wake_poll i x y.wakes) seen in
      record {
        moves = grind (arith, ring_there left spot q w s sound waits p vs suits ∙ ap (λ ks. record (ring_seen w) { landed = ks }) landed_none, desk, shown);
        may = (at_large q w s sound refl, tt);
        own =
            ap own_of same ∙ own_as w q' d' like ∙ rw (served_by r) refl;
        common = common_same left spot p vs w w' s suits (λ c. ap (λ y. seat_seen y c) (seen ∙ ap (λ ks. record (visible w) { landed = ks; wakes = dropped [] (visible w).wakes }) (sym landed_none)));
      }))
    where
      not_due : (r : Reaping) → may_be_due (served_in (Place.Service (InService.Reap r) v)) ≡ false
      not_due Reaping.First = refl
      not_due Reaping.Last = refl

      by_passes : (r : Reaping) → passes_at (Place.Service (after_permit (AfterPermit.Reaped r)) v) ≡ None
      by_passes Reaping.First = refl
      by_passes Reaping.Last = refl

      served_by : (r : Reaping) → serves_at (Place.Service (after_permit (AfterPermit.Reaped r)) v) ≡ true
      served_by Reaping.First = refl
      served_by Reaping.Last = refl

      own_as : (u : Worker) (y : Place) (x : Driving Reply Reply) → SameButRing (driver_of u) x → own_with u y u.names.ended.items u.names.untold.items x ≡ own_with u y u.names.ended.items u.names.untold.items (driver_of u)
      own_as u y x like = rw (like.lists, like.requests) refl
