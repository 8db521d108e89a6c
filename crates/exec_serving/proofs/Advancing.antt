-- The advance of the wheel in a service.
use Rattle.std.proofs.{Common.{◌≡◌, ℕ, ◌-◌, ◌/◌, ◌<◌, ◌≤◌, Bool, true, false, List, [], ◌∷◌, ◌++◌, Option, Some, None, refl, sym, ap, subst, ◌∙◌, arith, nat_le, nat_lt, if◌then◌else◌, is_some, slice_get}, lemmas.{Bool.{false≢true, Decides.nat_tests}}}
use Rattle.exec_base.specs.{Slab.Slab, declared.slab.Id.Id}
use Rattle.exec_time.specs.{Wheel.{Wheel, tick_at, least_active}, Turning.{advanced, turned, turned_out}}
use Rattle.exec_waiters.specs.{States.{waiter_at, tick_in}, declared.{waiter.{Entry.Entry, Waiter.Waiter}, waiter_id.WaiterId.WaiterId}}
use Rattle.exec_driver.specs.{Driving.Driving, Punctual.IsPunctual, Steps.{all_due, fallen_due, advanced_to}}
use Rattle.exec_lists.specs.Lists.{Lists, is_among, with_due}
use Rattle.exec_task.specs.declared.body.Said.{Said}
use Rattle.exec_machine.specs.declared.{config.Configuration.Configuration, event.Event.{Event, TheVariants.Serve}}
use Rattle.exec_moves.specs.declared.place.{Service.Service, Place.Place, InService.InService}
use Rattle.exec_parts.specs.{declared.parts.{mail.Reply.Reply, record.Record.Record, shared.Shared.Shared, worker.Worker.Worker}, Phased.closes_at, Records.number_in, Spots.Spot, View.{visible, own_of, desk_of, driver_of, seat_seen, things_with}}
use Rattle.exec_invariants.{specs.{Due.IsWheelAt, Flown.operations, Ordered.{IsOrdered, went_round}, Places.{is_armed_at, is_published_at, passes_at, searches_at}, Sound.{HasBatch, SoundAt}, Names.IsAlike, Works.Steps}, proofs.{ServingHolds.{IsServed, Serves, Keeps, KeepsBy}, Serving.{SparesRecords, at_large, balances_still, spares_same}, ServingPlaces.{calm, is_calm}, Flown.landed_as, Going.{all_still, rooted_on}, Seeing.{makes, own_with, desk_with, visible_with, served, common_same, things_kept}}}
use Rattle.exec_serving.proofs.Draining.{advance_ordered, ahead_of, round_so}

-- THE WHEEL

-- Of a wheel that goes on the layout stays, and it stands at the tick of the moment, unless that is behind.
pub record Advances (w w' : Wheel) (now : ℕ) : Type 0 where
  pub start : w'.start ≡ w.start
  pub tick : w'.tick ≡ w.tick
  pub horizon : w'.horizon ≡ w.horizon
  pub slots : w'.slots ≡ w.slots
  pub current : w.current ≤ tick_at w now → w'.current ≡ tick_at w now

turned_by : (w : Wheel) (now : ℕ) (b : Bool) → Advances w (if b then (record { wheel = record w { current = tick_at w now }; answer = None }) else turned_out w (tick_at w now)).wheel now
turned_by w now true = record { start = refl; tick = refl; horizon = refl; slots = refl; current = λ h. refl }
turned_by w now false = record { start = refl; tick = refl; horizon = refl; slots = refl; current = λ h. refl }

turned_keeps : (w : Wheel) (now : ℕ) (least : Option ℕ) → Advances w (turned w (tick_at w now) least).wheel now
turned_keeps w now None = record { start = refl; tick = refl; horizon = refl; slots = refl; current = λ h. refl }
turned_keeps w now (Some least) = turned_by w now (nat_lt (tick_at w now) least)

same_tick : (a b : ℕ) → nat_le a b ≡ true → b ≤ a → b ≡ a
same_tick a b is h = grind (arith, nat_tests)

advanced_by : (w : Wheel) (now : ℕ) (b : Bool) → nat_le (tick_at w now) w.current ≡ b → Advances w (if b then (record { wheel = w; answer = None }) else turned w (tick_at w now) (least_active w)).wheel now
advanced_by w now true is = record { start = refl; tick = refl; horizon = refl; slots = refl; current = same_tick (tick_at w now) w.current is }
advanced_by w now false is = turned_keeps w now (least_active w)

pub advances : (w : Wheel) (now : ℕ) → Advances w (advanced w now).wheel now
unfolding advanced
advances w now = advanced_by w now (nat_le (tick_at w now) w.current) refl

-- it goes on from a moment to a later one
later_tick : (start tick before now : ℕ) → 0 < tick → before ≤ now → (before - start) / tick ≤ (now - start) / tick
later_tick = grind arith

pub wheel_advances : (c : Configuration) (start before now : ℕ) (w : Wheel) → 0 < c.tick → before ≤ now → IsWheelAt c start before w → IsWheelAt c start now (advanced w now).wheel
wheel_advances = grind (arith, advances, later_tick)

-- THE LISTS: only of what is due there is more

due_more : (id : WaiterId) (b : Bool) (l : Lists) → (if b then l else record l { due = l.due ++ id ∷ [] }) ≡ record l { due = (if b then l else record l { due = l.due ++ id ∷ [] }).due }
due_more id true l = refl
due_more id false l = refl

falls_by : (id : WaiterId) (b : Bool) (l : Lists) → (if b then with_due id l else l) ≡ record l { due = (if b then with_due id l else l).due }
falls_by id true l = due_more id (is_among id l.due) l
falls_by id false l = refl

module _ {S F : Type 0} where
  falls : (id : WaiterId) (o : Option (Waiter S F)) (l : Lists) → fallen_due id o l ≡ record l { due = (fallen_due id o l).due }
  falls id None l = refl
  falls id (Some w) l = falls_by id (is_some (tick_in w.state)) l

  pub all_fall : (s : Slab (Entry S F)) (ids : List Id) (l : Lists) → all_due s ids l ≡ record l { due = (all_due s ids l).due }
  all_fall s [] l = refl
  all_fall s (id ∷ ids) l =
      let l1 = fallen_due (record { 0 = id }) (waiter_at s id) l in
      all_fall s ids l1 ∙ ap (λ (x : Lists). record x { due = (all_due s ids l1).due }) (falls (record { 0 = id }) (waiter_at s id) l)

  -- the driver after the advance
  abbrev pub with_wheel : Driving S F → Wheel → List WaiterId → Driving S F
  with_wheel d w ids = record d { wheel = w; lists = record d.lists { due = ids } }

  pub advanced_shows : (d : Driving S F) (now : ℕ) → (w : Wheel) × (ids : List WaiterId) × (advanced_to d now ≡ with_wheel d (record w { ready = [] }) ids) × (w ≡ (advanced d.wheel now).wheel) × (ids ≡ (all_due d.requests (advanced d.wheel now).wheel.ready d.lists).due)
  advanced_shows = grind (arith, all_fall)

-- A STEP

module _ {B L : Type 0} (left : B → L) (spot : L → Option Said → Spot) where
  pub advanced_on : (v : Service) (w w' : Worker) (s : Shared B) (e : Event) → SoundAt (Place.Service InService.AdvanceWheel v) w s → e ≡ Serve → driver_of w' ≡ advanced_to (driver_of w) w.moments.sampled → IsPunctual (driver_of w')
      → w' ≡ record w { place = Place.Service (InService.Submit 0) v; home = record w.home { driver = w'.home.driver } } → Steps left spot w s e w' s
  advanced_on v w w' s e sound event driver punctual same =
      let q : Place = Place.Service InService.AdvanceWheel v in
      let there : w'.place ≡ Place.Service (InService.Submit 0) v = ap (λ x. x.place) same in
      let now = w.moments.sampled in
      let shape = advanced_shows (driver_of w) now in
      let wheel : Wheel = record shape.0 { ready = [] } in
      let d : Driving Reply Reply = with_wheel (driver_of w) wheel shape.1 in
      let is : driver_of w' ≡ d = driver ∙ shape.2 in
      let on : Advances (driver_of w).wheel shape.0 now = subst (λ x. Advances (driver_of w).wheel x now) (sym shape.3) (advances (driver_of w).wheel now) in
      let serves : Serves q w w' s s = record { worker = subst (IsServed w) (sym same) refl; shared = refl; from = refl; to = ap is_calm there; armed = ap is_armed_at there; closes = ap closes_at there; searches = ap searches_at there; published = ap is_published_at there; batch = λ h. subst (λ x. HasBatch x w.batch.values) (sym there) h } in
      let seen : visible w' ≡ visible w = ap visible same ∙ ap (λ (x : Driving Reply Reply). visible_with w.names.requests.items (visible w).taken x.ring) is in
      let due = sound.due in
      let w1 : Worker = record w { place = Place.Service (InService.Submit 0) v } in
      let wheel_at : IsWheelAt s.config w.moments.start now wheel =
      let at = subst (λ x. IsWheelAt s.config w.moments.start now x) (sym shape.3) (wheel_advances s.config w.moments.start w.moments.before now (driver_of w).wheel sound.config.some_tick sound.time.ordered due.wheel) in
      record { start = at.start; tick = at.tick; horizon = at.horizon; slots = at.slots; current = at.current } in
      let none : (driver_of w).lists.due ≡ [] = due.told refl in
      let order : IsOrdered (went_round s.config w.moments) w.names.requests.items d.requests wheel d.lists.enrolments d.lists.due =
      subst (λ x. IsOrdered (went_round s.config w.moments) w.names.requests.items d.requests (record x { ready = [] }) d.lists.enrolments shape.1) (sym shape.3)
      (subst (λ ids. IsOrdered (went_round s.config w.moments) w.names.requests.items d.requests (record (advanced (driver_of w).wheel now).wheel { ready = [] }) d.lists.enrolments ids) (sym shape.4)
      (advance_ordered (went_round s.config w.moments) w.names.requests.items d.requests (driver_of w).wheel d.lists.enrolments
      (subst (IsOrdered (went_round s.config w.moments) w.names.requests.items d.requests (driver_of w).wheel d.lists.enrolments) none due.order)
      now (driver_of w).lists none (ahead_of (driver_of w) due.punctual none) (round_so s.config w.moments (driver_of w).wheel due.wheel))) in
      let alike : (id : Id) (it : Waiter Reply Reply) (r : Record) → waiter_at d.requests id ≡ Some it → slice_get s.requests.items (number_in w.names.requests.items id) ≡ Some r → IsAlike d.wheel.start d.wheel.tick it r.shown = λ id it r at found.
      subst (λ t. IsAlike t wheel.tick it r.shown) (sym on.start) (subst (λ t. IsAlike (driver_of w).wheel.start t it r.shown) (sym on.tick) (sound.named.alike id it r at found)) in
      let quiet : true ≡ false → w.home.deferred.notes.wakes.items ≡ [] = λ h. absurd (false≢true (sym h)) in
      let told : true ≡ false → d.lists.due ≡ [] = λ h. absurd (false≢true (sym h)) in
      let rooted = rooted_on s.requests.items s.requests.items (all_still s.requests.items) w.index w.names w.names (driver_of w) d w.home.timers w.home.deferred s.sleepers.items sound.rooted refl refl (λ id h. h) (λ id o h. h) (λ id it h. (it, h, refl)) in
      let landed = landed_as w.names (driver_of w) d s.requests.items (operations (driver_of w).ring) refl sound.flown.landed in
      let by : KeepsBy w1 d w.home.timers s.requests.items s.sleepers.items s = assumption (alike, quiet, subst IsPunctual is punctual, told, wheel_at, order, landed, rooted, (calm q refl).lets_in (driver_of w).requests w.home.timers sound.lets_go, sound) in
      let home : Worker = record w1 { home = record w.home { driver = w'.home.driver } } in
      let keeps : Keeps w' s =
      subst (λ x. KeepsBy x (driver_of x) x.home.timers s.requests.items s.sleepers.items s) (sym same)
      (subst (λ x. KeepsBy home x w.home.timers s.requests.items s.sleepers.items s) (sym is) (assumption by)) in
      let spares : SparesRecords w.index s s = spares_same w.index s s sound.gates refl refl refl in
      let left_same : w'.home.deferred.notes.wakes.items ≡ w.home.deferred.notes.wakes.items = ap (λ (x : Worker). x.home.deferred.notes.wakes.items) same in
      subst (λ x. Steps left spot w s x w' s) (sym event)
      (served left spot q w w' s s Serve sound serves keeps spares (balances_still q w w' s s sound.here serves spares (ap passes_at there) left_same refl refl)
      (λ p vs suits. record {
        moves = ap (λ x. makes Serve x (things_with vs s)) (sym (ap desk_of same ∙ ap (desk_with w (Place.Service (InService.Submit 0) v) w.put_off w.home.deferred) is))
            ∙ ap (makes Serve (desk_of w')) (sym (things_kept vs w.index (visible w) (visible w') s s suits.seen (ap (λ y. y.wakes) seen) refl spares));
        may = (at_large q w s sound refl, tt);
        own = ap own_of same ∙ ap (own_with w (Place.Service (InService.Submit 0) v) w.names.ended.items w.names.untold.items) is;
        common = common_same left spot p vs w w' s suits (λ c. ap (λ y. seat_seen y c) seen);
      }))
