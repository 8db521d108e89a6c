-- What the enter of a wait on the ring is to the machine: the worker sleeps next where no completion is there.
use Rattle.std.proofs.Common.{◌≡◌, ℕ, ◌+◌, ◌&&◌, ◌||◌, Bool, false, not, length, map, filter, Option, refl, sym, ap, subst, ◌∙◌, nat_lt, if◌then◌else◌, arith}
use Rattle.exec_ring.specs.{Kernels.{is_quiet, all_taken}, Rings.{RingState, completions}}
use Rattle.exec_driver.specs.Steps.{is_control}
use Rattle.exec_task.specs.declared.body.Said.{Said}
use Rattle.exec_machine.specs.{declared.event.Event.{Event, TheVariants.{Enter, Busy}}, Tests.is_empty, World.Own}
use Rattle.exec_moves.specs.{declared.{idling.{Stay.Stay, AfterWait.AfterWait, InRingWait.InRingWait}, place.Place.Place}, Serve.{Ring, enter, entered as desk_entered}, State.{Desk, Things, taken_in as poll_taken}, Thing.with_ring, Wait.{enter_ring, has_completion}}
use Rattle.exec_parts.specs.{declared.parts.{shared.Shared.Shared, worker.Worker.Worker}, Serving.EntersRing, Spots.Spot, Tests.after_enter_of, View.{visible, driver_of, own_of, desk_of, number_told, things_with, trailing}}
use Rattle.exec_invariants.{specs.{Raises.Enters, Places.passes_at, Sound.SoundAt, Works.Steps}, proofs.{Raising.sound_taken, ServingHolds.Follows, Swept.some_grouped, WokenEntered.{all_acknowledged, enter_shown}}}
use Rattle.exec_serving.proofs.Entered.{entered, led_to, ring_seen, without_putting_off, with_put_off}

-- where the worker is after the enter, where the kernel was busy or not, and some completion is there or none
abbrev parked : Bool → Bool → Stay → Place
parked busy some y = Place.RingWait (if not busy && not some then InRingWait.SleepOnRing else InRingWait.DisarmRing AfterWait.Begin) y

parked_is : (busy quiet : Bool) (y : Stay) → after_enter_of (if busy then Busy else Enter) quiet y ≡ parked busy (not quiet) y
parked_is = grind arith

-- what is there once the kernel took all in
abbrev taken_ring : Desk → Ring → Ring
taken_ring d r = record r { wakes = poll_taken d.polled r.wakes }

enter_by : (some : Bool) (y : Stay) (me : Own) (d : Desk) (i : ℕ) (x : Things) (r : Ring) → (r.busy ≡ false → has_completion (desk_entered (length me.untold) d) (taken_ring d r) ≡ some)
    → with_ring i x (enter_ring y me d r) ≡ with_ring i x (led_to (parked r.busy some y) (record { defer = d.may_put_off; «enter» = d.put_off }) (enter me d r))
enter_by = grind arith

follows_by : (b : Bool) (y : Stay) → Follows (Place.RingWait InRingWait.EnterRing y) (Place.RingWait (if b then InRingWait.SleepOnRing else InRingWait.DisarmRing AfterWait.Begin) y)
follows_by = grind arith

module _ {B : Type 0} where
  -- a completion is there then just where the ring isn't quiet
  found : (q : Place) (w w' : Worker) (s s' : Shared B) (e : Event) → SoundAt q w s → EntersRing w s e w' s' → (driver_of w).ring.busy ≡ false
      → has_completion (desk_entered (length w.names.untold.items) (desk_of w)) (taken_ring (desk_of w) (ring_seen w)) ≡ not (is_quiet (driver_of w').ring)
  found q w w' s s' e sound it free =
      let f = number_told w.names.requests.items in
      let sub = sound.named.submitted in
      let r = (driver_of w).ring in
      let polled = sound.flown.polled in
      let acks = all_acknowledged r (driver_of w).armed polled sub.tagged in
      let told = ap (λ p. p.told) (enter_shown r (driver_of w).armed polled sub.tagged) in
      let ring : (driver_of w').ring ≡ all_taken r = ap (λ d. d.ring) it.driver ∙ ap (λ b. if b then (record r { busy = false }) else all_taken r) free in
      let p = poll_taken (driver_of w).armed (visible w).wakes in
      ap (λ cs. (not (is_empty (map f cs)) || nat_lt 0 (trailing 0 (completions r) + (length w.names.untold.items))) || p.told) (sym acks.landed)
      ∙ ap (λ m. (not (is_empty (map f (filter (λ c. not (is_control c)) (completions (all_taken r))))) || nat_lt 0 m) || p.told) (ap (λ m. trailing 0 (completions r) + m) (sym sub.cancels) ∙ sym acks.others)
      ∙ ap (λ b. (not (is_empty (map f (filter (λ c. not (is_control c)) (completions (all_taken r))))) || nat_lt 0 (trailing 0 (completions (all_taken r)))) || b) (sym told)
      ∙ some_grouped f (all_taken r)
      ∙ ap (λ x. not (is_quiet x)) (sym ring)

module _ {B L : Type 0} (left : B → L) (spot : L → Option Said → Spot) where
  pub ring_entered : (y : Stay) (w w' : Worker) (s s' : Shared B) (e : Event) → SoundAt (Place.RingWait InRingWait.EnterRing y) w s → (it : Enters w s e (record w' { place = w.place }) s')
      → w'.place ≡ after_enter_of e (is_quiet (driver_of w').ring) y → Steps left spot w s e w' s'
  ring_entered y w w' s s' e sound it leads =
      entered left spot q w w' s s' e sound (subst (λ p. Follows q p) (sym there) (follows_by (not r.busy && not some) y)) (λ h. sound.due.told refl) (ap passes_at there) (with_put_off left spot w w' s s' e it same)
      (λ p vs suits ring.
      ap (λ z. with_ring it.mid.index (things_with vs it.rested) (enter_ring y (own_of it.mid) (desk_of it.mid) z)) ring
      ∙ enter_by some y (own_of it.mid) (desk_of it.mid) it.mid.index (things_with vs it.rested) (ring_seen it.mid) (found q it.mid (record w' { place = w.place }) it.rested s' e (sound_taken q w it.mid s it.rested sound it.takes) it.enters)
      ∙ ap (λ o. with_ring it.mid.index (things_with vs it.rested) (led_to (parked r.busy some y) o (enter (own_of it.mid) (desk_of it.mid) (ring_seen it.mid)))) (sym (ap (λ x. x.put_off) it.enters.worker))
      ∙ ap (λ z. with_ring it.mid.index (things_with vs it.rested) (led_to z w'.put_off (enter (own_of it.mid) (desk_of it.mid) (ring_seen it.mid)))) (sym there))
    where
      q : Place
      q = Place.RingWait InRingWait.EnterRing y

      r : RingState
      r = (driver_of it.mid).ring

      some : Bool
      some = not (is_quiet (driver_of w').ring)

      same : w'.put_off ≡ w.put_off
      same = without_putting_off left spot w w' s s' e it

      there : w'.place ≡ parked r.busy some y
      there = leads ∙ ap (λ x. after_enter_of x (is_quiet (driver_of w').ring) y) it.enters.event ∙ parked_is r.busy (is_quiet (driver_of w').ring) y
