-- The sleep of a wait on the ring, once the wakes that wait at the seat are in it: none where a completion is there.
use Rattle.std.proofs.{Common.{arith, ◌≡◌, ℕ, Bool, true, false, not, Option, Some, refl, sym, ap, subst, ◌∙◌, slice_get, if◌then◌else◌}, lemmas.List.set-get_or}
use Rattle.exec_ring.specs.Kernels.{is_quiet}
use Rattle.exec_task.specs.declared.body.Said.{Said}
use Rattle.exec_machine.specs.{declared.event.Event.{Event, TheVariants.{Turn, Sleep}}, Deadlines.next_due}
use Rattle.exec_moves.specs.{declared.{idling.{Stay.Stay, AfterWait.AfterWait, InRingWait.InRingWait}, place.Place.Place}, Load.has_come, Serve.Ring, State.{Desk, Things, does, no_wake_poll}, Thing.{set_wake_poll, with_ring}, Wait.{has_completion, sleep, sleep_on_ring}}
use Rattle.exec_parts.specs.{declared.parts.{shared.Shared.Shared, worker.Worker.Worker}, Spots.Spot, View.{Views, visible, driver_of, desk_of, common_of, number_told, things_with}}
use Rattle.exec_invariants.{specs.{Raises.TakesRaises, Kinds.kind_of, Sound.SoundAt, Works.Steps}, proofs.{Raising.{none_waits, poll_shown, raised_first, sound_taken}, Swept.some_grouped}}
use Rattle.exec_serving.{specs.Waits.Sleeps, proofs.{Entered.{ring_seen, ring_there}, Slumber.{awake, sleeping, slept_by}}}

-- a completion is there just where the ring isn't quiet
some_seen : (w : Worker) → has_completion (desk_of w) (ring_seen w) ≡ not (is_quiet (driver_of w).ring)
some_seen w = some_grouped (number_told w.names.requests.items) (driver_of w).ring

slept_as : (b : Bool) (i : ℕ) (until : Option ℕ) (d : Desk) (x : Things) (r : Ring) → with_ring i x (if b then does Turn d r else does (Sleep until) d r) ≡ sleeping b until d d (set_wake_poll i x r.wakes)
slept_as true i until d x r = refl
slept_as false i until d x r = refl

module _ {B : Type 0} (vs : Views) (w : Worker) (s : Shared B) (q : Place) (sound : SoundAt q w s) (waits : sound.seated.seat.raised ≡ 0) where
  -- the wake poll goes back as it was
  poll_back : slice_get vs.workers w.index ≡ Some (visible w) → set_wake_poll w.index (things_with vs s) (ring_seen w).wakes ≡ things_with vs s
  poll_back seen = grind (arith, poll_shown vs w.index s sound.seated.seat sound.seated.there waits (visible w) seen, set-get_or (things_with vs s).wake_polls w.index no_wake_poll)

same_kind : (y : Stay) → kind_of (Place.RingWait (InRingWait.DisarmRing AfterWait.Begin) y) ≡ kind_of (Place.RingWait InRingWait.SleepOnRing y)
same_kind Stay.Turn = refl
same_kind Stay.Closing = refl

module _ {B L : Type 0} (left : B → L) (spot : L → Option Said → Spot) (y : Stay) where
  abbrev asleep_on : Place
  asleep_on = Place.RingWait InRingWait.SleepOnRing y

  abbrev disarms : Place
  disarms = Place.RingWait (InRingWait.DisarmRing AfterWait.Begin) y

  unslept : (w : Worker) (s : Shared B) → (sound : SoundAt asleep_on w s) → sound.seated.seat.raised ≡ 0 → is_quiet (driver_of w).ring ≡ false → Steps left spot w s Turn (record w { place = disarms }) s
  unslept w s sound waits some =
      awake left spot asleep_on disarms w w.slept s s sound (record { same = same_kind y; queue = sound.queue; aims = λ seats. tt; batch = sound.batch }) sound.time.asleep refl refl refl (sound.letters.none refl) refl refl refl
      (λ p vs suits.
      let cs = common_of left spot p vs s in
      let x = things_with vs s in
      let d : Desk = record (desk_of w) { place = disarms } in
      ap (λ r. with_ring w.index x (sleep_on_ring w.index y cs (record (desk_of w) { place = w.place }) r)) (ring_there left spot asleep_on w s sound waits p vs suits)
      ∙ ap (λ b. with_ring w.index x (if b then does Turn d (ring_seen w) else sleep w.index cs d (ring_seen w))) (some_seen w ∙ ap not some)
      ∙ ap (λ z. does Turn d z) (poll_back vs w s asleep_on sound waits suits.seen))

  slept : (w w' : Worker) (s s' : Shared B) (e : Event) → (sound : SoundAt asleep_on w s) → sound.seated.seat.raised ≡ 0 → is_quiet (driver_of w).ring ≡ true → Sleeps (record w { place = disarms }) s e s' → w' ≡ record w { place = disarms } → Steps left spot w s e w' s'
  slept w w' s s' e sound waits quiet it same =
      slept_by left spot asleep_on disarms w w' s s' e (λ x. w.slept) sound (record { same = same_kind y; queue = sound.queue; aims = λ seats. tt; batch = sound.batch }) refl refl refl refl (sound.letters.none refl) refl (λ x. sound.time.asleep) it same
      (λ p vs suits.
      let cs = common_of left spot p vs s in
      let x = things_with vs s in
      let d : Desk = record (desk_of w) { place = disarms } in
      let due = next_due cs w.index in
      ap (λ r. with_ring w.index x (sleep_on_ring w.index y cs (record (desk_of w) { place = w.place }) r)) (ring_there left spot asleep_on w s sound waits p vs suits)
      ∙ ap (λ b. with_ring w.index x (if b then does Turn d (ring_seen w) else sleep w.index cs d (ring_seen w))) (some_seen w ∙ ap not quiet)
      ∙ slept_as (has_come s.clock due) w.index due d x (ring_seen w)
      ∙ ap (sleeping (has_come s.clock due) due d d) (poll_back vs w s asleep_on sound waits suits.seen))

  -- THE STEP takes the raises in first
  module _ (w w1 : Worker) (s s1 : Shared B) (sound : SoundAt asleep_on w s) (takes : TakesRaises w s (record w1 { place = w.place }) s1) (there : w1.place ≡ disarms) where
    holds : SoundAt asleep_on (record w1 { place = w.place }) s1
    holds = sound_taken asleep_on w (record w1 { place = w.place }) s s1 sound takes

    waits_none : holds.seated.seat.raised ≡ 0
    waits_none = none_waits asleep_on w (record w1 { place = w.place }) s s1 sound takes holds

    back : record w1 { place = disarms } ≡ w1
    back = ap (λ p. record w1 { place = p }) (sym there)

    pub ring_unslept : is_quiet (driver_of w1).ring ≡ false → Steps left spot w s Turn w1 s1
    ring_unslept some =
        raised_first asleep_on w (record w1 { place = w.place }) s s1 sound takes left spot w1 s1 Turn
        (subst (λ v. Steps left spot (record w1 { place = w.place }) s1 Turn v s1) back (unslept (record w1 { place = w.place }) s1 holds waits_none some))

    pub ring_slept : (w' : Worker) (s' : Shared B) (e : Event) → is_quiet (driver_of w1).ring ≡ true → Sleeps w1 s1 e s' → w' ≡ w1 → Steps left spot w s e w' s'
    ring_slept w' s' e quiet it same =
        raised_first asleep_on w (record w1 { place = w.place }) s s1 sound takes left spot w' s' e
        (slept (record w1 { place = w.place }) w' s1 s' e holds waits_none quiet (subst (λ v. Sleeps v s1 e s') (sym back) it) (same ∙ sym back))
