-- What a worker heeds in a service.
use Rattle.std.{proofs.{Common.{◌≡◌, ℕ, Bool, true, false, List, ◌∷◌, Option, Some, None, refl, sym, inl, inr, if◌then◌else◌, [], arith}, lemmas.Bool.false≢true}, specs.Prelude.◌⊎◌}
use Rattle.exec_outcomes.specs.declared.outcome.Outcome.{Outcome}
use Rattle.exec_machine.specs.{declared.{config.Configuration.Configuration, event.Event.{Event, TheVariants.{Busy, Cancel, Enter, Fire, Rouse, Serve, Sleep, Stage}}}, Choice.Choice.Plain, Tests.is_awake, World.{Common, Own as Books, seat_of}}
use Rattle.exec_moves.specs.{declared.place.{AfterPermit.AfterPermit, InService.{InService, InService as step}, Place.{Place, Place as at}, Reaping.Reaping, Service.Service}, Claim.raised_if, Move.{move_service, move_submit}, Serve.{after_permit, end_service, enter_last, first_to_fire, reap, sample, signal, unlatched}, State.{Desk, Moved, Things, WakePoll, dropped, gate_of, taken_in, word_of, wake_poll_of}, Submit.{Due, Due.{AtGate, Cancels, Ends, Enrols, Expires, Flushes, Stages}, after_grant, due_next, granted_at, stage_next, try_gate}, Thing.{aside, ring_of, set_gate, set_wake_poll, with_gate, with_ring, with_word}}
use Rattle.exec_rest.{specs.Places.raises, proofs.{Heeds.{Heeds, landed_after}, Plain.is_mute, Sides.{Keeps, at_place, awake, is_tame, itself, mute_tame, mute_unreaped, keeps, near_rings, no_idles, no_words, of_all, some_none, still_rings}, Stays.{own_rings, own_words}, Claims.{latched_words, raised_rings}, Continuing.{Nearly, calm_after_service, near_calm, near_desk_if}, Polled.{keeps_dropped, keeps_dropped_all, keeps_taken}}}

module _ (R : Type 0) (c : Configuration) (i : ℕ) (me : Books) (s : Common) (d : Desk) (x : Things) (v : Service) where
  abbrev inside : InService → Place
  inside p = at.Service p v

  abbrev on : InService → Desk
  on p = record d { place = inside p }

  abbrev polled : WakePoll
  polled = wake_poll_of x i

  abbrev landed : List ℕ
  landed = (seat_of s i).landed

  abbrev did : Event → Desk → Things → Moved Things
  did e f y = record { event = e; choice = Plain; desk = f; thing = y }

  -- a step that changes no word, no poll and no bit
  serves_on : (p : InService) (e : Event) (f : Desk) (y : Things) → raises (inside p) ≡ None → Nearly s i f.place → is_mute e ≡ true
      → y.words ≡ x.words → y.wake_polls ≡ x.wake_polls → y.queues ≡ x.queues → y.idle ≡ x.idle → y.global ≡ x.global → Heeds R i s (on p) x (did e f y)
  serves_on = grind arith

  -- a step at the own ring
  at_ring : (p : InService) (e : Event) (f : Desk) (k : WakePoll) → raises (inside p) ≡ None → Nearly s i f.place → Keeps polled k landed (landed_after s i e) → is_tame e ≡ true → ((until : Option ℕ) → e ≡ Sleep until → ⊥)
      → Heeds R i s (on p) x (did e f (set_wake_poll i x k))
  at_ring p e f k no_raise to kept tame awake =
      let m = did e f (set_wake_poll i x k) in
      of_all R i s (on p) x m
      (no_idles R i s (on p) x m (near_calm s i (inside p) refl) to refl refl (λ h. h))
      (no_words R i s (on p) x m to.waits refl (λ j. refl))
      (own_rings R i s (on p) x m k refl no_raise (λ within is. near_rings R i s (on p) x m to (rw is kept)) (λ until h. absurd (awake until h)))
      (itself R i s (on p) x m (λ j. refl) to tame)

  ease : (q : InService) → Nearly s i (inside q)
  ease q = near_calm s i (inside q) refl

  -- the latch goes out of the own wake word
  samples : Heeds R i s (on step.Sample) x (with_word i x (sample v (on step.Sample) (word_of x i)))
  samples =
      let here = on step.Sample in
      let m = with_word i x (sample v here (word_of x i)) in
      let to = near_calm s i m.desk.place refl in
      of_all R i s here x m
      (no_idles R i s here x m (ease step.Sample) to refl refl (λ h. h))
      (own_words R i s here x m (unlatched (word_of x i)) refl (λ within before h. absurd (h refl)) (λ h. absurd (false≢true h)) (λ h gone published. absurd (false≢true published)) refl)
      (still_rings R i s here x m to refl (λ j. refl) refl (awake Serve refl))
      (itself R i s here x m (λ j. refl) to refl)

  -- what has landed first is judged
  reaps : (r : Reaping) (l : List ℕ) → landed ≡ l → Heeds R i s (on (step.Reap r)) x (with_ring i x (reap i v r s (on (step.Reap r)) (record (ring_of s x i) { landed = l })))
  reaps r [] is = at_ring (step.Reap r) Serve _ (dropped [] polled) refl (near_calm s i _ refl) (keeps_dropped_all polled landed) refl (awake Serve refl)
  reaps r (q ∷ later) is = at_ring (step.Reap r) _ _ (dropped later polled) refl (near_calm s i _ refl) (rw is (keeps_dropped polled q later)) refl (λ until h. cc)

  signals : (j : ℕ) (b : AfterPermit) → Heeds R i s (on (step.Signal j b)) x (with_word j x (signal j v b (on (step.Signal j b)) (word_of x j)))
  signals j b =
      let here = on (step.Signal j b) in
      let m = with_word j x (signal j v b here (word_of x j)) in
      let to = near_calm s i m.desk.place refl in
      of_all R i s here x m
      (no_idles R i s here x m (ease (step.Signal j b)) to refl refl (λ h. h))
      (latched_words R i s here x m j (λ k. refl) refl (λ asks. rw asks refl) (λ k h. absurd (some_none (sym h))))
      (still_rings R i s here x m to refl (λ k. refl) refl (awake Serve refl))
      (itself R i s here x m (λ k. refl) to refl)

  raises_by : (ring : Bool) (j : ℕ) (b : AfterPermit) (e : Event) → (is_awake (seat_of s j).rest ≡ true) ⊎ (e ≡ Rouse j) → is_mute e ≡ true
      → Heeds R i s (on (step.Raise ring j b)) x (did e (on (after_permit b)) (set_wake_poll j x (raised_if ring (wake_poll_of x j))))
  raises_by ring j b e roused mute =
      let here = on (step.Raise ring j b) in
      let m = did e (on (after_permit b)) (set_wake_poll j x (raised_if ring (wake_poll_of x j))) in
      let to = ease (after_permit b) in
      of_all R i s here x m
      (no_idles R i s here x m (ease (step.Raise ring j b)) to refl refl (λ h. h))
      (no_words R i s here x m to.waits refl (λ k. refl))
      (raised_rings R i s here x m j ring (λ k. refl) (λ k. refl) to refl roused (mute_unreaped e mute) (awake e mute))
      (itself R i s here x m (λ k. refl) to (mute_tame e mute))

  raises_one : (ring : Bool) (j : ℕ) (b : AfterPermit) (awake : Bool) → is_awake (seat_of s j).rest ≡ awake
      → Heeds R i s (on (step.Raise ring j b)) x (did (if awake then Serve else Rouse j) (on (after_permit b)) (set_wake_poll j x (raised_if ring (wake_poll_of x j))))
  raises_one ring j b true is = raises_by ring j b Serve (inl is) refl
  raises_one ring j b false is = raises_by ring j b (Rouse j) (inr refl) refl

  -- THE MIDDLE

  near_grant : (file : ℕ) (o : Option Outcome) (e : Desk) → Nearly s i (after_grant v file o e).place
  near_grant file None e = near_calm s i _ refl
  near_grant file (Some outcome) e = near_calm s i _ refl

  tries : (gate file : ℕ) (o : Option ℕ) → granted_at i (gate_of x file) s ≡ o → Heeds R i s (on (step.Submit gate)) x (with_gate file x (try_gate i v file s (on (step.Submit gate)) (gate_of x file)))
  tries gate file None none = rw none (serves_on (step.Submit gate) Serve _ (set_gate file x (gate_of x file)) refl (near_calm s i _ refl) refl refl refl refl refl refl)
  tries gate file (Some r) some = rw some (serves_on (step.Submit gate) _ _ (set_gate file x (gate_of x file)) refl (near_grant file _ _) refl refl refl refl refl refl)

  flushes : (gate : ℕ) (busy : Bool) → Heeds R i s (on (step.Submit gate)) x (with_ring i x (stage_next c i v gate me s (on (step.Submit gate)) (record (ring_of s x i) { busy = busy }) Flushes))
  flushes gate true = at_ring (step.Submit gate) Busy _ polled refl (near_calm s i _ refl) (keeps polled landed) refl (awake Busy refl)
  flushes gate false = at_ring (step.Submit gate) Enter _ (taken_in d.polled polled) refl (near_calm s i _ refl) (keeps_taken d.polled polled landed) refl (awake Enter refl)

  submits_due : (gate : ℕ) (due : Due) → Heeds R i s (on (step.Submit gate)) x (move_submit c i me s (on (step.Submit gate)) x gate v due)
  submits_due gate (Expires r) = serves_on (step.Submit gate) _ _ x refl (near_calm s i _ refl) refl refl refl refl refl refl
  submits_due gate (Enrols r) = serves_on (step.Submit gate) _ _ x refl (near_calm s i _ refl) refl refl refl refl refl refl
  submits_due gate (AtGate file) = tries gate file (granted_at i (gate_of x file) s) refl
  submits_due gate Flushes = flushes gate (seat_of s i).busy
  submits_due gate (Cancels r) = at_ring (step.Submit gate) (Cancel r) _ polled refl (near_calm s i _ refl) (keeps polled landed) refl (awake (Cancel r) refl)
  submits_due gate (Stages r) = at_ring (step.Submit gate) (Stage r) _ polled refl (near_calm s i _ refl) (keeps polled landed) refl (awake (Stage r) refl)
  submits_due gate Ends = at_ring (step.Submit gate) Serve _ polled refl (near_calm s i _ refl) (keeps polled landed) refl (awake Serve refl)

  -- THE END

  enters : (busy : Bool) → Heeds R i s (on step.EnterLast) x (with_ring i x (enter_last v me (on step.EnterLast) (record (ring_of s x i) { busy = busy })))
  enters true = at_ring step.EnterLast Busy _ polled refl (near_calm s i _ refl) (keeps polled landed) refl (awake Busy refl)
  enters false = at_ring step.EnterLast Enter _ (taken_in d.polled polled) refl (near_calm s i _ refl) (keeps_taken d.polled polled landed) refl (awake Enter refl)

  ends : (o : Option ℕ) → first_to_fire i me s (on step.EndService) ≡ o → Heeds R i s (on step.EndService) x (aside x (end_service i v me s (on step.EndService)))
  ends None none = rw none (serves_on step.EndService Serve _ x refl (near_calm s i _ (calm_after_service v.back (on step.EndService))) refl refl refl refl refl refl)
  ends (Some z) some = rw some (serves_on step.EndService (Fire z) _ x refl (near_desk_if s i _ _ _ (ease step.EndService) (ease step.EndService)) refl refl refl refl refl refl)

  in_service : (p : InService) → Heeds R i s (on p) x (move_service c i me s (on p) x p v)
  in_service step.Sample = samples
  in_service (step.Reap r) = reaps r landed refl
  in_service (step.PassPermit file b) = serves_on (step.PassPermit file b) Serve _ _ refl (near_calm s i _ refl) refl refl refl refl refl refl
  in_service (step.Signal j b) = signals j b
  in_service (step.Raise ring j b) = raises_one ring j b (is_awake (seat_of s j).rest) refl
  in_service step.AdvanceWheel = serves_on step.AdvanceWheel Serve _ x refl (near_calm s i _ refl) refl refl refl refl refl refl
  in_service (step.Submit gate) = submits_due gate (due_next c i gate me s (on (step.Submit gate)))
  in_service step.EnterLast = enters (seat_of s i).busy
  in_service step.EndService = ends (first_to_fire i me s (on step.EndService)) refl

module _ (R : Type 0) (c : Configuration) (i : ℕ) (me : Books) (s : Common) (d : Desk) (x : Things) where
  pub service : (p : InService) (v : Service) → d.place ≡ at.Service p v → Heeds R i s d x (move_service c i me s d x p v)
  service p v is = at_place R i s d x (λ e. move_service c i me s e x p v) (at.Service p v) is (in_service R c i me s d x v p)
