-- What a worker heeds in a wait on its ring.
use Rattle.std.{proofs.{Common.{◌≡◌, ◌≢◌, ℕ, ◌+◌, Bool, true, false, ◌&&◌, ◌||◌, List, length, nat_lt, Option, refl, sym, ap, ◌∙◌, subst, inl, inr, if◌then◌else◌, arith}, lemmas.Bool.{true≢false, false≢true}}, specs.Prelude.not}
use Rattle.exec_words.specs.{Word.is_idle_at, declared.word.PureWord.PureWord}
use Rattle.exec_machine.specs.{declared.{config.Configuration.Configuration, event.Event.{Event, TheVariants.{Busy, Enter, Sleep, Turn}}}, Deadlines.next_due, Ranges.ring_size, Tests.is_empty, World.{Common, Own as Books, seat_of}, Choice.Choice.Plain}
use Rattle.exec_moves.specs.{declared.{idling.{AfterWait.{AfterWait, AfterWait as next}, InRingWait.{InRingWait, InRingWait as ring}, Stay.Stay}, place.Place.{Place, Place as at}}, Callback.{is_full, is_of_pool}, Load.{has_come, has_submissions}, Move.move_ring_wait, Serve.{Ring, entered}, State.{Desk, Moved, Own, Things, WakePoll, does, taken_in, turns, word_of, wake_poll_of}, Submit.with_poll, Thing.{aside, ring_of, set_wake_poll, with_ring, with_word}, Wait.{after_wait, disarmed, enter_full_ring, enter_ring, has_completion, sleep}}
use Rattle.exec_rest.{specs.Places.{is_abed, waits_on}, proofs.{Heeds.{Heeds, Rings}, Sides.{Keeps, at_place, awake, is_tame, is_unreaped, keeps, of_all, unreaped}, Stays.{IsOff, idle_unlatched, off_rings, off_ring, on_ring, own_rings, own_words, ring_off, ring_quiet, ring_withdrawing, same_latch, stay_idles, stay_itself, stay_rings, stay_words}, Polled.{keeps_taken, more_others, polled_by_enter}}}
use Rattle.exec_words.specs.declared.word.WaitTarget.TheVariants as target

waits : target.Ring ≢ target.None
waits h = cc

module _ (R : Type 0) (c : Configuration) (i : ℕ) (me : Books) (s : Common) (d : Desk) (x : Things) (y : Stay) where
  abbrev pool : Bool
  pool = is_of_pool s i

  abbrev on : Place → Desk
  on p = record d { place = p }

  abbrev w : PureWord
  w = word_of x i

  abbrev v : WakePoll
  v = wake_poll_of x i

  abbrev landed : List ℕ
  landed = (seat_of s i).landed

  abbrev inside : InRingWait → Place
  inside p = at.RingWait p y

  abbrev Before : InRingWait → Type 0
  Before p = Rings R (on (inside p)) (ring_of s x i) w.latch

  -- at the ring, with this wake poll then
  ringed : (p q : InRingWait) (e : Event) (f : Desk) (k : WakePoll)
      → (waits_on (inside q) ≢ target.None → (waits_on (inside p) ≢ target.None) × (waits_on (inside p) ≡ waits_on (inside q)))
      → (wake_poll_of (set_wake_poll i x k) i ≡ k → Before p → Rings R (record f { place = inside q }) (record { busy = false; landed = landed; wakes = wake_poll_of (set_wake_poll i x k) i }) w.latch)
      → is_tame e ≡ true → is_unreaped e ≡ true
      → ((until : Option ℕ) → e ≡ Sleep until → (is_abed (inside q) ≡ true) × (Before p → w.latch ≡ true → R))
      → Heeds R i s (on (inside p)) x (record { event = e; choice = Plain; desk = record f { place = inside q }; thing = set_wake_poll i x k })
  ringed p q e f k waits rings tame reaps_not sleep =
      let here = on (inside p) in
      let m : Moved Things = record { event = e; choice = Plain; desk = record f { place = inside q }; thing = set_wake_poll i x k } in
      of_all R i s here x m
      (stay_idles R i s here x m (on_ring pool p q y) refl refl refl)
      (stay_words R i s here x m refl waits refl)
      (own_rings R i s here x m k refl refl (λ within is before. rw (unreaped s i e reaps_not) (rings is before)) sleep)
      (stay_itself R i s here x m (on_ring pool p q y) (λ j. refl) tame)

  -- at the ring or not, to another place but the last look: nothing is lost of the wake poll
  passes : (p q : InRingWait) (e : Event) (f : Desk) (k : WakePoll)
      → (waits_on (inside q) ≢ target.None → (waits_on (inside p) ≢ target.None) × (waits_on (inside p) ≡ waits_on (inside q)))
      → IsOff (inside q) → Keeps v k landed landed → is_tame e ≡ true → is_unreaped e ≡ true
      → ((until : Option ℕ) → e ≡ Sleep until → (is_abed (inside q) ≡ true) × (Before p → w.latch ≡ true → R))
      → Heeds R i s (on (inside p)) x (record { event = e; choice = Plain; desk = record f { place = inside q }; thing = set_wake_poll i x k })
  passes p q e f k waits off kept tame reaps_not sleep =
      ringed p q e f k waits
      (λ is before. record {
        entering = λ h. absurd (false≢true (sym off.to_enter ∙ h));
        sleeping = λ h. absurd (false≢true (sym off.to_sleep ∙ h));
        asked = λ h. absurd (false≢true (sym off.asked ∙ h));
        polled = λ h. absurd (false≢true (sym off.to_sleep ∙ h));
        kept = rw is (kept.kept before.kept);
        ended = rw is (kept.ended before.ended);
      })
      tame reaps_not sleep

  -- the enter of a full submission queue
  enters_full : (busy : Bool) → (let here = on (inside ring.EnterFullRing) in Heeds R i s here x (with_ring i x (enter_full_ring y me here (record (ring_of s x i) { busy = busy }))))
  enters_full true = passes ring.EnterFullRing ring.TestRing Busy (on (inside ring.TestRing)) v (λ h. absurd (h refl)) (record { to_enter = refl; to_sleep = refl; asked = refl }) (keeps v landed) refl refl (awake Busy refl)
  enters_full false = passes ring.EnterFullRing ring.TestRing Enter (entered (length me.untold) (on (inside ring.TestRing))) (taken_in d.polled v) (λ h. absurd (h refl)) (record { to_enter = refl; to_sleep = refl; asked = refl }) (keeps_taken d.polled v landed) refl refl (awake Enter refl)

  -- the test for submissions
  tests : (out : Bool) → (has_submissions c me || (not d.polled && is_full (ring_size c) d)) ≡ out
      → (let here = on (inside ring.TestRing) in Heeds R i s here x (aside x (if out then turns {T = Own} (after_wait s i y next.Serve) here tt else turns {T = Own} (inside ring.ArmRing) (with_poll (ring_size c) here) tt)))
  tests = grind arith

  -- the ring bit goes into the wake word
  arms : (idle : Bool) → is_idle_at w d.processed ≡ idle
      → (let here = on (inside ring.ArmRing) in Heeds R i s here x (with_word i x (turns (inside (if idle then ring.EnterRing else ring.DisarmRing next.Serve)) here (record w { target = target.Ring }))))
  arms true is =
      let here = on (inside ring.ArmRing) in
      let m = with_word i x (turns (inside ring.EnterRing) here (record w { target = target.Ring })) in
      of_all R i s here x m
      (stay_idles R i s here x m (on_ring pool ring.ArmRing ring.EnterRing y) refl refl refl)
      (own_words R i s here x m (record w { target = target.Ring }) refl (λ within before h. refl) (λ h. h) (λ h gone. absurd (true≢false (sym h ∙ gone))) refl)
      (stay_rings R i s here x m refl refl
      (λ same before. record {
        entering = λ h latch. absurd (true≢false (sym latch ∙ same_latch x i (record w { target = target.Ring }) refl ∙ idle_unlatched w d.processed is));
        sleeping = λ h. absurd (false≢true h);
        asked = λ h. before.asked refl;
        polled = λ h. absurd (false≢true h);
        kept = before.kept;
        ended = before.ended;
      })
      (awake Turn refl))
      (stay_itself R i s here x m (on_ring pool ring.ArmRing ring.EnterRing y) (λ j. refl) refl)
  arms false is =
      let here = on (inside ring.ArmRing) in
      let m = with_word i x (turns (inside (ring.DisarmRing next.Serve)) here (record w { target = target.Ring })) in
      of_all R i s here x m
      (stay_idles R i s here x m (on_ring pool ring.ArmRing (ring.DisarmRing next.Serve) y) refl refl refl)
      (own_words R i s here x m (record w { target = target.Ring }) refl (λ within before h. refl) (λ h. h) (λ h gone. absurd (true≢false (sym h ∙ gone))) refl)
      (stay_rings R i s here x m refl refl (λ same. off_rings R i s here x m (record { to_enter = refl; to_sleep = refl; asked = refl }) (keeps v landed)) (awake Turn refl))
      (stay_itself R i s here x m (on_ring pool ring.ArmRing (ring.DisarmRing next.Serve) y) (λ j. refl) refl)

  -- THE ENTER OF THE WAIT
  abbrev cancels : ℕ
  cancels = length me.untold

  abbrev entering : Desk
  entering = entered cancels (on (inside ring.EnterRing))

  abbrev taken : Ring
  taken = record (ring_of s x i) { wakes = taken_in d.polled v }

  abbrev ring_here : Ring
  ring_here = ring_of s x i

  -- where a completion is there it goes on, else it is about to sleep: what was kept was told then
  settles : (there : Bool) → has_completion entering taken ≡ there → Heeds R i s (on (inside ring.EnterRing)) x (record { event = Enter; choice = Plain; desk = record entering { place = inside (if there then ring.DisarmRing next.Begin else ring.SleepOnRing) }; thing = set_wake_poll i x taken.wakes })
  settles true is =
      passes ring.EnterRing (ring.DisarmRing next.Begin) Enter entering taken.wakes (λ h. (waits, refl)) (record { to_enter = refl; to_sleep = refl; asked = refl }) (keeps_taken d.polled v landed) refl refl (awake Enter refl)
  settles false is =
      ringed ring.EnterRing ring.SleepOnRing Enter entering taken.wakes (λ h. (waits, refl))
      (λ same before. record {
        entering = λ h. absurd (false≢true h);
        sleeping = grind arith;
        asked = λ h. before.asked refl;
        polled = λ h. subst (λ (u : WakePoll). (u.armed || (not (is_empty landed) || nat_lt 0 (d.others + cancels) || u.told)) ≡ true) (sym (same ∙ ap (λ b. taken_in b v) (before.asked refl)))
            (polled_by_enter (not (is_empty landed)) (nat_lt 0 d.others) (nat_lt 0 (d.others + cancels)) (more_others d.others cancels) v before.ended);
        kept = rw same ((keeps_taken d.polled v landed).kept before.kept);
        ended = rw same ((keeps_taken d.polled v landed).ended before.ended);
      })
      refl refl (awake Enter refl)

  enters : (busy : Bool) → (let here = on (inside ring.EnterRing) in Heeds R i s here x (with_ring i x (enter_ring y me here (record ring_here { busy = busy }))))
  enters true = passes ring.EnterRing (ring.DisarmRing next.Begin) Busy (on (inside ring.EnterRing)) v (λ h. (waits, refl)) (record { to_enter = refl; to_sleep = refl; asked = refl }) (keeps v landed) refl refl (awake Busy refl)
  enters false = settles (has_completion entering taken) refl

  -- the last look, and the sleep
  rests : (there come : Bool) → has_completion d ring_here ≡ there
      → (let left = on (inside (ring.DisarmRing next.Begin)) in Heeds R i s (on (inside ring.SleepOnRing)) x (with_ring i x (if there then does Turn left ring_here else if come then does Turn left ring_here else does (Sleep (next_due s i)) left ring_here)))
  rests true come is = passes ring.SleepOnRing (ring.DisarmRing next.Begin) Turn d v (λ h. (waits, refl)) (record { to_enter = refl; to_sleep = refl; asked = refl }) (keeps v landed) refl refl (awake Turn refl)
  rests false true is = passes ring.SleepOnRing (ring.DisarmRing next.Begin) Turn d v (λ h. (waits, refl)) (record { to_enter = refl; to_sleep = refl; asked = refl }) (keeps v landed) refl refl (awake Turn refl)
  rests false false is =
      passes ring.SleepOnRing (ring.DisarmRing next.Begin) (Sleep (next_due s i)) d v (λ h. (waits, refl)) (record { to_enter = refl; to_sleep = refl; asked = refl }) (keeps v landed) refl refl
      (λ until h. (refl, λ before latch. elim (before.sleeping refl latch) [ inl raised ↦ raised | inr told ↦ absurd (true≢false (sym told ∙ is)) ]))

  -- the wait bits go out of the wake word
  disarms : (n : AfterWait) → (let here = on (inside (ring.DisarmRing n)) in Heeds R i s here x (with_word i x (turns (after_wait s i y n) here (disarmed w))))
  disarms n =
      let here = on (inside (ring.DisarmRing n)) in
      let m = with_word i x (turns (after_wait s i y n) here (disarmed w)) in
      let stays = off_ring s i (ring.DisarmRing n) y n in
      of_all R i s here x m
      (stay_idles R i s here x m stays refl refl refl)
      (own_words R i s here x m (disarmed w) refl (λ within before h. absurd (h (ring_quiet s i y n))) (λ h. absurd (false≢true h)) (λ h gone published pool. ring_withdrawing s i (ring.DisarmRing n) y n published pool) refl)
      (stay_rings R i s here x m refl refl (λ same. off_rings R i s here x m (ring_off s i y n) (keeps v landed)) (awake Turn refl))
      (stay_itself R i s here x m stays (λ j. refl) refl)

  on_the_ring : (p : InRingWait) → Heeds R i s (on (inside p)) x (move_ring_wait c i me s (on (inside p)) x p y)
  on_the_ring ring.EnterFullRing = enters_full (seat_of s i).busy
  on_the_ring ring.TestRing = tests (has_submissions c me || (not d.polled && is_full (ring_size c) d)) refl
  on_the_ring ring.ArmRing = arms (is_idle_at w d.processed) refl
  on_the_ring ring.EnterRing = enters (seat_of s i).busy
  on_the_ring ring.SleepOnRing = rests (has_completion d ring_here) (has_come s.clock (next_due s i)) refl
  on_the_ring (ring.DisarmRing n) = disarms n

module _ (R : Type 0) (c : Configuration) (i : ℕ) (me : Books) (s : Common) (d : Desk) (x : Things) where
  pub ring_wait : (p : InRingWait) (y : Stay) → d.place ≡ at.RingWait p y → Heeds R i s d x (move_ring_wait c i me s d x p y)
  ring_wait p y is = at_place R i s d x (λ e. move_ring_wait c i me s e x p y) (at.RingWait p y) is (on_the_ring R c i me s d x y p)
