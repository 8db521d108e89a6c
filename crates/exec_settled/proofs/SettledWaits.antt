-- A wait on the ring, the end, and with these all moves of a worker.
use Rattle.std.{proofs.{Common.{◌≡◌, ℕ, ◌==◌, Bool, true, false, ◌&&◌, ◌||◌, List, [], Option, refl, sym, ap, ◌∙◌, inl, inr, if◌then◌else◌, arith}, lemmas.Bool.false≢true}, specs.Prelude.{◌⊎◌, drop, not}}
use Rattle.exec_words.specs.{Idle.is_in, Word.is_idle_at}
use Rattle.exec_machine.specs.{declared.{config.Configuration.Configuration, event.Event.{Event, TheVariants.{Busy, End, Enter, Sleep, Turn}}}, After.own_after, Choice.{Choice, Choice.Plain}, Deadlines.next_due, Ranges.ring_size, World.{Common, seat_of, Own as Books}}
use Rattle.exec_moves.specs.{declared.{idling.{AfterWait.{AfterWait, AfterWait as next}, InRingWait.{InRingWait, InRingWait as ring}, Stay.{Stay, Stay as stay}}, place.{InClosing.{InClosing, InClosing as closing}, Place.{Place, Place as at}}, handing.AfterSend.AfterSend as send}, Callback.{has_requests, is_full}, Claim.claimed, Load.{has_come, has_submissions}, Look.searching_if, Move.{move_at, move_ring_wait}, Send.first_letter, State.{Desk, Moved, Own, Things, WakePoll, does, turns, wake_poll_of, word_of}, Submit.{one_more, with_poll}, Thing.{mailbox_of, ring_of}, Wait.{after_wait, enter_ring, has_completion}}
use Rattle.exec_rest.{specs.{Places.is_to_sleep_on_ring, Posted.has_tested}, proofs.{Continuing.{light_polls, light_first_pick}, Untested.{is_test, untested}}}
use Rattle.exec_settled.{specs.Settled.{HasSubmitted, has_submitted, has_tested_ring, waits_on_word}, proofs.{SettledMoves.{Comes, Settles, Was, away, calls, globals, kicks_one, pushes_one, settled, signals_one, tests}, SettledParts.{is_shut, off_after_return, off_light}, SettledOff.{closes, loads, mails, picks, pops_one, serves}, SettledPolls.{off_claim, off_made_up, off_moved_if, polls, posts}, SettledPlaces.{OfBooks, deep_untested, is_plain, kept, listed, no_sleep, sleep_deep, submitted_by, submitted_with, told_with}, SettledTest.{IsLeft, OfPlace, looks, of_plain, of_withdraws, reads, scans, searches, waits_there, withdraws_one}}}

module _ (c : Configuration) (i : ℕ) (me : Books) (s : Common) (d : Desk) where
  -- A WAIT ON THE RING leads on in it, or out
  abbrev Lands : Stay → Place → Type 0
  Lands y q = ((r : InRingWait) × (q ≡ at.RingWait r y)) ⊎ OfPlace c i me s q

  record OnRing (p : Place) (y : Stay) (e : Event) (choice : Choice) (q : Desk) : Type 0 where
    pub desk : kept q ≡ kept d
    pub own : listed (own_after c me s i e choice) ≡ listed me
    pub plain : is_plain e ≡ true
    pub lands : Lands y q.place
    -- it comes past the test with which the wait begins only with nothing to submit
    pub tested : has_tested_ring q.place ≡ true → (has_tested_ring p ≡ true) ⊎ (has_submissions c me ≡ false)
    pub entered : is_to_sleep_on_ring q.place ≡ true → e ≡ Enter
    pub slept : (until : Option ℕ) → e ≡ Sleep until → (is_to_sleep_on_ring p ≡ true) × ((seat_of s i).landed ≡ [])

  module _ (p : Place) (y : Stay) where
    abbrev Waits : {T : Type 0} → Moved T → Type 0
    Waits m = OnRing p y m.event m.choice m.desk

    waits_if : {T : Type 0} (b : Bool) (m n : Moved T) → Waits m → Waits n → Waits (if b then m else n)
    waits_if true m n one other = one
    waits_if false m n one other = other

    abbrev Tested : Place → Type 0
    Tested q = has_tested_ring q ≡ true → (has_tested_ring p ≡ true) ⊎ (has_submissions c me ≡ false)

    -- by a turn
    turned : (q : Desk) → kept q ≡ kept d → Lands y q.place → Tested q.place → is_to_sleep_on_ring q.place ≡ false → OnRing p y Turn Plain q
    turned q desk lands tested up =
        record { desk = desk; own = refl; plain = refl; lands = lands; tested = tested; entered = λ h. absurd (false≢true (sym up ∙ h)); slept = λ until is. no_sleep Turn refl until is }

    kept_if : (b : Bool) (e f : Desk) → kept e ≡ kept d → kept f ≡ kept d → kept (if b then e else f) ≡ kept d
    kept_if true e f one other = one
    kept_if false e f one other = other

    not_to_sleep : (b : Bool) → is_to_sleep_on_ring (at.RingWait (if b then ring.EnterRing else ring.DisarmRing next.Serve) y) ≡ false
    not_to_sleep true = refl
    not_to_sleep false = refl

  leaves : (y : Stay) (n : AfterWait) → OfPlace c i me s (after_wait s i y n)
  leaves = grind (arith, of_withdraws, of_plain)

  out : (p : Place) (y : Stay) (n : AfterWait) → OnRing p y Turn Plain (record d { place = after_wait s i y n })
  out p y n = let of = leaves y n in turned p y _ refl (inr of) (λ h. absurd (false≢true (sym of.early ∙ h))) (sleep_deep (after_wait s i y n) (deep_untested (after_wait s i y n) of.early)).0

  enters : (y : Stay) (busy : Bool) (landed : List ℕ) (wakes : WakePoll) → Waits (at.RingWait ring.EnterRing y) y (enter_ring y me d (record { busy = busy; landed = landed; wakes = wakes }))
  enters = grind arith

  sleeps_there : (y : Stay) (x : Things) (b : Bool) → has_completion d (ring_of s x i) ≡ b → (come : Bool)
      → let left = record d { place = at.RingWait (ring.DisarmRing next.Begin) y } in
      Waits (at.RingWait ring.SleepOnRing y) y (if b then does Turn left (ring_of s x i) else if come then does Turn left (ring_of s x i) else does (Sleep (next_due s i)) left (ring_of s x i))
  sleeps_there = grind arith

  module _ (x : Things) where
    waits : (r : InRingWait) (y : Stay) → Waits (at.RingWait r y) y (move_ring_wait c i me s d x r y)
    waits ring.EnterFullRing y =
        waits_if (at.RingWait ring.EnterFullRing y) y (seat_of s i).busy _ _
        (record { desk = refl; own = refl; plain = refl; lands = inl (_, refl); tested = λ h. absurd (false≢true h); entered = λ h. absurd (false≢true h); slept = λ until is. no_sleep Busy refl until is })
        (record { desk = refl; own = refl; plain = refl; lands = inl (_, refl); tested = λ h. absurd (false≢true h); entered = λ h. absurd (false≢true h); slept = λ until is. no_sleep Enter refl until is })
    waits ring.TestRing y = by (has_submissions c me) refl
      where
        p : Place
        p = at.RingWait ring.TestRing y

        by : (b : Bool) → has_submissions c me ≡ b
            → Waits p y (if b || (not d.polled && is_full (ring_size c) d) then turns {T = Own} (after_wait s i y next.Serve) d tt else turns {T = Own} (at.RingWait ring.ArmRing y) (with_poll (ring_size c) d) tt)
        by true some = out p y next.Serve
        by false none =
            waits_if p y (not d.polled && is_full (ring_size c) d) _ _ (out p y next.Serve)
            (turned p y _ (kept_if p y (d.polled || is_full (ring_size c) d) d (record (one_more d) { polled = true }) refl refl) (inl (_, refl)) (λ h. inr none) refl)
    waits ring.ArmRing y = let p = at.RingWait ring.ArmRing y in turned p y _ refl (inl (_, refl)) (λ h. inl refl) (not_to_sleep p y (is_idle_at (word_of x i) d.processed))
    waits ring.EnterRing y = enters y (seat_of s i).busy (seat_of s i).landed (wake_poll_of x i)
    waits ring.SleepOnRing y = sleeps_there y x (has_completion d (ring_of s x i)) refl (has_come s.clock (next_due s i))
    waits (ring.DisarmRing n) y = out (at.RingWait (ring.DisarmRing n) y) y n

  open_waits : (r : InRingWait) (e : Event) (choice : Choice) (q : Desk) → Was c i me s (at.RingWait r stay.Turn) d → OnRing (at.RingWait r stay.Turn) stay.Turn e choice q
      → Settles c i me s (at.RingWait r stay.Turn) e choice q
  open_waits = grind arith

  closing_waits : (r : InRingWait) (e : Event) (choice : Choice) (q : Desk) → Was c i me s (at.RingWait r stay.Closing) d → has_tested q.place ≡ false
      → OnRing (at.RingWait r stay.Closing) stay.Closing e choice q
      → Settles c i me s (at.RingWait r stay.Closing) e choice q
  closing_waits r e choice q was out on =
      record {
        told = λ h. told_with me (own_after c me s i e choice) d q on.desk (ap (λ (k : OfBooks). k.ended) on.own) (was.told refl);
        submitted = λ h. submitted_with c me (own_after c me s i e choice) on.own (submits (on.tested (ring_tested h)));
        free = free on.lands;
        busy = λ h. was.busy refl;
        plain = λ h. on.plain;
        entered = on.entered;
        slept = λ until is h. on.slept until is;
      }
    where
      submits : (has_tested_ring (at.RingWait r stay.Closing) ≡ true) ⊎ (has_submissions c me ≡ false) → HasSubmitted c me
      submits (inl before) = was.submitted before
      submits (inr none) = submitted_by c me none

      free : Lands stay.Closing q.place → waits_on_word q.place ≡ true → has_requests i s ≡ false
      free (inl there) h = absurd (false≢true (sym (ap waits_on_word there.1) ∙ h))
      free (inr of) h = of.free h

      ring_tested : has_submitted q.place ≡ true → has_tested_ring q.place ≡ true
      ring_tested h = sym (ap (λ b. b || has_tested_ring q.place) out) ∙ h

  -- the end stays the end
  ends : Was c i me s (at.Closing closing.End) d → Settles c i me s (at.Closing closing.End) End Plain (record d { place = at.Closing closing.End })
  ends = grind arith

  -- ALL MOVES
  module _ (x : Things) where
    -- to any other place
    off : (p : Place) → d.place ≡ p → has_tested p ≡ false → is_test p ≡ false → is_shut (move_at c i me s d x p).desk.place ≡ false → Comes c i me s p (move_at c i me s d x p)
    off p is out other away_too = let m = move_at c i me s d x p in away c i me s p m.event m.choice m.desk (untested c i me s d x (ap has_tested is ∙ out) p out other) away_too

    closing_off : (p : InClosing) → d.place ≡ at.Closing p → is_shut (at.Closing p) ≡ false → Comes c i me s (at.Closing p) (move_at c i me s d x (at.Closing p))
    closing_off p is before = off (at.Closing p) is refl refl (closes c i me s d x (ap is_shut is ∙ before) p before)

    stays : (p : Place) → Was c i me s p d → has_tested p ≡ true → IsLeft c i me s d (move_at c i me s d x p) → Comes c i me s p (move_at c i me s d x p)
    stays p was within left = let m = move_at c i me s d x p in settled c i me s p d x m.event m.choice m.desk was within left

    pub move_settles : (p : Place) → d.place ≡ p → Was c i me s p d → Comes c i me s p (move_at c i me s d x p)
    move_settles at.BeginTurn is was = off at.BeginTurn is refl refl (off_light _ (light_first_pick s i))
    move_settles (at.Pick p) is was = off (at.Pick p) is refl refl (picks c i me s d x (ap is_shut is) p)
    move_settles at.TakeRootFlag is was = off at.TakeRootFlag is refl refl (off_moved_if d.root_ready _ _ (off_light _ (light_polls me.root (record d { root_ready = false }))) refl)
    move_settles (at.Poll t p) is was = off (at.Poll t p) is refl refl (polls c i me s d x (ap is_shut is) t p)
    move_settles (at.Callbacks p n) is was = calls c i me s (at.Callbacks p n) d x p n
    move_settles (at.Loads p r) is was = off (at.Loads p r) is refl refl (loads c i me s d x (ap is_shut is) p r)
    move_settles (at.Service p v) is was = off (at.Service p v) is refl refl (serves c i me s d x (ap is_shut is) p v)
    move_settles (at.Mail p) is was = off (at.Mail p) is refl refl (mails c i me s d x (ap is_shut is) p)
    move_settles (at.TestForWork f) is was = tests c i me s (at.TestForWork f) d x f
    move_settles at.ReadClock is was = stays at.ReadClock was refl (reads c i me s d x)
    move_settles (at.Search p) is was = stays (at.Search p) was refl (searches c i me s d x p)
    move_settles (at.Scan p) is was = stays (at.Scan p) was refl (scans c i me s d x p)
    move_settles (at.Look p) is was = stays (at.Look p) was refl (looks c i me s d x p)
    move_settles (at.RingWait p stay.Turn) is was = open_waits p _ _ _ was (waits x p stay.Turn)
    move_settles (at.RingWait p stay.Closing) is was = closing_waits p _ _ _ was (untested c i me s d x (ap has_tested is) (at.RingWait p stay.Closing) refl refl) (waits x p stay.Closing)
    move_settles (at.WordWait p) is was = stays (at.WordWait p) was refl (waits_there c i me s d x (was.free refl) p)
    move_settles (at.Withdraw next.Begin) is was = off (at.Withdraw next.Begin) is refl refl refl
    move_settles (at.Withdraw next.Serve) is was = off (at.Withdraw next.Serve) is refl refl refl
    move_settles (at.Withdraw (next.MakeUp last)) is was =
        let came = not (is_in x.idle.published i) in off (at.Withdraw (next.MakeUp last)) is refl refl (off_made_up c i me s came last (searching_if came d))
    move_settles (at.Withdraw next.Search) is was = stays (at.Withdraw next.Search) was refl (withdraws_one c i me s d x)
    move_settles (at.Closing closing.End) is was = ends was
    move_settles (at.Closing closing.Close) is was = closing_off closing.Close is refl
    move_settles (at.Closing closing.CloseQueue) is was = closing_off closing.CloseQueue is refl
    move_settles (at.Closing closing.OpenBarrier) is was = closing_off closing.OpenBarrier is refl
    move_settles (at.Closing closing.Stop) is was = closing_off closing.Stop is refl
    move_settles (at.Closing (closing.TellRoot j)) is was = closing_off (closing.TellRoot j) is refl
    move_settles (at.Closing (closing.Visit drain)) is was = closing_off (closing.Visit drain) is refl
    move_settles (at.Closing (closing.Clear t drain)) is was = closing_off (closing.Clear t drain) is refl
    move_settles (at.Closing closing.LeaveBarrier) is was = closing_off closing.LeaveBarrier is refl
    move_settles (at.Closing closing.CloseMailbox) is was = closing_off closing.CloseMailbox is refl
    move_settles (at.Closing closing.Orphan) is was = closing_off closing.Orphan is refl
    move_settles (at.Closing closing.CloseSleeper) is was = closing_off closing.CloseSleeper is refl
    move_settles (at.Pop p b) is was = off (at.Pop p b) is refl refl (pops_one c i me s d x (ap is_shut is) p b)
    move_settles (at.LeaveSearch b) is was = off (at.LeaveSearch b) is refl refl (off_after_return c i me s (x.idle.count == 1) b d)
    move_settles (at.Push p b) is was = pushes_one c i me s (at.Push p b) d x p b
    move_settles (at.Global p b) is was = globals c i me s (at.Global p b) d x p b
    move_settles (at.Kick p b) is was = kicks_one c i me s (at.Kick p b) d x p b
    move_settles (at.ClaimWorker set b) is was = off (at.ClaimWorker set b) is refl refl (off_claim c i me s b (claimed set x.idle))
    move_settles (at.Signal p j b) is was = signals_one c i me s (at.Signal p j b) d x p j b
    move_settles (at.SendCancel b) is was =
        let j = (first_letter d).to in
        off (at.SendCancel b) is refl refl (posts c i me s j (first_letter d).message (send.Cancels b) (record d { letters = drop 1 d.letters }) (mailbox_of x j))
