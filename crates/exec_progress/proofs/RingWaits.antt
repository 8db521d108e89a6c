-- A wait on the ring.
use Rattle.std.{proofs.{Common.{◌≡◌, ℕ, ◌+◌, ◌<◌, ◌⊎◌, Bool, true, false, not, ◌&&◌, ◌||◌, length, if◌then◌else◌, refl, ap, ◌∙◌, arith, inl, inr}, lemmas.Bool.{true≢false, false≢true}}, specs.Prelude.{nat_lt, is_some}}
use Rattle.exec_words.specs.{Word.is_idle_at, declared.word.PureWord.PureWord}
use Rattle.exec_machine.specs.{declared.{config.Configuration.Configuration, event.Event.TheVariants.{Turn, Enter, Sleep}}, Deadlines.next_due, Ranges.ring_size, Tests.is_empty, World.{Common, Own as Books, seat_of}}
use Rattle.exec_moves.specs.{declared.{place.{AfterService.AfterService as back, Place.Place}, idling.{AfterWait.AfterWait, InRingWait.InRingWait, Stay.Stay}}, Callback.{is_full, is_of_pool, serve}, Counts.{gates_from, one_if}, Load.{has_come, has_mail, has_submissions}, Serve.{Ring, entered}, State.{Desk, Moved, Own, Things, WakePoll, does, taken_in, turns, wake_poll_of, word_of}, Submit.{one_more, with_poll}, Thing.{aside, ring_of, with_ring, with_word}, Wait.{disarmed, enter_full_ring, enter_ring, goes_back, has_completion, sleep}}
use Rattle.exec_settled.specs.Given.{ends_in_search}
use Rattle.exec_credit.proofs.Due.{due}
use Rattle.exec_progress.{specs.{Going.{Falls, FallsAt, IsGoing, seen, stands}, Owed.has_stray}, proofs.{Entering.{busy_others, busy_pays, busy_spun, enter_gates, enter_keeps, enter_strays}, Tools.{Now, OwesLess, afterwards, before, either, gone, goes_down, keeps_turns, pays_want, taken_up}, WaitTools.{poll_is, rises, sinks, stirred, word_is}}}
use Rattle.exec_words.specs.declared.word.WaitTarget.TheVariants as target

-- WHAT A TEST FINDS

found_of : (landed more told : Bool) → (landed || more || told) ≡ true → (landed ≡ true) ⊎ ((more || told) ≡ true)
found_of true more told h = inl refl
found_of false more told h = inr h

pub never : (full : Bool) → one_if (full && false) ≡ 0
never true = refl
never false = refl

-- something is to be submitted, to a ring that isn't busy or one that is; or the wake poll has no place
data Stays (work busy polled full : Bool) : Type 0 where
  Sure : one_if (work && not busy) ≡ 1 → Stays work busy polled full
  Pressed : one_if (work && busy) ≡ 1 → Stays work busy polled full
  Unpolled : one_if (full && (not polled && not work)) ≡ 1 → Stays work busy polled full

stays_for : (work busy polled full : Bool) → (work || (not polled && full)) ≡ true → Stays work busy polled full
stays_for = grind arith

module _ (c : Configuration) (i : ℕ) (me : Books) (s : Common) (d : Desk) (x : Things) where
  abbrev w : PureWord
  w = word_of x i

  -- it was at this place
  abbrev at : InRingWait → Place
  at p = Place.RingWait p Stay.Turn

  abbrev ToMove : InRingWait → Moved Things → Type 0
  ToMove p m = Falls c i (seen (at p) me) s (stands (at p) d) x m

  abbrev was : InRingWait → Now
  was p = before me s d x (at p)

  abbrev is : InRingWait → Moved Things → Now
  is p m = afterwards c i me s (at p) m

  -- a test at this place of the wait decides
  decides : {X : Type 0} (p : InRingWait) (f : X → Moved Things) (t : Bool) (m n : X) → (t ≡ true → ToMove p (f m)) → (t ≡ false → ToMove p (f n)) → ToMove p (f (if t then m else n))
  decides p f t m n h k = either c i (seen (at p) me) s (stands (at p) d) x f t m n h k

  -- the ring, set busy or not
  abbrev ring : Bool → Ring
  ring busy = record { busy = busy; landed = (seat_of s i).landed; wakes = wake_poll_of x i }

  -- A FULL SUBMISSION QUEUE
  enters_full : IsGoing c i (seen (at InRingWait.EnterFullRing) me) s (stands (at InRingWait.EnterFullRing) d) x (at InRingWait.EnterFullRing) → (busy : Bool) → (seat_of s i).busy ≡ busy
      → ToMove InRingWait.EnterFullRing (with_ring i x (enter_full_ring Stay.Turn (seen (at InRingWait.EnterFullRing) me) (stands (at InRingWait.EnterFullRing) d) (ring busy)))
  enters_full it true busy quiet =
      let p = InRingWait.EnterFullRing in
      let a = was p in
      let b = is p (with_ring i x (enter_full_ring Stay.Turn (seen (at p) me) (stands (at p) d) (ring true))) in
      goes_down c i a b (record {
        long_before = refl;
        long_after = refl;
        less = omega arith;
        gates_kept = omega arith;
        owes = pays_want c i a b (busy_pays c i (seen (at p) me) s (stands (at p) d) x (at InRingWait.TestRing) it.seat_there busy (omega arith) refl refl (omega arith) (omega arith));
      })
  enters_full it false free quiet =
      let p = InRingWait.EnterFullRing in
      let a = was p in
      let b = is p (with_ring i x (enter_full_ring Stay.Turn (seen (at p) me) (stands (at p) d) (ring false))) in
      let same = enter_gates c i (seen (at p) me) s (stands (at p) d) x (at InRingWait.TestRing) 0 in
      goes_down c i a b (record {
        long_before = refl;
        long_after = refl;
        less = omega (arith, same);
        gates_kept = omega (arith, same);
        owes = keeps_turns c i a b (enter_keeps c i (seen (at p) me) s (stands (at p) d) x (at InRingWait.TestRing) it.some_ring it.poll_there (omega arith) refl refl (omega arith) (omega arith));
      })

  -- THE TEST
  abbrev tested : Place → Moved Things
  tested q = aside x (turns {T = Own} q (stands (at InRingWait.TestRing) d) tt)

  abbrev StaysHere : Type 0
  StaysHere = Stays (has_submissions c me) (seat_of s i).busy d.polled (is_full (ring_size c) d)

  withdraws_to_serve : StaysHere → ToMove InRingWait.TestRing (tested (Place.Withdraw AfterWait.Serve))
  withdraws_to_serve it quiet = rises c i a b refl refl (omega arith) (omega arith) (by it)
    where
      a : Now
      a = was InRingWait.TestRing

      b : Now
      b = is InRingWait.TestRing (tested (Place.Withdraw AfterWait.Serve))

      by : StaysHere → OwesLess c i a b
      by (Sure on) = taken_up c i a b refl (omega (arith, on)) (omega (arith, on))
      by (Pressed on) = gone c i a b refl (λ h k. omega (arith, k)) (λ h. omega (arith, on)) (omega (arith, on)) (λ h. omega arith)
      by (Unpolled on) = gone c i a b refl (λ h k. omega (arith, k)) (λ h. omega (arith, on)) (omega (arith, on)) (λ h. omega arith)

  serves_at_once : StaysHere → ToMove InRingWait.TestRing (tested (serve back.Begin))
  serves_at_once it quiet = rises c i a b refl refl (omega arith) (omega arith) (by it)
    where
      a : Now
      a = was InRingWait.TestRing

      b : Now
      b = is InRingWait.TestRing (tested (serve back.Begin))

      by : StaysHere → OwesLess c i a b
      by (Sure on) = taken_up c i a b refl (omega (arith, on)) (omega (arith, on))
      by (Pressed on) = gone c i a b refl (λ h k. omega (arith, k)) (λ h. omega (arith, on)) (omega (arith, on)) (λ h. omega arith)
      by (Unpolled on) = gone c i a b refl (λ h k. omega (arith, k)) (λ h. omega (arith, on)) (omega (arith, on)) (λ h. omega arith)

  goes_on : ToMove InRingWait.TestRing (aside x (turns {T = Own} (at InRingWait.ArmRing) (stands (at InRingWait.TestRing) d) tt))
  goes_on = grind arith

  -- the wake poll goes into the submission queue
  polls : ToMove InRingWait.TestRing (aside x (turns {T = Own} (at InRingWait.ArmRing) (record (one_more (stands (at InRingWait.TestRing) d)) { polled = true }) tt))
  polls quiet =
      sinks c i (was InRingWait.TestRing) (is InRingWait.TestRing (aside x (turns {T = Own} (at InRingWait.ArmRing) (record (one_more (stands (at InRingWait.TestRing) d)) { polled = true }) tt)))
      refl refl (omega arith) (omega arith) (λ h. omega (arith, h)) (λ h k. omega (arith, k)) (λ h. omega (arith, never (is_full (ring_size c) (one_more d)))) (λ h. omega arith)

  tests : ToMove InRingWait.TestRing
      (aside x
      (if has_submissions c me || (not d.polled && is_full (ring_size c) d) then turns {T = Own} (if is_of_pool s i then Place.Withdraw AfterWait.Serve else serve back.Begin) (stands (at InRingWait.TestRing) d) tt
      else turns {T = Own} (at InRingWait.ArmRing) (with_poll (ring_size c) (stands (at InRingWait.TestRing) d)) tt))
  tests =
      decides InRingWait.TestRing (λ (m : Moved Own). aside x m) (has_submissions c me || (not d.polled && is_full (ring_size c) d))
      (turns {T = Own} (if is_of_pool s i then Place.Withdraw AfterWait.Serve else serve back.Begin) (stands (at InRingWait.TestRing) d) tt)
      (turns {T = Own} (at InRingWait.ArmRing) (with_poll (ring_size c) (stands (at InRingWait.TestRing) d)) tt)
      (λ h. let why = stays_for (has_submissions c me) (seat_of s i).busy d.polled (is_full (ring_size c) d) h in
      decides InRingWait.TestRing tested (is_of_pool s i) (Place.Withdraw AfterWait.Serve) (serve back.Begin) (λ pool. withdraws_to_serve why) (λ alone. serves_at_once why))
      (λ h. decides InRingWait.TestRing (λ (e : Desk). aside x (turns {T = Own} (at InRingWait.ArmRing) e tt)) (d.polled || is_full (ring_size c) d)
      (stands (at InRingWait.TestRing) d) (record (one_more (stands (at InRingWait.TestRing) d)) { polled = true }) (λ as_it_is. goes_on) (λ goes_in. polls))

  -- THE WAKE WORD
  abbrev armed : PureWord
  armed = record w { target = target.Ring }

  abbrev arming : InRingWait → Moved Things
  arming q = with_word i x (turns (at q) (stands (at InRingWait.ArmRing) d) armed)

  arms : i < length x.words → ToMove InRingWait.ArmRing (arming InRingWait.EnterRing)
  arms = grind (arith, word_is, sinks)

  arms_in_vain : i < length x.words → is_idle_at w d.processed ≡ false → ToMove InRingWait.ArmRing (arming (InRingWait.DisarmRing AfterWait.Serve))
  arms_in_vain there h quiet =
      let a = was InRingWait.ArmRing in
      let b = is InRingWait.ArmRing (arming (InRingWait.DisarmRing AfterWait.Serve)) in
      let same = ap (λ v. one_if (has_mail d v)) (word_is i x armed there) in
      rises c i a b refl refl (omega arith) (omega arith) (elim (stirred d w h) [
        | inl latch ↦ (let on = ap one_if latch in gone c i a b refl (λ h k. omega (arith, h, k, same)) (λ h. omega (arith, on)) (omega (arith, on)) (λ h. omega arith))
        | inr mail ↦ (let on = ap one_if mail in taken_up c i a b refl (omega (arith, on)) (omega (arith, on, same)))
      ])

  -- THE ENTER OF THE WAIT
  abbrev leaving : InRingWait
  leaving = InRingWait.DisarmRing AfterWait.Begin

  abbrev taken : WakePoll
  taken = taken_in d.polled (wake_poll_of x i)

  abbrev entering : InRingWait → Moved Things
  entering q = with_ring i x (does {T = Ring} Enter (record (entered (length me.untold) (stands (at InRingWait.EnterRing) d)) { place = at q }) (record (ring false) { wakes = taken }))

  enters_to_sleep : IsGoing c i (seen (at InRingWait.EnterRing) me) s (stands (at InRingWait.EnterRing) d) x (at InRingWait.EnterRing) → ToMove InRingWait.EnterRing (entering InRingWait.SleepOnRing)
  enters_to_sleep it quiet =
      let p = InRingWait.EnterRing in
      let a = was p in
      let b = is p (entering InRingWait.SleepOnRing) in
      let same = enter_gates c i (seen (at p) me) s (stands (at p) d) x (at InRingWait.SleepOnRing) 0 in
      goes_down c i a b (record {
        long_before = refl;
        long_after = refl;
        less = omega (arith, same);
        gates_kept = omega (arith, same);
        owes = keeps_turns c i a b (enter_keeps c i (seen (at p) me) s (stands (at p) d) x (at InRingWait.SleepOnRing) it.some_ring it.poll_there (omega arith) refl refl (omega arith) (omega arith));
      })

  -- a completion is there
  enters_and_leaves : i < length x.wake_polls → (not (is_empty (seat_of s i).landed) || nat_lt 0 (d.others + length me.untold) || taken.told) ≡ true → ToMove InRingWait.EnterRing (entering leaving)
  enters_and_leaves there some quiet =
      rises c i a b refl refl (omega (arith, same)) (omega (arith, same)) (elim (found_of (not (is_empty (seat_of s i).landed)) (nat_lt 0 (d.others + length me.untold)) taken.told some) [
        | inl landed ↦ (let on = ap one_if landed in taken_up c i a b refl (omega (arith, on)) (omega (arith, on)))
        | inr stray ↦ by_stray stray
      ])
    where
      p : InRingWait
      p = InRingWait.EnterRing

      a : Now
      a = was p

      b : Now
      b = is p (entering leaving)

      same : gates_from i 0 b.s ≡ gates_from i 0 s
      same = enter_gates c i (seen (at p) me) s (stands (at p) d) x (at leaving) 0

      by_stray : (nat_lt 0 (d.others + length me.untold) || taken.told) ≡ true → OwesLess c i a b
      by_stray stray =
          let on = ap (λ v. one_if (has_stray b.d v)) (poll_is i x taken there) ∙ ap one_if stray in
          let paid = enter_strays c i (seen (at p) me) s (stands (at p) d) x (at leaving) there in
          gone c i a b refl (λ h k. omega (arith, h, k)) (λ h. omega (arith, on, paid)) (omega (arith, on, paid)) (λ h. omega arith)

  -- the ring was busy
  abbrev finding_busy : Moved Things
  finding_busy = with_ring i x (enter_ring Stay.Turn (seen (at InRingWait.EnterRing) me) (stands (at InRingWait.EnterRing) d) (ring true))

  finds_busy : i < length s.seats → (seat_of s i).busy ≡ true → ToMove InRingWait.EnterRing finding_busy
  finds_busy there busy quiet =
      let p = InRingWait.EnterRing in
      let a = was p in
      let b = is p finding_busy in
      let paid = busy_others c i (seen (at p) me) s (stands (at p) d) x (at leaving) there busy (omega arith) refl refl in
      rises c i a b refl refl (omega arith) (omega arith)
      (gone c i a b refl (λ h k. omega (arith, h, k)) (λ h. paid) (omega (arith, ap one_if busy))
      (λ h. busy_spun c i (seen (at p) me) s (stands (at p) d) x (at leaving) (omega arith) refl (omega arith)))

  enters : IsGoing c i (seen (at InRingWait.EnterRing) me) s (stands (at InRingWait.EnterRing) d) x (at InRingWait.EnterRing) → (busy : Bool) → (seat_of s i).busy ≡ busy
      → ToMove InRingWait.EnterRing (with_ring i x (enter_ring Stay.Turn (seen (at InRingWait.EnterRing) me) (stands (at InRingWait.EnterRing) d) (ring busy)))
  enters it true busy = finds_busy it.seat_there busy
  enters it false free =
      decides InRingWait.EnterRing entering (not (is_empty (seat_of s i).landed) || nat_lt 0 (d.others + length me.untold) || taken.told) leaving InRingWait.SleepOnRing
      (λ some. enters_and_leaves it.poll_there some) (λ none. enters_to_sleep it)

  -- THE SLEEP
  abbrev left_bed : Moved Ring
  left_bed = does {T = Ring} Turn (record d { place = at leaving }) (ring_of s x i)

  comes : i < length x.wake_polls → (not (is_empty (seat_of s i).landed) || nat_lt 0 d.others || (wake_poll_of x i).told) ≡ true → ToMove InRingWait.SleepOnRing (with_ring i x left_bed)
  comes there some quiet =
      let a = was InRingWait.SleepOnRing in
      let b = is InRingWait.SleepOnRing (with_ring i x left_bed) in
      let kept = ap (λ v. one_if v.kept) (poll_is i x (wake_poll_of x i) there) in
      let ended = ap (λ v. one_if (is_some v.ended)) (poll_is i x (wake_poll_of x i) there) in
      rises c i a b refl refl (omega arith) (omega arith) (elim (found_of (not (is_empty (seat_of s i).landed)) (nat_lt 0 d.others) (wake_poll_of x i).told some) [
        | inl landed ↦ (let on = ap one_if landed in taken_up c i a b refl (omega (arith, on)) (omega (arith, on)))
        | inr stray ↦ (let on = ap one_if stray in gone c i a b refl (λ h k. omega (arith, h, k)) (λ h. omega (arith, on, kept, ended)) (omega (arith, on)) (λ h. omega arith))
      ])

  comes_due : has_come s.clock (next_due s i) ≡ true → ToMove InRingWait.SleepOnRing (with_ring i x left_bed)
  comes_due come quiet =
      let a = was InRingWait.SleepOnRing in
      let b = is InRingWait.SleepOnRing (with_ring i x left_bed) in
      rises c i a b refl refl (omega arith) (omega arith) (taken_up c i a b refl (omega (arith, due i s come)) (omega (arith, due i s come)))

  sleeps : i < length x.wake_polls → ToMove InRingWait.SleepOnRing (with_ring i x (if has_completion d (ring_of s x i) then left_bed else sleep {T = Ring} i s (record d { place = at leaving }) (ring_of s x i)))
  sleeps there =
      decides InRingWait.SleepOnRing (with_ring i x) (has_completion d (ring_of s x i)) left_bed (sleep {T = Ring} i s (record d { place = at leaving }) (ring_of s x i))
      (λ some. comes there some)
      (λ none. decides InRingWait.SleepOnRing (with_ring i x) (has_come s.clock (next_due s i)) left_bed (does {T = Ring} (Sleep (next_due s i)) (record d { place = at leaving }) (ring_of s x i))
      (λ come. comes_due come) (λ falls_asleep quiet. absurd (false≢true quiet)))

  -- OUT OF THE WAIT
  module _ (n : AfterWait) where
    abbrev disarming : Place → Moved Things
    disarming q = with_word i x (turns q (stands (at (InRingWait.DisarmRing n)) d) (disarmed w))

    abbrev LeavesTo : Place → Type 0
    LeavesTo q = i < length x.words → ToMove (InRingWait.DisarmRing n) (disarming q)

    abbrev left_for : Place → Now
    left_for q = is (InRingWait.DisarmRing n) (disarming q)

    mail_same : i < length x.words → one_if (has_mail d (word_of (disarming Place.BeginTurn).thing i)) ≡ one_if (has_mail d w)
    mail_same there = ap (λ v. one_if (has_mail d v)) (word_is i x (disarmed w) there)

    begins : LeavesTo Place.BeginTurn
    begins there quiet =
        sinks c i (was (InRingWait.DisarmRing n)) (left_for Place.BeginTurn) refl refl (omega arith) (omega arith) (λ h. omega (arith, h, mail_same there))
        (λ h k. omega (arith, k, mail_same there)) (λ h. omega arith) (λ h. omega arith)

    serves : LeavesTo (serve back.Begin)
    serves there quiet =
        sinks c i (was (InRingWait.DisarmRing n)) (left_for (serve back.Begin)) refl refl (omega arith) (omega arith) (λ h. omega (arith, h, mail_same there))
        (λ h k. omega (arith, k, mail_same there)) (λ h. omega arith) (λ h. omega arith)

    withdraws_to_begin : LeavesTo (Place.Withdraw AfterWait.Begin)
    withdraws_to_begin there quiet =
        sinks c i (was (InRingWait.DisarmRing n)) (left_for (Place.Withdraw AfterWait.Begin)) refl refl (omega arith) (omega arith) (λ h. omega (arith, h, mail_same there))
        (λ h k. omega (arith, k, mail_same there)) (λ h. omega arith) (λ h. omega arith)

    withdraws_and_serves : LeavesTo (Place.Withdraw AfterWait.Serve)
    withdraws_and_serves there quiet =
        sinks c i (was (InRingWait.DisarmRing n)) (left_for (Place.Withdraw AfterWait.Serve)) refl refl (omega arith) (omega arith) (λ h. omega (arith, h, mail_same there))
        (λ h k. omega (arith, k, mail_same there)) (λ h. omega arith) (λ h. omega arith)

    withdraws_to_make_up : (last : Bool) → LeavesTo (Place.Withdraw (AfterWait.MakeUp last))
    withdraws_to_make_up last there quiet =
        sinks c i (was (InRingWait.DisarmRing n)) (left_for (Place.Withdraw (AfterWait.MakeUp last))) refl refl (omega arith) (omega arith) (λ h. omega (arith, h, mail_same there))
        (λ h k. omega (arith, k, mail_same there)) (λ h. omega arith) (λ h. omega arith)

    leaves_to : i < length x.words → (p q : Place) → LeavesTo p → LeavesTo q → ToMove (InRingWait.DisarmRing n) (disarming (if is_of_pool s i then p else q))
    leaves_to there p q f g = decides (InRingWait.DisarmRing n) disarming (is_of_pool s i) p q (λ pool. f there) (λ alone. g there)

  leaves : i < length x.words → (n : AfterWait) → ends_in_search (at (InRingWait.DisarmRing n)) ≡ false
      → ToMove (InRingWait.DisarmRing n) (disarming n (if is_of_pool s i then Place.Withdraw n else goes_back n))
  leaves there AfterWait.Begin h = leaves_to AfterWait.Begin there (Place.Withdraw AfterWait.Begin) Place.BeginTurn (withdraws_to_begin AfterWait.Begin) (begins AfterWait.Begin)
  leaves there AfterWait.Serve h = leaves_to AfterWait.Serve there (Place.Withdraw AfterWait.Serve) (serve back.Begin) (withdraws_and_serves AfterWait.Serve) (serves AfterWait.Serve)
  leaves there (AfterWait.MakeUp last) h = leaves_to (AfterWait.MakeUp last) there (Place.Withdraw (AfterWait.MakeUp last)) Place.BeginTurn (withdraws_to_make_up (AfterWait.MakeUp last) last) (begins (AfterWait.MakeUp last))
  leaves there AfterWait.Search h = absurd (true≢false h)

  -- IN ALL: no worker closes
  in_turn : (p : InRingWait) → FallsAt c i me s d x (at p)
  in_turn InRingWait.EnterFullRing it = enters_full it (seat_of s i).busy refl
  in_turn InRingWait.TestRing it = tests
  in_turn InRingWait.ArmRing it =
      decides InRingWait.ArmRing arming (is_idle_at w d.processed) InRingWait.EnterRing (InRingWait.DisarmRing AfterWait.Serve) (λ idle. arms it.word_there) (λ h. arms_in_vain it.word_there h)
  in_turn InRingWait.EnterRing it = enters it (seat_of s i).busy refl
  in_turn InRingWait.SleepOnRing it = sleeps it.poll_there
  in_turn (InRingWait.DisarmRing n) it = leaves it.word_there n it.back

  pub waits_on_ring : (p : InRingWait) (y : Stay) → FallsAt c i me s d x (Place.RingWait p y)
  waits_on_ring p Stay.Turn = in_turn p
  waits_on_ring p Stay.Closing = λ it quiet. absurd (true≢false it.open_still)
