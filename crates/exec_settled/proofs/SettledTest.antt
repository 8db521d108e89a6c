-- From a place to which the test for work leads to the next: neither the desk nor the own part gets anything that has to be told or submitted.
use Rattle.std.{proofs.{Common.{◌≡◌, ℕ, ◌==◌, ◌+◌, ◌-◌, Bool, true, false, List, [], ◌∷◌, Option, Some, None, refl, sym, ◌∙◌, if◌then◌else◌, arith}, lemmas.Bool.false≢true}, specs.Prelude.{nat_lt, nat_le, not}}
use Rattle.exec_words.specs.{declared.{head.Head.Head, word.PureWord.PureWord}, Generator.stirred, Head.is_stealable_at, Idle.is_in, Queue.{head_of, room_of, tail_of}, Word.is_idle_at}
use Rattle.exec_machine.specs.{declared.{config.Configuration.Configuration, event.Event.{Event, TheVariants.{Sleep, Turn}}}, After.own_after, Choice.{Choice, Choice.Plain}, Deadlines.next_due, World.{Common, Own as Books}}
use Rattle.exec_moves.specs.{declared.{idling.{AfterWait.{AfterWait, AfterWait as next}, InLook.{InLook, InLook as look}, InScan.{InScan, InScan as scan}, InSearch.{InSearch, InSearch as search}, InWordWait.InWordWait, Scan.Scan}, place.Place.{Place, Place as at}}, Callback.{has_requests, is_of_pool}, Load.{has_come, has_mail, leaves_for_turn}, Look.{after_withdrawal, look_at_mirror, looks_from, past_own, searching_if}, Move.{move_at, move_look, move_scan, move_search, move_word_wait}, Pop.same_head, Search.{begun_scan, from_of, half, judge_head, judge_tail, looks_at, past, past_own_queue}, State.{Desk, Moved, Things, does, queue_of, word_of}, Wait.{after_sleep, first_search, goes_back, noting_sleep, waits, withdraws}}
use Rattle.exec_settled.{specs.Settled.{has_tested_ring, waits_on_word}, proofs.{SettledParts.is_shut, SettledPlaces.{is_plain, kept, listed}}}
use Rattle.exec_moves.specs.declared.idling.InWordWait.TheVariants as word

module _ (c : Configuration) (i : ℕ) (me : Books) (s : Common) where
  -- WHERE THAT LEADS: to no wait of a closing worker, and not past the test of a wait on the ring; to a wait on the wake word only without requests
  pub record OfPlace (q : Place) : Type 0 where
    pub off : is_shut q ≡ false
    pub early : has_tested_ring q ≡ false
    pub free : waits_on_word q ≡ true → has_requests i s ≡ false

  pub of_if : (b : Bool) (q r : Place) → OfPlace q → OfPlace r → OfPlace (if b then q else r)
  of_if = grind arith

  -- one of which all that computes
  pub of_plain : (q : Place) → is_shut q ≡ false → has_tested_ring q ≡ false → waits_on_word q ≡ false → OfPlace q
  of_plain q off early word = record { off = off; early = early; free = λ h. absurd (false≢true (sym word ∙ h)) }

  of_leaving : (d : Desk) → OfPlace (leaves_for_turn c i me s d)
  of_leaving = grind arith

  of_waits : (d : Desk) → OfPlace (waits c i s d)
  of_waits = grind arith

  of_search : (d : Desk) → OfPlace (first_search c i s d)
  of_search = grind arith

  of_looks_from : (j : ℕ) (d : Desk) → OfPlace (looks_from c i s j d)
  of_looks_from j d = of_if (nat_lt (past_own i j) c.workers) _ _ (of_plain _ refl refl refl) (of_waits d)

  of_looks_at : (y : Scan) → OfPlace (looks_at c i y)
  of_looks_at y = of_if (nat_lt (past_own_queue c i y).passed c.workers) _ _ (of_plain _ refl refl refl) (of_plain _ refl refl refl)

  of_judged : (y : Scan) (h : Head) → OfPlace (judge_head c i y h)
  of_judged y h = of_if (h.gap == 0) _ _ (of_plain _ refl refl refl) (of_looks_at (past y))

  of_tail : (y : Scan) (h : Head) (tail : ℕ) → OfPlace (judge_tail c i y h tail)
  of_tail y h tail = of_if (nat_lt 256 (tail - h.real)) _ _ (of_plain _ refl refl refl) (of_if (nat_lt (tail - h.real) 2) _ _ (of_looks_at (past y)) (of_plain _ refl refl refl))

  of_back : (n : AfterWait) → OfPlace (goes_back n)
  of_back = grind arith

  pub of_withdraws : (n : AfterWait) → OfPlace (withdraws s i n)
  of_withdraws n = of_if (is_of_pool s i) _ _ (of_plain _ refl refl refl) (of_back n)

  -- A MOVE FROM SUCH A PLACE, from desk d
  module _ (d : Desk) where
    pub record Stays (e : Event) (choice : Choice) (q : Desk) : Type 0 where
      pub desk : kept q ≡ kept d
      pub own : listed (own_after c me s i e choice) ≡ listed me
      pub plain : is_plain e ≡ true
      pub place : OfPlace q.place

    abbrev pub IsLeft : {T : Type 0} → Moved T → Type 0
    IsLeft m = Stays m.event m.choice m.desk

    left_if : {T : Type 0} (b : Bool) (m n : Moved T) → IsLeft m → IsLeft n → IsLeft (if b then m else n)
    left_if true m n one other = one
    left_if false m n one other = other

    -- a turn
    turned : (q : Desk) → kept q ≡ kept d → OfPlace q.place → Stays Turn Plain q
    turned q desk place = record { desk = desk; own = refl; plain = refl; place = place }

    turned_if : (b : Bool) (q r : Desk) → Stays Turn Plain q → Stays Turn Plain r → Stays Turn Plain (if b then q else r)
    turned_if true q r one other = one
    turned_if false q r one other = other

    module _ (x : Things) where
      pub reads : IsLeft (move_at c i me s d x at.ReadClock)
      reads = left_if (has_come s.clock (next_due s i)) _ _ (turned _ refl (of_leaving d)) (turned _ refl (of_search (record d { read = s.clock })))

      pub searches : (p : InSearch) → IsLeft (move_search c d x p)
      searches search.LoadSearchCount = turned _ refl (of_if (nat_le c.workers _) _ _ (of_plain _ refl refl refl) (of_plain _ refl refl refl))
      searches search.AddSearchCount = turned _ refl (of_plain _ refl refl refl)

      pub scans : (p : InScan) → IsLeft (move_scan c i me s d x p)
      scans scan.LoadScanHead = turned _ refl (of_if (nat_lt (room_of (queue_of x i)) half) _ _ (of_plain _ refl refl refl) (of_looks_at (begun_scan c (stirred d.rng))))
      scans (scan.LoadTheirHead y) = turned _ refl (of_judged y (head_of (queue_of x (from_of c y))))
      scans (scan.LoadTheirTail y h) = turned _ refl (of_tail y h (tail_of (queue_of x (from_of c y))))
      scans (scan.ClaimHalf y h tail) =
          left_if (same_head h (head_of (queue_of x (from_of c y)))) _ _ (turned _ refl (of_plain _ refl refl refl)) (turned _ refl (of_judged y (head_of (queue_of x (from_of c y)))))
      scans (scan.MoveHalf from h) = turned _ refl (of_plain _ refl refl refl)
      scans (scan.ReleaseHalf from h) = left_if (same_head h (head_of (queue_of x from))) _ _ (turned _ refl (of_plain _ refl refl refl)) (turned _ refl (of_plain _ refl refl refl))
      scans scan.StoreMoved = turned _ refl (of_leaving d)

      looks_at_mirror : (last : Bool) (g : List ℕ) → IsLeft (look_at_mirror last d g)
      looks_at_mirror last [] = turned _ refl (of_plain _ refl refl refl)
      looks_at_mirror last (t ∷ g) = turned _ refl (of_plain _ refl refl refl)

      pub looks : (p : InLook) → IsLeft (move_look c i s d x p)
      looks look.Publish = turned _ refl (of_plain _ refl refl refl)
      looks look.ReturnLookCount = turned _ refl (of_plain _ refl refl refl)
      looks (look.LookAtMirror last) = looks_at_mirror last x.global
      looks look.LookAtCount = turned _ refl (of_if (x.idle.count == 0) _ _ (of_looks_from 0 d) (of_waits d))
      looks (look.LookAtHead j) = turned _ refl (of_plain _ refl refl refl)
      looks (look.LookAtTail j h) = turned _ refl (of_if (is_stealable_at h (tail_of (queue_of x j))) _ _ (of_plain _ refl refl refl) (of_looks_from (j + 1) d))
      looks look.ExchangeLookCount = left_if (x.idle.count == 0) _ _ (turned _ refl (of_plain _ refl refl refl)) (turned _ refl (of_waits d))
      looks look.ReturnClaimed = turned _ refl (of_plain _ refl refl refl)

      withdrawn : (came : Bool) → OfPlace (after_withdrawal c i me s came next.Search (searching_if came d))
      withdrawn true = of_plain _ refl refl refl
      withdrawn false = of_plain _ refl refl refl

      pub withdraws_one : IsLeft (move_at c i me s d x (at.Withdraw next.Search))
      withdraws_one = turned _ refl (withdrawn (not (is_in x.idle.published i)))

      -- ON THE WAKE WORD, of a worker without requests
      module _ (none : has_requests i s ≡ false) where
        of_wait : (p : InWordWait) → OfPlace (at.WordWait p)
        of_wait p = record { off = refl; early = refl; free = λ h. none }

        -- the moment of a sleep is noted
        noted : (w : PureWord) (due : Bool) (e : Desk) → kept e ≡ kept d → OfPlace e.place → IsLeft (noting_sleep s.clock (if due then does Turn e w else does (Sleep (next_due s i)) e w))
        noted w true e desk place = turned _ desk place
        noted w false e desk place = record { desk = desk; own = refl; plain = refl; place = place }

        slept : (signalled : Bool) (since : Option ℕ) → kept (after_sleep s.clock signalled since d) ≡ kept d
        slept true (Some since) = refl
        slept true None = refl
        slept false since = refl

        pub waits_there : (p : InWordWait) → IsLeft (move_word_wait i s d x p)
        waits_there (word.SpinOnBatch left) = turned_if (has_mail d (word_of x i)) _ _ (turned _ refl (of_wait _)) (turned _ refl (of_wait _))
        waits_there (word.SpinOnLatch left) =
            turned_if (word_of x i).latch _ _ (turned _ refl (of_wait _)) (turned_if (nat_lt 1 left) _ _ (turned _ refl (of_wait _)) (turned _ refl (of_wait _)))
        waits_there word.TakeLatch = turned _ refl (of_withdraws next.Begin)
        waits_there word.ArmWord = turned _ refl (of_wait _)
        waits_there word.SleepOnWord =
            left_if (is_idle_at (word_of x i) d.processed) _ _
            (noted (word_of x i) (has_come s.clock (next_due s i)) (record d { place = at.WordWait word.DisarmWord }) refl (of_wait _)) (turned _ refl (of_wait _))
        waits_there word.DisarmWord = turned _ (slept (word_of x i).latch d.slept) (of_withdraws next.Begin)
