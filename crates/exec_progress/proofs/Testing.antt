-- The tests at the end of a turn: whether there is something to do, and the clock.
use Rattle.std.{proofs.{Common.{◌≡◌, ℕ, zero, suc, ◌+◌, ◌≤◌, Bool, true, false, not, ◌&&◌, ◌||◌, if◌then◌else◌, List, [], ◌∷◌, slice_index_or, refl, arith, ◌⊎◌, inl, inr}, lemmas.Bool.{cases_lt, leb-true, or_from}}, specs.{Prelude.{nat_lt, nat_le}, List.list_any}}
use Rattle.exec_words.specs.Queue.{Queue}
use Rattle.exec_machine.specs.{declared.config.Configuration.Configuration, Deadlines.next_due, Ranges.largest_spin, World.{Common, Own as Books, seat_of}}
use Rattle.exec_moves.specs.{declared.{idling.{InLook.InLook, InScan.InScan, InSearch.InSearch}, place.{Found.Found, Place.Place}}, Callback.{has_callbacks, is_of_pool}, Counts.one_if, Load.{has_come, has_submissions, is_ready, leaves_for_turn}, State.{Desk, Own, Things, no_queue, turns as turning}, Thing.aside, Wait.{first_search, waits}}
use Rattle.exec_credit.proofs.Due.{due}
use Rattle.exec_progress.{specs.{Going.{Falls, FallsAt, IsGoing, seen, stands}, Owed.{Signs, can_steal, has_wakes, is_stealable, quiet_items, signs, signs_on}}, proofs.{Tools.{Now, OwesLess, afterwards, before, either, goes_down, gone}, Upward.{for_sure, leaves_is_top, to_turn, to_wait}}}

-- WHAT A TEST FINDS

test_finds : (ready flag calls batch work : Bool) → ((ready || flag || calls || batch) || work) ≡ true → 1 ≤ one_if ready + one_if flag + one_if calls + one_if batch + one_if work
test_finds = grind arith

-- a find is there, or is gone
of_found : (ready q g m : Bool) → one_if ready ≤ one_if q + one_if g + one_if m + one_if (ready && not (q || (g || m)))
of_found = grind arith

-- what is to be submitted waits for the ring, or doesn't
of_work : (work busy : Bool) → one_if work ≤ one_if (work && not busy) + one_if (work && busy)
of_work = grind arith

of_calls : (me : Books) (d : Desk) → one_if (has_callbacks me d) ≤ one_if (has_wakes me d) + one_if (nat_lt 0 (quiet_items d))
of_calls = grind arith

by_none : (n : ℕ) → (n ≡ 0) ⊎ (1 ≤ n)
by_none zero = inl refl
by_none (suc n) = inr (omega arith)

-- A LONE WORKER: where all queues are empty nothing can be stolen

cannot : (q : Queue ℕ) → q.values ≡ [] → is_stealable q ≡ false
cannot = grind arith

nothing_to_steal : (qs : List (Queue ℕ)) → ((j : ℕ) → (slice_index_or qs j no_queue).values ≡ []) → list_any is_stealable qs ≡ false
nothing_to_steal [] h = refl
nothing_to_steal (q ∷ qs) h = or_from (is_stealable q) (list_any is_stealable qs) (cannot q (h 0)) (nothing_to_steal qs (λ j. h (suc j)))

module _ (c : Configuration) (i : ℕ) (me : Books) (s : Common) (d : Desk) (x : Things) where
  abbrev y : Signs
  y = signs c i me s d x

  -- THE TEST FOR WORK

  -- a sign that is no sure one is gone with that
  abbrev paid : Found → ℕ
  paid f = one_if (f.ready && not (y.queue || (y.global || y.mail))) + one_if (nat_lt 0 (quiet_items d)) + one_if (has_submissions c me && (seat_of s i).busy)

  some_sign : (f : Found) → (is_ready me f d || has_submissions c me) ≡ true → 1 ≤ signs_on y + paid f
  some_sign = grind (arith, test_finds, of_found, of_calls, of_work)

  -- the desk there, and what the worker has of itself
  abbrev testing : Found → Desk
  testing f = stands (Place.TestForWork f) d

  abbrev mine : Found → Books
  mine f = seen (Place.TestForWork f) me

  abbrev at_test : Found → Now
  at_test f = before me s d x (Place.TestForWork f)

  abbrev tested : Found → Place → Now
  tested f q = afterwards c i me s (Place.TestForWork f) (aside x (turning {T = Own} q (testing f) tt))

  owes_less : (f : Found) → 1 ≤ signs_on y + paid f → OwesLess c i (at_test f) (tested f Place.BeginTurn)
  owes_less f some = elim (by_none (signs_on y)) [
    | inr on ↦ for_sure c i (at_test f) (tested f Place.BeginTurn) (omega arith) (omega (arith, on)) (omega (arith, on))
    | inl off ↦ gone c i (at_test f) (tested f Place.BeginTurn) (omega arith) (λ h k. omega (arith, k)) (λ h. omega (arith, some, off)) (omega (arith, some, off)) (λ h. omega arith)
  ]

  pub tests : (f : Found) → FallsAt c i me s d x (Place.TestForWork f)
  tests f it =
      either c i (mine f) s (testing f) x (aside x) (is_ready me f d || has_submissions c me)
      (turning {T = Own} (leaves_for_turn c i (mine f) s (testing f)) (testing f) tt) (turning {T = Own} Place.ReadClock (testing f) tt)
      (λ h quiet. to_turn c i (at_test f) (tested f Place.BeginTurn)
      (record { long_before = refl; items_kept = omega arith; gates_kept = omega arith; owes = owes_less f (some_sign f h) })
      (leaves_for_turn c i (mine f) s (testing f)) (leaves_is_top c i (mine f) s (testing f)))
      (λ h quiet. goes_down c i (at_test f) (tested f Place.ReadClock) (grind arith))

  -- THE CLOCK, which is kept
  abbrev read : Desk
  read = record (stands Place.ReadClock d) { read = s.clock }

  abbrev clocked : Now
  clocked = afterwards c i me s Place.ReadClock (aside x (turning {T = Own} Place.BeginTurn read tt))

  some_due : has_come s.clock (next_due s i) ≡ true → OwesLess c i (before me s d x Place.ReadClock) clocked
  some_due come =
      let on : 1 ≤ one_if y.due + one_if y.fires = due i s come in
      for_sure c i (before me s d x Place.ReadClock) clocked (omega arith) (omega (arith, on)) (omega (arith, on))

  abbrev ClockTo : Place → Type 0
  ClockTo q = Falls c i (seen Place.ReadClock me) s (stands Place.ReadClock d) x (aside x (turning {T = Own} q read tt))

  clock_waits : d.spinner.budget ≤ largest_spin c.spin → ClockTo (waits c i s read)
  clock_waits few quiet =
      to_wait c i (before me s d x Place.ReadClock) clocked
      (record { long_before = refl; high = omega arith; gates_kept = omega arith; nothing_ahead = omega arith; wanted_kept = λ h. omega (arith, h); others_kept = omega arith; spun_kept = omega arith })
      s read few

  -- a place of the search or of the look, which no other scan follows
  clock_looks : can_steal x ≡ false → ClockTo (Place.Look InLook.Publish)
  clock_looks = grind arith

  clock_scans : ClockTo (Place.Scan InScan.LoadScanHead)
  clock_scans = grind arith

  clock_searches : d.searching ≡ false → ClockTo (Place.Search InSearch.LoadSearchCount)
  clock_searches = grind arith

  -- all others have no queue
  alone : IsGoing c i (seen Place.ReadClock me) s (stands Place.ReadClock d) x Place.ReadClock → is_of_pool s i ≡ true → c.workers ≤ 1 → can_steal x ≡ false
  alone = grind (arith, nothing_to_steal, cases_lt)

  abbrev searches : Bool → Place
  searches v = if v then Place.Scan InScan.LoadScanHead else Place.Search InSearch.LoadSearchCount

  pub reads_clock : FallsAt c i me s d x Place.ReadClock
  reads_clock it =
      either c i (seen Place.ReadClock me) s (stands Place.ReadClock d) x (aside x) (has_come s.clock (next_due s i))
      (turning {T = Own} (leaves_for_turn c i (seen Place.ReadClock me) s (stands Place.ReadClock d)) read tt) (turning {T = Own} (first_search c i s read) read tt)
      (λ come quiet. to_turn c i (before me s d x Place.ReadClock) clocked
      (record { long_before = refl; items_kept = omega arith; gates_kept = omega arith; owes = some_due come })
      (leaves_for_turn c i (seen Place.ReadClock me) s (stands Place.ReadClock d)) (leaves_is_top c i (seen Place.ReadClock me) s (stands Place.ReadClock d)))
      (λ h. by_pool (is_of_pool s i) refl)
    where
      by_search : (v : Bool) → d.searching ≡ v → ClockTo (searches v)
      by_search true h = clock_scans
      by_search false h = clock_searches h

      by_workers : is_of_pool s i ≡ true → (v : Bool) → nat_le c.workers 1 ≡ v → ClockTo (if v then Place.Look InLook.Publish else searches d.searching)
      by_workers pool true h = clock_looks (alone it pool (leb-true c.workers 1 h))
      by_workers pool false h = by_search d.searching refl

      by_pool : (v : Bool) → is_of_pool s i ≡ v → ClockTo (if not v then waits c i s read else if nat_le c.workers 1 then Place.Look InLook.Publish else searches d.searching)
      by_pool true pool = by_workers pool (nat_le c.workers 1) refl
      by_pool false none = clock_waits it.budget
