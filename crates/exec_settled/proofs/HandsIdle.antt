-- Moves of a worker that looks whether it may wait, and of its waits: the latch goes out of its wake word as a wait ends.
use Rattle.std.proofs.Common.{◌≡◌, ℕ, Bool, false, refl, if◌then◌else◌, arith}
use Rattle.exec_words.specs.{Word.is_idle_at, declared.word.PureWord.PureWord}
use Rattle.exec_machine.specs.{declared.{config.Configuration.Configuration, event.Event.TheVariants.{Sleep, Turn}}, Deadlines.next_due, World.{Common, Own as Books, seat_of}}
use Rattle.exec_moves.specs.{declared.{idling.{AfterWait.{AfterWait, AfterWait as next}, InLook.InLook, InRingWait.{InRingWait, InRingWait as ring}, InScan.InScan, InSearch.InSearch, InWordWait.{InWordWait, InWordWait as word}, Stay.Stay}, place.{Found.Found, InLoads.InLoads, Round.Round, Place.Place as at}}, Callback.is_of_pool, Load.{has_come, test_for_work}, Look.withdraw, Move.{move_loads, move_look, move_ring_wait, move_scan, move_search, move_word_wait}, State.{Desk, Things, does, turns, word_of}, Thing.{aside, ring_of, with_idle, with_ring, with_word}, Wait.{after_sleep, after_wait, disarmed, enter_full_ring, enter_ring, goes_back, has_completion, noting_sleep, read_clock, withdraws}}
use Rattle.exec_settled.{specs.{Given.ends_in_search, Permits.is_past}, proofs.{HandsEarly.{IsEarly, early_if}, HandsPlain.{Plain, kept_word, own_out, plain, plain_if, plain_late}}}

-- on its ring it stays before or behind the gates, whichever step of the wait is next
stays_on_ring : (f : ℕ) (y : Stay) → is_past f (at.RingWait ring.TestRing y) ≡ false → is_past f (at.RingWait ring.ArmRing y) ≡ false
stays_on_ring = grind arith

module _ (c : Configuration) (i : ℕ) (me : Books) (s : Common) (d : Desk) (x : Things) where
  -- THE LOADS
  pub loads : (p : InLoads) (r : Round) → Plain i (at.Loads p r) x (move_loads i me d x p r)
  loads = grind (arith, plain, plain_late, kept_word)

  -- THE TESTS, THE CLOCK: from here on it has passed all gates
  pub tests : (found : Found) → Plain i (at.TestForWork found) x (aside x (test_for_work c i me s found d))
  tests = grind (arith, plain_if, plain_late)

  pub reads : Plain i at.ReadClock x (aside x (read_clock c i me s d))
  reads = grind (arith, plain_if, plain_late)

  -- THE SEARCH, THE SCAN
  pub searches : (p : InSearch) → Plain i (at.Search p) x (move_search c d x p)
  searches = grind (arith, plain_late)

  pub scans : (p : InScan) → Plain i (at.Scan p) x (move_scan c i me s d x p)
  scans = grind arith

  pub looks : (p : InLook) → Plain i (at.Look p) x (move_look c i s d x p)
  looks = grind arith

  pub withdraws_by : (n : AfterWait) → Plain i (at.Withdraw n) x (with_idle x (withdraw c i me s n d x.idle))
  withdraws_by = grind arith

  -- THE ENDS OF THE WAITS
  early_goes_back : (f : ℕ) (n : AfterWait) → IsEarly f (goes_back n)
  early_goes_back = grind arith

  early_withdraws : (f : ℕ) (n : AfterWait) → IsEarly f (at.Withdraw n) → IsEarly f (withdraws s i n)
  early_withdraws f n h = early_if f (is_of_pool s i) _ _ h (early_goes_back f n)

  early_after_wait : (f : ℕ) (y : Stay) (n : AfterWait) → ends_in_search (at.RingWait (ring.DisarmRing n) y) ≡ false → IsEarly f (after_wait s i y n)
  early_after_wait = grind arith

  -- ON THE RING
  enters_full : (y : Stay) (busy : Bool) → Plain i (at.RingWait ring.EnterFullRing y) x (with_ring i x (enter_full_ring y me d (record (ring_of s x i) { busy = busy })))
  enters_full = grind (arith, plain, stays_on_ring)

  enters : (y : Stay) (busy : Bool) → Plain i (at.RingWait ring.EnterRing y) x (with_ring i x (enter_ring y me d (record (ring_of s x i) { busy = busy })))
  enters = grind (arith, plain, stays_on_ring)

  rests : (y : Stay) (there come : Bool)
      → (let left = record d { place = at.RingWait (ring.DisarmRing next.Begin) y } in
      Plain i (at.RingWait ring.SleepOnRing y) x (with_ring i x (if there then does Turn left (ring_of s x i) else if come then does Turn left (ring_of s x i) else does (Sleep (next_due s i)) left (ring_of s x i))))
  rests = grind arith

  pub ring_waits : (p : InRingWait) (y : Stay) → ends_in_search (at.RingWait p y) ≡ false → Plain i (at.RingWait p y) x (move_ring_wait c i me s d x p y)
  ring_waits ring.EnterFullRing y off = enters_full y (seat_of s i).busy
  ring_waits ring.TestRing y off = grind arith
  ring_waits ring.ArmRing y off = plain i _ x _ refl (kept_word i x _ (λ h. h)) (λ f. stays_on_ring f y) refl
  ring_waits ring.EnterRing y off = enters y (seat_of s i).busy
  ring_waits ring.SleepOnRing y off = rests y (has_completion d (ring_of s x i)) (has_come s.clock (next_due s i))
  ring_waits (ring.DisarmRing n) y off =
      record { gates = refl; latch_out = own_out i x (disarmed (word_of x i)) (after_wait s i y n) (λ f. early_after_wait f y n off); past = λ f h. early_after_wait f y n off; mild = refl }

  -- ON THE WAKE WORD
  leaves_word : (p : InWordWait) (e : Desk) (w : PureWord) → Plain i (at.WordWait p) x (with_word i x (turns (withdraws s i next.Begin) e w))
  leaves_word p e w =
      record { gates = refl; latch_out = own_out i x w (withdraws s i next.Begin) (λ f. early_withdraws f next.Begin refl); past = λ f h. early_withdraws f next.Begin refl; mild = refl }

  rests_on_word : (idle come : Bool)
      → (let left = record d { place = at.WordWait word.DisarmWord } in let w = word_of x i in
      Plain i (at.WordWait word.SleepOnWord) x (with_word i x (if idle then noting_sleep s.clock (if come then does Turn left w else does (Sleep (next_due s i)) left w) else does Turn left w)))
  rests_on_word = grind (arith, plain_late, kept_word)

  pub word_waits : (p : InWordWait) → Plain i (at.WordWait p) x (move_word_wait i s d x p)
  word_waits (word.SpinOnBatch left) = plain_late i _ x _ refl (kept_word i x _ (λ h. h)) (λ f. refl) refl
  word_waits (word.SpinOnLatch left) = plain_late i _ x _ refl (kept_word i x _ (λ h. h)) (λ f. refl) refl
  word_waits word.TakeLatch = leaves_word word.TakeLatch d (record (word_of x i) { latch = false })
  word_waits word.ArmWord = plain_late i _ x _ refl (kept_word i x _ (λ h. h)) (λ f. refl) refl
  word_waits word.SleepOnWord = rests_on_word (is_idle_at (word_of x i) d.processed) (has_come s.clock (next_due s i))
  word_waits word.DisarmWord = leaves_word word.DisarmWord (after_sleep s.clock (word_of x i).latch d.slept d) (disarmed (word_of x i))
