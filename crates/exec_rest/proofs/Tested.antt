-- Whose last test found nothing to do still has nothing to do: nobody comes to such a place but from the test or from another
-- such place, and on the way nothing comes in.
use Rattle.std.{proofs.{Common.{◌≡◌, ℕ, ◌<◌, Bool, true, false, ◌||◌, List, [], length, refl, sym, ◌∙◌, subst, inl, inr, if◌then◌else◌, arith}, lemmas.Bool.{false≢true, cases_Bool, cases_eq}}, specs.Prelude.not}
use Rattle.exec_words.specs.declared.word.PureWord.{PureWord}
use Rattle.exec_machine.specs.{declared.{config.Configuration.Configuration, event.Event.TheVariants.{Dedicated, Sleep, Turn}, state.MailMessage.MailMessage, step.Action.Action as action}, Callers.is_enabled, Deadlines.next_due, Tests.{has_ended, is_empty}, World.{Common, seat_of, own_of, Own as Books}}
use Rattle.exec_moves.specs.{declared.{idling.{InLook.InLook, InRingWait.InRingWait, InScan.InScan, InSearch.{InSearch, InSearch as search}, InWordWait.InWordWait, Stay.Stay}, place.{Found.Found, Place.{Place, Place as at}}}, Callback.has_callbacks, Load.{has_come, has_submissions, is_ready, leaves_for_turn, test_for_work}, Move.{move, move_at, move_look, move_ring_wait, move_scan, move_search, move_word_wait}, Plays.{Playing, by_move, desk_of}, State.{Desk, Moved, Own, Things, does, turns}, Wait.noting_sleep}
use Rattle.exec_rest.{specs.{Posted.has_tested, Rested.{IsLaidOut, place_at}}, proofs.{Continuing.{light_leaves_for_turn, calm_light}, FactsA.seated, Frames.{desk_other, desk_own}, Away.calm_untested, Untested.{is_test, untested}}}

-- Nothing is to be done: the root isn't to be polled, and all that was taken is applied.
abbrev pub IsClear : Desk → Type 0
IsClear d = (d.root_ready ≡ false) × (d.batch ≡ [])

-- FROM A PLACE TO THE NEXT: neither changes
abbrev IsLeft : Desk → Desk → Type 0
IsLeft d e = (e.root_ready ≡ d.root_ready) × (e.batch ≡ d.batch)

left_if : {T : Type 0} (d : Desk) (b : Bool) (m m' : Moved T) → IsLeft d m.desk → IsLeft d m'.desk → IsLeft d (if b then m else m').desk
left_if d true m m' one other = one
left_if d false m m' one other = other

module _ (c : Configuration) (i : ℕ) (me : Books) (s : Common) (d : Desk) (x : Things) where
  searches : (p : InSearch) → IsLeft d (move_search c d x p).desk
  searches search.LoadSearchCount = (refl, refl)
  searches search.AddSearchCount = (refl, refl)

  scans : (p : InScan) → IsLeft d (move_scan c i me s d x p).desk
  scans = grind arith

  looks : (p : InLook) → IsLeft d (move_look c i s d x p).desk
  looks = grind arith

  waits_on_ring : (p : InRingWait) (y : Stay) → IsLeft d (move_ring_wait c i me s d x p y).desk
  waits_on_ring = grind arith

  -- the moment of a sleep is noted
  noted : (w : PureWord) (due : Bool) (e : Desk) → IsLeft e (noting_sleep s.clock (if due then does Turn e w else does (Sleep (next_due s i)) e w)).desk
  noted w true e = (refl, refl)
  noted w false e = (refl, refl)

  waits_on_word : (p : InWordWait) → IsLeft d (move_word_wait i s d x p).desk
  waits_on_word = grind arith

  left_there : (p : Place) → has_tested p ≡ true → IsLeft d (move_at c i me s d x p).desk
  left_there at.ReadClock within = left_if d (has_come s.clock (next_due s i)) _ _ (refl, refl) (refl, refl)
  left_there (at.Search p) within = searches p
  left_there (at.Scan p) within = scans p
  left_there (at.Look p) within = looks p
  left_there (at.RingWait p y) within = waits_on_ring p y
  left_there (at.WordWait p) within = waits_on_word p
  left_there (at.Withdraw n) within = (refl, refl)
  left_there _ within = absurd (false≢true within)

  -- FROM THE TEST: it finds nothing
  clear_by : (found flag calls work : Bool) (ms : List MailMessage) → ((found || flag || calls || not (is_empty ms)) || work) ≡ false → (flag ≡ false) × (ms ≡ [])
  clear_by = grind arith

  tested_now : (f : Found) → has_tested (test_for_work c i me s f d).desk.place ≡ true → IsClear (test_for_work c i me s f d).desk
  tested_now f = by (is_ready me f d || has_submissions c me) (clear_by f.ready d.root_ready (has_callbacks me d) (has_submissions c me) d.batch)
    where
      by : (b : Bool) → (b ≡ false → IsClear d) → has_tested (if b then turns {T = Own} (leaves_for_turn c i me s d) d tt else turns {T = Own} at.ReadClock d tt).desk.place ≡ true
          → IsClear (if b then turns {T = Own} (leaves_for_turn c i me s d) d tt else turns {T = Own} at.ReadClock d tt).desk
      by true clear h = absurd (false≢true (sym (calm_untested _ (calm_light _ (light_leaves_for_turn c i me s d))) ∙ h))
      by false clear h = clear refl

  tested_by : (p : Place) → is_test p ≡ true → has_tested (move_at c i me s d x p).desk.place ≡ true → IsClear (move_at c i me s d x p).desk
  tested_by (at.TestForWork f) is = tested_now f
  tested_by _ is = absurd (false≢true is)

  -- A MOVE
  pub tested_move : (has_tested d.place ≡ true → IsClear d) → has_tested (move c i me s d x).desk.place ≡ true → IsClear (move c i me s d x).desk
  tested_move before after = elim (cases_Bool (has_tested d.place)) [
    | inl within ↦ let same = left_there d.place within in let clear = before within in (same.0 ∙ clear.0, same.1 ∙ clear.1)
    | inr out ↦ grind (arith, cases_Bool, is_test, tested_by, false≢true, untested)
  ]

-- A STEP OF A WORKER, after which all others stand where they stood
module _ (c : Configuration) (x : Playing) (laid : IsLaidOut c x) (i : ℕ) (may : is_enabled x.world.common (action.Work i) ≡ true) where
  abbrev s : Common
  s = x.world.common

  abbrev m : Moved Things
  m = move c i (own_of x.world i) s (desk_of c x i) x.things

  abbrev next : Playing
  next = (by_move c x i m).next

  -- it hasn't ended, and so it is one of the workers
  going : not (has_ended (seat_of s i).phase) ≡ true
  going = grind arith

  within : i < length x.desks
  within = subst (λ n. i < n) (sym laid.desks) (seated s (λ seat. not (has_ended seat.phase)) true false≢true i going)

  abbrev Holds : Desk → Type 0
  Holds d = has_tested d.place ≡ true → IsClear d

  pub tested_then : ((t k : ℕ) → m.event ≡ Dedicated t k → k ≡ length s.seats)
      → ((k : ℕ) → has_tested (place_at c x k) ≡ true → IsClear (desk_of c x k)) → (k : ℕ) → has_tested (place_at c next k) ≡ true → IsClear (desk_of c next k)
  tested_then born before k = elim (cases_eq k i) [
    | inl own ↦ subst (λ j. Holds (desk_of c next j)) (sym own) (subst Holds (sym (desk_own c x i m within)) (tested_move c i (own_of x.world i) s (desk_of c x i) x.things (before i)))
    | inr apart ↦ subst Holds (sym (desk_other c x i m (λ t j is. born t j is ∙ sym laid.desks) k apart)) (before k)
  ]
