-- Each move of a worker does what permits ask for.
use Rattle.std.proofs.Common.{◌≡◌, ℕ, false, refl, sym, ap, ◌∙◌}
use Rattle.exec_machine.specs.{declared.config.Configuration.Configuration, After.common_after, World.{Common, Own as Books}}
use Rattle.exec_moves.specs.{declared.place.Place.{Place, Place as at}, Move.{move, move_at}, State.{Desk, Things}}
use Rattle.exec_settled.{specs.Given.ends_in_search, proofs.{HandsServe.{AreOfGate, AreUndated}, Hands.Hands, HandsIdle.{loads, looks, reads, ring_waits, scans, searches, tests, withdraws_by, word_waits}, HandsMovesA.{begins, claims, globals, kicks, leaves, mails, picks, pops_one, pushes, signalled, takes_flag}, HandsMovesB.{calls, closes, sends_cancel}, HandsPlain.{HandsBy, plain_hands}, HandsPoll.polls, HandsService.service}}

module _ (c : Configuration) (i : ℕ) (me : Books) (s : Common) (d : Desk) (x : Things) (undated : AreUndated s) (of_gate : AreOfGate s x) (off : ends_in_search d.place ≡ false) where
  hands_in : (p : Place) → d.place ≡ p → HandsBy c i me s d x d (move_at c i me s d x p)
  hands_in at.BeginTurn is = plain_hands c i me s d x at.BeginTurn _ is refl refl (begins c i me s d x)
  hands_in (at.Pick p) is = plain_hands c i me s d x (at.Pick p) _ is refl refl (picks c i me s d x p)
  hands_in at.TakeRootFlag is = plain_hands c i me s d x at.TakeRootFlag _ is refl refl (takes_flag c i me s d x)
  hands_in (at.Poll t p) is = polls c i me s d x t p is
  hands_in (at.Callbacks p n) is = plain_hands c i me s d x (at.Callbacks p n) _ is refl refl (calls c i me s d x p n)
  hands_in (at.Loads p r) is = plain_hands c i me s d x (at.Loads p r) _ is refl refl (loads c i me s d x p r)
  hands_in (at.Service p v) is = service c i me s d x v undated of_gate p is
  hands_in (at.Mail p) is = plain_hands c i me s d x (at.Mail p) _ is refl refl (mails c i me s d x p)
  hands_in (at.TestForWork found) is = plain_hands c i me s d x (at.TestForWork found) _ is refl refl (tests c i me s d x found)
  hands_in at.ReadClock is = plain_hands c i me s d x at.ReadClock _ is refl refl (reads c i me s d x)
  hands_in (at.Search p) is = plain_hands c i me s d x (at.Search p) _ is refl refl (searches c i me s d x p)
  hands_in (at.Scan p) is = plain_hands c i me s d x (at.Scan p) _ is refl refl (scans c i me s d x p)
  hands_in (at.Look p) is = plain_hands c i me s d x (at.Look p) _ is refl refl (looks c i me s d x p)
  hands_in (at.RingWait p y) is = plain_hands c i me s d x (at.RingWait p y) _ is refl refl (ring_waits c i me s d x p y (ap ends_in_search (sym is) ∙ off))
  hands_in (at.WordWait p) is = plain_hands c i me s d x (at.WordWait p) _ is refl refl (word_waits c i me s d x p)
  hands_in (at.Withdraw n) is = plain_hands c i me s d x (at.Withdraw n) _ is refl refl (withdraws_by c i me s d x n)
  hands_in (at.Closing p) is = plain_hands c i me s d x (at.Closing p) _ is refl refl (closes c i me s d x p)
  hands_in (at.Pop p b) is = plain_hands c i me s d x (at.Pop p b) _ is refl refl (pops_one c i me s d x p b)
  hands_in (at.LeaveSearch b) is = plain_hands c i me s d x (at.LeaveSearch b) _ is refl refl (leaves c i me s d x b)
  hands_in (at.Push p b) is = plain_hands c i me s d x (at.Push p b) _ is refl refl (pushes c i me s d x p b)
  hands_in (at.Global p b) is = plain_hands c i me s d x (at.Global p b) _ is refl refl (globals c i me s d x p b)
  hands_in (at.Kick p b) is = plain_hands c i me s d x (at.Kick p b) _ is refl refl (kicks c i me s d x p b)
  hands_in (at.ClaimWorker set b) is = plain_hands c i me s d x (at.ClaimWorker set b) _ is refl refl (claims c i me s d x set b)
  hands_in (at.Signal p j b) is = plain_hands c i me s d x (at.Signal p j b) _ is refl refl (signalled c i me s d x p j b)
  hands_in (at.SendCancel b) is = plain_hands c i me s d x (at.SendCancel b) _ is refl refl (sends_cancel c i me s d x b)

-- where who stands first at a gate is of its open, and no wait ends for a scan
pub hands_at : (c : Configuration) (i : ℕ) (me : Books) (s : Common) (d : Desk) (x : Things) → AreUndated s → AreOfGate s x → ends_in_search d.place ≡ false
    → let m = move c i me s d x in Hands i s d x m (common_after c me s i m.event m.choice)
hands_at c i me s d x undated of_gate off = hands_in c i me s d x undated of_gate off d.place refl
