-- Each move of a worker tells what it has to.
use Rattle.std.proofs.Common.{◌≡◌, ℕ, refl}
use Rattle.exec_machine.specs.{declared.config.Configuration.Configuration, After.common_after, World.{Common, Own as Books}}
use Rattle.exec_moves.specs.{declared.place.Place.{Place, Place as at}, Move.{move, move_at}, State.{Desk, Things}}
use Rattle.exec_settled.proofs.{Tells.Tells, TellsCallbacks.calls, TellsClosing.{closings, mails}, TellsPlain.TellsAll, TellsPolling.polls, TellsQuiet.{begins, claims, globals, kicks, leaves, loads, looks, picks, pops_one, pushes, reads, ring_wait, scans, searches, sends_cancel, signalled, takes_flag, tests, withdraws, word_wait}, TellsServing.service}

module _ (c : Configuration) (i : ℕ) (me : Books) (s : Common) (d : Desk) (x : Things) where
  tells_from : (p : Place) → d.place ≡ p → TellsAll c i me s d x (move_at c i me s d x p)
  tells_from at.BeginTurn h = begins c i me s d x h
  tells_from (at.Pick p) h = picks c i me s d x p h
  tells_from at.TakeRootFlag h = takes_flag c i me s d x h
  tells_from (at.Poll t p) h = polls c i me s d x t p h
  tells_from (at.Callbacks p n) h = calls c i me s d x n p h
  tells_from (at.Loads p r) h = loads c i me s d x p r h
  tells_from (at.Service p v) h = service c i me s d x v p h
  tells_from (at.Mail p) h = mails c i me s d x p h
  tells_from (at.TestForWork f) h = tests c i me s d x f h
  tells_from at.ReadClock h = reads c i me s d x h
  tells_from (at.Search p) h = searches c i me s d x p h
  tells_from (at.Scan p) h = scans c i me s d x p h
  tells_from (at.Look p) h = looks c i me s d x p h
  tells_from (at.RingWait p y) h = ring_wait c i me s d x p y h
  tells_from (at.WordWait p) h = word_wait c i me s d x p h
  tells_from (at.Withdraw n) h = withdraws c i me s d x n h
  tells_from (at.Closing p) h = closings c i me s d x p h
  tells_from (at.Pop p b) h = pops_one c i me s d x p b h
  tells_from (at.LeaveSearch b) h = leaves c i me s d x b h
  tells_from (at.Push p b) h = pushes c i me s d x p b h
  tells_from (at.Global p b) h = globals c i me s d x p b h
  tells_from (at.Kick p b) h = kicks c i me s d x p b h
  tells_from (at.ClaimWorker set b) h = claims c i me s d x set b h
  tells_from (at.Signal p j b) h = signalled c i me s d x p j b h
  tells_from (at.SendCancel b) h = sends_cancel c i me s d x b h

pub tells_at : (c : Configuration) (i : ℕ) (me : Books) (s : Common) (d : Desk) (x : Things) → let m = move c i me s d x in Tells i s d x m (common_after c me s i m.event m.choice)
tells_at c i me s d x = tells_from c i me s d x d.place refl
