-- At each place a quiet move of an open worker costs some of what it has left, while nobody closes.
use Rattle.std.proofs.Common.{ℕ}
use Rattle.exec_machine.specs.{declared.config.Configuration.Configuration, World.{Common, Own as Books}}
use Rattle.exec_moves.specs.{declared.place.{InService.InService, Place.Place, Service.Service}, State.{Desk, Things}}
use Rattle.exec_progress.{specs.Going.FallsAt, proofs.{Turning.{begins, picks, takes_flag}, Popping.pops, Polling.polls_task, Closing.{closes, sends_cancel}, Calling.calls_back, Loading.loads, Testing.{reads_clock, tests}, Serving.{advances, ends_service, enters_last, reaps, samples}, Permits.{passes_permit, raises_in_service, signals_in_service}, Submitting.submits, Mailing.opens_mail, RingWaits.waits_on_ring, WordWaits.waits_on_word, Withdrawing.withdraws, Searching.searches, Scanning.scans, Looking.looks, Pushing.pushes, Claiming.{claims_worker, signals}, Kicking.{kicks, leaves}, Appending.goes_global}}

module _ (c : Configuration) (i : ℕ) (me : Books) (s : Common) (d : Desk) (x : Things) where
  serves : (p : InService) (v : Service) → FallsAt c i me s d x (Place.Service p v)
  serves InService.Sample v = samples c i me s d x v
  serves (InService.Reap r) v = reaps c i me s d x r v
  serves (InService.PassPermit file b) v = passes_permit c i me s d x file b v
  serves (InService.Signal j b) v = signals_in_service c i me s d x j b v
  serves (InService.Raise ring j b) v = raises_in_service c i me s d x ring j b v
  serves InService.AdvanceWheel v = advances c i me s d x v
  serves (InService.Submit gate) v = submits c i me s d x gate v
  serves InService.EnterLast v = enters_last c i me s d x v
  serves InService.EndService v = ends_service c i me s d x v

  pub falls_at : (p : Place) → FallsAt c i me s d x p
  falls_at Place.BeginTurn = begins c i me s d x
  falls_at (Place.Pick p) = picks c i me s d x p
  falls_at Place.TakeRootFlag = takes_flag c i me s d x
  falls_at (Place.Poll t p) = polls_task c i me s d x t p
  falls_at (Place.Callbacks p n) = calls_back c i me s d x p n
  falls_at (Place.Loads p r) = loads c i me s d x p r
  falls_at (Place.Service p v) = serves p v
  falls_at (Place.Mail p) = opens_mail c i me s d x p
  falls_at (Place.TestForWork f) = tests c i me s d x f
  falls_at Place.ReadClock = reads_clock c i me s d x
  falls_at (Place.Search p) = searches c i me s d x p
  falls_at (Place.Scan p) = scans c i me s d x p
  falls_at (Place.Look p) = looks c i me s d x p
  falls_at (Place.RingWait p y) = waits_on_ring c i me s d x p y
  falls_at (Place.WordWait p) = waits_on_word c i me s d x p
  falls_at (Place.Withdraw n) = withdraws c i me s d x n
  falls_at (Place.Closing p) = closes c i me s d x p
  falls_at (Place.Pop p b) = pops c i me s d x p b
  falls_at (Place.LeaveSearch b) = leaves c i me s d x b
  falls_at (Place.Push p b) = pushes c i me s d x p b
  falls_at (Place.Global p b) = goes_global c i me s d x p b
  falls_at (Place.Kick p b) = kicks c i me s d x p b
  falls_at (Place.ClaimWorker set b) = claims_worker c i me s d x set b
  falls_at (Place.Signal p j b) = signals c i me s d x p j b
  falls_at (Place.SendCancel b) = sends_cancel c i me s d x b
