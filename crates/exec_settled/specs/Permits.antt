-- NO PERMIT IS LEFT WITH WHO SLEEPS. A permit goes on as its holder's request ends: the machine has its next holder at once. Others see
-- that as the gate is left, by the next step of the worker that has it, which then puts the latch into the wake word of the next
-- holder's worker. That takes the latch out only where a service is ahead, in which it looks at the gates of its requests, one after the other.
use Rattle.std.specs.Prelude.{◌≡◌, ℕ, Bool, true, false, not, ◌||◌, ◌⊎◌, nat_lt, slice_get, Option, Some, None}
use Rattle.exec_machine.specs.{declared.config.Configuration.Configuration, Tests.{is_gated}, World.{Common, open_of, request_of}}
use Rattle.exec_moves.specs.{declared.{handing.{AfterCallbacks.AfterCallbacks, AfterClaim.AfterClaim, AfterKick.AfterKick, AfterLeave.AfterLeave, AfterPush.AfterPush, AfterSignal.AfterSignal}, idling.{AfterWait.AfterWait}, place.{AfterPermit.AfterPermit, AfterService.AfterService, InService.InService, Place.Place, Reaping.Reaping, Round.Round}}, Plays.Playing, State.gate_of}
use Rattle.exec_rest.specs.Rested.{is_latched, place_at}
use Rattle.exec_settled.specs.Given.{gives_up, passes_at}

-- IT HAS PASSED THE GATE of this open in the service of this turn, or comes to no service before it may sleep.

abbrev pub is_past_reaping : Reaping → Bool
is_past_reaping Reaping.First = false
is_past_reaping Reaping.Last = true

abbrev pub is_past_permit : ℕ → AfterPermit → Bool
is_past_permit file (AfterPermit.Reap r) = is_past_reaping r
is_past_permit file (AfterPermit.Reaped r) = is_past_reaping r
is_past_permit file (AfterPermit.Submit gate) = nat_lt file gate

abbrev pub is_past_in : ℕ → InService → Bool
is_past_in file (InService.Reap r) = is_past_reaping r
is_past_in file (InService.PassPermit other b) = is_past_permit file b
is_past_in file (InService.Signal j b) = is_past_permit file b
is_past_in file (InService.Raise ring j b) = is_past_permit file b
is_past_in file (InService.Submit gate) = nat_lt file gate
is_past_in file InService.EnterLast = true
is_past_in file InService.EndService = true
is_past_in file _ = false

-- after the service of a turn come the mailbox, the callbacks and the test, and after that of a closing worker the callbacks and
-- a wait on its ring; after any other another turn
abbrev pub is_past_callbacks : AfterCallbacks → Bool
is_past_callbacks AfterCallbacks.Test = true
is_past_callbacks AfterCallbacks.Finish = true
is_past_callbacks _ = false

abbrev pub is_past_push : AfterPush → Bool
is_past_push (AfterPush.CallBack n) = is_past_callbacks n
is_past_push _ = false

abbrev pub is_past_leave : AfterLeave → Bool
is_past_leave (AfterLeave.CallBack n) = is_past_callbacks n
is_past_leave _ = false

abbrev pub is_past_kick : AfterKick → Bool
is_past_kick (AfterKick.Leave b) = is_past_leave b
is_past_kick (AfterKick.Push b) = is_past_push b

abbrev pub is_past_signal : AfterSignal → Bool
is_past_signal (AfterSignal.Claim (AfterClaim.Kick b)) = is_past_kick b
is_past_signal (AfterSignal.Claim (AfterClaim.Global b)) = is_past_push b
is_past_signal (AfterSignal.Send b) = false

abbrev pub is_past : ℕ → Place → Bool
is_past file (Place.Service p v) = is_past_at file p v.back
  where
    is_past_at : ℕ → InService → AfterService → Bool
    is_past_at file p AfterService.Mail = is_past_in file p
    is_past_at file p AfterService.Finish = is_past_in file p
    is_past_at file p AfterService.Begin = false
is_past file (Place.Mail p) = true
is_past file (Place.Callbacks p n) = is_past_callbacks n
is_past file (Place.Loads p Round.Second) = true
is_past file (Place.TestForWork f) = true
is_past file Place.ReadClock = true
is_past file (Place.Search p) = true
is_past file (Place.Scan p) = true
is_past file (Place.Look p) = true
is_past file (Place.RingWait p y) = true
is_past file (Place.WordWait p) = true
is_past file (Place.Withdraw AfterWait.Search) = true
is_past file (Place.LeaveSearch b) = is_past_leave b
is_past file (Place.Push p b) = is_past_push b
is_past file (Place.Global p b) = is_past_push b
is_past file (Place.Kick p b) = is_past_kick b
is_past file (Place.ClaimWorker set (AfterClaim.Kick b)) = is_past_kick b
is_past file (Place.ClaimWorker set (AfterClaim.Global b)) = is_past_push b
is_past file (Place.Signal p j b) = is_past_signal b
is_past file _ = false

-- it puts the latch into the wake word of this worker next, since a permit goes to a request of that
abbrev pub hands_to : Place → Option ℕ
hands_to (Place.Service (InService.Signal j b) v) = Some j
hands_to _ = None

module _ (c : Configuration) (x : Playing) where
  abbrev s : Common
  s = x.world.common

  -- somebody passes the permit of this open on next, or signals worker i since it did
  abbrev pub IsPassing : ℕ → Type 0
  IsPassing file = (j : ℕ) × (passes_at (place_at c x j) ≡ Some file)

  abbrev pub IsHanded : ℕ → Type 0
  IsHanded i = (j : ℕ) × (hands_to (place_at c x j) ≡ Some i)

  pub record IsPermitted : Type 0 where
    -- a holder that is over leaves its gate next
    pub passed : (file k : ℕ) → slice_get (gate_of x.things file) 0 ≡ Some k → gives_up (request_of s k) ≡ true → IsPassing file
    -- a request that has a permit and wasn't granted it: its worker is told, or was told, or looks at the gate in a service that is ahead
    pub granted : (k : ℕ) → let it = request_of s k in is_gated it.phase ≡ true → (open_of s it.operation.target).holder ≡ Some k
        → IsPassing it.operation.target ⊎ (IsHanded it.worker ⊎ ((is_latched c x it.worker || not (is_past it.operation.target (place_at c x it.worker))) ≡ true))
