-- What is known of a worker or a caller by its place, as far as others rely on it to look again, or are owed a signal.
use Rattle.std.specs.Prelude.{ℕ, Bool, true, false, not, ◌&&◌, Option, Some, None}
use Rattle.exec_machine.specs.Same.{is_none}
use Rattle.exec_words.specs.declared.word.WaitTarget.{WaitTarget, WaitTarget as target}
use Rattle.exec_moves.specs.declared.{handing.{AfterClaim.AfterClaim, CallPlace.CallPlace, InGlobal.InGlobal, InSignal.InSignal}, idling.{AfterWait.AfterWait, InLook.InLook, InRingWait.InRingWait, InWordWait.InWordWait, Stay.Stay}, place.{InLoads.InLoads, InService.InService, Place.Place, Round.Round}}

-- THE IDLE SET

-- its own bit was put in by itself, and it hasn't taken it out yet
abbrev pub is_published : Place → Bool
is_published (Place.Look InLook.Publish) = false
is_published (Place.Look InLook.ReturnClaimed) = false
is_published (Place.Look x) = true
is_published (Place.RingWait x Stay.Turn) = true
is_published (Place.WordWait x) = true
is_published (Place.Withdraw n) = true
is_published _ = false

-- it takes its bit out next
abbrev pub is_withdrawing : Place → Bool
is_withdrawing (Place.Withdraw n) = true
is_withdrawing _ = false

-- with its bit in it found the global queue empty
abbrev pub has_looked : Place → Bool
has_looked (Place.Look InLook.LookAtCount) = true
has_looked (Place.Look (InLook.LookAtHead j)) = true
has_looked (Place.Look (InLook.LookAtTail j h)) = true
has_looked (Place.Look InLook.ExchangeLookCount) = true
has_looked (Place.RingWait x Stay.Turn) = true
has_looked (Place.WordWait x) = true
has_looked _ = false

-- only a worker of the pool comes here
abbrev pub is_pooled : Place → Bool
is_pooled (Place.Search x) = true
is_pooled (Place.Scan x) = true
is_pooled (Place.Look x) = true
is_pooled (Place.Withdraw n) = true
is_pooled _ = false

-- THE OWN RUN QUEUE

-- it found its own run queue empty, and has put nothing there since
abbrev pub is_dry : Place → Bool
is_dry (Place.Loads (InLoads.LoadOwnMirror f) Round.Second) = not f.ready
is_dry (Place.Loads (InLoads.LoadOwnWord f) Round.Second) = not f.ready
is_dry (Place.TestForWork f) = not f.ready
is_dry Place.ReadClock = true
is_dry (Place.Search x) = true
is_dry (Place.Scan x) = true
is_dry (Place.Look x) = true
is_dry (Place.RingWait x Stay.Turn) = true
is_dry (Place.WordWait x) = true
is_dry (Place.Withdraw AfterWait.Search) = true
is_dry _ = false

-- THE WAKE WORD

-- what its wake word says that it waits on
abbrev pub waits_on : Place → WaitTarget
waits_on (Place.WordWait InWordWait.SleepOnWord) = target.Sleeping
waits_on (Place.WordWait InWordWait.DisarmWord) = target.Sleeping
waits_on (Place.RingWait InRingWait.EnterRing x) = target.Ring
waits_on (Place.RingWait InRingWait.SleepOnRing x) = target.Ring
waits_on (Place.RingWait (InRingWait.DisarmRing n) x) = target.Ring
waits_on _ = target.None

-- the place from which it goes on once it slept
abbrev pub is_abed : Place → Bool
is_abed (Place.WordWait InWordWait.DisarmWord) = true
is_abed (Place.RingWait (InRingWait.DisarmRing AfterWait.Begin) x) = true
is_abed _ = false

-- it sleeps on its ring without another look at its wake word; before that it enters its ring, or not
abbrev pub is_to_enter : Place → Bool
is_to_enter (Place.RingWait InRingWait.EnterRing x) = true
is_to_enter _ = false

abbrev pub is_to_sleep_on_ring : Place → Bool
is_to_sleep_on_ring (Place.RingWait InRingWait.SleepOnRing x) = true
is_to_sleep_on_ring _ = false

-- its wake poll was asked for
abbrev pub asked_for_poll : Place → Bool
asked_for_poll (Place.RingWait InRingWait.ArmRing x) = true
asked_for_poll (Place.RingWait InRingWait.EnterRing x) = true
asked_for_poll (Place.RingWait InRingWait.SleepOnRing x) = true
asked_for_poll _ = false

-- WHAT IT OWES

-- it puts the latch into the wake word of this worker next, or ends the wait of this worker: of the ring, or of the word
abbrev pub signals : Place → Option ℕ
signals (Place.Signal InSignal.SetLatch j b) = Some j
signals _ = None

pub record Raising : Type 0 where
  pub worker : ℕ
  pub ring : Bool

abbrev pub raises : Place → Option Raising
raises (Place.Signal (InSignal.Raise ring) j b) = Some (record { worker = j; ring = ring })
raises (Place.Service (InService.Raise ring j b) v) = Some (record { worker = j; ring = ring })
raises _ = None

-- it has put something into the global queue, and looks for a published worker, or claims one
abbrev pub owes : Place → Bool
owes (Place.Global InGlobal.LoadGlobalSet b) = true
owes (Place.Global (InGlobal.AddGlobalCount set) b) = true
owes (Place.ClaimWorker set (AfterClaim.Global b)) = true
owes _ = false

abbrev pub owes_nothing : Place → Bool
owes_nothing p = is_none (signals p) && is_none (raises p) && not (owes p)

-- the same of a caller
abbrev pub call_signals : CallPlace → Option ℕ
call_signals (CallPlace.Signal InSignal.SetLatch j) = Some j
call_signals _ = None

abbrev pub call_raises : CallPlace → Option Raising
call_raises (CallPlace.Signal (InSignal.Raise ring) j) = Some (record { worker = j; ring = ring })
call_raises _ = None

abbrev pub call_owes : CallPlace → Bool
call_owes (CallPlace.Global InGlobal.LoadGlobalSet) = true
call_owes (CallPlace.Global (InGlobal.AddGlobalCount set)) = true
call_owes (CallPlace.ClaimWorker set) = true
call_owes _ = false

-- it has a call half done
abbrev pub is_in_call : CallPlace → Bool
is_in_call CallPlace.Nothing = false
is_in_call _ = true
