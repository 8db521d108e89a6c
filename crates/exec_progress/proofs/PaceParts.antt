-- Calm places, and that the parts lead to such.
use Rattle.std.{proofs.Common.{◌≡◌, ℕ, Bool, true, false, ◌-◌, ◌==◌, Option, Some, None, if◌then◌else◌, arith}, specs.Prelude.{nat_le, nat_lt, not}}
use Rattle.exec_words.specs.declared.{head.{Fit.Fit, Head.Head}, word.WaitTarget.WaitTarget as target}
use Rattle.exec_machine.specs.{declared.{config.Configuration.Configuration, state.{Waiting.{Waiting, Waiting as waiting}, Request.Request}}, Ranges.ring_size, World.{Common, Own as Books}}
use Rattle.exec_moves.specs.{declared.{handing.{AfterCallbacks.AfterCallbacks, AfterClaim.{AfterClaim, AfterClaim as claim}, AfterKick.{AfterKick, AfterKick as kick}, AfterLeave.AfterLeave, AfterPush.{AfterPush, AfterPush as push}, AfterSignal.{AfterSignal, AfterSignal as signal}, InSignal.InSignal as signals}, idling.{AfterWait.{AfterWait, AfterWait as later}, Scan.Scan, Stay.{Stay, Stay as stay}, InLook.InLook as look, InRingWait.InRingWait as ring, InScan.InScan as scan, InWordWait.InWordWait as word}, place.{AfterService.AfterService, Place.{Place, Place as at}, Round.Round as round, AfterPermit.AfterPermit, InService.{InService, InService as step}, Service.Service, InLoads.InLoads as load}}, Callback.{has_callbacks, is_of_pool, next_callback, to_queue}, Claim.{Claimed, after_claim}, Look.{after_withdrawal, looks_from, past_own}, Parts.{after_kick, after_leave, after_push, after_return, after_signal, has_others}, Poll.after_begin, Push.after_fit, Search.{judge_head, judge_tail, looks_at, past, past_own_queue}, Send.after_spawn, Serve.{after_service, after_passing, after_permit, after_reap}, State.Desk, Wait.{after_wait, first_search, waits, withdraws}}
use Rattle.exec_outcomes.specs.{declared.outcome.Outcome.Outcome, Accounts.is_durable}
use Rattle.exec_rest.{specs.Places.waits_on, proofs.Continuing.{is_light, light_next_pick, light_after_send}}
use Rattle.exec_progress.specs.Going.{raises_itself}

-- CALM PLACES: nothing is to be known there beside what keeps from move to move. Queues are loaded by a worker of the pool alone, a spin begins with
-- the budget, and nothing quiet is left of the callbacks before the test for work.
abbrev pub Calm : Bool → ℕ → Bool → Place → Type 0
Calm pool budget quiet (at.Loads load.LoadOwnHead round.First) = pool ≡ true
Calm pool budget quiet (at.Loads load.LoadOwnHead round.Second) = (pool ≡ true) × (quiet ≡ true)
Calm pool budget quiet (at.Loads (load.LoadOwnMirror f) round.First) = pool ≡ true
Calm pool budget quiet (at.Loads (load.LoadOwnMirror f) round.Second) = (pool ≡ true) × (quiet ≡ true)
Calm pool budget quiet (at.Loads (load.LoadOwnWord f) round.Second) = quiet ≡ true
Calm pool budget quiet (at.TestForWork f) = quiet ≡ true
Calm pool budget quiet (at.Scan (scan.MoveHalf from h)) = ⊥
Calm pool budget quiet (at.Scan (scan.ReleaseHalf from h)) = ⊥
Calm pool budget quiet (at.Scan scan.StoreMoved) = ⊥
Calm pool budget quiet (at.Look look.ReturnLookCount) = ⊥
Calm pool budget quiet (at.RingWait ring.EnterRing y) = ⊥
Calm pool budget quiet (at.RingWait ring.SleepOnRing y) = ⊥
Calm pool budget quiet (at.RingWait (ring.DisarmRing n) y) = ⊥
Calm pool budget quiet (at.WordWait (word.SpinOnBatch left)) = left ≡ budget
Calm pool budget quiet (at.WordWait (word.SpinOnLatch left)) = ⊥
Calm pool budget quiet (at.WordWait word.SleepOnWord) = ⊥
Calm pool budget quiet (at.WordWait word.DisarmWord) = ⊥
Calm pool budget quiet (at.Signal (signals.Raise is_ring) j b) = ⊥
Calm pool budget quiet (at.Service (step.Raise is_ring j b) v) = ⊥
Calm pool budget quiet _ = Unit {0}

-- WILD PLACES, whose moves lead elsewhere, or change the spinner
abbrev pub is_wild : Place → Bool
is_wild (at.Look look.Publish) = true
is_wild (at.Scan (scan.ClaimHalf y h tail)) = true
is_wild (at.Scan (scan.MoveHalf from h)) = true
is_wild (at.Scan (scan.ReleaseHalf from h)) = true
is_wild (at.RingWait ring.ArmRing y) = true
is_wild (at.RingWait ring.EnterRing y) = true
is_wild (at.RingWait ring.SleepOnRing y) = true
is_wild (at.WordWait (word.SpinOnBatch left)) = true
is_wild (at.WordWait (word.SpinOnLatch left)) = true
is_wild (at.WordWait word.ArmWord) = true
is_wild (at.WordWait word.SleepOnWord) = true
is_wild (at.WordWait word.DisarmWord) = true
is_wild (at.Signal signals.SetLatch j b) = true
is_wild (at.Service (step.Signal j b) v) = true
is_wild _ = false

module _ (pool : Bool) (budget : ℕ) (quiet : Bool) where
  pub calm_waits : (p : Place) → Calm pool budget quiet p → waits_on p ≡ target.None
  calm_waits = grind arith

  pub calm_there : (p : Place) → is_light p ≡ true → Calm pool budget quiet p
  calm_there = grind arith

  pub calm_raises : (i : ℕ) (p : Place) → Calm pool budget quiet p → raises_itself i p ≡ false
  calm_raises = grind arith

module _ (c : Configuration) (i : ℕ) (me : Books) (s : Common) (budget : ℕ) (quiet : Bool) where
  abbrev pub Fair : Place → Type 0
  Fair p = Calm (is_of_pool s i) budget quiet p

  -- by a test, this or that
  pub fair_if : (b : Bool) (p q : Place) → Fair p → Fair q → Fair (if b then p else q)
  fair_if true p q one other = one
  fair_if false p q one other = other

  -- WHERE THE PARTS LEAD

  pub queued : (b : AfterPush) → Fair (to_queue s i b)
  queued b = fair_if (is_of_pool s i) _ _ tt tt

  pub spawned : (t : ℕ) → Fair (after_spawn c i s t)
  spawned t = fair_if (not (is_of_pool s i)) _ _ tt (fair_if (has_others c) _ _ tt tt)

  pub begun : (t : ℕ) (w : Waiting) → Fair (at.Poll t (after_begin w))
  begun t waiting.Nothing = tt
  begun t _ = tt

  pub left : (b : AfterLeave) (d : Desk) → Fair (after_leave c i me s b d)
  left = grind arith

  pub returned : (last : Bool) (b : AfterLeave) (d : Desk) → Fair (after_return c i me s last b d)
  returned last b d = fair_if last _ _ tt (left b d)

  -- once no callback is left nothing quiet is
  pub calling : (books : Books) (n : AfterCallbacks) (d : Desk) → (has_callbacks books d ≡ false → quiet ≡ true) → Fair (next_callback (ring_size c) i books s n d)
  calling = grind arith

  pub pushed : (b : AfterPush) (d : Desk) → (has_callbacks me d ≡ false → quiet ≡ true) → Fair (after_push c i me s b d)
  pushed (push.Act t) d none = tt
  pushed push.Pick d none = calm_there _ _ _ _ (light_next_pick d)
  pushed (push.CallBack n) d none = calling me n d none

  pub fitted : (b : AfterPush) (h : Head) (f : Fit) → Fair (after_fit b h f)
  fitted = grind arith

  pub kicked : (b : AfterKick) (d : Desk) → (has_callbacks me d ≡ false → quiet ≡ true) → Fair (after_kick c i me s b d)
  kicked (kick.Leave b) d none = left b d
  kicked (kick.Push b) d none = pushed b d none

  pub signalled : (b : AfterSignal) (d : Desk) → (has_callbacks me d ≡ false → quiet ≡ true) → Fair (after_signal c i me s b d)
  signalled (signal.Claim (claim.Kick b)) d none = kicked b d none
  signalled (signal.Claim (claim.Global b)) d none = pushed b d none
  signalled (signal.Send b) d none = calm_there _ _ _ _ (light_after_send c b d)

  pub claiming : (b : AfterClaim) (y : Claimed) → Fair (after_claim b y)
  claiming = grind arith

  pub served : (b : AfterService) (d : Desk) → Fair (after_service b d)
  served = grind arith

  pub withdrawing : (n : AfterWait) → Fair (withdraws s i n)
  withdrawing later.Serve = fair_if (is_of_pool s i) _ _ tt tt
  withdrawing _ = fair_if (is_of_pool s i) _ _ tt tt

  pub waited : (y : Stay) (n : AfterWait) → Fair (after_wait s i y n)
  waited stay.Turn n = withdrawing n
  waited stay.Closing n = tt

  pub waiting_on : (d : Desk) → d.spinner.budget ≡ budget → Fair (waits c i s d)
  waiting_on = grind arith

  pub searching : (d : Desk) → d.spinner.budget ≡ budget → Fair (first_search c i s d)
  searching d is = fair_if (not (is_of_pool s i)) _ _ (waiting_on d is) (fair_if (nat_le c.workers 1) _ _ tt (fair_if d.searching _ _ tt tt))

  pub looking : (j : ℕ) (d : Desk) → d.spinner.budget ≡ budget → Fair (looks_from c i s j d)
  looking j d is = fair_if (nat_lt (past_own i j) c.workers) _ _ tt (waiting_on d is)

  pub withdrawn : (came : Bool) (n : AfterWait) (d : Desk) → Fair (after_withdrawal c i me s came n d)
  withdrawn = grind arith

  pub scanned : (y : Scan) → Fair (looks_at c i y)
  scanned y = fair_if (nat_lt (past_own_queue c i y).passed c.workers) _ _ tt tt

  pub headed : (y : Scan) (h : Head) → Fair (judge_head c i y h)
  headed y h = fair_if (h.gap == 0) _ _ tt (scanned (past y))

  pub tailed : (y : Scan) (h : Head) (tail : ℕ) → Fair (judge_tail c i y h tail)
  tailed y h tail = fair_if (nat_lt 256 (tail - h.real)) _ _ tt (fair_if (nat_lt (tail - h.real) 2) _ _ (scanned (past y)) tt)

  -- IN A SERVICE

  pub serving_if : (b : Bool) (p q : InService) (v : Service) → Fair (at.Service p v) → Fair (at.Service q v) → Fair (at.Service (if b then p else q) v)
  serving_if true p q v one other = one
  serving_if false p q v one other = other

  pub permitted : (b : AfterPermit) (v : Service) → Fair (at.Service (after_permit b) v)
  permitted = grind arith

  pub reaped : (it : Request) (o : Option Outcome) (b : AfterPermit) (v : Service) → Fair (at.Service (after_reap it o b) v)
  reaped it None b v = permitted b v
  reaped it (Some outcome) b v = serving_if (is_durable it.operation.kind) _ _ v tt (permitted b v)

  pub passed_on : (o : Option ℕ) (b : AfterPermit) (v : Service) → Fair (at.Service (after_passing o b) v)
  passed_on None b v = permitted b v
  passed_on (Some worker) b v = tt
