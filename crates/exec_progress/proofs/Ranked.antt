-- No place stands higher than a turn with what was put off, or the longest spin.
use Rattle.std.proofs.Common.{ℕ, ◌+◌, ◌*◌, ◌≤◌, Bool, false, arith}
use Rattle.exec_machine.specs.{declared.config.Configuration.Configuration, Ranges.largest_spin}
use Rattle.exec_moves.specs.{declared.{handing.{AfterCallbacks.AfterCallbacks, AfterClaim.AfterClaim, AfterKick.AfterKick, AfterLeave.AfterLeave, AfterPop.AfterPop, AfterPush.AfterPush, AfterSend.AfterSend, AfterSignal.AfterSignal, InGlobal.InGlobal, InKick.InKick, InPop.InPop, InPush.InPush, InSignal.InSignal}, idling.{AfterWait.AfterWait, InLook.InLook, InRingWait.InRingWait, InScan.InScan, InSearch.InSearch, InWordWait.InWordWait}, place.{InPick.InPick, InPoll.InPoll, InCallbacks.InCallbacks, AfterService.AfterService, InLoads.InLoads, InMail.InMail, InService.InService, Round.Round, Place.Place}}, State.{Desk, Things}}
use Rattle.exec_credit.specs.Spins.{IsShort}
use Rattle.exec_progress.specs.{Heights.{call_back, claim_worker}, Ranks.{begin_turn, below_claim, below_kick, below_leave, below_push, below_send, below_service, below_signal, disarm, in_callbacks, in_global, in_kick, in_loads, in_look, in_mail, in_pick, in_poll, in_pop, in_push, in_ring_wait, in_scan, in_search, in_service, in_signal, in_withdraw, in_word_wait, next_turn, rank}}

worker_most : (some same : Bool) → claim_worker some same ≤ claim_worker false false
worker_most = grind arith

module _ (w : ℕ) where
  push_below : (b : AfterPush) → below_push w b ≤ call_back (begin_turn w)
  push_below = grind arith

  leave_below : (b : AfterLeave) → below_leave w b ≤ next_turn w
  leave_below = grind arith

  kick_below : (b : AfterKick) → below_kick w b ≤ next_turn w
  kick_below (AfterKick.Leave b) = leave_below b
  kick_below (AfterKick.Push b) = omega (arith, push_below b)

  claim_below : (b : AfterClaim) → below_claim w b ≤ next_turn w
  claim_below (AfterClaim.Kick b) = kick_below b
  claim_below (AfterClaim.Global b) = omega (arith, push_below b)

  send_below : (b : AfterSend) → below_send w b ≤ next_turn w
  send_below = grind arith

  signal_below : (b : AfterSignal) → below_signal w b ≤ next_turn w
  signal_below (AfterSignal.Claim b) = claim_below b
  signal_below (AfterSignal.Send b) = send_below b

  polls : (p : InPoll) → in_poll w p ≤ disarm w
  polls = grind arith

  picks : (p : InPick) → in_pick w p ≤ disarm w
  picks = grind arith

  calls_back : (n : AfterCallbacks) (p : InCallbacks) → in_callbacks w n p ≤ disarm w
  calls_back = grind arith

  loads : (r : Round) (p : InLoads) → in_loads w r p ≤ disarm w
  loads = grind arith

  serves : (full : Bool) (b : AfterService) (p : InService) → in_service full (below_service w b) p ≤ disarm w
  serves = grind arith

  mails : (p : InMail) → in_mail w p ≤ disarm w
  mails = grind arith

  searches : (p : InSearch) → in_search w p ≤ disarm w
  searches InSearch.LoadSearchCount = omega arith
  searches InSearch.AddSearchCount = omega arith

  looks : (p : InLook) → in_look w p ≤ disarm w
  looks = grind arith

  rings : (p : InRingWait) → in_ring_wait w p ≤ disarm w
  rings = grind arith

  withdrawals : (n : AfterWait) → in_withdraw w n ≤ disarm w
  withdrawals = grind arith

module _ (c : Configuration) (i : ℕ) (d : Desk) (x : Things) where
  scans : (p : InScan) → in_scan c x p ≤ disarm c.workers
  scans = grind arith

  pops : (p : InPop) (b : AfterPop) → in_pop c i x p b ≤ disarm c.workers
  pops = grind arith

  pushes : (p : InPush) (b : AfterPush) → in_push i x (below_push c.workers b) p ≤ disarm c.workers
  pushes = grind arith

  globals : (p : InGlobal) (b : AfterPush) → in_global x.idle (below_push c.workers b) p ≤ disarm c.workers
  globals = grind arith

  kicks : (p : InKick) (b : AfterKick) → in_kick x.idle (below_kick c.workers b) p ≤ disarm c.workers
  kicks = grind arith

  signals : (p : InSignal) (b : AfterSignal) → in_signal (below_signal c.workers b) p ≤ disarm c.workers
  signals InSignal.SetLatch b = omega (arith, signal_below c.workers b)
  signals (InSignal.Raise ring) b = omega (arith, signal_below c.workers b)

  words : (p : InWordWait) → IsShort c.spin (Place.WordWait p) → in_word_wait c.workers p ≤ disarm c.workers + 2 * largest_spin c.spin
  words = grind arith

  higher : (n : ℕ) → n ≤ disarm c.workers → n ≤ disarm c.workers + 2 * largest_spin c.spin
  higher n h = omega (arith, h)

  pub most_rank : (p : Place) → IsShort c.spin p → rank c i d x p ≤ disarm c.workers + 2 * largest_spin c.spin
  most_rank = grind (arith, higher, picks, polls, calls_back, loads, serves, mails, searches, scans, looks, rings, words, withdrawals, pops, leave_below, pushes, globals, kicks, claim_below, worker_most, signals)
