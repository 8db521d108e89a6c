-- Places whose moves leave the lists of what is to be told as they are: all that hands tasks on, searches, looks and waits.
use Rattle.std.{proofs.Common.{◌≡◌, ℕ, Bool, true, ◌||◌, List, refl, if◌then◌else◌, arith}, specs.Prelude.{not, ◌&&◌, drop}}
use Rattle.exec_words.specs.{Queue.Queue, declared.idle.WorkerSet.WorkerSet}
use Rattle.exec_machine.specs.{declared.{config.Configuration.Configuration, state.MailMessage.{MailMessage, TheVariants.Root}}, Choice.{Choice, Choice.{Plain, Posts}}, Deadlines.next_due, Ranges.ring_size, World.{Common, Own as Books, seat_of}}
use Rattle.exec_moves.specs.{declared.{handing.{AfterCancels.AfterCancels, AfterClaim.AfterClaim, AfterKick.AfterKick, AfterLeave.AfterLeave, AfterPop.AfterPop, AfterPush.AfterPush, AfterSend.{AfterSend, AfterSend as send}, AfterSignal.AfterSignal, InGlobal.InGlobal, InKick.InKick, InPop.InPop, InPush.InPush, InSignal.InSignal}, idling.{AfterWait.AfterWait, InLook.InLook, InRingWait.{InRingWait, InRingWait as ring}, InScan.InScan, InSearch.InSearch, InWordWait.InWordWait, Stay.Stay}, place.{Found.Found, InLoads.InLoads, InPick.InPick, Place.{Place, Place as at}, Round.Round}}, Callback.is_full, Claim.claim_worker, Kick.leave_search, Load.{has_come, has_submissions, is_ready, test_for_work}, Look.withdraw, Move.{move_global, move_kick, move_loads, move_look, move_pick, move_pop, move_push, move_ring_wait, move_scan, move_search, move_signal, move_word_wait}, Pick.{begin_turn, take_root_flag}, Pop.{after_pop, pops}, Send.{first_letter, is_left_out, payer_of_send, posting_of, send_cancel, send_root, sent}, State.{Desk, Moved, Own, Things}, Submit.with_poll, Thing.{aside, mailbox_of, puts, ring_of, set_ring, with_idle, with_mailbox, with_queue, with_ring}, Wait.{enter_full_ring, enter_ring, has_completion, read_clock}}
use Rattle.exec_settled.proofs.TellsPlain.{Quiet, TellsAll, is_apart, is_mute, lists_if, lists_of, mute_if, plain_tells, quiet, quiet_if}

module _ (c : Configuration) (i : ℕ) (me : Books) (s : Common) (d : Desk) (x : Things) where
  abbrev Plainly : Moved Things → Type 0
  Plainly m = Quiet c i me s d x m

  -- the lists stay by computation
  calm : (m : Moved Things) → lists_of m.desk m.thing ≡ lists_of d x → is_mute m.event ≡ true → Plainly m
  calm m lists mute = quiet c i me s d x m lists mute

  either : {T : Type 0} (back : T → Things) (b : Bool) (m n : Moved T) → Plainly (puts back m) → Plainly (puts back n) → Plainly (puts back (if b then m else n))
  either back b m n one other = quiet_if c i me s d x back b m n one other

  stays : (m : Moved Things) (p : Place) → d.place ≡ p → is_apart p ≡ true → Plainly m → TellsAll c i me s d x m
  stays m p is apart it = plain_tells c i me s d x m p is apart it

  -- THE BEGINNING OF A TURN
  pub begins : d.place ≡ at.BeginTurn → TellsAll c i me s d x (aside x (begin_turn i s d))
  begins is = stays _ at.BeginTurn is refl (calm _ refl refl)

  picked : (p : InPick) → Plainly (move_pick c i d x p)
  picked = grind arith

  pub picks : (p : InPick) → d.place ≡ at.Pick p → TellsAll c i me s d x (move_pick c i d x p)
  picks p is = stays _ (at.Pick p) is refl (picked p)

  pub takes_flag : d.place ≡ at.TakeRootFlag → TellsAll c i me s d x (aside x (take_root_flag me.root d))
  takes_flag is = stays _ at.TakeRootFlag is refl (either (λ (u : Own). x) d.root_ready _ _ (calm _ refl refl) (calm _ refl refl))

  -- POPS AND PUSHES
  after_popping : (b : AfterPop) (t : ℕ) → lists_of (after_pop c b t d) x ≡ lists_of d x
  after_popping = grind arith

  popped : (b : AfterPop) (q : Queue ℕ) (vs : List ℕ) → q.values ≡ vs → Plainly (with_queue i x (pops c i b d q))
  popped = grind (arith, calm, after_popping)

  pops_by : (p : InPop) (b : AfterPop) → Plainly (move_pop c i d x p b)
  pops_by = grind arith

  pub pops_one : (p : InPop) (b : AfterPop) → d.place ≡ at.Pop p b → TellsAll c i me s d x (move_pop c i d x p b)
  pops_one p b is = stays _ (at.Pop p b) is refl (pops_by p b)

  pushes_by : (p : InPush) (b : AfterPush) → Plainly (move_push c i me s d x p b)
  pushes_by = grind arith

  pub pushes : (p : InPush) (b : AfterPush) → d.place ≡ at.Push p b → TellsAll c i me s d x (move_push c i me s d x p b)
  pushes p b is = stays _ (at.Push p b) is refl (pushes_by p b)

  -- SEARCH COUNTS, KICKS, CLAIMS AND SIGNALS
  pub leaves : (b : AfterLeave) → d.place ≡ at.LeaveSearch b → TellsAll c i me s d x (with_idle x (leave_search c i me s b d x.idle))
  leaves b is = stays _ (at.LeaveSearch b) is refl (calm _ refl refl)

  kicks_by : (p : InKick) (b : AfterKick) → Plainly (move_kick c i me s d x p b)
  kicks_by = grind arith

  pub kicks : (p : InKick) (b : AfterKick) → d.place ≡ at.Kick p b → TellsAll c i me s d x (move_kick c i me s d x p b)
  kicks p b is = stays _ (at.Kick p b) is refl (kicks_by p b)

  globals_by : (p : InGlobal) (b : AfterPush) → Plainly (move_global c i me s d x p b)
  globals_by = grind arith

  pub globals : (p : InGlobal) (b : AfterPush) → d.place ≡ at.Global p b → TellsAll c i me s d x (move_global c i me s d x p b)
  globals p b is = stays _ (at.Global p b) is refl (globals_by p b)

  pub claims : (set : WorkerSet) (b : AfterClaim) → d.place ≡ at.ClaimWorker set b → TellsAll c i me s d x (with_idle x (claim_worker set b d x.idle))
  claims set b is = stays _ (at.ClaimWorker set b) is refl (calm _ refl refl)

  signals_by : (p : InSignal) (j : ℕ) (b : AfterSignal) → Plainly (move_signal c i me s d x p j b)
  signals_by = grind (arith, calm, mute_if)

  pub signalled : (p : InSignal) (j : ℕ) (b : AfterSignal) → d.place ≡ at.Signal p j b → TellsAll c i me s d x (move_signal c i me s d x p j b)
  signalled p j b is = stays _ (at.Signal p j b) is refl (signals_by p j b)

  -- LOADS AND TESTS
  loads_by : (p : InLoads) (r : Round) → Plainly (move_loads i me d x p r)
  loads_by = grind arith

  pub loads : (p : InLoads) (r : Round) → d.place ≡ at.Loads p r → TellsAll c i me s d x (move_loads i me d x p r)
  loads p r is = stays _ (at.Loads p r) is refl (loads_by p r)

  pub tests : (f : Found) → d.place ≡ at.TestForWork f → TellsAll c i me s d x (aside x (test_for_work c i me s f d))
  tests f is = stays _ (at.TestForWork f) is refl (either (λ (u : Own). x) (is_ready me f d || has_submissions c me) _ _ (calm _ refl refl) (calm _ refl refl))

  pub reads : d.place ≡ at.ReadClock → TellsAll c i me s d x (aside x (read_clock c i me s d))
  reads is = stays _ at.ReadClock is refl (either (λ (u : Own). x) (has_come s.clock (next_due s i)) _ _ (calm _ refl refl) (calm _ refl refl))

  -- SEARCH, SCAN, LOOK
  searches_by : (p : InSearch) → Plainly (move_search c d x p)
  searches_by = grind (arith, calm)

  pub searches : (p : InSearch) → d.place ≡ at.Search p → TellsAll c i me s d x (move_search c d x p)
  searches p is = stays _ (at.Search p) is refl (searches_by p)

  scans_by : (p : InScan) → Plainly (move_scan c i me s d x p)
  scans_by = grind arith

  pub scans : (p : InScan) → d.place ≡ at.Scan p → TellsAll c i me s d x (move_scan c i me s d x p)
  scans p is = stays _ (at.Scan p) is refl (scans_by p)

  looks_by : (p : InLook) → Plainly (move_look c i s d x p)
  looks_by = grind arith

  pub looks : (p : InLook) → d.place ≡ at.Look p → TellsAll c i me s d x (move_look c i s d x p)
  looks p is = stays _ (at.Look p) is refl (looks_by p)

  pub withdraws : (n : AfterWait) → d.place ≡ at.Withdraw n → TellsAll c i me s d x (with_idle x (withdraw c i me s n d x.idle))
  withdraws n is = stays _ (at.Withdraw n) is refl (calm _ refl refl)

  -- THE TWO WAITS
  enters_full : (y : Stay) (busy : Bool) → Plainly (with_ring i x (enter_full_ring y me d (record (ring_of s x i) { busy = busy })))
  enters_full = grind (arith, calm)

  enters : (y : Stay) (busy : Bool) → Plainly (with_ring i x (enter_ring y me d (record (ring_of s x i) { busy = busy })))
  enters = grind (arith, calm)

  pub polled_lists : (e : Desk) → lists_of (with_poll (ring_size c) e) x ≡ lists_of e x
  polled_lists e = lists_if (e.polled || is_full (ring_size c) e) _ _ x _ refl refl

  rings_by : (p : InRingWait) (y : Stay) → Plainly (move_ring_wait c i me s d x p y)
  rings_by ring.EnterFullRing y = enters_full y (seat_of s i).busy
  rings_by ring.TestRing y =
      either (λ (u : Own). x) (has_submissions c me || (not d.polled && is_full (ring_size c) d)) _ _ (calm _ refl refl) (calm _ (polled_lists d) refl)
  rings_by ring.ArmRing y = calm _ refl refl
  rings_by ring.EnterRing y = enters y (seat_of s i).busy
  rings_by ring.SleepOnRing y =
      either (set_ring i x) (has_completion d (ring_of s x i)) _ _ (calm _ refl refl) (either (set_ring i x) (has_come s.clock (next_due s i)) _ _ (calm _ refl refl) (calm _ refl refl))
  rings_by (ring.DisarmRing n) y = calm _ refl refl

  pub ring_wait : (p : InRingWait) (y : Stay) → d.place ≡ at.RingWait p y → TellsAll c i me s d x (move_ring_wait c i me s d x p y)
  ring_wait p y is = stays _ (at.RingWait p y) is refl (rings_by p y)

  words_by : (p : InWordWait) → Plainly (move_word_wait i s d x p)
  words_by = grind arith

  pub word_wait : (p : InWordWait) → d.place ≡ at.WordWait p → TellsAll c i me s d x (move_word_wait i s d x p)
  word_wait p is = stays _ (at.WordWait p) is refl (words_by p)

  -- A MESSAGE to worker j, by a desk with the same lists
  pub posts : (j : ℕ) (message : MailMessage) (choice : Choice) (b : AfterSend) (e : Desk) → lists_of e x ≡ lists_of d x
      → Plainly (with_mailbox j x (sent c j b e (posting_of s j message choice (mailbox_of x j))))
  posts = grind arith

  pub posts_root : (j : ℕ) (b : AfterSend) → Plainly (with_mailbox j x (send_root c s j b d (mailbox_of x j)))
  posts_root j b = posts j Root (Posts (payer_of_send b) (is_left_out (mailbox_of x j))) b d refl

  pub sends_cancel : (b : AfterCancels) → d.place ≡ at.SendCancel b → TellsAll c i me s d x (with_mailbox (first_letter d).to x (send_cancel c s b d (mailbox_of x (first_letter d).to)))
  sends_cancel b is =
      stays _ (at.SendCancel b) is refl (posts (first_letter d).to (first_letter d).message Plain (send.Cancels b) (record d { letters = drop 1 d.letters }) refl)
