-- HOW FAR IT IS from each place down to the sleep, if nothing comes between, for a worker among several.
--
-- Each place stands above those that follow it in a turn. How many workers there are counts, since a scan and a look go over all run queues; so does
-- whether what was loaded before an exchange is still so, since else it is loaded once more. What leads up again, to another turn, stands above the
-- beginning of a turn.
use Rattle.std.specs.Prelude.{ℕ, suc, Bool, true, false, ◌+◌, ◌-◌, ◌*◌, if◌then◌else◌}
use Rattle.exec_words.specs.{Idle.Idle, declared.{head.Head.Head, idle.WorkerSet.WorkerSet}, Queue.head_of}
use Rattle.exec_machine.specs.{declared.config.Configuration.Configuration, Ranges.ring_size}
use Rattle.exec_moves.specs.{declared.{handing.{First.First, AfterCallbacks.AfterCallbacks, AfterClaim.AfterClaim, AfterKick.AfterKick, AfterLeave.AfterLeave, AfterPop.AfterPop, AfterPush.AfterPush, AfterSend.AfterSend, AfterSignal.AfterSignal, InGlobal.InGlobal, InKick.InKick, InPop.InPop, InPush.InPush, InSignal.InSignal}, idling.{AfterWait.AfterWait, InLook.InLook, InRingWait.InRingWait, InScan.InScan, InSearch.InSearch, InWordWait.InWordWait}, place.{InPick.InPick, InPoll.InPoll, InCallbacks.InCallbacks, AfterService.AfterService, InLoads.InLoads, InMail.InMail, InService.InService, Round.Round, Place.Place}}, Callback.is_full, Claim.same_bools, Global.has_any, Pop.same_head, Search.from_of, State.{Desk, Things, queue_of}}
use Rattle.exec_progress.specs.Heights.{advance_wheel, after_permit, append, call_back, claim_half, claim_worker, end_service, enter_last, exchange_pop, flow_over, flush, leave_search, load_kick_count, load_own_head, load_pop_head, load_push_head, load_set, look_at_global, move_half, pass_permit, raise, raise_count, reap, release_half, return_global_count, return_kick_count, sample, set_latch, share, store_moved, store_oldest, store_pop, store_value, submit, take_batch, their_head, their_tail}

-- THE WAITS, from the sleep up
abbrev pub sleep : ℕ
sleep = 0

abbrev pub enter_ring : ℕ
enter_ring = suc sleep

abbrev pub arm : ℕ
arm = suc enter_ring

abbrev pub test_ring : ℕ
test_ring = suc arm

abbrev pub full_ring : ℕ
full_ring = suc test_ring

-- a spin of so many looks, of two loads each
abbrev pub second_load : ℕ → ℕ
second_load left = suc (arm + 2 * left)

abbrev pub spin : ℕ → ℕ
spin left = suc (second_load left)

-- THE LOOK at w run queues, of two loads each
abbrev pub claim_count : ℕ
claim_count = suc full_ring

abbrev pub look_at_tail : ℕ → ℕ → ℕ
look_at_tail w j = suc claim_count + 2 * (w - j)

abbrev pub look_at_head : ℕ → ℕ → ℕ
look_at_head w j = suc (look_at_tail w j)

abbrev pub look_at_count : ℕ → ℕ
look_at_count w = suc (look_at_head w 0)

abbrev pub look_at_mirror : ℕ → ℕ
look_at_mirror w = suc (look_at_count w)

abbrev pub return_look_count : ℕ → ℕ
return_look_count w = suc (look_at_mirror w)

abbrev pub publish : ℕ → ℕ
publish w = suc (return_look_count w)

-- THE SCAN, when it has passed so many of w workers
abbrev pub passing : ℕ → ℕ → ℕ
passing w passed = publish w + their_head 0 * (w - passed)

abbrev pub load_scan_head : ℕ → ℕ
load_scan_head w = suc (their_head (passing w 0))

abbrev pub add_search_count : ℕ → ℕ
add_search_count w = suc (load_scan_head w)

abbrev pub load_search_count : ℕ → ℕ
load_search_count w = suc (add_search_count w)

abbrev pub return_claimed : ℕ → ℕ
return_claimed w = suc (load_scan_head w)

-- the last look finds something to steal: the own bit goes out, and a scan follows
abbrev pub withdraw_to_search : ℕ → ℕ
withdraw_to_search w = suc (return_claimed w)

-- THE TESTS, and the loads before them
abbrev pub read_clock : ℕ → ℕ
read_clock w = suc (withdraw_to_search w)

abbrev pub test_for_work : ℕ → ℕ
test_for_work w = suc (read_clock w)

abbrev pub load_word : ℕ → ℕ
load_word below = suc below

abbrev pub load_mirror : ℕ → ℕ
load_mirror below = suc (load_word below)

abbrev pub load_head : ℕ → ℕ
load_head below = suc (load_mirror below)

-- MAIL
abbrev pub callbacks_after_mail : ℕ → ℕ
callbacks_after_mail w = take_batch (load_head (test_for_work w))

abbrev pub apply : ℕ → ℕ
apply w = suc (callbacks_after_mail w)

abbrev pub take_mail : ℕ → ℕ
take_mail w = suc (apply w)

abbrev pub load_mail_word : ℕ → ℕ
load_mail_word w = suc (take_mail w)

-- THE TOP OF A TURN
abbrev pub first_loads : ℕ → ℕ
first_loads w = sample (load_mail_word w)

abbrev pub take_root_flag : ℕ → ℕ
take_root_flag w = suc (take_batch (load_head (first_loads w)))

abbrev pub count_down : ℕ → ℕ
count_down w = suc (load_pop_head (look_at_global (take_root_flag w)))

abbrev pub begin_turn : ℕ → ℕ
begin_turn w = suc (count_down w)

-- what was put off is made up above that
abbrev pub made_up : ℕ → ℕ
made_up w = take_batch (begin_turn w)

abbrev pub next_turn : ℕ → ℕ
next_turn w = sample (made_up w)

abbrev pub withdraw : ℕ → ℕ
withdraw w = suc (leave_search (next_turn w))

abbrev pub disarm : ℕ → ℕ
disarm w = suc (withdraw w)

-- WHERE THE PARTS LEAD

abbrev pub below_pop : ℕ → AfterPop → ℕ
below_pop w (AfterPop.Pick First.Own) = look_at_global (take_root_flag w)
below_pop w (AfterPop.Pick First.Global) = take_root_flag w
below_pop w AfterPop.Discard = 0

-- a look at the global queue first is followed by a pop
abbrev pub below_global : ℕ → First → ℕ
below_global w First.Own = take_root_flag w
below_global w First.Global = load_pop_head (take_root_flag w)

abbrev pub below_loads : ℕ → Round → ℕ
below_loads w Round.First = first_loads w
below_loads w Round.Second = test_for_work w

abbrev pub below_callbacks : ℕ → AfterCallbacks → ℕ
below_callbacks w AfterCallbacks.Look = load_head (first_loads w)
below_callbacks w AfterCallbacks.Test = load_head (test_for_work w)
below_callbacks w AfterCallbacks.Begin = begin_turn w
below_callbacks w _ = 0

abbrev pub below_service : ℕ → AfterService → ℕ
below_service w AfterService.Mail = load_mail_word w
below_service w AfterService.Begin = made_up w
below_service w AfterService.Finish = 0

-- in a poll: its end, the next act, and what comes before that
abbrev pub act : ℕ
act = 1

abbrev pub below_push : ℕ → AfterPush → ℕ
below_push w (AfterPush.Act t) = act
below_push w AfterPush.Pick = count_down w
below_push w (AfterPush.CallBack n) = call_back (below_callbacks w n)

abbrev pub below_leave : ℕ → AfterLeave → ℕ
below_leave w (AfterLeave.Poll t) = 0
below_leave w (AfterLeave.CallBack n) = call_back (below_callbacks w n)
below_leave w AfterLeave.Begin = next_turn w

abbrev pub below_kick : ℕ → AfterKick → ℕ
below_kick w (AfterKick.Leave b) = below_leave w b
below_kick w (AfterKick.Push b) = below_push w b

abbrev pub below_claim : ℕ → AfterClaim → ℕ
below_claim w (AfterClaim.Kick b) = below_kick w b
below_claim w (AfterClaim.Global b) = below_push w b

abbrev pub below_send : ℕ → AfterSend → ℕ
below_send w (AfterSend.Act t) = act
below_send w (AfterSend.Pend t) = 0
below_send w (AfterSend.Cancels b) = suc (count_down w)
below_send w (AfterSend.Tell worker) = 0

abbrev pub below_signal : ℕ → AfterSignal → ℕ
below_signal w (AfterSignal.Claim b) = below_claim w b
below_signal w (AfterSignal.Send b) = below_send w b

-- OF EACH PLACE

abbrev pub in_poll : ℕ → InPoll → ℕ
in_poll w InPoll.BeginPoll = 0
in_poll w InPoll.Resume = act
in_poll w InPoll.Act = act
in_poll w (InPoll.JoinGate r) = suc act
in_poll w InPoll.LoadSpawnHead = suc (load_push_head act)
in_poll w InPoll.Pend = 0
in_poll w InPoll.RemoveTask = suc (count_down w)

abbrev pub in_pick : ℕ → InPick → ℕ
in_pick w InPick.CountDown = count_down w
in_pick w (InPick.LoadMirror f) = look_at_global (below_global w f)
in_pick w (InPick.LoadHead f) = load_own_head (below_global w f)
in_pick w (InPick.TakeShare f room held) = share (below_global w f)

abbrev pub in_callbacks : ℕ → AfterCallbacks → InCallbacks → ℕ
in_callbacks w n InCallbacks.TakeBatch = take_batch (below_callbacks w n)
in_callbacks w n _ = call_back (below_callbacks w n)

abbrev pub in_loads : ℕ → Round → InLoads → ℕ
in_loads w r InLoads.LoadOwnHead = load_head (below_loads w r)
in_loads w r (InLoads.LoadOwnMirror f) = load_mirror (below_loads w r)
in_loads w r (InLoads.LoadOwnWord f) = load_word (below_loads w r)

-- a full submission queue is entered before anything is staged
abbrev pub submits : ℕ → Bool → ℕ
submits below true = flush below
submits below false = submit below

abbrev pub in_service : Bool → ℕ → InService → ℕ
in_service full below InService.Sample = sample below
in_service full below (InService.Reap r) = reap below r
in_service full below (InService.PassPermit file b) = pass_permit (after_permit below b)
in_service full below (InService.Signal worker b) = set_latch (after_permit below b)
in_service full below (InService.Raise ring worker b) = raise (after_permit below b)
in_service full below InService.AdvanceWheel = advance_wheel below
in_service full below (InService.Submit gate) = submits below full
in_service full below InService.EnterLast = enter_last below
in_service full below InService.EndService = end_service below

abbrev pub in_mail : ℕ → InMail → ℕ
in_mail w InMail.LoadMailWord = load_mail_word w
in_mail w InMail.TakeMail = take_mail w
in_mail w (InMail.Apply applied taken) = apply w

abbrev pub in_search : ℕ → InSearch → ℕ
in_search w InSearch.LoadSearchCount = load_search_count w
in_search w InSearch.AddSearchCount = add_search_count w

-- the head that was loaded is the queue's still
abbrev pub is_fresh : Things → ℕ → Head → Bool
is_fresh x j h = same_head h (head_of (queue_of x j))

abbrev pub in_scan : Configuration → Things → InScan → ℕ
in_scan c x InScan.LoadScanHead = load_scan_head c.workers
in_scan c x (InScan.LoadTheirHead y) = their_head (passing c.workers y.passed)
in_scan c x (InScan.LoadTheirTail y h) = their_tail (passing c.workers y.passed) (is_fresh x (from_of c y) h)
in_scan c x (InScan.ClaimHalf y h tail) = claim_half (passing c.workers y.passed) (is_fresh x (from_of c y) h)
in_scan c x (InScan.MoveHalf from h) = move_half
in_scan c x (InScan.ReleaseHalf from h) = release_half (is_fresh x from h)
in_scan c x InScan.StoreMoved = store_moved

abbrev pub in_look : ℕ → InLook → ℕ
in_look w InLook.Publish = publish w
in_look w InLook.ReturnLookCount = return_look_count w
in_look w (InLook.LookAtMirror last) = look_at_mirror w
in_look w InLook.LookAtCount = look_at_count w
in_look w (InLook.LookAtHead j) = look_at_head w j
in_look w (InLook.LookAtTail j h) = look_at_tail w j
in_look w InLook.ExchangeLookCount = claim_count
in_look w InLook.ReturnClaimed = return_claimed w

abbrev pub in_ring_wait : ℕ → InRingWait → ℕ
in_ring_wait w InRingWait.EnterFullRing = full_ring
in_ring_wait w InRingWait.TestRing = test_ring
in_ring_wait w InRingWait.ArmRing = arm
in_ring_wait w InRingWait.EnterRing = enter_ring
in_ring_wait w InRingWait.SleepOnRing = sleep
in_ring_wait w (InRingWait.DisarmRing n) = disarm w

abbrev pub in_word_wait : ℕ → InWordWait → ℕ
in_word_wait w (InWordWait.SpinOnBatch left) = spin left
in_word_wait w (InWordWait.SpinOnLatch left) = second_load left
in_word_wait w InWordWait.TakeLatch = disarm w
in_word_wait w InWordWait.ArmWord = arm
in_word_wait w InWordWait.SleepOnWord = sleep
in_word_wait w InWordWait.DisarmWord = disarm w

abbrev pub in_withdraw : ℕ → AfterWait → ℕ
in_withdraw w AfterWait.Search = withdraw_to_search w
in_withdraw w _ = withdraw w

abbrev pub in_pop : Configuration → ℕ → Things → InPop → AfterPop → ℕ
in_pop c i x InPop.PopAlone b = load_pop_head (below_pop c.workers b)
in_pop c i x InPop.LoadPopHead b = load_pop_head (below_pop c.workers b)
in_pop c i x (InPop.ExchangePop h) b = exchange_pop (below_pop c.workers b) (is_fresh x i h)
in_pop c i x InPop.StorePop b = store_pop (below_pop c.workers b)

abbrev pub in_push : ℕ → Things → ℕ → InPush → ℕ
in_push i x below InPush.LoadPushHead = load_push_head below
in_push i x below (InPush.StoreValue length) = store_value below
in_push i x below (InPush.FlowOver h) = if is_fresh x i h then flow_over below else suc (load_push_head below)
in_push i x below InPush.StoreOldest = store_oldest below

-- the idle set is as it was loaded
abbrev pub is_same_set : WorkerSet → Idle → Bool
is_same_set set x = same_bools set.has x.published

abbrev pub claims : WorkerSet → Idle → ℕ
claims set x = claim_worker (has_any x) (is_same_set set x)

abbrev pub in_global : Idle → ℕ → InGlobal → ℕ
in_global x below InGlobal.Append = below + append (load_set (has_any x))
in_global x below InGlobal.LoadGlobalSet = below + load_set (has_any x)
in_global x below (InGlobal.AddGlobalCount set) = below + raise_count (claims set x)
in_global x below InGlobal.ReturnGlobalCount = below + return_global_count (load_set (has_any x))

abbrev pub in_kick : Idle → ℕ → InKick → ℕ
in_kick x below InKick.LoadKickCount = below + load_kick_count (load_set (has_any x))
in_kick x below InKick.LoadKickSet = below + load_set (has_any x)
in_kick x below (InKick.ExchangeKickCount set) = below + raise_count (claims set x)
in_kick x below InKick.ReturnKickCount = below + return_kick_count (load_set (has_any x))

abbrev pub in_signal : ℕ → InSignal → ℕ
in_signal below InSignal.SetLatch = set_latch below
in_signal below (InSignal.Raise ring) = raise below

-- of worker i at this place, with what else it has and shares
abbrev pub rank : Configuration → ℕ → Desk → Things → Place → ℕ
rank c i d x Place.BeginTurn = begin_turn c.workers
rank c i d x (Place.Pick p) = in_pick c.workers p
rank c i d x Place.TakeRootFlag = take_root_flag c.workers
rank c i d x (Place.Poll t p) = in_poll c.workers p
rank c i d x (Place.Callbacks p n) = in_callbacks c.workers n p
rank c i d x (Place.Loads p r) = in_loads c.workers r p
rank c i d x (Place.Service p v) = in_service (is_full (ring_size c) d) (below_service c.workers v.back) p
rank c i d x (Place.Mail p) = in_mail c.workers p
rank c i d x (Place.TestForWork f) = test_for_work c.workers
rank c i d x Place.ReadClock = read_clock c.workers
rank c i d x (Place.Search p) = in_search c.workers p
rank c i d x (Place.Scan p) = in_scan c x p
rank c i d x (Place.Look p) = in_look c.workers p
rank c i d x (Place.RingWait p y) = in_ring_wait c.workers p
rank c i d x (Place.WordWait p) = in_word_wait c.workers p
rank c i d x (Place.Withdraw n) = in_withdraw c.workers n
rank c i d x (Place.Closing p) = 0
rank c i d x (Place.Pop p b) = in_pop c i x p b
rank c i d x (Place.LeaveSearch b) = leave_search (below_leave c.workers b)
rank c i d x (Place.Push p b) = in_push i x (below_push c.workers b) p
rank c i d x (Place.Global p b) = in_global x.idle (below_push c.workers b) p
rank c i d x (Place.Kick p b) = in_kick x.idle (below_kick c.workers b) p
rank c i d x (Place.ClaimWorker set b) = below_claim c.workers b + claims set x.idle
rank c i d x (Place.Signal p j b) = in_signal (below_signal c.workers b) p
rank c i d x (Place.SendCancel b) = suc (count_down c.workers)
