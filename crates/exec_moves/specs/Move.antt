-- The move of a worker at each place.
use Rattle.std.specs.Prelude.{ℕ, [], ◌+◌, ◌==◌, slice_index_or, Option, Some, None, if◌then◌else◌}
use Rattle.exec_machine.specs.{declared.config.{Configuration.Configuration, ScriptWord.{ScriptWord, ScriptWord as script}}, Ranges.ring_size, World.{Common, task_of, request_of, Own as Books}, Words.next_word}
use Rattle.exec_moves.specs.{declared.{handing.{AfterCallbacks.AfterCallbacks, AfterKick.AfterKick, AfterPop.AfterPop, AfterPush.AfterPush, AfterSend.{AfterSend, AfterSend as send}, AfterSignal.AfterSignal, InGlobal.InGlobal, InKick.{InKick, InKick as kick}, InPop.{InPop, InPop as pop}, InPush.{InPush, InPush as push}, InSignal.{InSignal, InSignal as signals}}, idling.{InLook.{InLook, InLook as look}, InRingWait.InRingWait, InScan.{InScan, InScan as scan}, InSearch.{InSearch, InSearch as search}, InWordWait.{InWordWait, InWordWait as word}, Stay.Stay}, place.{InPick.{InPick, InPick as pick}, InPoll.{InPoll, InPoll as poll}, InCallbacks.{InCallbacks, InCallbacks as callback}, InLoads.{InLoads, InLoads as load}, InService.{InService, InService as step}, InMail.{InMail, InMail as mail}, InClosing.{InClosing, InClosing as closing}, Round.Round, Service.Service, Place.{Place, Place as at}}}, State.{Desk, Things, Moved, queue_of, word_of, inbox_of, wake_poll_of, gate_of}, Thing.{aside, with_queue, with_word, with_inbox, with_mailbox, with_wake_poll, with_ring, with_global, with_queues, with_idle, with_barrier, with_shard, with_gate, with_answers, with_alarms, mailbox_of, ring_of}, Pick.{begin_turn, count_down, load_mirror, load_head, take_share, take_root_flag}, Pop.{shard_count, pops, load_pop_head, exchange_pop}, Push.{load_push_head, store_value, flow_over, store_oldest}, Global.{append, load_global_set, add_global_count, return_global_count}, Kick.{leave_search, load_kick_count, load_kick_set, exchange_kick_count, return_kick_count}, Claim.{claim_worker, set_latch, raise}, Send.{next_task, spawn, dedicate, wake_task, wake_own_root, send_root, send_message, first_letter, send_cancel}, Cells.shard_of, Callback.{Item, Item.{Wakes, LetsGo, Releases, Completes, Answers}, item_next, take_batch, call_back, let_go, release, no_item, send_completion, send_result, wake_waiter}, Load.{load_own_head, load_own_mirror, load_own_word, test_for_work}, Serve.{sample, reap, pass_permit, signal, raise_in_service, advance_wheel, enter_last, end_service}, Submit.{Due, due_next, expire, enrol, try_gate, stage_next, Due.{Expires, Enrols, AtGate}}, Mail.{load_mail_word, take_mail, apply}, Search.{load_search_count, add_search_count, load_scan_head, from_of, load_their_head, load_their_tail, claim_half, move_half, release_half, store_moved}, Look.{publish, return_look_count, look_at_mirror, look_at_count, look_at_head, look_at_tail, exchange_look_count, return_claimed, withdraw}, Wait.{read_clock, enter_full_ring, test_ring, arm_ring, enter_ring, sleep_on_ring, disarm_ring, spin_on_batch, spin_on_latch, take_latch, arm_word, sleep_on_word, disarm_word}, Poll.{Sight, Sight.{Here, Asks, HearsRequest, HearsTimer}, sight_of, sight_of_act, begin_poll, resume, hear_request, hear_timer, act, join_gate, pend, load_spawn_head, remove_task}, Close.{close, close_queue, open_barrier, stop, visit, clear, leave_barrier, close_mailbox, orphan, close_sleeper, end}}
use Rattle.exec_moves.specs.declared.handing.InGlobal.TheVariants as global
use Rattle.exec_moves.specs.declared.idling.InRingWait.TheVariants as ring

-- BY GROUPS. c is the configuration, i the worker, me and s what the machine has of it and of all, d and x the rest.

abbrev pub move_pick : Configuration → ℕ → Desk → Things → InPick → Moved Things
move_pick c i d x pick.CountDown = aside x (count_down c d)
move_pick c i d x (pick.LoadMirror f) = with_global x (load_mirror c f d x.global)
move_pick c i d x (pick.LoadHead f) = with_queue i x (load_head f d (queue_of x i))
move_pick c i d x (pick.TakeShare f room held) =
    with_queues i x (take_share c f room held d (record { global = x.global; queue = queue_of x i }))

abbrev pub move_pop : Configuration → ℕ → Desk → Things → InPop → AfterPop → Moved Things
move_pop c i d x pop.PopAlone b = with_queue i x (pops c i b d (queue_of x i))
move_pop c i d x pop.LoadPopHead b = with_queue i x (load_pop_head c i b d (queue_of x i))
move_pop c i d x (pop.ExchangePop h) b = with_queue i x (exchange_pop c i b h d (queue_of x i))
move_pop c i d x pop.StorePop b = with_queue i x (pops c i b d (queue_of x i))

abbrev pub move_push : Configuration → ℕ → Books → Common → Desk → Things → InPush → AfterPush → Moved Things
move_push c i me s d x push.LoadPushHead b = with_queue i x (load_push_head b d (queue_of x i))
move_push c i me s d x (push.StoreValue len) b = with_queue i x (store_value c i me s len b d (queue_of x i))
move_push c i me s d x (push.FlowOver h) b = with_queue i x (flow_over b h d (queue_of x i))
move_push c i me s d x push.StoreOldest b = with_queue i x (store_oldest b d (queue_of x i))

abbrev pub move_global : Configuration → ℕ → Books → Common → Desk → Things → InGlobal → AfterPush → Moved Things
move_global c i me s d x global.Append b = with_global x (append c i me s b d x.global)
move_global c i me s d x global.LoadGlobalSet b = with_idle x (load_global_set c i me s b d x.idle)
move_global c i me s d x (global.AddGlobalCount set) b = with_idle x (add_global_count set b d x.idle)
move_global c i me s d x global.ReturnGlobalCount b = with_idle x (return_global_count c i me s b d x.idle)

abbrev pub move_kick : Configuration → ℕ → Books → Common → Desk → Things → InKick → AfterKick → Moved Things
move_kick c i me s d x kick.LoadKickCount b = with_idle x (load_kick_count c i me s b d x.idle)
move_kick c i me s d x kick.LoadKickSet b = with_idle x (load_kick_set c i me s b d x.idle)
move_kick c i me s d x (kick.ExchangeKickCount set) b = with_idle x (exchange_kick_count c i me s set b d x.idle)
move_kick c i me s d x kick.ReturnKickCount b = with_idle x (return_kick_count c i me s b d x.idle)

abbrev pub move_signal : Configuration → ℕ → Books → Common → Desk → Things → InSignal → ℕ → AfterSignal → Moved Things
move_signal c i me s d x signals.SetLatch j b = with_word j x (set_latch c i me s j b d (word_of x j))
move_signal c i me s d x (signals.Raise ring) j b = with_wake_poll j x (raise c i me s ring j b d (wake_poll_of x j))

-- a wake: of an ordinary task or the own root, or a message to the root of worker `home`
abbrev pub move_wake : Configuration → ℕ → Common → Desk → Things → ℕ → ℕ → Option ℕ → Moved Things
move_wake c i s d x t u None = aside x (wake_task i t u s d (task_of s u))
move_wake c i s d x t u (Some home) =
    if home == i then aside x (wake_own_root t u d (task_of s u))
    else with_mailbox home x (send_root c s home (send.Act t) d (mailbox_of x home))

-- a task that looks at the end of something, or lets go of it: here, or by its worker
abbrev pub move_look_at : Configuration → Common → Desk → Things → ℕ → AfterSend → Moved Things → Sight → Moved Things
move_look_at c s d x t b here Here = here
move_look_at c s d x t b here (Asks j message) = with_mailbox j x (send_message c s j message b d (mailbox_of x j))
move_look_at c s d x t b here (HearsRequest r) = with_answers x (hear_request t r s d x.answers)
move_look_at c s d x t b here (HearsTimer z) = with_alarms x (hear_timer t z d x.alarms)

-- an act, by its word
abbrev pub move_act : Configuration → ℕ → Books → Common → Desk → Things → ℕ → ScriptWord → Moved Things
move_act c i me s d x t (script.Spawn k) =
    let n = shard_of c (next_task s) in with_shard n x (spawn c i t k s d (slice_index_or x.shards n []))
move_act c i me s d x t (script.Wake u) = move_wake c i s d x t u (task_of s u).home
move_act c i me s d x t (script.Dedicated k) = dedicate t s d x
move_act c i me s d x t script.Await =
    move_look_at c s d x t (send.Pend t) (aside x (act c i t me s d (task_of s t))) (sight_of_act i s (task_of s t) script.Await)
move_act c i me s d x t script.Drop =
    move_look_at c s d x t (send.Act t) (aside x (act c i t me s d (task_of s t))) (sight_of_act i s (task_of s t) script.Drop)
move_act c i me s d x t _ = aside x (act c i t me s d (task_of s t))

abbrev pub move_poll : Configuration → ℕ → Books → Common → Desk → Things → ℕ → InPoll → Moved Things
move_poll c i me s d x t poll.BeginPoll = aside x (begin_poll t d (task_of s t))
move_poll c i me s d x t poll.Resume =
    move_look_at c s d x t (send.Pend t) (aside x (resume i t s d (task_of s t))) (sight_of i s (task_of s t).waiting)
move_poll c i me s d x t poll.Act = move_act c i me s d x t (next_word s (task_of s t))
move_poll c i me s d x t (poll.JoinGate r) =
    let file = (request_of s r).operation.target in with_gate file x (join_gate t r d (gate_of x file))
move_poll c i me s d x t poll.LoadSpawnHead = with_queue i x (load_spawn_head t d (queue_of x i))
move_poll c i me s d x t poll.Pend = aside x (pend i t s d (task_of s t))
move_poll c i me s d x t poll.RemoveTask =
    let n = shard_of c t in with_shard n x (remove_task t d (slice_index_or x.shards n []))

-- the next of the callbacks
abbrev pub move_item : Configuration → ℕ → Books → Common → Desk → Things → AfterCallbacks → Item → Moved Things
move_item c i me s d x n (Wakes t) = aside x (call_back (ring_size c) i me s n t d (task_of s t))
move_item c i me s d x n LetsGo = aside x (let_go (ring_size c) i me s n d)
move_item c i me s d x n (Releases r) = aside x (release (ring_size c) i me s n r d)
move_item c i me s d x n (Completes z) = with_alarms x (send_completion (ring_size c) i me s n z d x.alarms)
move_item c i me s d x n (Answers r) = with_answers x (send_result (ring_size c) i me s n r d x.answers)
move_item c i me s d x n _ = aside x (no_item (ring_size c) i me s n d)

abbrev pub move_callbacks : Configuration → ℕ → Books → Common → Desk → Things → InCallbacks → AfterCallbacks → Moved Things
move_callbacks c i me s d x callback.TakeBatch n = aside x (take_batch (ring_size c) i me s n d)
move_callbacks c i me s d x callback.CallBack n = move_item c i me s d x n (item_next me d)
move_callbacks c i me s d x (callback.WakeWaiter t of) n = aside x (wake_waiter (ring_size c) i me s n t of d (task_of s t))

abbrev pub move_loads : ℕ → Books → Desk → Things → InLoads → Round → Moved Things
move_loads i me d x load.LoadOwnHead r = with_queue i x (load_own_head r d (queue_of x i))
move_loads i me d x (load.LoadOwnMirror f) r = with_global x (load_own_mirror r f d x.global)
move_loads i me d x (load.LoadOwnWord f) r = with_word i x (load_own_word me r f d (word_of x i))

abbrev pub move_submit : Configuration → ℕ → Books → Common → Desk → Things → ℕ → Service → Due → Moved Things
move_submit c i me s d x gate v (Expires r) = aside x (expire v gate r s d)
move_submit c i me s d x gate v (Enrols r) = aside x (enrol c v gate r me s d)
move_submit c i me s d x gate v (AtGate file) = with_gate file x (try_gate i v file s d (gate_of x file))
move_submit c i me s d x gate v due = with_ring i x (stage_next c i v gate me s d (ring_of s x i) due)

abbrev pub move_service : Configuration → ℕ → Books → Common → Desk → Things → InService → Service → Moved Things
move_service c i me s d x step.Sample v = with_word i x (sample v d (word_of x i))
move_service c i me s d x (step.Reap r) v = with_ring i x (reap i v r s d (ring_of s x i))
move_service c i me s d x (step.PassPermit file b) v = with_gate file x (pass_permit v b s d (gate_of x file))
move_service c i me s d x (step.Signal j b) v = with_word j x (signal j v b d (word_of x j))
move_service c i me s d x (step.Raise ring j b) v = with_wake_poll j x (raise_in_service ring j v b s d (wake_poll_of x j))
move_service c i me s d x step.AdvanceWheel v = aside x (advance_wheel v d)
move_service c i me s d x (step.Submit gate) v = move_submit c i me s d x gate v (due_next c i gate me s d)
move_service c i me s d x step.EnterLast v = with_ring i x (enter_last v me d (ring_of s x i))
move_service c i me s d x step.EndService v = aside x (end_service i v me s d)

abbrev pub move_mail : ℕ → Books → Common → Desk → Things → InMail → Moved Things
move_mail i me s d x mail.LoadMailWord = with_word i x (load_mail_word d (word_of x i))
move_mail i me s d x mail.TakeMail = with_inbox i x (take_mail d (inbox_of x i))
move_mail i me s d x (mail.Apply applied taken) = aside x (apply applied me.root s d)

abbrev pub move_search : Configuration → Desk → Things → InSearch → Moved Things
move_search c d x search.LoadSearchCount = with_idle x (load_search_count c d x.idle)
move_search c d x search.AddSearchCount = with_idle x (add_search_count d x.idle)

abbrev pub move_scan : Configuration → ℕ → Books → Common → Desk → Things → InScan → Moved Things
move_scan c i me s d x scan.LoadScanHead = with_queue i x (load_scan_head c i d (queue_of x i))
move_scan c i me s d x (scan.LoadTheirHead y) =
    with_queue (from_of c y) x (load_their_head c i y d (queue_of x (from_of c y)))
move_scan c i me s d x (scan.LoadTheirTail y h) =
    with_queue (from_of c y) x (load_their_tail c i y h d (queue_of x (from_of c y)))
move_scan c i me s d x (scan.ClaimHalf y h tail) =
    with_queue (from_of c y) x (claim_half c i y h tail d (queue_of x (from_of c y)))
move_scan c i me s d x (scan.MoveHalf from h) = aside x (move_half from h d)
move_scan c i me s d x (scan.ReleaseHalf from h) = with_queue from x (release_half from h d (queue_of x from))
move_scan c i me s d x scan.StoreMoved = with_queue i x (store_moved c i me s d (queue_of x i))

abbrev pub move_look : Configuration → ℕ → Common → Desk → Things → InLook → Moved Things
move_look c i s d x look.Publish = with_idle x (publish i d x.idle)
move_look c i s d x look.ReturnLookCount = with_idle x (return_look_count d x.idle)
move_look c i s d x (look.LookAtMirror last) = with_global x (look_at_mirror last d x.global)
move_look c i s d x look.LookAtCount = with_idle x (look_at_count c i s d x.idle)
move_look c i s d x (look.LookAtHead j) = with_queue j x (look_at_head j d (queue_of x j))
move_look c i s d x (look.LookAtTail j h) = with_queue j x (look_at_tail c i s j h d (queue_of x j))
move_look c i s d x look.ExchangeLookCount = with_idle x (exchange_look_count c i s d x.idle)
move_look c i s d x look.ReturnClaimed = with_idle x (return_claimed d x.idle)

abbrev pub move_ring_wait : Configuration → ℕ → Books → Common → Desk → Things → InRingWait → Stay → Moved Things
move_ring_wait c i me s d x ring.EnterFullRing y = with_ring i x (enter_full_ring y me d (ring_of s x i))
move_ring_wait c i me s d x ring.TestRing y = aside x (test_ring c i y me s d)
move_ring_wait c i me s d x ring.ArmRing y = with_word i x (arm_ring y d (word_of x i))
move_ring_wait c i me s d x ring.EnterRing y = with_ring i x (enter_ring y me d (ring_of s x i))
move_ring_wait c i me s d x ring.SleepOnRing y = with_ring i x (sleep_on_ring i y s d (ring_of s x i))
move_ring_wait c i me s d x (ring.DisarmRing n) y = with_word i x (disarm_ring i y n s d (word_of x i))

abbrev pub move_word_wait : ℕ → Common → Desk → Things → InWordWait → Moved Things
move_word_wait i s d x (word.SpinOnBatch left) = with_word i x (spin_on_batch left d (word_of x i))
move_word_wait i s d x (word.SpinOnLatch left) = with_word i x (spin_on_latch left d (word_of x i))
move_word_wait i s d x word.TakeLatch = with_word i x (take_latch i s d (word_of x i))
move_word_wait i s d x word.ArmWord = with_word i x (arm_word d (word_of x i))
move_word_wait i s d x word.SleepOnWord = with_word i x (sleep_on_word i s d (word_of x i))
move_word_wait i s d x word.DisarmWord = with_word i x (disarm_word i s d (word_of x i))

abbrev pub move_closing : Configuration → ℕ → Common → Desk → Things → InClosing → Moved Things
move_closing c i s d x closing.Close = aside x (close c i s d)
move_closing c i s d x closing.CloseQueue = with_global x (close_queue d x.global)
move_closing c i s d x closing.OpenBarrier = with_barrier x (open_barrier d x.barrier)
move_closing c i s d x closing.Stop = aside x (stop c d)
move_closing c i s d x (closing.TellRoot j) = with_mailbox j x (send_root c s j (send.Tell (j + 1)) d (mailbox_of x j))
move_closing c i s d x (closing.Visit drain) =
    with_shard drain.at x (visit (shard_count c) drain d (slice_index_or x.shards drain.at []))
move_closing c i s d x (closing.Clear t drain) = aside x (clear i t drain s d (task_of s t))
move_closing c i s d x closing.LeaveBarrier = with_barrier x (leave_barrier d x.barrier)
move_closing c i s d x closing.CloseMailbox = with_inbox i x (close_mailbox i s d (inbox_of x i))
move_closing c i s d x closing.Orphan = aside x (orphan i s d)
move_closing c i s d x closing.CloseSleeper = aside x (close_sleeper i s d)
move_closing c i s d x closing.End = aside x (end d)

abbrev pub move_at : Configuration → ℕ → Books → Common → Desk → Things → Place → Moved Things
move_at c i me s d x at.BeginTurn = aside x (begin_turn i s d)
move_at c i me s d x (at.Pick p) = move_pick c i d x p
move_at c i me s d x at.TakeRootFlag = aside x (take_root_flag me.root d)
move_at c i me s d x (at.Poll t p) = move_poll c i me s d x t p
move_at c i me s d x (at.Callbacks p n) = move_callbacks c i me s d x p n
move_at c i me s d x (at.Loads p r) = move_loads i me d x p r
move_at c i me s d x (at.Service p v) = move_service c i me s d x p v
move_at c i me s d x (at.Mail p) = move_mail i me s d x p
move_at c i me s d x (at.TestForWork f) = aside x (test_for_work c i me s f d)
move_at c i me s d x at.ReadClock = aside x (read_clock c i me s d)
move_at c i me s d x (at.Search p) = move_search c d x p
move_at c i me s d x (at.Scan p) = move_scan c i me s d x p
move_at c i me s d x (at.Look p) = move_look c i s d x p
move_at c i me s d x (at.RingWait p y) = move_ring_wait c i me s d x p y
move_at c i me s d x (at.WordWait p) = move_word_wait i s d x p
move_at c i me s d x (at.Withdraw n) = with_idle x (withdraw c i me s n d x.idle)
move_at c i me s d x (at.Closing p) = move_closing c i s d x p
move_at c i me s d x (at.Pop p b) = move_pop c i d x p b
move_at c i me s d x (at.LeaveSearch b) = with_idle x (leave_search c i me s b d x.idle)
move_at c i me s d x (at.Push p b) = move_push c i me s d x p b
move_at c i me s d x (at.Global p b) = move_global c i me s d x p b
move_at c i me s d x (at.Kick p b) = move_kick c i me s d x p b
move_at c i me s d x (at.ClaimWorker set b) = with_idle x (claim_worker set b d x.idle)
move_at c i me s d x (at.Signal p j b) = move_signal c i me s d x p j b
move_at c i me s d x (at.SendCancel b) =
    let j = (first_letter d).to in with_mailbox j x (send_cancel c s b d (mailbox_of x j))

-- what the next step of worker i does
abbrev pub move : Configuration → ℕ → Books → Common → Desk → Things → Moved Things
move c i me s d x = move_at c i me s d x d.place
