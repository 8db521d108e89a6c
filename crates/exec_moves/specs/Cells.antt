-- Which one shared thing each place names.
use Rattle.std.specs.Prelude.{ℕ, ◌%◌, ◌==◌, length, Option, Some, None, if◌then◌else◌}
use Rattle.exec_machine.specs.{declared.{config.{Configuration.Configuration, ScriptWord.{ScriptWord, ScriptWord as word}}, step.Action.{Action, Action as action}}, World.{Common, task_of, request_of, Own as Books}, Words.next_word}
use Rattle.exec_moves.specs.{declared.{handing.{InGlobal.{InGlobal, InGlobal as global}, InKick.{InKick, InKick as kick}, InSignal.{InSignal, InSignal as signal}, CallPlace.{CallPlace, CallPlace as call}}, idling.{InLook.{InLook, InLook as look}, InRingWait.InRingWait, InScan.{InScan, InScan as scan}}, place.{InPick.{InPick, InPick as pick}, InPoll.{InPoll, InPoll as poll}, InCallbacks.{InCallbacks, InCallbacks as callback}, InLoads.{InLoads, InLoads as load}, InService.{InService, InService as step}, InMail.{InMail, InMail as mail}, InClosing.{InClosing, InClosing as closing}, Place.{Place, Place as at}}}, State.Desk, Pop.shard_count, Search.from_of, Callback.{Item, Item.{Wakes, Completes, Answers}, item_next}, Submit.{Due, Due.AtGate, due_next}, Send.first_letter, Poll.{Sight, Sight.{Here, Asks, HearsRequest, HearsTimer}, sight_of, sight_of_act}}
use Rattle.exec_moves.specs.declared.idling.InRingWait.TheVariants as ring

-- What several parties touch. The global queue goes with its mirror, the inbox with the batch that it publishes in the wake
-- word.
pub data Cell : Type 0 where
  -- a local step
  Nothing : Cell
  -- the run queue, the wake word, the ring and the inbox of this worker
  RunQueue : ℕ → Cell
  WakeWord : ℕ → Cell
  Ring : ℕ → Cell
  Inbox : ℕ → Cell
  GlobalQueue : Cell
  -- the same with the tail of the run queue of this worker, which takes a share
  Share : ℕ → Cell
  -- the idle set, and the search count
  IdleSet : Cell
  SearchCount : Cell
  -- the wake poll and the rest of this worker
  Rest : ℕ → Cell
  -- what a new worker has
  Newcomer : ℕ → Cell
  -- the end of this request, and of this sleeper, as it is sent to a task elsewhere
  Answer : ℕ → Cell
  Alarm : ℕ → Cell
  -- the phase of this task, the gate of this open, a shard of the task set, the shutdown barrier
  Phase : ℕ → Cell
  Gate : ℕ → Cell
  Shard : ℕ → Cell
  Barrier : Cell

-- OF PARTS

abbrev pub names_in_global : InGlobal → Cell
names_in_global global.Append = GlobalQueue
names_in_global global.LoadGlobalSet = IdleSet
names_in_global (global.AddGlobalCount set) = SearchCount
names_in_global global.ReturnGlobalCount = SearchCount

abbrev pub names_in_kick : InKick → Cell
names_in_kick kick.LoadKickSet = IdleSet
names_in_kick _ = SearchCount

abbrev pub names_in_signal : InSignal → ℕ → Cell
names_in_signal signal.SetLatch j = WakeWord j
names_in_signal (signal.Raise ring) j = Rest j

abbrev pub names_in_scan : Configuration → ℕ → InScan → Cell
names_in_scan c i scan.LoadScanHead = RunQueue i
names_in_scan c i (scan.LoadTheirHead x) = RunQueue (from_of c x)
names_in_scan c i (scan.LoadTheirTail x h) = RunQueue (from_of c x)
names_in_scan c i (scan.ClaimHalf x h tail) = RunQueue (from_of c x)
names_in_scan c i (scan.MoveHalf from h) = Nothing
names_in_scan c i (scan.ReleaseHalf from h) = RunQueue from
names_in_scan c i scan.StoreMoved = RunQueue i

-- the shard of this task
abbrev pub shard_of : Configuration → ℕ → ℕ
shard_of c t = t % shard_count c

-- a task, or the inbox of the worker whose root it is, unless that is worker i
abbrev pub names_to_wake : ℕ → ℕ → Option ℕ → Cell
names_to_wake i u None = Phase u
names_to_wake i u (Some home) = if home == i then Phase u else Inbox home

-- what a task looks at or lets go of: its own, or what its worker has sent, or the inbox of that worker
abbrev pub names_at : ℕ → Sight → Cell
names_at t Here = Phase t
names_at t (Asks j message) = Inbox j
names_at t (HearsRequest r) = Answer r
names_at t (HearsTimer z) = Alarm z

-- What an act names goes by its word: a spawn the shard of the next number, a wake the other task or an inbox, any other the
-- task itself, or another worker's inbox where that has the thing that it is about.
abbrev pub names_in_act : Configuration → ℕ → Common → ℕ → ScriptWord → Cell
names_in_act c i s t (word.Spawn k) = Shard (shard_of c (length s.tasks))
names_in_act c i s t (word.Wake u) = names_to_wake i u (task_of s u).home
names_in_act c i s t (word.Dedicated k) = Newcomer (length s.seats)
names_in_act c i s t word.Await = names_at t (sight_of_act i s (task_of s t) word.Await)
names_in_act c i s t word.Drop = names_at t (sight_of_act i s (task_of s t) word.Drop)
names_in_act c i s t _ = Phase t

-- OF A WORKER

abbrev pub names_in_pick : ℕ → InPick → Cell
names_in_pick i pick.CountDown = Nothing
names_in_pick i (pick.LoadMirror f) = GlobalQueue
names_in_pick i (pick.LoadHead f) = RunQueue i
names_in_pick i (pick.TakeShare f room held) = Share i

abbrev pub names_in_poll : Configuration → ℕ → Common → ℕ → InPoll → Cell
names_in_poll c i s t poll.Act = names_in_act c i s t (next_word s (task_of s t))
names_in_poll c i s t poll.Resume = names_at t (sight_of i s (task_of s t).waiting)
names_in_poll c i s t (poll.JoinGate r) = Gate (request_of s r).operation.target
names_in_poll c i s t poll.LoadSpawnHead = RunQueue i
names_in_poll c i s t poll.RemoveTask = Shard (shard_of c t)
names_in_poll c i s t _ = Phase t

abbrev pub names_in_loads : ℕ → InLoads → Cell
names_in_loads i load.LoadOwnHead = RunQueue i
names_in_loads i (load.LoadOwnMirror f) = GlobalQueue
names_in_loads i (load.LoadOwnWord f) = WakeWord i

-- a gate, or the ring
abbrev pub names_of_due : ℕ → Due → Cell
names_of_due i (AtGate file) = Gate file
names_of_due i _ = Ring i

abbrev pub names_in_service : Configuration → ℕ → Books → Common → Desk → InService → Cell
names_in_service c i me s d step.Sample = WakeWord i
names_in_service c i me s d (step.Reap r) = Ring i
names_in_service c i me s d (step.PassPermit file b) = Gate file
names_in_service c i me s d (step.Signal worker b) = WakeWord worker
names_in_service c i me s d (step.Raise ring worker b) = Rest worker
names_in_service c i me s d (step.Submit gate) = names_of_due i (due_next c i gate me s d)
names_in_service c i me s d step.EnterLast = Ring i
names_in_service c i me s d _ = Nothing

abbrev pub names_in_mail : ℕ → InMail → Cell
names_in_mail i mail.LoadMailWord = WakeWord i
names_in_mail i mail.TakeMail = Inbox i
names_in_mail i (mail.Apply applied taken) = Nothing

abbrev pub names_in_look : InLook → Cell
names_in_look look.Publish = IdleSet
names_in_look (look.LookAtMirror last) = GlobalQueue
names_in_look (look.LookAtHead j) = RunQueue j
names_in_look (look.LookAtTail j h) = RunQueue j
names_in_look _ = SearchCount

abbrev pub names_in_ring_wait : ℕ → InRingWait → Cell
names_in_ring_wait i ring.TestRing = Nothing
names_in_ring_wait i ring.ArmRing = WakeWord i
names_in_ring_wait i (ring.DisarmRing n) = WakeWord i
names_in_ring_wait i _ = Ring i

abbrev pub names_in_closing : ℕ → InClosing → Cell
names_in_closing i closing.CloseQueue = GlobalQueue
names_in_closing i closing.OpenBarrier = Barrier
names_in_closing i (closing.TellRoot j) = Inbox j
names_in_closing i (closing.Visit drain) = Shard drain.at
names_in_closing i (closing.Clear t drain) = Phase t
names_in_closing i closing.LeaveBarrier = Barrier
names_in_closing i closing.CloseMailbox = Inbox i
names_in_closing i _ = Nothing

-- The callback of a wake names the phase of the task that is woken, which the batch says; and of an end that is sent, that.
abbrev pub names_of_item : Item → Cell
names_of_item (Wakes t) = Phase t
names_of_item (Completes z) = Alarm z
names_of_item (Answers r) = Answer r
names_of_item _ = Nothing

abbrev pub names_in_callbacks : Books → Desk → InCallbacks → Cell
names_in_callbacks me d callback.TakeBatch = Nothing
names_in_callbacks me d callback.CallBack = names_of_item (item_next me d)
names_in_callbacks me d (callback.WakeWaiter t of) = Phase t

-- what worker i names at this place, with what it has
abbrev pub names : Configuration → ℕ → Books → Common → Desk → Place → Cell
names c i me s d at.BeginTurn = Nothing
names c i me s d (at.Pick x) = names_in_pick i x
names c i me s d at.TakeRootFlag = Nothing
names c i me s d (at.Poll t x) = names_in_poll c i s t x
names c i me s d (at.Callbacks x n) = names_in_callbacks me d x
names c i me s d (at.Loads x r) = names_in_loads i x
names c i me s d (at.Service x v) = names_in_service c i me s d x
names c i me s d (at.Mail x) = names_in_mail i x
names c i me s d (at.TestForWork f) = Nothing
names c i me s d at.ReadClock = Nothing
names c i me s d (at.Search x) = SearchCount
names c i me s d (at.Scan x) = names_in_scan c i x
names c i me s d (at.Look x) = names_in_look x
names c i me s d (at.RingWait x y) = names_in_ring_wait i x
names c i me s d (at.WordWait x) = WakeWord i
names c i me s d (at.Withdraw n) = IdleSet
names c i me s d (at.Closing x) = names_in_closing i x
names c i me s d (at.Pop x b) = RunQueue i
names c i me s d (at.LeaveSearch b) = SearchCount
names c i me s d (at.Push x b) = RunQueue i
names c i me s d (at.Global x b) = names_in_global x
names c i me s d (at.Kick x b) = names_in_kick x
names c i me s d (at.ClaimWorker set b) = IdleSet
names c i me s d (at.Signal x j b) = names_in_signal x j
names c i me s d (at.SendCancel b) = Inbox (first_letter d).to

-- OF A CALLER

-- the task, or the inbox of the worker whose root it is
abbrev pub names_to_wake_by_call : ℕ → Option ℕ → Cell
names_to_wake_by_call u None = Phase u
names_to_wake_by_call u (Some home) = Inbox home

-- one that goes on
abbrev pub names_by_call : CallPlace → Cell
names_by_call call.Nothing = Nothing
names_by_call (call.Global x) = names_in_global x
names_by_call (call.ClaimWorker set) = IdleSet
names_by_call (call.Signal x j) = names_in_signal x j
names_by_call call.Return = Nothing

-- what a caller at this place names by its action
abbrev pub names_by_caller : Configuration → Common → CallPlace → Action → Cell
names_by_caller c s p (action.Spawn j k) = Shard (shard_of c (length s.tasks))
names_by_caller c s p (action.Wake j t) = names_to_wake_by_call t (task_of s t).home
names_by_caller c s p _ = names_by_call p
