-- What a place says of its worker: which poll it is in, what is in its hands, whether its bit is published, how many search
-- counts it carries, and which run queue it has claimed.
use Rattle.std.specs.Prelude.{◌==◌, if◌then◌else◌}
use Rattle.exec_invariants.specs.Words.{ℕ, Bool, true, false, Option, Some, None, polls_at, AfterCallbacks, AfterClaim, AfterKick, AfterLeave, AfterPush, AfterSend, AfterSignal, AfterWait, InLook, InRingWait, InWordWait, Stay, AfterService, InClosing, InPoll, Place, after, claim, kick, leave, pop, cancels, send, signal, global, kicks, pushes, next, look, ring, scan, word, back, callback, closing, poll, service, at}
pub use Rattle.exec_moves.specs.Counts.{one_if}

-- WHAT FOLLOWS once somebody was kicked, claimed or signalled: what follows a returned count, a push or a message

abbrev pub once_kicked : {A : Type 0} → (AfterLeave → A) → (AfterPush → A) → AfterKick → A
once_kicked leaves pushes (kick.Leave b) = leaves b
once_kicked leaves pushes (kick.Push b) = pushes b

abbrev pub once_claimed : {A : Type 0} → (AfterLeave → A) → (AfterPush → A) → AfterClaim → A
once_claimed leaves pushes (claim.Kick b) = once_kicked leaves pushes b
once_claimed leaves pushes (claim.Global b) = pushes b

abbrev pub once_signalled : {A : Type 0} → (AfterLeave → A) → (AfterPush → A) → (AfterSend → A) → AfterSignal → A
once_signalled leaves pushes sends (signal.Claim b) = once_claimed leaves pushes b
once_signalled leaves pushes sends (signal.Send b) = sends b

-- THE POLL that a worker is in, once it has begun: what is handed on for an act is within it

abbrev pub step_of_poll : Place → InPoll
step_of_poll (at.Poll t x) = x
step_of_poll (at.Signal x j (signal.Send (send.Pend t))) = poll.Pend
step_of_poll _ = poll.Act

abbrev pub in_poll_of : ℕ → Option ℕ → InPoll → Option InPoll
in_poll_of t None x = None
in_poll_of t (Some u) x = if u == t then Some x else None

-- where it is in a poll of task t
abbrev pub polled_in : ℕ → Place → Option InPoll
polled_in t p = in_poll_of t (polls_at p) (step_of_poll p)

-- THE HANDS

-- the task that is polled next: its runnable is in the hand
abbrev pub begins_after_leave : AfterLeave → Option ℕ
begins_after_leave (leave.Poll t) = Some t
begins_after_leave _ = None

abbrev pub begins_at : Place → Option ℕ
begins_at (at.Poll t poll.BeginPoll) = Some t
begins_at (at.LeaveSearch b) = begins_after_leave b
begins_at (at.Kick x b) = once_kicked begins_after_leave (λ _. None) b
begins_at (at.ClaimWorker set b) = once_claimed begins_after_leave (λ _. None) b
begins_at (at.Signal x j b) = once_signalled begins_after_leave (λ _. None) (λ _. None) b
begins_at _ = None

-- a callback is about to be made, once a search count is returned
abbrev pub calls_after_leave : AfterLeave → Option AfterCallbacks
calls_after_leave (leave.CallBack n) = Some n
calls_after_leave _ = None

abbrev pub calls_back_at : Place → Option AfterCallbacks
calls_back_at (at.Callbacks callback.CallBack n) = Some n
calls_back_at (at.LeaveSearch b) = calls_after_leave b
calls_back_at (at.Kick x b) = once_kicked calls_after_leave (λ _. None) b
calls_back_at (at.ClaimWorker set b) = once_claimed calls_after_leave (λ _. None) b
calls_back_at (at.Signal x j b) = once_signalled calls_after_leave (λ _. None) (λ _. None) b
calls_back_at _ = None

-- a runnable in the hand is to be queued
abbrev pub hands_on_at : Place → Bool
hands_on_at (at.Poll t poll.LoadSpawnHead) = true
hands_on_at (at.Push x b) = true
hands_on_at (at.Global global.Append b) = true
hands_on_at _ = false

-- runnables may be on their way from one queue to another
abbrev pub has_loot_at : Place → Bool
has_loot_at (at.Push pushes.StoreOldest b) = true
has_loot_at (at.Global global.Append b) = true
has_loot_at (at.Scan (scan.MoveHalf from h)) = true
has_loot_at (at.Scan (scan.ReleaseHalf from h)) = true
has_loot_at (at.Scan scan.StoreMoved) = true
has_loot_at _ = false

-- the run queue that it has claimed
abbrev pub claims_at : Place → Option ℕ
claims_at (at.Scan (scan.MoveHalf from h)) = Some from
claims_at (at.Scan (scan.ReleaseHalf from h)) = Some from
claims_at _ = None

-- THE WAKE WORD has a wait bit only within a wait, from its arming to its disarming

abbrev pub is_armed_on_ring : InRingWait → Bool
is_armed_on_ring ring.EnterRing = true
is_armed_on_ring ring.SleepOnRing = true
is_armed_on_ring (ring.DisarmRing next) = true
is_armed_on_ring _ = false

abbrev pub is_armed_on_word : InWordWait → Bool
is_armed_on_word word.SleepOnWord = true
is_armed_on_word word.DisarmWord = true
is_armed_on_word _ = false

abbrev pub is_armed_at : Place → Bool
is_armed_at (at.RingWait x stay) = is_armed_on_ring x
is_armed_at (at.WordWait x) = is_armed_on_word x
is_armed_at _ = false

-- THE IDLE SET

abbrev pub is_published_in_look : InLook → Bool
is_published_in_look look.Publish = false
is_published_in_look look.ReturnClaimed = false
is_published_in_look _ = true

-- it has published its bit, and not withdrawn it
abbrev pub is_published_at : Place → Bool
is_published_at (at.Look x) = is_published_in_look x
is_published_at (at.RingWait x Stay.Turn) = true
is_published_at (at.WordWait x) = true
is_published_at (at.Withdraw next) = true
is_published_at _ = false

-- whether it holds a search count, where that is known: who polls, calls back, hands on or closes has returned it
abbrev pub searches_in_look : InLook → Option Bool
searches_in_look look.Publish = None
searches_in_look look.ReturnLookCount = Some true
searches_in_look look.ReturnClaimed = Some true
searches_in_look _ = Some false

abbrev pub searches_before : AfterCallbacks → Option Bool
searches_before after.Drain = Some false
searches_before after.Finish = Some false
searches_before _ = None

abbrev pub searches_for : AfterService → Option Bool
searches_for back.Finish = Some false
searches_for _ = None

abbrev pub searches_after : AfterWait → Option Bool
searches_after next.Search = Some true
searches_after _ = Some false

abbrev pub searches_at : Place → Option Bool
searches_at (at.LeaveSearch b) = Some true
searches_at (at.Search x) = Some false
searches_at (at.Look x) = searches_in_look x
searches_at (at.RingWait (ring.DisarmRing n) Stay.Turn) = searches_after n
searches_at (at.RingWait x stay) = Some false
searches_at (at.WordWait x) = Some false
searches_at (at.Withdraw n) = searches_after n
searches_at (at.Poll t x) = Some false
searches_at (at.Push x b) = Some false
searches_at (at.Global x b) = Some false
searches_at (at.Kick x b) = Some false
searches_at (at.ClaimWorker set b) = Some false
searches_at (at.Signal x j b) = Some false
searches_at (at.SendCancel b) = Some false
searches_at (at.Closing x) = Some false
searches_at (at.Pop x pop.Discard) = Some false
searches_at (at.Callbacks callback.TakeBatch n) = searches_before n
searches_at (at.Callbacks x n) = Some false
searches_at (at.Service x v) = searches_for v.back
searches_at _ = None

-- ONLY A WORKER OF THE POOL has a run queue that it picks from and pushes into, searches, publishes its bit, takes ordinary
-- tasks out of the task set, and drains it. Any other place may be a dedicated worker's.

abbrev pub pooled_push : AfterPush → Bool
pooled_push AfterPush.Pick = true
pooled_push _ = false

abbrev pub pooled_send : AfterSend → Bool
pooled_send (AfterSend.Tell worker) = true
pooled_send (AfterSend.Cancels b) = true
pooled_send _ = false

abbrev pub pooled_in_closing : InClosing → Bool
pooled_in_closing closing.CloseQueue = true
pooled_in_closing closing.OpenBarrier = true
pooled_in_closing closing.Stop = true
pooled_in_closing (closing.TellRoot worker) = true
pooled_in_closing (closing.Visit drain) = true
pooled_in_closing (closing.Clear t drain) = true
pooled_in_closing closing.LeaveBarrier = true
pooled_in_closing _ = false

abbrev pub is_pooled_at : Place → Bool
is_pooled_at (at.Pick x) = true
is_pooled_at (at.Pop x b) = true
is_pooled_at (at.Search x) = true
is_pooled_at (at.Scan x) = true
is_pooled_at (at.Look x) = true
is_pooled_at (at.Withdraw n) = true
is_pooled_at (at.SendCancel b) = true
is_pooled_at (at.Poll t poll.RemoveTask) = true
is_pooled_at (at.Push x b) = pooled_push b
is_pooled_at (at.Global x b) = pooled_push b
is_pooled_at (at.Kick x b) = once_kicked (λ _. false) pooled_push b
is_pooled_at (at.ClaimWorker set b) = once_claimed (λ _. false) pooled_push b
is_pooled_at (at.Signal x j b) = once_signalled (λ _. false) pooled_push pooled_send b
is_pooled_at (at.Closing x) = pooled_in_closing x
is_pooled_at _ = false

-- the task that it polls, or polls next
abbrev pub or_polls : Option ℕ → Option ℕ → Option ℕ
or_polls (Some t) polls = Some t
or_polls None polls = polls

abbrev pub task_at : Place → Option ℕ
task_at p = or_polls (begins_at p) (polls_at p)

-- it has a search count in the place beside the one that it may hold
abbrev pub has_count_at : Place → Bool
has_count_at (at.ClaimWorker set b) = true
has_count_at (at.Global global.ReturnGlobalCount b) = true
has_count_at (at.Kick kicks.ReturnKickCount b) = true
has_count_at (at.Look look.ReturnClaimed) = true
has_count_at _ = false

abbrev pub is_number : Option ℕ → ℕ → Bool
is_number None n = false
is_number (Some m) n = m == n

-- THE TASK SET: the task that it has taken out of the set and clears next, and the one, over now, that it takes out next

abbrev pub clears_at : Place → Option ℕ
clears_at (at.Closing (closing.Clear t drain)) = Some t
clears_at _ = None

-- at once, or once what it held is told
abbrev pub removes_at : Place → Option ℕ
removes_at (at.SendCancel (cancels.Remove t)) = Some t
removes_at (at.Signal x j (signal.Send (send.Cancels (cancels.Remove t)))) = Some t
removes_at (at.Poll t poll.RemoveTask) = Some t
removes_at _ = None

-- THE GATES: the open whose permit it passes on, and the request that it has join a gate
abbrev pub passes_at : Place → Option ℕ
passes_at (at.Service (service.PassPermit file b) v) = Some file
passes_at _ = None

abbrev pub joins_at : Place → Option ℕ
joins_at (at.Poll t (poll.JoinGate r)) = Some r
joins_at _ = None

pub record Drops : Type 0 where
  pub clears : Option ℕ
  pub removes : Option ℕ
  pub passes : Option ℕ
  pub joins : Option ℕ

abbrev pub no_drops : Drops
no_drops = record { clears = None; removes = None; passes = None; joins = None }

abbrev pub drops_at : Place → Drops
drops_at p = record { clears = clears_at p; removes = removes_at p; passes = passes_at p; joins = joins_at p }
