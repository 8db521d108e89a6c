-- HOW FAR A WORKER HAS COME: it is open until it closes, which it does once its root is over; and a closing has its order.
use Rattle.std.specs.Prelude.{◌≡◌, ◌⊎◌, ℕ, ◌+◌, ◌<◌, ◌≤◌, ◌&&◌, Bool, true, false, not, List, [], length, Option, Some, None, slice_get, slice_set}
use Rattle.exec_parts.specs.{Words.{Set, IsFor, shard_at, Drain, Phase, cell, WorkerPhase, is_open, has_ended, AfterCancels, cancels, AfterClaim, claim, AfterKick, kick, AfterLeave, leave, pop, AfterPush, push, AfterSend, send, AfterSignal, signal, stay, InClosing, closing, Place, at, after_visit, left_before, left_in_service}, declared.parts.{seat.Seat.Seat as Chair, shared.Shared.Shared, task_slot.TaskSlot.TaskSlot}}

abbrev pub closes_after_leave : AfterLeave → Bool
closes_after_leave (leave.CallBack n) = left_before n
closes_after_leave _ = false

-- and so is a push of a task that a callback woke
abbrev pub closes_after_push : AfterPush → Bool
closes_after_push (push.CallBack n) = left_before n
closes_after_push _ = false

abbrev pub closes_after_kick : AfterKick → Bool
closes_after_kick (kick.Leave b) = closes_after_leave b
closes_after_kick (kick.Push b) = closes_after_push b

abbrev pub closes_after_claim : AfterClaim → Bool
closes_after_claim (claim.Kick b) = closes_after_kick b
closes_after_claim (claim.Global b) = closes_after_push b

-- what a task held that a drain cleared is told to whom it is of
abbrev pub closes_after_cancels : AfterCancels → Bool
closes_after_cancels (cancels.Visit drain) = true
closes_after_cancels _ = false

abbrev pub closes_after_send : AfterSend → Bool
closes_after_send (send.Tell worker) = true
closes_after_send (send.Cancels b) = closes_after_cancels b
closes_after_send _ = false

abbrev pub closes_after_signal : AfterSignal → Bool
closes_after_signal (signal.Claim b) = closes_after_claim b
closes_after_signal (signal.Send b) = closes_after_send b

-- the worker is closing there
abbrev pub closes_at : Place → Bool
closes_at (at.Closing closing.Close) = false
closes_at (at.Pop x pop.Discard) = true
closes_at (at.Push x b) = closes_after_push b
closes_at (at.Global x b) = closes_after_push b
closes_at (at.SendCancel b) = closes_after_cancels b
closes_at (at.LeaveSearch b) = closes_after_leave b
closes_at (at.Kick x b) = closes_after_kick b
closes_at (at.ClaimWorker set b) = closes_after_claim b
closes_at (at.Signal x j b) = closes_after_signal b
closes_at (at.Closing x) = true
closes_at (at.Service x v) = left_in_service v.back
closes_at (at.RingWait x stay.Closing) = true
closes_at (at.Callbacks x n) = left_before n
closes_at _ = false

-- where the closing is: the signal of a told root, and the emptying of the own run queue, count as the telling; letters of a
-- cleared task count as what follows them
abbrev pub closing_after_cancels : AfterCancels → Option InClosing
closing_after_cancels (cancels.Visit drain) = Some (after_visit drain)
closing_after_cancels _ = None

abbrev pub closing_after_signal : AfterSignal → Option InClosing
closing_after_signal (signal.Send (send.Tell worker)) = Some (closing.TellRoot worker)
closing_after_signal (signal.Send (send.Cancels b)) = closing_after_cancels b
closing_after_signal _ = None

abbrev pub closing_in : Place → Option InClosing
closing_in (at.Closing x) = Some x
closing_in (at.Pop x pop.Discard) = Some (closing.TellRoot 0)
closing_in (at.Signal x j b) = closing_after_signal b
closing_in (at.SendCancel b) = closing_after_cancels b
closing_in _ = None

-- the root is over where the worker is about to close, and then
abbrev pub root_over : Bool → Option InClosing → Bool
root_over closes (Some closing.Close) = true
root_over closes _ = closes

-- the pool is stopped, the worker has passed the barrier, its mailbox is closed: one after another
abbrev pub has_stopped : Bool → Option InClosing → Bool
has_stopped closes (Some closing.Close) = false
has_stopped closes (Some closing.CloseQueue) = false
has_stopped closes (Some closing.OpenBarrier) = false
has_stopped closes (Some closing.Stop) = false
has_stopped closes _ = closes

abbrev pub has_left : Bool → Option InClosing → Bool
has_left closes (Some (closing.TellRoot worker)) = false
has_left closes (Some (closing.Visit drain)) = false
has_left closes (Some (closing.Clear task drain)) = false
has_left closes (Some closing.LeaveBarrier) = false
has_left closes x = has_stopped closes x

abbrev pub has_shut : Bool → Option InClosing → Bool
has_shut closes (Some closing.CloseMailbox) = false
has_shut closes x = has_left closes x

abbrev pub is_complete : {B : Type 0} → Phase B → Bool
is_complete cell.Complete = true
is_complete _ = false

-- what a closing changes of the worker's seat, and of what all share
pub record Stage : Type 0 where
  pub phase : WorkerPhase
  pub pool : Bool
  pub left : Bool
  pub shut : Bool
  pub stopped : Bool
  pub set : Set (Unit {0})
  -- how many of its requests and sleepers the worker has made
  pub made : ℕ

abbrev pub stage_of : {B : Type 0} → Chair → Shared B → Stage
stage_of chair s =
    record { phase = chair.phase; pool = chair.pool; left = chair.left; shut = chair.mailbox.inbox.closed; stopped = s.stopped; set = s.set; made = chair.made }

-- The shards that a drain has passed are empty: those before it, and those behind all that it has to visit, round all.
abbrev pub HasPassed : Drain → Set (Unit {0}) → Type 0
HasPassed d set =
    (k : ℕ) → k < length set.shards → (k < d.at ⊎ d.at + d.left ≤ k) → d.at + d.left ≤ k + length set.shards → shard_at set k ≡ []

-- What a step of the closing needs beside: a drain is one of the set, and not over, and what it has passed is empty, as all
-- is where the barrier is passed; at the end all requests are released; and since its root let go of all that it held,
-- nothing is left to be let go of.
abbrev pub IsPrepared : Option InClosing → ℕ → Set (Unit {0}) → Type 0
IsPrepared (Some (closing.Visit drain)) unreleased set = IsFor drain set × (0 < drain.left) × HasPassed drain set
IsPrepared (Some (closing.Clear t drain)) unreleased set = IsFor drain set × HasPassed drain set
IsPrepared (Some closing.LeaveBarrier) unreleased set = (k : ℕ) → shard_at set k ≡ []
IsPrepared (Some closing.End) unreleased set = unreleased ≡ 0
IsPrepared _ unreleased set = Unit {0}

module _ {B : Type 0} where
  -- Worker zero closes the set and stops the pool; the root of any other of the pool is over only once that is so.
  pub record IsPhased (i : ℕ) (closes : Bool) (x : Option InClosing) (home_closes : Bool) (t unreleased : ℕ) (at : Stage) (tasks : List (TaskSlot B)) : Type 0 where
    pub told : home_closes ≡ closes
    pub opened : is_open at.phase ≡ not closes
    pub ended : has_ended at.phase ≡ true → x ≡ Some closing.End
    pub root : (slot : TaskSlot B) → slice_get tasks t ≡ Some slot → is_complete slot.cell.phase ≡ root_over closes x
    -- a dedicated worker passes no barrier
    pub left : at.left ≡ (at.pool && has_left closes x)
    pub shut : at.shut ≡ has_shut closes x
    pub by_zero : i ≡ 0 → (at.stopped ≡ has_stopped closes x) × (at.set.closed ≡ closes)
    pub by_other : 0 < i → at.pool ≡ true → root_over closes x ≡ true → at.stopped ≡ true
    pub closed : at.stopped ≡ true → at.set.closed ≡ true
    pub prepared : IsPrepared x unreleased at.set

-- the worker of this number has not ended
abbrev pub IsGoing : ℕ → List Chair → Type 0
IsGoing i seats = (chair : Chair) → slice_get seats i ≡ Some chair → has_ended chair.phase ≡ false

-- the chair of the worker of this number has become what this makes of it
abbrev pub TurnsChair : {B : Type 0} → ℕ → (Chair → Chair) → Shared B → Shared B → Type 0
TurnsChair i change s s' = (chair : Chair) → slice_get s.seats.items i ≡ Some chair → s'.seats.items ≡ slice_set s.seats.items i (change chair)
