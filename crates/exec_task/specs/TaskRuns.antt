-- Calls on a task, one after another, and the runnables that are about.
use Rattle.std.specs.Prelude.{◌≡◌, ℕ, ◌+◌, ◌-◌, ◌<◌, ◌≤◌, Bool, true, false, List, [], ◌∷◌, if◌then◌else◌, is_some}
use Rattle.exec_base.specs.declared.task_no.TaskNo.{TaskNo}
use Rattle.exec_task.specs.{declared.{body.Ended.Ended, task.Phase.Phase, runnable.AfterPoll.AfterPoll}, Phases.{Task, is_idle, queued_body, woken, begun, pended, pend_answer, over, cleared, runnable_of}}

-- a call on a task
pub data Call (B : Type 0) : Type 0 where
  Wake : Call B
  Begin : Call B
  Pend : (body : B) → Call B
  Done : Call B
  Clear : Call B

-- a task, how many of its runnables are in queues and hands, and how many polls of it run
pub record Ledger (B : Type 0) : Type 0 where
  pub task : Task B
  pub runnables : ℕ
  pub polls : ℕ

-- the runnables that a poll gives back
abbrev pub requeued : AfterPoll → ℕ
requeued (AfterPoll.Requeue _) = 1
requeued _ = 0

module _ {B : Type 0} where
  -- who begins a poll has a runnable, and who ends one polls; anybody wakes and clears
  abbrev pub MayCall : Ledger B → Call B → Type 0
  MayCall l Begin = 0 < l.runnables
  MayCall l (Pend _) = 0 < l.polls
  MayCall l Done = 0 < l.polls
  MayCall l _ = Unit {0}

  -- what the call makes of task and runnables: a wake of an idle task publishes one, and a queued one may be polled
  abbrev pub after : Ledger B → Call B → Ledger B
  after l Wake =
      record l { task = record l.task { phase = woken l.task.phase }; runnables = l.runnables + (if is_idle l.task.phase then 1 else 0) }
  after l Begin =
      record {
        task = record l.task { phase = begun l.task.phase };
        runnables = l.runnables - 1;
        polls = l.polls + (if is_some (queued_body l.task.phase) then 1 else 0);
      }
  after l (Pend body) =
      record { task = pended l.task body; runnables = l.runnables + requeued (pend_answer l.task); polls = l.polls - 1 }
  after l Done = record l { task = over l.task; polls = l.polls - 1 }
  after l Clear = record l { task = cleared l.task }

  -- calls in whatever order, each by who may make it
  abbrev pub AreCalls : Ledger B → List (Call B) → Type 0
  AreCalls l [] = Unit {0}
  AreCalls l (call ∷ rest) = MayCall l call × AreCalls (after l call) rest

  abbrev pub after_all : Ledger B → List (Call B) → Ledger B
  after_all l [] = l
  after_all l (call ∷ rest) = after_all (after l call) rest

  -- a new task, with its first runnable
  abbrev pub new_task : TaskNo → ℕ → B → Ledger B
  new_task number owner body =
      record { task = record { number = number; owner = owner; phase = Phase.Queued body; cancelled = false }; runnables = 1; polls = 0 }

  -- how many runnables and polls there must be: one where the task is queued or polled, none where it is idle
  abbrev pub IsOneRight : Phase B → ℕ → ℕ → Type 0
  IsOneRight (Phase.Idle _) runnables polls = (runnables ≡ 0) × (polls ≡ 0)
  IsOneRight (Phase.Queued _) runnables polls = (runnables ≡ 1) × (polls ≡ 0)
  IsOneRight Phase.Running runnables polls = (runnables ≡ 0) × (polls ≡ 1)
  IsOneRight Phase.Notified runnables polls = (runnables ≡ 0) × (polls ≡ 1)
  IsOneRight Phase.Complete runnables polls = (runnables ≤ 1) × (polls ≡ 0)

-- what others do to a task while it is polled
pub data Meanwhile : Type 0 where
  Wakes : Meanwhile
  Clears : Meanwhile

abbrev pub some_wake : List Meanwhile → Bool
some_wake [] = false
some_wake (Wakes ∷ _) = true
some_wake (_ ∷ rest) = some_wake rest

abbrev pub some_clear : List Meanwhile → Bool
some_clear [] = false
some_clear (Clears ∷ _) = true
some_clear (_ ∷ rest) = some_clear rest

module _ {B : Type 0} where
  abbrev pub after_meanwhile : Task B → List Meanwhile → Task B
  after_meanwhile t [] = t
  after_meanwhile t (Wakes ∷ rest) = after_meanwhile (record t { phase = woken t.phase }) rest
  after_meanwhile t (Clears ∷ rest) = after_meanwhile (cleared t) rest

  -- a task whose poll has just begun
  abbrev pub just_begun : TaskNo → ℕ → Task B
  just_begun number owner = record { number = number; owner = owner; phase = Phase.Running; cancelled = false }

  -- a pending poll gives its one runnable back where a wake came, however many did, and none where it was cleared
  abbrev pub after_pending_poll : Task B → List Meanwhile → AfterPoll
  after_pending_poll t meanwhile =
      if some_clear meanwhile then AfterPoll.Retire t.number Ended.Closed
      else (if some_wake meanwhile then AfterPoll.Requeue (runnable_of t) else AfterPoll.Done)
