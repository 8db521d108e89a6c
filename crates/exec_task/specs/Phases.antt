-- What a contract sees of a task, and what each call makes of it.
use Rattle.std.specs.Prelude.{ℕ, ◌==◌, ◌&&◌, ◌||◌, MatchBool, Bool, true, false, Option, Some, None, if◌then◌else◌}
use Rattle.exec_base.specs.declared.task_no.TaskNo.{TaskNo}
use Rattle.exec_task.specs.declared.{body.Ended.Ended, task.Phase.Phase, runnable.Runnable.Runnable, runnable.AfterPoll.AfterPoll}

-- its number, the identity of its set, where it stands, and whether it was cleared while it is polled
pub record Task (B : Type 0) : Type 0 where
  pub number : TaskNo
  pub owner : ℕ
  pub phase : Phase B
  pub cancelled : Bool

module _ {B : Type 0} where
  abbrev pub is_idle : Phase B → Bool
  is_idle (Phase.Idle _) = true
  is_idle _ = false

  abbrev pub is_polled : Phase B → Bool
  is_polled Phase.Running = true
  is_polled Phase.Notified = true
  is_polled _ = false

  -- the body, where nobody polls it
  abbrev pub body_of : Phase B → Option B
  body_of (Phase.Idle body) = Some body
  body_of (Phase.Queued body) = Some body
  body_of _ = None

  -- the body that a runnable may poll
  abbrev pub queued_body : Phase B → Option B
  queued_body (Phase.Queued body) = Some body
  queued_body _ = None

  -- a wake
  abbrev pub woken : Phase B → Phase B
  woken (Phase.Idle body) = Phase.Queued body
  woken Phase.Running = Phase.Notified
  woken phase = phase

  -- a poll begins, where there is one to begin
  abbrev pub begun : Phase B → Phase B
  begun (Phase.Queued _) = Phase.Running
  begun phase = phase

  -- a pending poll gives the body back
  abbrev pub given_back : B → Phase B → Phase B
  given_back body Phase.Running = Phase.Idle body
  given_back body Phase.Notified = Phase.Queued body
  given_back body phase = phase

  -- the right to poll the task
  abbrev pub runnable_of : Task B → Runnable
  runnable_of t = record { task = t.number; owner = t.owner }

  -- the task is over
  abbrev pub over : Task B → Task B
  over t = record t { phase = Phase.Complete; cancelled = false }

  -- the task after a poll that ended pending
  abbrev pub pended : Task B → B → Task B
  pended t body = if t.cancelled then over t else record t { phase = given_back body t.phase }

  -- what is left to do after it: a wake that came meanwhile requeues the one runnable
  abbrev pub requeue_where : Runnable → Phase B → AfterPoll
  requeue_where r Phase.Notified = AfterPoll.Requeue r
  requeue_where r _ = AfterPoll.Done

  abbrev pub pend_answer : Task B → AfterPoll
  pend_answer t = if t.cancelled then AfterPoll.Retire t.number Ended.Closed else requeue_where (runnable_of t) t.phase

  -- a cleared task is over, or is once its poll ends
  abbrev pub cleared : Task B → Task B
  cleared t = if is_polled t.phase then record t { cancelled = true } else record t { phase = Phase.Complete }

module _ {P : Type 0} (serving : P → ℕ → Bool) (shows_empty : P → Bool → Type 0) (workers_of : P → ℕ) (enqueues pushes : P → Runnable → P → Type 0) where
  -- The worker at hand keeps a new task's first runnable where it serves the task's set, and has nothing else queued or
  -- is the only one. Else it goes into the global queue.
  pub record Spawns (old : P) (runnable : Runnable) (new : P) : Type 0 where
    pub empty : Bool
    pub shown : shows_empty old empty
    pub goes : MatchBool (serving old runnable.owner && (empty || (workers_of old == 1))) (enqueues old runnable new) (pushes old runnable new)
