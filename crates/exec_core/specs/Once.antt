-- NO TASK IS QUEUED TWICE, AND ONE THAT IS TO BE POLLED IS QUEUED: how many runnables each task has, and how many polls, in a state of an
-- executor of several workers.
use Rattle.std.specs.Prelude.{Bool, List, None, Some, count_by, false, option_to_list, slice_get, sum_by, ℕ, ◌++◌, ◌+◌, ◌==◌, ◌||◌, ◌≡◌, ◌≤◌}
use Rattle.exec_core.specs.Words.{TaskPhase, Task, Playing, polls_at, Desk, begins_at, is_number, one_if}

-- how often task t is among these
abbrev pub times : ℕ → List ℕ → ℕ
times t ts = count_by (λ u. u == t) ts

-- how many runnables of task t there are: in the hands of workers and callers, on the way from one queue to another, in the
-- run queues, and in the global queue
abbrev pub runnables_of : ℕ → Playing → ℕ
runnables_of t x =
    sum_by (λ d. times t (option_to_list d.hand ++ d.loot)) x.desks + sum_by (λ d. times t (option_to_list d.hand)) x.callers
    + (sum_by (λ q. times t (q.values ++ q.held)) x.things.queues + times t x.things.global)

-- how many workers poll it
abbrev pub polls_of : ℕ → Playing → ℕ
polls_of t x = sum_by (λ d. one_if (is_number (polls_at d.place) t)) x.desks

-- A task that is to be polled has one runnable, unless a closed set or queue let it go; one that is polled has none, and one
-- worker polls it; one that waits has neither. One that is over may have left a runnable, which is let go, once they are
-- closed.
abbrev pub IsOnce : Bool → TaskPhase → ℕ → ℕ → Type 0
IsOnce gone TaskPhase.Idle runnables polls = (runnables ≡ 0) × (polls ≡ 0)
IsOnce gone TaskPhase.Queued runnables polls = (runnables ≤ 1) × (gone ≡ false → runnables ≡ 1) × (polls ≡ 0)
IsOnce gone (TaskPhase.Running i) runnables polls = (runnables ≡ 0) × (polls ≡ 1)
IsOnce gone (TaskPhase.Noted i) runnables polls = (runnables ≡ 0) × (polls ≡ 1)
IsOnce gone TaskPhase.Done runnables polls = (runnables ≤ 1) × (gone ≡ false → runnables ≡ 0) × (polls ≡ 0)

-- A ROOT, at the desk of its worker: its runnable is in the root flag or in the hand, and there just where the root is polled
-- next. No runnable of it is anywhere else, and nobody else polls it.
pub record IsRootOnce (t : ℕ) (phase : TaskPhase) (d : Desk) (x : Playing) : Type 0 where
  pub once : IsOnce false phase (one_if d.root_ready + one_if (is_number d.hand t)) (one_if (is_number (polls_at d.place) t))
  pub hand : is_number d.hand t ≡ is_number (begins_at d.place) t
  pub runnables : runnables_of t x ≡ one_if (is_number d.hand t)
  pub polls : polls_of t x ≡ one_if (is_number (polls_at d.place) t)

-- So it is with each ordinary task, and with each root at the desk of its worker, which has no other.
pub record QueuesOnce (x : Playing) : Type 0 where
  pub ordinary : (t : ℕ) (it : Task) → slice_get x.world.common.tasks t ≡ Some it → it.home ≡ None
      → IsOnce (x.world.common.set_closed || x.world.common.queue_closed) it.phase (runnables_of t x) (polls_of t x)
  pub roots : (t i : ℕ) (it : Task) → slice_get x.world.common.tasks t ≡ Some it → it.home ≡ Some i → (d : Desk) × (slice_get x.desks i ≡ Some d) × IsRootOnce t it.phase d x
  pub alone : (t u i : ℕ) (it other : Task) → slice_get x.world.common.tasks t ≡ Some it → slice_get x.world.common.tasks u ≡ Some other → it.home ≡ Some i → other.home ≡ Some i → t ≡ u
