-- The first state of an executor: the root of each worker is to be polled.
use Rattle.std.specs.Prelude.{List, Some, [], false, length, replicate, slice_get, true, ℕ, ◌≡◌, ◌≤◌}
use Rattle.exec_core.specs.Words.{runnable_of, IsShardCount, Runnable, Configuration, Pool, Chair, Shared, TaskSlot, Worker, Begins, root_slot, shared_of, IsFreshSeat}

module _ {B : Type 0} where
  -- the slot of the root of worker i, which has this body and is to be polled
  pub record IsRoot (i : ℕ) (body : B) (slot : TaskSlot B) : Type 0 where
    pub is : slot ≡ root_slot (record { 0 = i }) 1 i body slot
    pub held : slot.held.items ≡ []

  -- a seat, a root and a runnable for each of these bodies
  pub record HasRoots (roots : List B) (seats : List Chair) (tasks : List (TaskSlot B)) (rs : List Runnable) : Type 0 where
    pub seats_many : length seats ≡ length roots
    pub tasks_many : length tasks ≡ length roots
    pub runnables_many : length rs ≡ length roots
    pub fresh : (i : ℕ) (chair : Chair) → slice_get seats i ≡ Some chair → IsFreshSeat true chair
    pub root : (i : ℕ) (slot : TaskSlot B) → slice_get tasks i ≡ Some slot → (body : B) × (slice_get roots i ≡ Some body) × IsRoot i body slot
    pub queued : (i : ℕ) (r : Runnable) → slice_get rs i ≡ Some r → (slot : TaskSlot B) × (slice_get tasks i ≡ Some slot) × (r ≡ runnable_of slot.cell)

  -- what is shared at first, with places in the global queue
  abbrev pub shared_with : Configuration → Shared B → Shared B
  shared_with c s = record (shared_of c s) { global = record { values = []; places = s.global.places; closed = false } }

  -- what the workers share beside seats and roots, of which there are to be so many
  pub record IsBare (c : Configuration) (roots : ℕ) (s : Shared B) : Type 0 where
    pub parts : s ≡ shared_with c s
    pub shards : IsShardCount c.workers (length s.set.shards)
    pub places : roots ≤ s.global.places
    pub requests : s.requests.items ≡ []
    pub sleepers : s.sleepers.items ≡ []
    pub listeners : s.listeners.items ≡ replicate c.sockets 0

  -- what the workers share
  pub record IsFirst (c : Configuration) (roots : List B) (s : Shared B) (rs : List Runnable) : Type 0 where
    pub bare : IsBare c (length roots) s
    pub rooted : HasRoots roots s.seats.items s.tasks.items rs

-- a worker for each of these runnables
pub record AllBegin (c : Configuration) (rs : List Runnable) (ws : List Worker) : Type 0 where
  pub many : length ws ≡ length rs
  pub each : (i : ℕ) (w : Worker) → slice_get ws i ≡ Some w → (r : Runnable) × (slice_get rs i ≡ Some r) × Begins c (Pool i) i i r 0 w
