-- How far a worker has come, where something of what that speaks of changes.
use Rattle.exec_invariants.proofs.Words.{◌≡◌, ℕ, ◌<◌, Bool, true, false, List, Some, None, slice_get, slice_set, false≢true, arith, WorkerPhase, is_open, has_ended, InClosing, TaskSlot, IsPhased, Stage, is_complete, set_there, same_Some}

not_ended : (p : WorkerPhase) → is_open p ≡ true → has_ended p ≡ false
not_ended = grind arith

module _ {B : Type 0} where
  -- the root's slot changes, and is over then or not

  -- It is over by this, so the worker is about to close; any but worker zero once the pool is stopped.
  pub phased_over : (i : ℕ) (told : Bool) (t n : ℕ) (st : Stage) (tasks : List (TaskSlot B)) (slot slot' : TaskSlot B)
      → slice_get tasks t ≡ Some slot → is_complete slot'.cell.phase ≡ true → (0 < i → st.pool ≡ true → st.stopped ≡ true) → IsPhased i false None told t n st tasks → IsPhased i false (Some InClosing.Close) told t n st (slice_set tasks t slot')
  phased_over = grind (arith, false≢true, not_ended, same_Some, set_there)

  -- Another number of requests is unreleased.
  pub phased_count : (i : ℕ) (closes : Bool) (told : Bool) (t n m : ℕ) (st : Stage) (tasks : List (TaskSlot B)) → IsPhased i closes None told t n st tasks → IsPhased i closes None told t m st tasks
  phased_count i closes told t n m st tasks phased =
      assumption phased

  -- All requests are released, so the worker is about to end.
  pub phased_end : (i : ℕ) (told : Bool) (t n m : ℕ) (st : Stage) (tasks : List (TaskSlot B)) → m ≡ 0 → IsPhased i true None told t n st tasks → IsPhased i true (Some InClosing.End) told t m st tasks
  phased_end i told t n m st tasks none phased =
      assumption (none, phased)
