-- DURABLE REQUESTS TAKE TURNS, AND WHAT CHANGES A FILE IS NEVER CANCELLED: of the requests in a state of an executor of several workers.
use Rattle.std.specs.Prelude.{Bool, List, Some, false, not, slice_get, true, ℕ, ◌&&◌, ◌||◌, ◌≡◌}
use Rattle.exec_core.specs.{Words.{is_durable, Request, is_gated, is_kept, is_resolved, Playing}, Once.QueuesOnce}

-- A durable request that neither waits for the permit of its open nor is over has the permit. Only then it may have an operation.
abbrev pub has_permit : Request → Bool
has_permit r = is_durable r.operation.kind && not (is_gated r.phase || is_resolved r.phase)

pub record TakeTurns (requests : List Request) : Type 0 where
  -- of the durable requests of an open one has the permit at most
  pub one : (j k : ℕ) (q r : Request) → slice_get requests j ≡ Some q → slice_get requests k ≡ Some r → has_permit q ≡ true → has_permit r ≡ true → q.operation.target ≡ r.operation.target → j ≡ k
  -- a write or a sync that isn't over was not cancelled, whether somebody waits for it or nobody does
  pub uncancelled : (k : ℕ) (r : Request) → slice_get requests k ≡ Some r → is_kept r.operation.kind ≡ true → is_resolved r.phase ≡ false → r.cancelled ≡ false

-- What holds in each state of a log: each task is queued and polled as its phase says, and requests of files take turns.
pub record IsOrderly (x : Playing) : Type 0 where
  pub once : QueuesOnce x
  pub turns : TakeTurns x.world.common.requests
