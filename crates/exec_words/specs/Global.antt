-- What a contract sees of the global queue.
use Rattle.std.specs.Prelude.{ℕ, ◌+◌, ◌-◌, ◌/◌, min, Bool, List, ◌++◌, length, take, drop}

-- the values, the oldest first; for how many values there are places; and whether it takes nothing more
pub record Global (T : Type 0) : Type 0 where
  pub values : List T
  pub places : ℕ
  pub closed : Bool

-- how many values a worker takes: one more than an even split between the workers, but no more than there are, and,
-- beside the one that is polled at once, no more than fit into the worker's run queue below its half
abbrev pub share_of : ℕ → ℕ → ℕ → ℕ → ℕ
share_of len workers room held = min (min (len / workers + 1) len) (min room (128 - held) + 1)

module _ {T : Type 0} where
  -- how many more values have a place
  abbrev pub spare_places : Global T → ℕ
  spare_places q = q.places - length q.values

  -- these values came behind the others
  abbrev pub appended : Global T → List T → Global T
  appended q more = record q { values = q.values ++ more }

  -- the queue once a worker took its share
  abbrev pub share_taken : Global T → ℕ → ℕ → ℕ → Global T
  share_taken q workers room held = record q { values = drop (share_of (length q.values) workers room held) q.values }

  -- what of the share goes into the worker's run queue: all but the oldest value
  abbrev pub share_queued : Global T → ℕ → ℕ → ℕ → List T
  share_queued q workers room held = drop 1 (take (share_of (length q.values) workers room held) q.values)
