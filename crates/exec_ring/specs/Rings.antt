-- What a ring is: the entries of its submission queue, what the kernel has of them, and the completions.
use Rattle.std.specs.{Prelude.{ℕ, Bool, true, false, ◌+◌, List, [], ◌∷◌, ◌++◌, length, replicate, if◌then◌else◌}, List.flat_map}
use Rattle.exec_ring.specs.{declared.completion.{Completion.Completion, Submission.Submission, Posted.Posted}, Completions.wake_completion}

pub record RingState : Type 0 where
  -- how many entries the submission queue has room for, and what stands in it
  pub size : ℕ
  pub staged : List Submission
  -- the operations that the kernel has
  pub flying : List Submission
  -- the kernel has the wake poll; a wake was raised while it had none
  pub armed : Bool
  pub raised : Bool
  -- the completions that were not reaped, each with the wakes right before it, and the wakes after the last
  pub posted : List Posted
  pub wakes : ℕ
  -- the next enter takes nothing; the next wake completion ends the wake poll
  pub busy : Bool
  pub last : Bool
  -- for how many entries there is room until they are reaped
  pub places : ℕ

-- a ring of so many entries, in which nothing happened
abbrev pub fresh : ℕ → RingState
fresh size = record { size = size; staged = []; flying = []; armed = false; raised = false; posted = []; wakes = 0; busy = false; last = false; places = 0 }

-- So many places are taken: each entry keeps its place until its completion is reaped. A wake that leaves the wake
-- poll where it was takes none.
abbrev pub taken_places : RingState → ℕ
taken_places s = length s.staged + length s.flying + (if s.armed then 1 else 0) + length s.posted

-- a completion with the wakes before it
abbrev pub spelled : Posted → List Completion
spelled p = replicate p.wakes (wake_completion true) ++ p.completion ∷ []

-- all completions that were not reaped, in the order in which they came
abbrev pub completions : RingState → List Completion
completions s = flat_map spelled s.posted ++ replicate s.wakes (wake_completion true)
