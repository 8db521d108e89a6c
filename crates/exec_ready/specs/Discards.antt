-- What is left of a queue that was discarded.
use Rattle.std.specs.Prelude.{◌≡◌, ℕ, ◌≤◌, List, [], ◌++◌}
use Rattle.exec_words.specs.Queue.{Queue, tail_of}
use Rattle.exec_live_queue.specs.{declared.view.Own.Own, Calls.looked}

module _ {T : Type 0} where
  -- these labels were popped: the owner put nothing in, and knows nothing else anew
  abbrev pub HasDiscarded : Own T → Own T → Type 0
  HasDiscarded d d' = (labels : List ℕ) × (d.saw_real ≤ d'.saw_real) × (d' ≡ record (looked d d') { popped = d.popped ++ labels })

  -- every value of an exclusive queue was popped
  abbrev pub IsEmptied : Queue T → Queue T → Type 0
  IsEmptied q q' = (q'.values ≡ []) × (q'.held ≡ q.held) × (q'.real ≡ tail_of q)
