-- What contracts see of the owner of an exclusive queue, and what its pop does.
use Rattle.std.specs.Prelude.{◌≡◌, ℕ, List, [], slice_get, Some}
use Rattle.exec_words.specs.Queue.{Queue, popped}

-- the queue, and the values of an overflow that are still to be handed out
pub record Alone (T : Type 0) : Type 0 where
  pub queue : Queue T
  pub handed : List T

module _ {T : Type 0} where
  -- an empty queue whose first value gets this count
  abbrev pub starting : ℕ → Alone T
  starting start = record { queue = record { real = start; gap = 0; values = []; held = [] }; handed = [] }

  -- x is the front value, and is popped
  abbrev pub TakesFront : Queue T → T → Queue T → Type 0
  TakesFront q x q' = (slice_get q.values 0 ≡ Some x) × (q' ≡ popped q)
