-- Calls on a run queue that change it, one after another, by anyone; and what went in and came out.
use Rattle.std.specs.Prelude.{◌≡◌, ◌⊎◌, Bool, true, false, ℕ, ◌/◌, ◌==◌, nat_lt, nat_le, ◌&&◌, not, List, [], ◌∷◌, ◌++◌, length, take, if◌then◌else◌}
use Rattle.exec_words.specs.{Head.is_spent, Queue.{Queue, tail_of, room_of, popped, claimed, released, published, overflowed, newest, restored}}

-- a call: a thief's claim names how many values it saw
pub data Change (T : Type 0) : Type 0 where
  Push : (value : T) → Change T
  Pop : Change T
  Claim : (seen : ℕ) → Change T
  Release : Change T
  Overflow : Change T
  Restore : Change T

-- the queue, all that was put in, what left it at the front by pops and claims, and what overflows handed out
pub record History (T : Type 0) : Type 0 where
  pub queue : Queue T
  pub put : List T
  pub front : List T
  pub handed_out : List T

module _ {T : Type 0} where
  -- an empty queue whose first value gets this count
  abbrev pub begun : ℕ → History T
  begun real = record { queue = record { real = real; gap = 0; values = []; held = [] }; put = []; front = []; handed_out = [] }

  abbrev pub is_empty : List T → Bool
  is_empty [] = true
  is_empty _ = false

  -- so many values leave at the front, and the queue is then this one
  abbrev pub leave : History T → ℕ → Queue T → History T
  leave h count q = record h { queue = q; front = h.front ++ take count h.queue.values }

  -- A push goes in where there is room, and a full queue flows over, where nothing is held; what is held comes back into
  -- an empty queue. A call that can't be made changes nothing.
  abbrev pub after : History T → Change T → History T
  after h (Push value) =
      if is_empty h.queue.held && nat_lt 0 (room_of h.queue)
      then record h { queue = published h.queue (value ∷ []); put = h.put ++ value ∷ [] } else h
  after h Pop = if is_empty h.queue.values then h else leave h 1 (popped h.queue)
  after h (Claim seen) =
      if h.queue.gap == 0 && nat_le 2 seen && nat_le seen (length h.queue.values)
      then leave h (seen / 2) (claimed h.queue (seen / 2)) else h
  after h Release = record h { queue = released h.queue }
  after h Overflow =
      if is_empty h.queue.held && (length h.queue.values == 256 && not (is_spent (tail_of h.queue)))
      then record h { queue = overflowed h.queue; handed_out = h.handed_out ++ newest h.queue } else h
  after h Restore = if is_empty h.queue.values then record h { queue = restored h.queue } else h

  abbrev pub after_all : History T → List (Change T) → History T
  after_all h [] = h
  after_all h (change ∷ rest) = after_all (after h change) rest

-- the first list is the second one, with some values left out
abbrev pub IsWithin : {A : Type 0} → List A → List A → Type 0
IsWithin [] ys = Unit {0}
IsWithin (x ∷ xs) [] = ⊥
IsWithin (x ∷ xs) (y ∷ ys) = ((x ≡ y) × IsWithin xs ys) ⊎ IsWithin (x ∷ xs) ys
