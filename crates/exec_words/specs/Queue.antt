-- What a contract sees of a run queue, and its transitions.
use Rattle.std.specs.Prelude.{◌≡◌, ℕ, ◌+◌, ◌-◌, ◌^◌, ◌≤◌, List, [], ◌∷◌, ◌++◌, length, take, drop}
use Rattle.exec_words.specs.{declared.head.Head.Head, declared.head.Fit.Fit, declared.queue.PushAnswer.PushAnswer, Reserved.Reserved, Head.popped_head, Head.claimed_head, Head.released_head, Head.overflowed_head, Head.room_at, Head.fit_at}

-- the count of the front value, the places before it that are not free yet, the values, and those that the owner
-- keeps in the middle of an overflow
pub record Queue (T : Type 0) : Type 0 where
  pub real : ℕ
  pub gap : ℕ
  pub values : List T
  pub held : List T

module _ {T : Type 0} where
  abbrev pub head_of : Queue T → Head
  head_of q = record { real = q.real; gap = q.gap }

  -- the count one past the last value
  abbrev pub tail_of : Queue T → ℕ
  tail_of q = q.real + length q.values

  -- how many more values fit
  abbrev pub room_of : Queue T → ℕ
  room_of q = room_at (head_of q) (tail_of q)

  -- what a push does
  abbrev pub fit_of : Queue T → Fit
  fit_of q = fit_at (head_of q) (tail_of q)

  -- the queue with another head
  abbrev pub with_head : Queue T → Head → Queue T
  with_head q h = record q { real = h.real; gap = h.gap }

  -- the front value was popped
  abbrev pub popped : Queue T → Queue T
  popped q = record (with_head q (popped_head (head_of q))) { values = drop 1 q.values }

  -- a thief has claimed so many values
  abbrev pub claimed : Queue T → ℕ → Queue T
  claimed q count = record (with_head q (claimed_head (head_of q) count)) { values = drop count q.values }

  -- the claim is released, and with it the places of the pops past it
  abbrev pub released : Queue T → Queue T
  released q = with_head q (released_head (head_of q))

  -- these values were published behind the others, by one store of the tail
  abbrev pub published : Queue T → List T → Queue T
  published q more = record q { values = q.values ++ more }

  -- a full queue flows over: its owner keeps the oldest half aside, and the newest half goes elsewhere
  abbrev pub overflowed : Queue T → Queue T
  overflowed q = record (with_head q (overflowed_head (head_of q))) { values = []; held = take 128 q.values }

  -- what an overflow hands out
  abbrev pub newest : Queue T → List T
  newest q = drop 128 q.values

  -- the end of an overflow: one store of the tail publishes what the owner kept
  abbrev pub restored : Queue T → Queue T
  restored q = record q { values = q.held; held = [] }

  -- what a push answers, where nobody acts in between: a value that doesn't fit comes back
  abbrev pub push_answer : Fit → T → PushAnswer T
  push_answer (Fit.Room len) value = PushAnswer.Pushed len
  push_answer Fit.Overflow value = PushAnswer.Overflow value
  push_answer Fit.Claimed value = PushAnswer.Claimed value
  push_answer Fit.Spent value = PushAnswer.Spent value

  -- the queue after it: one more value, or the oldest half, or as it was
  abbrev pub after_push : Fit → Queue T → T → Queue T
  after_push (Fit.Room len) q value = published q (value ∷ [])
  after_push Fit.Overflow q value = restored (overflowed q)
  after_push _ q value = q

  -- what goes into the owner's hand
  abbrev pub handed_out : Fit → Queue T → List T
  handed_out Fit.Overflow q = newest q
  handed_out _ q = []

  -- What the fields of a run queue keep, which no public clause cites: each list has its places, values and gap fill
  -- the ring at most, and no count comes near the end of 55 bits
  pub record IsLaidOut (values held : Reserved T) (real gap : ℕ) : Type 0 where
    pub values_places : values.places ≡ 256
    pub held_places : held.places ≡ 256
    pub within : length values.values + length held.values + gap ≤ 256
    pub below_the_end : real + length values.values + length held.values ≤ 2 ^ 55 - 256
