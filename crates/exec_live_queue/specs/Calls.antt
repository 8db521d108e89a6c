-- What the calls of an owner and of a thief do, as their seats know it.
use Rattle.std.specs.Prelude.{◌≡◌, ◌≢◌, ℕ, ◌+◌, ◌-◌, ◌^◌, ◌<◌, ◌≤◌, ◌⊎◌, List, [], ◌∷◌, ◌++◌, length, map, take, drop, replicate, Option, Some, None, Result, Ok, Err}
use Rattle.atomic_table.specs.declared.shared.Shared.{Shared}
use Rattle.exec_words.specs.declared.queue.{Steal.{Steal, Steal as steal}, PushAnswer.{PushAnswer, PushAnswer as answer}}
use Rattle.exec_live_queue.specs.{declared.view.{Own.Own, Theft.Theft, View.View, Stage.TheVariants.Owns}, Live.labels, Numbers.half, Plays.{queue_at, Sat, hand}, Seats.{Place, IsAt, Rests}}
use mathlib.Core.Option.{some}
use lib.ListN.{get_elem?}

module _ {T : Type 0} where
  -- what an owner knows once it has looked: as before, but for the head that it saw and for where slots were out
  abbrev pub looked : Own T → Own T → Own T
  looked d d' = record d { out_at = d'.out_at; out_len = d'.out_len; saw_real = d'.saw_real; saw_gap = d'.saw_gap }

  -- nothing but that, and no older head
  abbrev pub HasLooked : Own T → Own T → Type 0
  HasLooked d d' = (d' ≡ looked d d') × (d.saw_real ≤ d'.saw_real)

  -- x was popped: the log's value at its label, which comes after all that were popped before
  abbrev pub HasPopped : Own T → T → Own T → Type 0
  HasPopped d x d' = (label : ℕ) × (get_elem? d.log (label - d.start) ≡ some x) × (d.saw_real ≤ label) × (label < d'.saw_real) × (d'.saw_real ≤ d.tail) × (d' ≡ record (looked d d') { popped = d.popped ++ label ∷ [] })

  -- the queue was seen empty
  abbrev pub WasEmpty : Own T → Own T → Type 0
  WasEmpty d d' = HasLooked d d' × (d'.saw_real ≡ d.tail)

  -- these values were published behind the others
  abbrev pub HasPublished : Own T → List T → Own T → Type 0
  HasPublished d xs d' = (d' ≡ record (looked d d') { tail = d.tail + length xs; log = d.log ++ xs }) × (d.saw_real ≤ d'.saw_real)

  -- the values of a full queue
  abbrev pub fully : Own T → List T
  fully d = (queue_at d (d.tail - 256) 0).values

  -- the queue was full without a claim: the oldest half has new labels, and the newest half is handed out
  abbrev pub HasOverflowed : Own T → Own T → Type 0
  HasOverflowed d d' = (d.saw_real + 256 ≤ d.tail) × (length (fully d) ≡ 256) × (d'.saw_real ≡ d.tail)
      × (d' ≡ record (looked d d') { tail = d.tail + 128; log = d.log ++ take 128 (fully d); exported = d.exported ++ labels (d.tail - 128) 128; relabelled = d.relabelled ++ labels (d.tail - 256) 128 })

  -- what a push of x answers and does
  abbrev pub AfterPush : Own T → T → Own T → PushAnswer T → Type 0
  AfterPush d x d' (answer.Pushed len) = (d.tail < 2 ^ 55 - 512) × HasPublished d (x ∷ []) d' × (d'.saw_real + len ≡ d.tail + 1)
  AfterPush d x d' (answer.Overflow y) = (d.tail < 2 ^ 55 - 512) × (y ≡ x) × HasOverflowed d d'
  AfterPush d x d' (answer.Claimed y) = (d.tail < 2 ^ 55 - 512) × (y ≡ x) × HasLooked d d' × (0 < d'.saw_gap) × (d.tail + d'.saw_gap ≡ d'.saw_real + 256)
  AfterPush d x d' (answer.Spent y) = (2 ^ 55 - 512 ≤ d.tail) × (y ≡ x) × (d' ≡ d)

  -- what is handed out after a push
  abbrev pub handed_after : Own T → PushAnswer T → List T
  handed_after d (answer.Overflow y) = drop 128 (fully d)
  handed_after d push = []

  -- the numbers and lists that a thief keeps, but for what it saw
  abbrev pub HasTaken : Theft T → ℕ → List T → Theft T → Type 0
  HasTaken t n xs t' = (t'.claims ≡ t.claims ++ labels t'.at n) × (t'.lot ≡ t.lot ++ xs)

  abbrev pub HasKept : Theft T → Theft T → Type 0
  HasKept t t' = (t'.claims ≡ t.claims) × (t'.lot ≡ t.lot)

  -- why a thief takes nothing: its own queue is spent, or has fewer than 128 places free by the head that it loaded; or a
  -- gap stood in the head that it loaded; or the tail that it loaded was fewer than 2 past the front
  abbrev pub MayTakeNothing : Own T → Own T → Theft T → Type 0
  MayTakeNothing d d' t' = (2 ^ 55 - 512 ≤ d.tail) ⊎ ((128 < d.tail - d'.saw_real + d'.saw_gap) ⊎ ((0 < t'.gap) ⊎ (t'.upto < t'.at + 2)))

  -- the thief's own queue isn't spent, and has 128 places free by the head that it loaded last
  abbrev pub HasSpace : Own T → Own T → Type 0
  HasSpace d d' = (d.tail < 2 ^ 55 - 512) × (d.tail - d'.saw_real + d'.saw_gap ≤ 128)

  -- what one try of a steal does: with the queue of the thief, and with what it keeps of the other queue
  abbrev pub AfterSteal : Own T → Theft T → Own T → Theft T → Steal → Type 0
  AfterSteal d t d' t' (steal.Moved n) = HasSpace d d' × (n ≡ half t') × (xs : List T) × (length xs ≡ n) × (0 < n) × (n ≤ 128) × HasPublished d xs d' × HasTaken t n xs t'
  AfterSteal d t d' t' steal.Nothing = HasLooked d d' × HasKept t t' × MayTakeNothing d d' t'
  AfterSteal d t d' t' (steal.Again head) = HasSpace d d' × HasLooked d d' × HasKept t t' × (head.real ≡ t'.at) × (head.gap ≡ t'.gap) × ((head.real ≢ t'.was) ⊎ (0 < head.gap))

  -- what a whole steal does, whose last try moved so many values
  abbrev pub AfterInto : Own T → Theft T → Own T → Theft T → ℕ → Type 0
  AfterInto d t d' t' n = (n ≡ 0 → AfterSteal d t d' t' steal.Nothing) × (0 < n → AfterSteal d t d' t' (steal.Moved n))

  -- the values that were put so far into the slots behind this label, and r more slots that are empty
  abbrev pub Fills : Sat T → View T → ℕ → ℕ → List T → Type 0
  Fills m v tail r done = m ≡ (v, hand (tail + length done) (replicate r None) ++ hand tail (map Some done))

  -- the values that are still in the slots of a claim, of which n were taken
  abbrev pub Empties : Sat T → View T → ℕ → ℕ → List T → Type 0
  Empties m v at n xs = m ≡ (v, hand (at + n) (map Some xs) ++ hand at (replicate n None))

  -- this is the owner's in the middle of an overflow: these of its values are still to be handed out, and j of them were
  abbrev pub AtHand : Sat T → ℕ → List T → Type 0
  AtHand m j xs = (m.0.stage ≡ Owns) × (m.0.own.aside ≡ 0) × (m.0.own.tail + 256 ≤ 2 ^ 55) × (m.0.own.start + length m.0.own.log ≡ m.0.own.tail)
      × (m.0.own.out_at ≡ m.0.own.tail) × (m.0.own.out_len ≡ length xs + j) × (m.1 ≡ hand (m.0.own.tail + j) (map Some xs) ++ hand m.0.own.tail (replicate j None))

module _ {T P : Type 0} where
  abbrev pub HandsOut : Shared (Option T) (View T) ℕ P → Place T → ℕ → List T → Type 0
  HandsOut words seat j xs = IsAt words seat × AtHand seat.me j xs

  -- how a push leaves the seat
  abbrev pub PushLeaves : Shared (Option T) (View T) ℕ P → Place T → Own T → PushAnswer T → Type 0
  PushLeaves words seat d (answer.Overflow y) = HandsOut words seat 0 (drop 128 (fully d))
  PushLeaves words seat d push = Rests words seat

  -- what one try of a push of x answers and does
  abbrev pub AfterTry : Shared (Option T) (View T) ℕ P → Own T → T → Place T → Result (PushAnswer T) T → Type 0
  AfterTry words d x seat (Ok push) = AfterPush d x seat.me.0.own push × PushLeaves words seat d push
  AfterTry words d x seat (Err y) = (y ≡ x) × HasLooked d seat.me.0.own × (d.saw_real + 256 ≤ d.tail) × (d.tail < seat.me.0.own.saw_real + 256) × Rests words seat
