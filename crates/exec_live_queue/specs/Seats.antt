-- What the steps say of the seat that makes them.
use Rattle.std.specs.Prelude.{◌≡◌, ◌≢◌, ℕ, ◌+◌, ◌/◌, ◌%◌, ◌^◌, ◌<◌, ◌≤◌, List, [], ◌∷◌, ◌++◌, length, map, replicate, Option, Some, None}
use mathlib.Core.Option.{none}
use Rattle.atomic_table.specs.{Table.{step, rest}, declared.shared.{Seat.Seat, Shared.Shared}}
use Rattle.exec_live_queue.specs.{declared.view.{Own.Own, View.View, Stage.TheVariants.{Owns, SawTail, Claimed}}, Numbers.half, Plays.{Sat, Told, hand}}

abbrev pub Place : Type 0 → Type 0
Place T = Seat (Option T) (View T)

module _ {T : Type 0} where
  -- this word is the head that the owner saw last, or wrote
  abbrev pub IsSeen : Own T → ℕ → Type 0
  IsSeen d word = (word / 512 ≡ d.saw_real) × (word % 512 ≡ d.saw_gap) × (d.start ≤ d.saw_real) × (d.saw_real ≤ d.tail) × (d.tail + d.saw_gap ≤ d.saw_real + 256)

  -- this is the owner's, and nothing is out with it
  abbrev pub AtRest : Sat T → Type 0
  AtRest m = (m.0.stage ≡ Owns) × (m.0.own.out_len ≡ 0) × (m.0.own.aside ≡ 0) × (m.1 ≡ []) × (m.0.own.tail + 256 ≤ 2 ^ 55) × (m.0.own.start + length m.0.own.log ≡ m.0.own.tail)

  -- this is a thief's that holds no claim
  abbrev pub IsThief : Sat T → Type 0
  IsThief m = (m.0.stage ≢ Owns) × (m.0.stage ≢ Claimed) × (m.1 ≡ [])

module _ {T P : Type 0} where
  -- the seat is one at the queue's table, which has 24 words and 256 slots
  abbrev pub IsAt : Shared (Option T) (View T) ℕ P → Place T → Type 0
  IsAt words seat = (seat.table_id ≡ words.table_id) × (words.table_id.words ≡ 24) × (words.table_id.slots ≡ 256)

  -- it is the owner's, in the middle of no push, pop or overflow
  abbrev pub Rests : Shared (Option T) (View T) ℕ P → Place T → Type 0
  Rests words seat = IsAt words seat × AtRest seat.me

  -- it is the owner's, and the slots that are out with it are empty
  abbrev pub HasEmptied : Shared (Option T) (View T) ℕ P → Place T → Type 0
  HasEmptied words seat = IsAt words seat × (seat.me.0.stage ≡ Owns) × (0 < seat.me.0.own.out_len) × (seat.me.1 ≡ hand seat.me.0.own.out_at (replicate seat.me.0.own.out_len None))

  -- it is the owner's, and has filled some of the free slots behind the tail, which are out with it; the tail behind them is this
  abbrev pub HasFilled : Shared (Option T) (View T) ℕ P → Place T → ℕ → Type 0
  HasFilled words seat tail = IsAt words seat × (seat.me.0.stage ≡ Owns) × (seat.me.0.own.aside ≡ 0) × (seat.me.0.own.out_at ≡ seat.me.0.own.tail) × (tail + 256 ≤ 2 ^ 55)
      × (xs : List T) × (r : ℕ) × (seat.me.0.own.out_len ≡ length xs + r) × (seat.me.1 ≡ hand (seat.me.0.own.tail + length xs) (replicate r None) ++ hand seat.me.0.own.tail (map Some xs)) × (tail ≡ seat.me.0.own.tail + length xs)

  -- it is the owner's, in the middle of an overflow
  abbrev pub FlowsOver : Shared (Option T) (View T) ℕ P → Place T → Type 0
  FlowsOver words seat = IsAt words seat × (seat.me.0.stage ≡ Owns) × (seat.me.0.own.aside ≡ 128)

  -- it is a thief's that has seen two values at least and no claim
  abbrev pub MayClaim : Shared (Option T) (View T) ℕ P → Place T → Type 0
  MayClaim words seat = IsAt words seat × (seat.me.0.stage ≡ SawTail) × (seat.me.0.theft.gap ≡ 0) × (seat.me.0.theft.at + 2 ≤ seat.me.0.theft.upto) × (seat.me.1 ≡ [])

  -- it is a thief's that holds a claim, and has emptied its slots
  abbrev pub MayRelease : Shared (Option T) (View T) ℕ P → Place T → Type 0
  MayRelease words seat = IsAt words seat × (seat.me.0.stage ≡ Claimed) × (seat.me.1 ≡ hand seat.me.0.theft.at (replicate (half seat.me.0.theft) None))

module _ {T : Type 0} where
  abbrev pub SameSeat : Place T → Place T → Type 0
  SameSeat old new = (new.table_id ≡ old.table_id) × (new.id ≡ old.id)

  -- a step that went by the word `seen`, and found n, told its seat this
  abbrev pub Tells : Told T → Place T → ℕ → ℕ → Place T → Type 0
  Tells then old seen n new = SameSeat old new × then (step 256 11 seen 0 none) old.me n new.me

  -- the seat carries the slot of this label first
  abbrev pub FrontHas : Place T → ℕ → Option T → Type 0
  FrontHas seat label x = seat.me.1 ≡ (label % 256, x) ∷ rest seat.me.1

  abbrev pub Fronted : Place T → ℕ → Type 0
  Fronted seat label = (x : Option T) × FrontHas seat label x

  -- the slot of this label, which the seat carried first, had x; it has y, and is the last that the seat carries
  abbrev pub Swapped : Place T → Place T → ℕ → Option T → Option T → Type 0
  Swapped old new label x y = FrontHas old label x × (new.me ≡ (old.me.0, rest old.me.1 ++ (label % 256, y) ∷ []))
