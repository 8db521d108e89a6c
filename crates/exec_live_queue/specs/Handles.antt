-- What contracts see of a queue, of its owner and of a thief.
use Rattle.std.specs.Prelude.{◌≡◌, ℕ, ◌-◌, ◌<◌, ◌≤◌, List, length, Option}
use Rattle.atomic_table.specs.{Seated.TableId, declared.shared.Shared.Shared}
use Rattle.exec_live_queue.specs.{declared.view.{Own.Own, View.View}, Plays.values_of, Seats.{Place, Rests}, Calls.HandsOut}

-- which queue it is, and the count of its first value
pub record Shown : Type 0 where
  pub table : TableId
  pub start : ℕ

-- which queue the seat is at, and what its holder knows
pub record Seated (T : Type 0) : Type 0 where
  pub table : TableId
  pub view : View T

-- which queue it is, what its owner knows, and the values of an overflow that are still to be handed out
pub record Owned (T : Type 0) : Type 0 where
  pub table : TableId
  pub own : Own T
  pub handed : List T

module _ {T P : Type 0} where
  -- how the seat of an owner stands, `left` values of whose last overflow are still to be handed out
  abbrev pub Stands : Shared (Option T) (View T) ℕ P → Place T → ℕ → ℕ → Type 0
  Stands words seat tail left = (tail ≡ seat.me.0.own.tail) × (left ≤ 128) × (left ≡ 0 → Rests words seat)
      × (0 < left → HandsOut words seat (128 - left) (values_of seat.me.1) × (length (values_of seat.me.1) ≡ left))
