-- What keeps a wheel settled: whose deadline comes is due.
use Rattle.std.specs.{Prelude.{◌≡◌, ℕ, ◌<◌, ◌≤◌, false, Option, Some, None}, List.Contains}
use Rattle.exec_time.specs.Wheel.{IsSettled, least_active, slot_of}
use Rattle.exec_waiters.specs.{States.tick_of, declared.waiter_id.WaiterId.WaiterId}
use Rattle.exec_driver.specs.Driving.{Driving, request_at}
use Rattle.exec_lists.specs.Lists.{has_first, is_among}

module _ {S F : Type 0} where
  -- Whose deadline stands in the wheel is due, or it comes out at its tick, which is ahead.
  pub record IsPunctual (d : Driving S F) : Type 0 where
    pub ahead : (id : WaiterId) → (t : ℕ) → tick_of (request_at d id) ≡ Some t → is_among id d.lists.due ≡ false → (d.wheel.current < t) × Contains (d.wheel.bucket (slot_of d.wheel t)) id.0

  -- this is the first tick at which the wheel has the deadline of a request
  abbrev pub IsFirstTick : Driving S F → Option ℕ → Type 0
  IsFirstTick d None = (id : WaiterId) → (t : ℕ) → tick_of (request_at d id) ≡ Some t → ⊥
  IsFirstTick d (Some first) =
      ((id : WaiterId) × (tick_of (request_at d id) ≡ Some first)) × ((id : WaiterId) → (t : ℕ) → tick_of (request_at d id) ≡ Some t → first ≤ t)

  -- Once all that is due was told the wheel is settled, and what comes next is the deadline of a request.
  pub record TellsDeadlines (d : Driving S F) : Type 0 where
    pub settled : IsPunctual d → has_first d.lists.due ≡ false → IsSettled d.wheel
    pub first : IsSettled d.wheel → IsFirstTick d (least_active d.wheel)
