-- A POLL ENDS at its place: that of a task that wasn't cleared meanwhile.
use Rattle.std.proofs.Common.{◌≡◌, true, false, IsSome, arith}
use Rattle.exec_task.specs.{Phases.{is_polled, over}}
use Rattle.exec_parts.{specs.{declared.parts.{task_slot.TaskSlot.TaskSlot}, Phased.is_complete, Polls.{pended_slot}}}

module _ {B : Type 0} where
  -- one that wasn't cleared goes on
  pub pended_going : (slot : TaskSlot B) → IsSome slot.body → is_polled slot.cell.phase ≡ true → slot.cell.cancelled ≡ false → is_complete (pended_slot slot).cell.phase ≡ false
  pended_going = grind arith

  -- and one that was is over
  pub pended_over : (slot : TaskSlot B) → IsSome slot.body → slot.cell.cancelled ≡ true → pended_slot slot ≡ record slot { cell = over slot.cell }
  pended_over = grind arith
