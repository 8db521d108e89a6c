use Rattle.std.proofs.{Common.{arith, sym}, lemmas.Grind.common_steps}
use Rattle.exec_time.proofs.{Sizes.{refused, too_many, enough}, wheel.TimeoutWheel.validate_layout.Goals.{then-is_out_of_range-via-then-is_out_of_range, then-is_out_of_range-via-else-is_out_of_range+then-is_out_of_range-2}}
use Rattle.exec_time.proofs.wheel.TimeoutWheel.validate_layout.Goals as goal

pub returns-then-is_out_of_range : goal.returns-then-is_out_of_range
returns-then-is_out_of_range c =
    refused c.args.horizon c.args.tick (elim c.then-is_out_of_range.branch [
      | then-is_out_of_range-via-then-is_out_of_range w ↦ grind (arith, common_steps)
      | then-is_out_of_range-via-else-is_out_of_range+then-is_out_of_range-2 w ↦ grind (arith, common_steps)
    ])

pub returns-then-needed-gt-MOST_SLOTS : goal.returns-then-needed-gt-MOST_SLOTS
returns-then-needed-gt-MOST_SLOTS c = too_many c.args.horizon c.args.tick (omega arith)

pub returns : goal.returns
returns c = enough c.args.horizon c.args.tick c.next_power_of_two.result (sym c.if-is_out_of_range.ensures) (sym c.if-is_out_of_range-2.ensures) (omega arith) c.next_power_of_two.ensures.power (omega arith) (omega arith)
