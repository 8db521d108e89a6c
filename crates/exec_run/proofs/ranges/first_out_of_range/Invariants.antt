use Rattle.std.proofs.Common.{◌≡◌, drop}
use Rattle.exec_run.specs.Ranges.{first_out_of_range, first_out_of}
use Rattle.exec_run.proofs.ranges.first_out_of_range.Given as goal

-- the parts so far are in their ranges
abbrev pub invariant-loop-field : goal.invariant-loop-field
invariant-loop-field l = first_out_of_range l.fn.config ≡ first_out_of (drop l.field-index l.field-items)
