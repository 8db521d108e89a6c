use Rattle.exec_time.proofs.Buckets.{none_without, none_before}
use Rattle.exec_time.proofs.entries.has_any.Goals as goal

pub returns-in_default : goal.returns-in_default
returns-in_default c = record { none = λ _. none_without c.args.entries.now c.args.slots c.args.slot c.in_default.ensures.value }

pub returns-then-slot-first : goal.returns-then-slot-first
returns-then-slot-first c =
    record { none = λ _. none_before c.args.entries.now c.args.slots c.args.slot c.in-Some.first.now c.requires.by_slot c.in-Some.ensures.value c.if-slot-first.true }
