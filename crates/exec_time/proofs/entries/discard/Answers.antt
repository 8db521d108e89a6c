use Rattle.std.proofs.{Common.{◌%◌, rules, not}, lemmas.List.Kept.IsNonDecreasingBy-filter}
use Rattle.exec_time.specs.{Entries.is_in_slot, declared.entries.Entry.Entry}
use Rattle.exec_time.proofs.entries.discard.Goals as goal

pub returns-clause-others : goal.returns-clause-others
returns-clause-others c = search rules

pub returns-clause-by_slot : goal.returns-clause-by_slot
returns-clause-by_slot c =
    rw (returns-clause-others c)
    (IsNonDecreasingBy-filter (λ (e : Entry). e.tick % c.args.slots) (λ (e : Entry). not (is_in_slot c.args.slots c.args.slot e)) c.args.entries.now.items c.requires.by_slot)
