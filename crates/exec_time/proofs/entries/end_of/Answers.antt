use Rattle.std.proofs.{Common.{◌%◌, leb, leb-true, leb-false, arith, rules}, lemmas.List.Sorted.{IsPartitionPoint-from_clause, IsPartitionedBy-leb}}
use Rattle.exec_time.specs.declared.entries.Entry.{Entry}
use Rattle.exec_time.proofs.entries.end_of.Goals as goal

pub returns-clause-before : goal.returns-clause-before
returns-clause-before c =
    let parted = IsPartitionedBy-leb (λ (e : Entry). e.tick % c.args.slots) _ c.args.slot c.requires.by_slot in
    let point = IsPartitionPoint-from_clause (λ (e : Entry). leb (e.tick % c.args.slots) c.args.slot) _ _ c.partition_point.ensures.partitioned parted (λ a r q k. search rules) in
    λ k d h. leb-true _ _ (point.0 k d (omega arith) h)

pub returns-clause-past : goal.returns-clause-past
returns-clause-past c =
    let parted = IsPartitionedBy-leb (λ (e : Entry). e.tick % c.args.slots) _ c.args.slot c.requires.by_slot in
    let point = IsPartitionPoint-from_clause (λ (e : Entry). leb (e.tick % c.args.slots) c.args.slot) _ _ c.partition_point.ensures.partitioned parted (λ a r q k. search rules) in
    λ k d low inside. leb-false _ _ (point.1 k d low inside)
