use Rattle.std.proofs.Common.{◌≡◌, ◌+◌, Some, length, slice_get, ◌-◌, arith, rules}
use Rattle.exec_base.proofs.Slots.{split_last, reverse_last, read_vacant, no_last, none-vacant}
use Rattle.exec_base.proofs.slab.Slab.next_id.Goals as goal

pub unreachable-requires : goal.unreachable-requires
unreachable-requires g c =
    let read : Some c.in-Some.index.now ≡ slice_get c.self.inside.vacant.items (length c.self.inside.vacant.items - 1) = search rules in
    let count : (length c.self.inside.vacant.items - 1) + 1 ≡ length c.self.inside.vacant.items = search rules in
    let last = split_last c.self.inside.vacant.items c.in-Some.index.now _ count read in
    let laid = rw (reverse_last _ _ _ last.1) at c.self.invariant in
    c.in_default-index.not-Vacant _ (read_vacant _ _ _ laid.vacant_ones.0 c.index.ensures)

pub returns-in_err-index-clause-full : goal.returns-in_err-index-clause-full
returns-in_err-index-clause-full g c = grind (arith, no_last, none-vacant)
