use Rattle.std.proofs.Common.{◌≡◌, ◌+◌, ◌-◌, ◌<◌, ◌≤◌, length, length-set, sym, refl, arith}
use Rattle.exec_lists.{specs.Lists.in_slot, proofs.Names.{unchanged, within_without, read_count, counted_set, counted_beyond, in_slot_without, in_other_slot, fewer_without}}
use Rattle.exec_lists.proofs.name_list.NameList.take_out.Goals as goal

pub returns-then-not-may_have-clause-names : goal.returns-then-not-may_have-clause-names
returns-then-not-may_have-clause-names c = sym (unchanged c.args.id c.args.self.now.names.items (c.if-not-may_have.ensures refl))

pub overflow_sub-before : goal.overflow_sub-before
overflow_sub-before c = grind (arith, fewer_without)

pub overflow_sub-index_mut : goal.overflow_sub-index_mut
overflow_sub-index_mut c =
    let w = c.args.self.now in
    let slot = c.args.id.0.index in
    let inside : slot < length w.counts.items = omega (arith, c.len.ensures, c.if-slot-len.true) in
    let read = read_count w.names.items w.counts.items slot c.index_mut.result.now w.counted inside c.index_mut.ensures.value in
    let gone : in_slot slot c.take_out.new.list.items + length w.names.items ≡ in_slot slot w.names.items + length c.take_out.new.list.items = rw c.take_out.ensures.items (in_slot_without c.args.id w.names.items) in
    omega (arith, read, gone, c.len-before.ensures, c.len-then-slot-len.ensures, w.names.ok, c.take_out.new.list.ok)

pub invariant_of-self : goal.invariant_of-self
invariant_of-self c =
    let w = c.args.self.now in
    let slot = c.args.id.0.index in
    let inside : slot < length w.counts.items = omega (arith, c.len.ensures, c.if-slot-len.true) in
    let read = read_count w.names.items w.counts.items slot c.index_mut.result.now w.counted inside c.index_mut.ensures.value in
    let gone : in_slot slot c.take_out.new.list.items + length w.names.items ≡ in_slot slot w.names.items + length c.take_out.new.list.items = rw c.take_out.ensures.items (in_slot_without c.args.id w.names.items) in
    let left : length c.take_out.new.list.items ≤ length w.names.items = rw c.take_out.ensures.items (fewer_without c.args.id w.names.items) in
    let is : (c.index_mut.result.now - (c.len-before.result - c.len-then-slot-len.result)) ≡ in_slot slot c.take_out.new.list.items = omega (arith, read, gone, left, c.len-before.ensures, c.len-then-slot-len.ensures, w.names.ok, c.take_out.new.list.ok) in
    record { counted = counted_set w.names.items c.take_out.new.list.items w.counts.items slot _ w.counted inside is (rw c.take_out.ensures.items (λ s other. in_other_slot s c.args.id w.names.items other)); within = grind (arith, length-set, within_without) }

pub invariant_of-self-else-slot-len : goal.invariant_of-self-else-slot-len
invariant_of-self-else-slot-len c = grind (arith, counted_beyond, in_other_slot, within_without)
