use Rattle.std.proofs.Common.{◌+◌, ◌<◌, length, length-set, ap, ◌∙◌, sym, arith}
use Rattle.exec_lists.proofs.Names.{within_push, in_slot_within, read_count, counted_set, counted_beyond, pushed_here, pushed_elsewhere}
use Rattle.exec_lists.proofs.name_list.NameList.push.Goals as goal

pub overflow_add-index_mut : goal.overflow_add-index_mut
overflow_add-index_mut c = grind (arith, read_count, in_slot_within)

pub invariant_of-self : goal.invariant_of-self
invariant_of-self c =
    let w = c.args.self.now in
    let slot = c.args.id.0.index in
    let inside : slot < length w.counts.items = omega (arith, c.len.ensures, c.if-slot-len.true) in
    let read = read_count w.names.items w.counts.items slot c.index_mut.result.now w.counted inside c.index_mut.ensures.value in
    record { counted = rw c.push_back_reserved.ensures.items (counted_set w.names.items _ w.counts.items slot _ w.counted inside (ap (λ n. n + 1) read ∙ sym (pushed_here c.args.id w.names.items)) (pushed_elsewhere c.args.id w.names.items)); within = grind (arith, length-set, within_push, inside) }

pub invariant_of-self-else-slot-len : goal.invariant_of-self-else-slot-len
invariant_of-self-else-slot-len c = grind (arith, counted_beyond, pushed_elsewhere)
