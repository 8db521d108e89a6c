use Rattle.std.proofs.{Common.{IsSome, arith, rules}, lemmas.{Grind.common_steps, List.reverse-append}}
use Rattle.exec_base.{specs.Slab.value_at, proofs.Slots.{IsLiveAt-from_value, read_live, IsLaidOut-free, IsLaidOut-retire}}
use Rattle.exec_base.proofs.slab.Slab.remove.Goals as goal

pub invariant_of-self : goal.invariant_of-self
invariant_of-self g c =
    let some : IsSome (value_at c.args.self.now c.args.id) = search rules in
    let live = IsLiveAt-from_value c.self.inside.slots.items c.args.id.index c.args.id.generation c.self.inside.first (rw (← c.self.view_is) at some) in
    let freed = rw (read_live c.self.inside.slots.items c.args.id.index c.args.id.generation c.index_mut.result.now live c.index_mut.ensures.value) at c.free-value.ensures.freed in
    rw freed (IsLaidOut-retire _ _ _ _ _ _ (omega arith) live c.self.invariant)

pub invariant_of-self-2 : goal.invariant_of-self-2
invariant_of-self-2 g c =
    let some : IsSome (value_at c.args.self.now c.args.id) = search rules in
    let live = IsLiveAt-from_value c.self.inside.slots.items c.args.id.index c.args.id.generation c.self.inside.first (rw (← c.self.view_is) at some) in
    let freed = rw (read_live c.self.inside.slots.items c.args.id.index c.args.id.generation c.index_mut.result.now live c.index_mut.ensures.value) at c.free-value.ensures.freed in
    rw (freed, c.push_reserved.ensures.items, reverse-append, c.push_reserved.ensures.capacity) (IsLaidOut-free _ _ _ _ _ _ (omega arith) live c.self.invariant)

pub overflow_sub-self : goal.overflow_sub-self
overflow_sub-self g c = grind (arith, common_steps)

pub index_mut-requires : goal.index_mut-requires
index_mut-requires g c = grind (arith, common_steps)

pub free-value-requires : goal.free-value-requires
free-value-requires g c = grind (arith, common_steps)

pub push_reserved-requires : goal.push_reserved-requires
push_reserved-requires g c = grind (arith, common_steps)

pub returns-clause-value : goal.returns-clause-value
returns-clause-value g c = grind (arith, common_steps)

pub returns-clause-removed : goal.returns-clause-removed
returns-clause-removed g c = grind (arith, common_steps)

pub returns-clause-map : goal.returns-clause-map
returns-clause-map g c = grind (arith, common_steps)

pub returns-clause-past : goal.returns-clause-past
returns-clause-past g c = grind (arith, common_steps)
