use Rattle.std.proofs.{Common.{◌≡◌, [], set, reverse, refl, ap, ◌∙◌, rules, arith}, lemmas.Grind.common_steps}
use Rattle.exec_base.proofs.Slots.{reverse_last, read_vacant, Fills-push, Fills-set, Updates-fill, TakesId-fill, IsLaidOut-fill}
use Rattle.exec_base.proofs.slab.Slab.fill.Goals as goal

pub returns-in_default-clause-map : goal.returns-in_default-clause-map
returns-in_default-clause-map g c =
    let none : c.self.inside.vacant.items ≡ [] = search rules in
    let next = rw (← c.self.view_is, none) at c.requires.next in
    rw (← c.self.view_is) (Updates-fill _ _ _ _ (Fills-push _ _ _ _ next refl c.push_reserved.ensures.items))

pub returns-in_default-clause-never_again : goal.returns-in_default-clause-never_again
returns-in_default-clause-never_again g c =
    let none : c.self.inside.vacant.items ≡ [] = search rules in
    let next = rw (← c.self.view_is, none) at c.requires.next in
    rw (← c.self.view_is) (TakesId-fill _ _ _ c.args.value (Fills-push _ _ _ _ next refl c.push_reserved.ensures.items))

pub unreachable-requires : goal.unreachable-requires
unreachable-requires g c =
    let order = reverse_last _ _ _ c.in-Some.ensures.items in
    let laid = rw order at c.self.invariant in
    c.in_default-replace.not-Vacant _ (c.replace.ensures.value ∙ read_vacant _ _ _ laid.vacant_ones.0 c.index_mut.ensures.value)

pub invariant_of-self-2 : goal.invariant_of-self-2
invariant_of-self-2 g c =
    let order = reverse_last _ _ _ c.in-Some.ensures.items in
    let laid = rw order at c.self.invariant in
    rw (c.replace.ensures.after, c.in-Some.ensures.capacity) (IsLaidOut-fill _ _ _ _ _ _ _ laid)

pub returns-clause-map : goal.returns-clause-map
returns-clause-map g c =
    let order = reverse_last _ _ _ c.in-Some.ensures.items in
    let laid = rw order at c.self.invariant in
    let next = rw (← c.self.view_is, order) at c.requires.next in
    rw (← c.self.view_is) (Updates-fill _ _ _ _ (Fills-set _ _ c.in-Some.index (reverse c.pop.new.self.items) _ _ next laid.vacant_ones.0 refl (ap (set c.self.inside.slots.items c.in-Some.index) c.replace.ensures.after)))

pub returns-clause-never_again : goal.returns-clause-never_again
returns-clause-never_again g c =
    let order = reverse_last _ _ _ c.in-Some.ensures.items in
    let laid = rw order at c.self.invariant in
    let next = rw (← c.self.view_is, order) at c.requires.next in
    rw (← c.self.view_is) (TakesId-fill _ _ _ c.args.value (Fills-set _ _ c.in-Some.index (reverse c.pop.new.self.items) _ _ next laid.vacant_ones.0 refl (ap (set c.self.inside.slots.items c.in-Some.index) c.replace.ensures.after)))

pub invariant_of-self : goal.invariant_of-self
invariant_of-self g c = grind (arith, common_steps)

pub returns-in_default-clause-inserted : goal.returns-in_default-clause-inserted
returns-in_default-clause-inserted g c = grind (arith, common_steps)

pub returns-in_default-clause-never_before : goal.returns-in_default-clause-never_before
returns-in_default-clause-never_before g c = grind (arith, common_steps)

pub index_mut-requires : goal.index_mut-requires
index_mut-requires g c = grind (arith, common_steps)

pub returns-clause-inserted : goal.returns-clause-inserted
returns-clause-inserted g c = grind (arith, common_steps)

pub returns-clause-never_before : goal.returns-clause-never_before
returns-clause-never_before g c = grind (arith, common_steps)
