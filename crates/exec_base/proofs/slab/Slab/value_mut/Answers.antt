use Rattle.std.proofs.{Common.arith, lemmas.Grind.common_steps}
use Rattle.exec_base.proofs.Slots.{IsLiveAt-from_value, IsLaidOut-write}
use Rattle.exec_base.proofs.slab.Slab.value_mut.Goals as goal

pub invariant_of-self-lent : goal.invariant_of-self-lent
invariant_of-self-lent g c = λ w.
    let some = rw (← c.self.view_is) at c.requires in
    IsLaidOut-write _ _ _ _ _ _ _ w (IsLiveAt-from_value _ _ _ _ some) c.self.invariant

pub index_mut-requires : goal.index_mut-requires
index_mut-requires g c = grind (arith, common_steps)

pub value_mut-requires : goal.value_mut-requires
value_mut-requires g c = grind (arith, common_steps)

pub returns : goal.returns
returns g c = grind (arith, common_steps)
