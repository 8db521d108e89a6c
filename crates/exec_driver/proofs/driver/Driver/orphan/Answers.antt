use Rattle.std.proofs.Common.{◌≡◌, true, sym, ◌∙◌, arith}
use Rattle.exec_base.specs.Slab.{value_at}
use Rattle.exec_waiters.specs.Events.{asks_cancel_by_orphan}
use Rattle.exec_driver.{proofs.{Observing.held_orphaned, Telling.{tells_both, few_orphaned, room_left}, Keeping.{orphaned_punctual, let_go_punctual}}, specs.Driving.seen}
use Rattle.exec_driver.proofs.driver.Driver.orphan.Goals as goal

pub invariant_of-self : goal.invariant_of-self
invariant_of-self g c = rw c.orphan.ensures.orphaned (held_orphaned _ c.args.id _ _ _ c.self.invariant)

pub cancel-requires : goal.cancel-requires
cancel-requires g c = record { room = room_left 2 1 _ _ _ (omega arith) (few_orphaned c.args.id.0 _) c.orphan.ensures.told c.requires.room }

pub returns-then-orphan-clause-let_go : goal.returns-then-orphan-clause-let_go
returns-then-orphan-clause-let_go g c = grind arith

pub returns-then-orphan-clause-told : goal.returns-then-orphan-clause-told
returns-then-orphan-clause-told g c =
    let asks : asks_cancel_by_orphan (value_at c.self.inside.waiters c.args.id.0) ≡ true = sym c.orphan.ensures.answer ∙ c.if-orphan.true in
    rw (← c.self.view_is) (rw asks (tells_both _ _ _ _ _ c.orphan.ensures.told (rw c.orphan.ensures.orphaned at c.cancel.ensures.told)))

pub returns-else-orphan-clause-let_go : goal.returns-else-orphan-clause-let_go
returns-else-orphan-clause-let_go g c = grind arith

pub returns-else-orphan-clause-told : goal.returns-else-orphan-clause-told
returns-else-orphan-clause-told g c = grind arith

pub invariant_of-self-else-orphan : goal.invariant_of-self-else-orphan
invariant_of-self-else-orphan g c = rw c.orphan.ensures.orphaned (held_orphaned _ c.args.id _ _ _ c.self.invariant)

pub returns-then-orphan-clause-punctual : goal.returns-then-orphan-clause-punctual
returns-then-orphan-clause-punctual g c = rw (returns-then-orphan-clause-let_go g c) (let_go_punctual (seen c.args.self.now) c.args.id)

pub returns-else-orphan-clause-punctual : goal.returns-else-orphan-clause-punctual
returns-else-orphan-clause-punctual g c = rw (← c.self.view_is, c.orphan.ensures.orphaned) (orphaned_punctual _ c.args.id)
