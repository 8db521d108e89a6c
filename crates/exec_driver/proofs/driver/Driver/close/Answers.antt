use Rattle.std.proofs.Common.{◌≡◌, true, sym, ◌∙◌, arith}
use Rattle.exec_base.specs.Slab.{value_at}
use Rattle.exec_waiters.specs.Events.{asks_cancel_by_orphan}
use Rattle.exec_driver.proofs.{Observing.held_orphaned, Telling.{tells_both, few_closed, room_left}, Keeping.{cancelled_punctual, orphaned_punctual}, driver.Driver.close.Goals.{then-closed, else-closed}}
use Rattle.exec_driver.proofs.driver.Driver.close.Goals as goal

pub invariant_of-self-then-closed : goal.invariant_of-self-then-closed
invariant_of-self-then-closed g c = rw c.in_ok-closed.ensures.orphaned (held_orphaned _ c.in_ok-closed.closed.id _ _ _ c.self.invariant)

pub cancel-requires : goal.cancel-requires
cancel-requires g c = record { room = room_left 2 1 _ _ _ (omega arith) (few_closed c.in_ok-closed.closed.id.0 _) c.in_ok-closed.ensures.told c.requires.room }

pub invariant_of-self-else-closed : goal.invariant_of-self-else-closed
invariant_of-self-else-closed g c = rw c.in_ok-closed.ensures.orphaned (held_orphaned _ c.in_ok-closed.closed.id _ _ _ c.self.invariant)

pub returns-clause-told : goal.returns-clause-told
returns-clause-told g c =
    elim c.if-closed.branch [
      | then-closed w ↦
          let asks : asks_cancel_by_orphan (value_at c.self.inside.waiters c.in_ok-closed.closed.id.0) ≡ true = sym c.in_ok-closed.ensures.answer ∙ w.if-closed.true in
          rw (w.deferred-is, ← c.self.view_is, asks) (tells_both _ _ _ _ _ c.in_ok-closed.ensures.told (rw c.in_ok-closed.ensures.orphaned at w.cancel.ensures.told))
      | else-closed w ↦ grind arith
    ]

pub returns-clause-punctual : goal.returns-clause-punctual
returns-clause-punctual g c =
    elim c.if-closed.branch [
      | then-closed w ↦ λ p.
          let before = rw (← c.self.view_is) at p in
          let mid = rw (← c.in_ok-closed.ensures.orphaned) at (orphaned_punctual _ c.in_ok-closed.closed.id before) in
          rw (w.self-is, w.cancel.ensures.cancelled) (cancelled_punctual _ c.in_ok-closed.closed.id mid)
      | else-closed w ↦ λ p.
          let before = rw (← c.self.view_is) at p in
          rw (w.self-is, c.in_ok-closed.ensures.orphaned) (orphaned_punctual _ c.in_ok-closed.closed.id before)
    ]
