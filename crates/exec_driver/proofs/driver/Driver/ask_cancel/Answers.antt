use Rattle.std.proofs.Common.{◌≡◌, sym, ap, ◌∙◌, arith}
use Rattle.exec_driver.proofs.{Words.{cancelled, waiter_at, tick_in, tick_of}, Endings.{flying_there, ticked, changed_is, cancelled_before, unasked, asked, held_cancelling, room_to_cancel}}
use Rattle.exec_driver.proofs.driver.Driver.ask_cancel.Goals as goal

pub unschedule-requires : goal.unschedule-requires
unschedule-requires g c =
    let there = flying_there (waiter_at c.self.inside.waiters c.args.id.0) (rw (← c.self.view_is) at c.requires.flies) in
    record { active = rw (c.target_tick-tick.ensures, there.is) (ticked _ c.args.id there.w there.is c.self.invariant.sound) }

pub cancel-requires-then-cancel : goal.cancel-requires-then-cancel
cancel-requires-then-cancel g c =
    let there = flying_there (waiter_at c.self.inside.waiters c.args.id.0) (rw (← c.self.view_is) at c.requires.flies) in
    let un = unasked _ there.w there.is (sym c.cancel.ensures.answer ∙ c.if-cancel.true) in
    record { room = room_to_cancel _ c.args.id there.w _ _ _ there.is there.flies un c.self.invariant }

pub invariant_of-self : goal.invariant_of-self
invariant_of-self g c =
    let there = flying_there (waiter_at c.self.inside.waiters c.args.id.0) (rw (← c.self.view_is) at c.requires.flies) in
    let un = unasked _ there.w there.is (sym c.cancel.ensures.answer ∙ c.if-cancel.true) in
    let tick : c.target_tick-tick.result ≡ tick_in there.w.state = c.target_tick-tick.ensures ∙ ap tick_of there.is in
    rw (c.cancel.ensures.cancelled, changed_is c.self.inside.waiters c.args.id.0 there.w cancelled there.is, c.unschedule.ensures.wheel, tick, c.cancel-then-cancel.ensures)
    (held_cancelling _ c.args.id there.w _ _ _ _ there.is there.flies un c.unschedule.ensures.room c.self.invariant)

pub invariant_of-self-else-cancel : goal.invariant_of-self-else-cancel
invariant_of-self-else-cancel g c =
    let there = flying_there (waiter_at c.self.inside.waiters c.args.id.0) (rw (← c.self.view_is) at c.requires.flies) in
    let was = asked _ there.w there.is (sym c.cancel.ensures.answer ∙ c.if-cancel.false) in
    rw (c.cancel.ensures.cancelled, cancelled_before c.self.inside.waiters c.args.id.0 there.w there.is was) c.self.invariant

pub returns-else-cancel : goal.returns-else-cancel
returns-else-cancel g c = grind (arith, flying_there, waiter_at, asked, cancelled, cancelled_before)
