use Rattle.exec_driver.proofs.{Endings.{idle_there, ticked, held_ended}}
use Rattle.exec_driver.proofs.driver.Driver.end_with.Goals as goal

pub unschedule-requires : goal.unschedule-requires
unschedule-requires g c =
    let there = idle_there _ (rw (← c.self.view_is) at c.requires.idle) in
    let over = c.finish-tick.ensures there.w there.is in
    record { active = rw over.tick_is (ticked _ c.args.id there.w there.is c.self.invariant.sound) }

pub invariant_of-self : goal.invariant_of-self
invariant_of-self g c =
    let there = idle_there _ (rw (← c.self.view_is) at c.requires.idle) in
    let over = c.finish-tick.ensures there.w there.is in
    rw (over.slab, c.unschedule.ensures.wheel, over.tick_is, c.withdraw.ensures) (held_ended _ c.args.id there.w _ _ _ _ _ _ there.is there.idle c.unschedule.ensures.room c.self.invariant)

pub returns-clause-told : goal.returns-clause-told
returns-clause-told g c = λ w is. (c.finish-tick.ensures w (rw (← c.self.view_is) at is)).told
