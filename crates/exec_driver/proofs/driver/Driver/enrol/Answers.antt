use Rattle.std.proofs.Common.{◌≡◌, Some, None, Ok, Err, sym, ◌∙◌, refl, arith}
use Rattle.exec_driver.proofs.{Words.{wheel_of, with_tick, waiter_at, first_of, tick_for}, Endings.changed_is, Expiring.{tick_tells, some_first, unset_there}, Granting.{held_enrolled, same_some}, Keeping.ended_punctual, Punctual.{enrolled_punctual, reach_of, some_slots_of}}
use Rattle.exec_waiters.specs.States.{deadline_in}
use Rattle.exec_driver.proofs.driver.Driver.enrol.Goals as goal

pub schedule-requires : goal.schedule-requires
schedule-requires g c = grind (arith, first_of, tick_for, wheel_of, tick_tells, some_first)

pub set_deadline-requires : goal.set_deadline-requires
set_deadline-requires g c = grind arith

pub refuse-requires : goal.refuse-requires
refuse-requires g c = grind arith

pub invariant_of-self-in-Ok : goal.invariant_of-self-in-Ok
invariant_of-self-in-Ok g c =
    let first : first_of c.self.inside.lists.enrolments ≡ Some c.in_ok-id.id = sym c.next_enrolment.ensures.first ∙ c.in_ok-id.was in
    let there = unset_there c.self.inside.waiters _ c.in_ok-id.id first c.self.invariant.sound.enrolments in
    rw (c.set_deadline.ensures, changed_is c.self.inside.waiters c.in_ok-id.id.0 there.w (with_tick c.in-Ok.tick) there.at, c.schedule.ensures.scheduled, c.next_enrolment.ensures.rest) (held_enrolled _ c.in_ok-id.id there.w c.in-Ok.tick _ _ _ _ there.at first there.unset c.schedule.ensures.room c.self.invariant)

pub returns-in-Err-clause-enrolled : goal.returns-in-Err-clause-enrolled
returns-in-Err-clause-enrolled g c =
    let set : deadline_in (waiter_at c.self.inside.waiters c.in_ok-id.id.0) ≡ Some c.in-Some.deadline = sym c.deadline.ensures ∙ c.in-Some.is in
    rw (← c.self.view_is) (λ w deadline at due.
    let same : c.in-Some.deadline ≡ deadline = same_some _ _ _ (rw at at set) due in
    let err : tick_for (wheel_of c.self.inside.wheel) deadline c.args.now ≡ Err c.in-Err.error = rw (← same) (sym c.tick_for.ensures ∙ c.in-Err.is) in
    record {
      driver = rw err (rw c.next_enrolment.ensures.rest at (c.refuse.ensures.ended w at));
      tells = rw err (c.refuse.ensures.told w at);
      told_is = rw err refl;
    })

pub returns-in-Ok-clause-punctual : goal.returns-in-Ok-clause-punctual
returns-in-Ok-clause-punctual g c =
    let first : first_of c.self.inside.lists.enrolments ≡ Some c.in_ok-id.id = sym c.next_enrolment.ensures.first ∙ c.in_ok-id.was in
    let there = unset_there c.self.inside.waiters _ c.in_ok-id.id first c.self.invariant.sound.enrolments in
    let tick : tick_for (wheel_of c.self.inside.wheel) c.in-Some.deadline c.args.now ≡ Ok c.in-Ok.tick = sym c.tick_for.ensures ∙ c.in-Ok.is in
    rw (← c.self.view_is, c.set_deadline.ensures, changed_is c.self.inside.waiters c.in_ok-id.id.0 there.w (with_tick c.in-Ok.tick) there.at, c.schedule.ensures.scheduled, c.next_enrolment.ensures.rest)
    (enrolled_punctual _ _ c.in_ok-id.id there.w c.in-Ok.tick (some_slots_of c.self.inside.wheel) (reach_of c.self.inside.wheel) c.self.invariant.sound (tick_tells (wheel_of c.self.inside.wheel) c.in-Some.deadline c.args.now c.in-Ok.tick tick) there.at refl refl refl)

pub returns-in-Err-clause-punctual : goal.returns-in-Err-clause-punctual
returns-in-Err-clause-punctual g c = λ p.
    let there = unset_there c.self.inside.waiters _ c.in_ok-id.id (sym c.next_enrolment.ensures.first ∙ c.in_ok-id.was) c.self.invariant.sound.enrolments in
    let before = rw (← c.self.view_is) at p in
    rw (c.refuse.ensures.ended there.w there.at, c.next_enrolment.ensures.rest) (ended_punctual _ c.in_ok-id.id there.w (Err c.in-Err.error) None there.at (record { ahead = before.ahead }))
