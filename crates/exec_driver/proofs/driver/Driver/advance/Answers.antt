use Rattle.std.proofs.Common.{◌≤◌, refl, arith}
use Rattle.exec_time.specs.WheelView.{room_of}
use Rattle.exec_driver.{proofs.{Advancing.{held_on, advanced_punctual}, Punctual.{reach_of, turns_of}}, specs.{Driving.seen, Sound.IsSound}}
use Rattle.exec_driver.proofs.driver.Driver.advance.Goals as goal

pub invariant_of-self : goal.invariant_of-self
invariant_of-self g c =
    let more : room_of c.self.inside.wheel ≤ room_of c.drain.new.wheel = omega (arith, c.advance-count.ensures.room, c.drain.ensures.wheel_room) in
    let listed = rw (c.drain.ensures.due, c.advance-count.ensures.wheel) at c.drain.ensures.listed in
    rw (c.drain.ensures.wheel, c.drain.ensures.due, c.advance-count.ensures.wheel) (held_on _ c.args.now _ _ _ _ more listed c.self.invariant)

pub returns-clause-advanced : goal.returns-clause-advanced
returns-clause-advanced g c = rw (← c.self.view_is) (rw (c.drain.ensures.wheel, c.drain.ensures.due, c.advance-count.ensures.wheel) refl)

pub returns-clause-punctual : goal.returns-clause-punctual
returns-clause-punctual g c =
    let sound : IsSound (seen c.args.self.now) = rw (← c.self.view_is) c.self.invariant.sound in
    rw (returns-clause-advanced g c) (advanced_punctual (seen c.args.self.now) c.args.now (turns_of c.args.self.now.timeouts) c.requires.settled (reach_of c.args.self.now.timeouts) sound.ticks)
