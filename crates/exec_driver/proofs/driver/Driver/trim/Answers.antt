use Rattle.std.proofs.Common.{arith}
use Rattle.exec_driver.proofs.Admitting.{taken_few, needed_few, held_places}
use Rattle.exec_driver.proofs.driver.Driver.trim.Goals as goal

pub give_up-requires : goal.give_up-requires
give_up-requires g c =
    let enough = needed_few _ c.self.invariant.sound in
    let taken = taken_few _ c.self.invariant.sound in
    omega (arith, enough, taken, c.self.invariant.sound.places, c.self.invariant.places, c.len.ensures)

pub invariant_of-self : goal.invariant_of-self
invariant_of-self g c =
    let enough = needed_few _ c.self.invariant.sound in
    rw c.give_up.ensures.ring (held_places _ _ _ _ _ _ c.self.inside.places (omega (arith, enough, c.self.invariant.sound.places, c.self.invariant.places, c.len.ensures)) (omega (arith, c.self.invariant.places)) c.self.invariant)
