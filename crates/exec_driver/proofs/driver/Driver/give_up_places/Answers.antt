use Rattle.std.proofs.Common.{arith}
use Rattle.exec_driver.proofs.Admitting.{taken_few}
use Rattle.exec_driver.proofs.driver.Driver.give_up_places.Goals as goal

pub release-requires : goal.release-requires
release-requires g c =
    let two = rw (← c.self.view_is) at c.requires.made in
    omega (arith, two, taken_few _ c.self.invariant.sound)

pub release-requires-2 : goal.release-requires-2
release-requires-2 g c =
    let two = rw (← c.self.view_is) at c.requires.made in
    rw c.release.ensures.ring (omega (arith, two, taken_few _ c.self.invariant.sound))
