use Rattle.std.proofs.Common.{◌≡◌, true, sym, ◌∙◌, arith}
use Rattle.exec_waiters.specs.States.{is_flying, waiter_at}
use Rattle.exec_driver.proofs.Landing.{held_land, landed_punctual}
use Rattle.exec_driver.proofs.driver.simulated.«Driver+SimRing+S+F».land.Goals as goal

pub invariant_of-self : goal.invariant_of-self
invariant_of-self g c =
    let flies : is_flying (waiter_at c.self.inside.waiters c.args.id.0) ≡ true = sym c.is_in_flight.ensures ∙ c.if-not-is_in_flight.false in
    held_land _ c.land.new.self c.land.new.ring c.args.id c.args.given c.land.result c.args.store.now c.land.new.store _ _ _ c.self.invariant flies (assumption (c.land.ensures))

pub returns-clause-lands : goal.returns-clause-lands
returns-clause-lands g c = grind arith

pub returns-clause-punctual : goal.returns-clause-punctual
returns-clause-punctual g c =
    let flies : is_flying (waiter_at c.self.inside.waiters c.args.id.0) ≡ true = sym c.is_in_flight.ensures ∙ c.if-not-is_in_flight.false in
    rw (← c.self.view_is) (landed_punctual _ c.land.new.self c.land.new.ring c.args.id c.args.given c.land.result c.args.store.now c.land.new.store flies (assumption (c.land.ensures)))
