use Rattle.std.proofs.Common.{refl, subst, arith}
use Rattle.exec_driver.specs.{Driving.seen, Steps.IsFresh}
use Rattle.exec_machine.specs.Ranges.{horizon}
use Rattle.exec_parts.{specs.Records.HasNoNames, proofs.LeafPowers.power_is}
use Rattle.exec_parts.proofs.parts.worker.Worker.begin.Goals as goal

pub returns-clause-begins : goal.returns-clause-begins
returns-clause-begins c =
    let k = c.args.configuration.now in
    let now = c.args.now in
    let home = c.in-Ok.ensures in
    let p = c.next_power_of_two-size.ensures in
    let size = power_is 15 k.ring _ p.power p.lower_bound p.upper_bound (omega (arith, c.requires.ranges.ring)) in
    record {
      parts = rw (c.in_ok-with_places.ensures, c.in_ok-with_places-2.ensures, c.new-2.ensures, c.new-3.ensures, c.spins_of.ensures) refl;
      names = subst (λ n. HasNoNames n c.in_ok-new.field-0) size c.in_ok-new.ensures.names;
      home = home.worker;
      opened = home.open;
      driver = subst (λ n. IsFresh (seen c.in-Ok.home.driver) n (horizon k) k.tick now) size home.fresh;
      punctual = home.punctual;
      asleep = home.asleep;
      untold = home.untold;
      room = home.room;
      letters = (c.new-4.ensures.requests, c.new-4.ensures.timer);
    }
