use Rattle.std.proofs.Common.{sym, ap, ◌∙◌, arith}
use Rattle.exec_waiters.specs.States.{gate_in}
use Rattle.exec_driver.{specs.Driving.{Driving, seen, request_at}, proofs.{Admitting.{on_ok, refused_over, given_back}, Arriving.placed_over, Keeping.{rooms_punctual, place_made}}}
use Rattle.exec_opens.proofs.Lines.{placed_back, placed_there}
use Rattle.exec_driver.proofs.driver.Driver.admit.Goals as goal

pub returns-in-Ok-clause-admits : goal.returns-in-Ok-clause-admits
returns-in-Ok-clause-admits g c =
    let made = sym c.is_err.ensures.value ∙ c.if-is_err.false in
    let after = placed_over (seen c.args.self.now) (seen c.make_room.new.self) (seen c.take_in.new.self) c.in-Ok.id c.args.request c.args.observer c.args.now c.make_room.ensures.same c.in-Ok.ensures.taken in
    grind arith

pub release-requires : goal.release-requires
release-requires g c = grind (arith, on_ok, placed_there)

pub returns-in-Err-clause-spots : goal.returns-in-Err-clause-spots
returns-in-Err-clause-spots g c = grind arith

pub returns-in-Err-clause-opens : goal.returns-in-Err-clause-opens
returns-in-Err-clause-opens g c = grind (arith, on_ok, placed_back)

pub returns-in-Err-clause-unstored : goal.returns-in-Err-clause-unstored
returns-in-Err-clause-unstored g c =
    let made = sym c.is_err.ensures.value ∙ c.if-is_err.false in
    given_back _ _ _ _ (on_ok c.make_room.result made c.make_room.ensures.stored) c.give_up_places.ensures.store

pub returns-in-Ok-clause-joins : goal.returns-in-Ok-clause-joins
returns-in-Ok-clause-joins g c =
    let named = ap (λ (m : Driving g.row.S.Denot g.row.F.Denot). gate_in (request_at m c.in-Ok.id)) c.trim.ensures.same in
    rw named (place_made c.args.opens.now _ _ _ _ (returns-in-Ok-clause-admits g c).opens_after c.in-Ok.ensures.gate)

pub returns-in-Ok-clause-punctual : goal.returns-in-Ok-clause-punctual
returns-in-Ok-clause-punctual g c = λ p. rooms_punctual _ _ c.trim.ensures.same (c.take_in.ensures.punctual (rooms_punctual _ _ c.make_room.ensures.same p))

pub returns-in-Err-clause-punctual : goal.returns-in-Err-clause-punctual
returns-in-Err-clause-punctual g c = λ p. rooms_punctual _ _ c.give_up_places.ensures.same (c.take_in.ensures.punctual (rooms_punctual _ _ c.make_room.ensures.same p))

pub returns-in-Err-clause-refused : goal.returns-in-Err-clause-refused
returns-in-Err-clause-refused g c =
    refused_over (seen c.args.self.now) _ _ _ c.make_room.ensures.same c.in-Err.ensures.refused
