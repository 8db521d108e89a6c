use Rattle.std.proofs.Common.{sym, ◌∙◌, arith}
use Rattle.exec_driver.proofs.Admitting.{taken_few, on_ok, on_err, reserved_none, reserved_still, given_back}
use Rattle.exec_driver.proofs.driver.Driver.make_room.Goals as goal

pub release-requires : goal.release-requires
release-requires g c =
    let second = on_err c.reserve-2.result (sym c.is_err.ensures.value ∙ c.if-is_err.true) c.reserve-2.ensures.err in
    rw (second, c.in_ok-reserve.ensures.ok) (omega (arith, taken_few _ c.self.invariant.sound, c.self.invariant.sound.places))

pub returns-then-is_err-2-clause-unstored : goal.returns-then-is_err-2-clause-unstored
returns-then-is_err-2-clause-unstored g c =
    let second = on_ok c.reserve-2.result (sym c.is_err.ensures.value ∙ c.if-is_err.false) c.reserve-2.ensures.stored in
    let none = reserved_none 0 _ _ (rw c.cancel.ensures at second) in
    given_back c.args.window _ _ _ (reserved_still c.args.window _ _ _ c.in_ok-reserve.ensures.stored none) c.give_up_places.ensures.store

pub returns-clause-two : goal.returns-clause-two
returns-clause-two g c = grind arith
