use Rattle.std.proofs.Common.{◌+◌, length, sym, ap, ◌∙◌, arith}
use Rattle.exec_ring.specs.Rings.{RingState}
use Rattle.exec_time.specs.{Layouts.slots_of, WheelView.wheel_of}
use Rattle.exec_driver.proofs.Admitting.{held_fresh, unused, on_ok, on_err, reserved_wake}
use Rattle.exec_driver.proofs.driver.Driver.new.Goals as goal

pub invariant_of-result : goal.invariant_of-result
invariant_of-result g c =
    let ring = on_ok c.reserve.result (sym c.is_err.ensures.value ∙ c.if-is_err.false) c.reserve.ensures.ok ∙ ap (λ (s : RingState). record s { places = s.places + 1 }) c.requires.fresh in
    let staged = ap (λ (s : RingState). length s.staged) c.requires.fresh in
    let wheel = unused (slots_of c.args.horizon c.args.tick) (wheel_of c.in-Ok.wheel) _ _ _ c.in-Ok.ensures in
    rw c.new-3.ensures (held_fresh _ _ _ _ (g.R.Ring.state c.args.ring).size _ _ c.in-Ok-new.ensures.slots wheel.drained wheel.idle ring (omega (arith, staged, c.room-limit.ensures)))

pub returns-clause-made : goal.returns-clause-made
returns-clause-made g c = grind arith

pub returns-then-is_err-clause-store : goal.returns-then-is_err-clause-store
returns-then-is_err-clause-store g c =
    on_err c.reserve.result (sym c.is_err.ensures.value ∙ c.if-is_err.true) c.reserve.ensures.same

pub returns-clause-store : goal.returns-clause-store
returns-clause-store g c =
    let made = sym c.is_err.ensures.value ∙ c.if-is_err.false in
    reserved_wake _ _ (rw c.wake.ensures at (on_ok c.reserve.result made c.reserve.ensures.stored))
