use Rattle.std.proofs.Common.{arith, ◌≡◌, ◌+◌, ◌%◌, ap}
use Rattle.exec_time.{specs.{Wheel.Wheel, WheelView.wheel_of}, proofs.Views.emptied_step}
use Rattle.exec_time.proofs.wheel.TimeoutWheel.empty_buckets.Goals as goal

pub loop-step-preserved : goal.loop-step-preserved
unfolding wheel_of
loop-step-preserved c =
    let w = c.args.self.now in
    let slots : c.loop-step.self.slots ≡ w.slots = ap (λ (x : Wheel). x.slots) c.loop-step.invariant.0 in
    let at : ((c.args.first + c.loop-step.step) % c.loop-step.self.slots) ≡ (c.args.first + c.loop-step.step) % w.slots = ap (λ n. (c.args.first + c.loop-step.step) % n) slots in
    (emptied_step _ _ (wheel_of w) c.args.first c.loop-step.step _ c.loop-step.invariant.0 c.empty_bucket.ensures.wheel at w.has_slots (omega arith), omega arith)
