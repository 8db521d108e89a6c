use Rattle.exec_time.{specs.WheelView.wheel_of, proofs.Views.removed_is}
use Rattle.exec_time.proofs.wheel.TimeoutWheel.remove.Goals as goal

pub returns-clause-removed : goal.returns-clause-removed
unfolding wheel_of
returns-clause-removed c =
    let w = c.args.self.now in
    removed_is w.start w.tick w.horizon w.slots w.current w.entries.items w.active.items c.leave.new.ticks.items w.ready.items c.args.tick c.leave.ensures.counts
