use Rattle.exec_time.{specs.WheelView.wheel_of, proofs.Views.scheduled_is}
use Rattle.exec_time.proofs.wheel.TimeoutWheel.schedule.Goals as goal

pub returns-clause-scheduled : goal.returns-clause-scheduled
unfolding wheel_of
returns-clause-scheduled c =
    let w = c.args.self.now in
    scheduled_is w.start w.tick w.horizon w.slots w.current w.entries.items c.make_way.new.entries.items c.put.new.entries.items w.active.items c.join-was.new.ticks.items w.ready.items c.args.tick c.args.id (rw (← c.join-was.ensures.was) c.make_way.ensures.buckets) c.put.ensures.buckets c.join-was.ensures.counts
