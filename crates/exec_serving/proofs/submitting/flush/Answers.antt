use Rattle.exec_parts.specs.View.{driver_of}
use Rattle.exec_serving.proofs.Flushing.{flushed_all, flushed_none}
use Rattle.exec_serving.proofs.submitting.flush.Goals as goal

pub returns-in-Busy : goal.returns-in-Busy
returns-in-Busy g c =
    let enters = c.enter-event.ensures.enters in
    record { enters = (c.enter-event.new.worker, enters, flushed_none c.args.service (driver_of enters.mid).ring.busy c.enter-event.result c.enter-event.new.worker c.end_staging.new.worker enters.enters.event c.in-Busy.is c.end_staging.ensures) }

pub returns-in_default : goal.returns-in_default
returns-in_default g c =
    let enters = c.enter-event.ensures.enters in
    record { enters = (c.enter-event.new.worker, enters, flushed_all c.args.service (driver_of enters.mid).ring.busy c.enter-event.result c.enter-event.new.worker enters.enters.event c.in_default.not-Busy) }
