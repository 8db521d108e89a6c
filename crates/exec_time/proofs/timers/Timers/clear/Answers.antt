use Rattle.exec_time.{specs.Sleepers.{opened, closed}, proofs.Endings.ends_room}
use Rattle.exec_time.proofs.timers.Timers.clear.Goals as goal

pub open-init : goal.open-init
open-init g c = (opened, c.requires.room)

pub open-preserved : goal.open-preserved
open-preserved g c =
    let e = c.in-Some.ensures.closed in
    (closed c.in-Some._closed.0 c.open.invariant.0 c.in-Some.ensures.lowest e, ends_room _ _ _ _ _ _ e c.open.invariant.1)
