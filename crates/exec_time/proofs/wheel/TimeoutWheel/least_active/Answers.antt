use Rattle.exec_time.{specs.{Wheel.least_active, WheelView.wheel_of}, proofs.Ranges.{least_found, found_active}}
use Rattle.exec_time.proofs.wheel.TimeoutWheel.least_active.Goals as goal

pub returns-clause-least : goal.returns-clause-least
unfolding least_active wheel_of
returns-clause-least c =
    let w = c.args.self.now in
    least_found c.least.result w.active.items w.current w.slots w.has_slots c.requires.settled.ahead w.in_span c.least.ensures.none c.least.ensures.among c.least.ensures.least

pub returns-clause-active : goal.returns-clause-active
returns-clause-active c = found_active c.least.result c.args.self.now.active.items c.least.ensures.among
