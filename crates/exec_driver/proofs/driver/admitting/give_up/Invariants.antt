use Rattle.std.proofs.Common.{◌≡◌, ◌-◌}
use Rattle.exec_ring.specs.Stores.{Same}
use Rattle.exec_driver.proofs.driver.admitting.give_up.Given as goal

abbrev pub invariant-spare : goal.invariant-spare
invariant-spare g l =
    (g.R.Ring.state l.ring ≡ record (g.R.Ring.state l.fn.ring) { places = (g.R.Ring.state l.fn.ring).places - l.counter }) × Same l.fn.store l.store
