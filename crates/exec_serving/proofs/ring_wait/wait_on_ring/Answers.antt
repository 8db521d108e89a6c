use Rattle.std.proofs.{Common.arith, lemmas.Grind.elements}
use Rattle.exec_serving.proofs.{Entered.full_ring_entered, Parking.ring_entered, Testing.ring_tested, Waiting.{ring_armed, ring_disarmed}}
use Rattle.exec_serving.proofs.ring_wait.wait_on_ring.Goals as goal

pub returns-in-ArmRing : goal.returns-in-ArmRing
returns-in-ArmRing g c =
    record { steps = ring_armed g.B.Body.left g.B.Scripted.spot c.args.stay c.args.worker.now c.arm_ring.new.worker c.args.shared.now c.arm_ring.new.shared c.arm_ring.result (rw c.in-ArmRing.is at c.requires.sound) c.arm_ring.ensures.makes c.arm_ring.ensures.goes c.arm_ring.ensures.word }

pub returns-in-DisarmRing : goal.returns-in-DisarmRing
returns-in-DisarmRing g c =
    record { steps = ring_disarmed g.B.Body.left g.B.Scripted.spot c.args.stay c.in-DisarmRing.next c.args.worker.now c.disarm_ring.new.worker c.args.shared.now c.disarm_ring.new.shared c.disarm_ring.result (rw c.in-DisarmRing.is at c.requires.sound) c.disarm_ring.ensures.event c.disarm_ring.ensures.goes c.disarm_ring.ensures.word }

pub returns-in-TestRing : goal.returns-in-TestRing
returns-in-TestRing g c =
    record { steps = ring_tested g.B.Body.left g.B.Scripted.spot c.args.stay c.args.worker.now c.test_ring.new.worker c.args.shared.now c.test_ring.result (rw c.in-TestRing.is at c.requires.sound) c.test_ring.ensures.event c.test_ring.ensures.tests }

pub returns-in-EnterFullRing : goal.returns-in-EnterFullRing
returns-in-EnterFullRing g c =
    record { steps = full_ring_entered g.B.Body.left g.B.Scripted.spot c.args.stay c.args.worker.now c.enter_full_ring.new.worker c.args.shared.now c.enter_full_ring.new.shared c.enter_full_ring.result (rw c.in-EnterFullRing.is at c.requires.sound) c.enter_full_ring.ensures.enters c.enter_full_ring.ensures.goes }

pub returns-in-EnterRing : goal.returns-in-EnterRing
returns-in-EnterRing g c =
    record { steps = ring_entered g.B.Body.left g.B.Scripted.spot c.args.stay c.args.worker.now c.enter_ring.new.worker c.args.shared.now c.enter_ring.new.shared c.enter_ring.result (rw c.in-EnterRing.is at c.requires.sound) c.enter_ring.ensures.enters c.enter_ring.ensures.goes }

pub enter_full_ring-requires-clause-there : goal.enter_full_ring-requires-clause-there
enter_full_ring-requires-clause-there g c = grind (arith, elements)

pub arm_ring-requires-clause-there : goal.arm_ring-requires-clause-there
arm_ring-requires-clause-there g c = grind (arith, elements)

pub enter_ring-requires-clause-there : goal.enter_ring-requires-clause-there
enter_ring-requires-clause-there g c = grind (arith, elements)

pub disarm_ring-requires : goal.disarm_ring-requires
disarm_ring-requires g c = grind (arith, elements)
