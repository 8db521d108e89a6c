use Rattle.exec_polling.proofs.CallSignals.{call_latch_set, call_wait_ended}
use Rattle.exec_polling.proofs.caller.Caller.signal.Goals as goal

pub returns-in-SetLatch : goal.returns-in-SetLatch
returns-in-SetLatch g c =
    record { steps = call_latch_set g.B.Body.left g.B.Scripted.spot c.args.self.now c.set_latch.new.self c.args.shared.now c.set_latch.new.shared c.set_latch.result c.requires.sound c.args.worker (rw c.in-SetLatch.is at c.requires.here) c.set_latch.ensures.event c.set_latch.ensures.goes c.set_latch.ensures.chair c.set_latch.ensures.kept }

pub returns-in-Raise : goal.returns-in-Raise
returns-in-Raise g c =
    record { steps = call_wait_ended g.B.Body.left g.B.Scripted.spot c.args.self.now c.raise.new.self c.args.shared.now c.raise.new.shared c.raise.result c.requires.sound c.args.worker c.in-Raise.ring (rw c.in-Raise.is at c.requires.here) c.raise.ensures.event c.raise.ensures.goes c.raise.ensures.chair c.raise.ensures.kept }
