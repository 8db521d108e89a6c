use Rattle.exec_steps.proofs.Signalling.{latch_set, wait_ended}
use Rattle.exec_steps.proofs.signal.signal.Goals as goal

pub returns-in-SetLatch : goal.returns-in-SetLatch
returns-in-SetLatch g c = record { steps = latch_set _ _ _ _ _ _ _ c.args.other c.args.back (rw c.in-SetLatch.is at c.requires.sound) c.set_latch.ensures.event c.set_latch.ensures.goes c.set_latch.ensures.chair c.set_latch.ensures.kept }

pub returns-in-Raise : goal.returns-in-Raise
returns-in-Raise g c = record { steps = wait_ended _ _ _ _ _ _ _ c.in-Raise.ring c.args.other c.args.back (rw c.in-Raise.is at c.requires.sound) c.raise.ensures.event c.raise.ensures.goes c.raise.ensures.chair c.raise.ensures.kept }
