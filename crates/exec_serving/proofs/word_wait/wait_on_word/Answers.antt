use Rattle.std.proofs.{Common.arith, lemmas.Grind.elements}
use Rattle.exec_serving.proofs.Waiting.{batch_sought, latch_sought, latch_taken, word_armed, word_disarmed}
use Rattle.exec_serving.proofs.word_wait.wait_on_word.Goals as goal

pub returns-in-TakeLatch : goal.returns-in-TakeLatch
returns-in-TakeLatch g c =
    record { steps = latch_taken g.B.Body.left g.B.Scripted.spot c.args.worker.now c.take_latch.new.worker c.args.shared.now c.take_latch.new.shared c.take_latch.result (rw c.in-TakeLatch.is at c.requires.sound) c.take_latch.ensures.event c.take_latch.ensures.goes c.take_latch.ensures.word }

pub returns-in-ArmWord : goal.returns-in-ArmWord
returns-in-ArmWord g c =
    record { steps = word_armed g.B.Body.left g.B.Scripted.spot c.args.worker.now c.arm_word.new.worker c.args.shared.now c.arm_word.new.shared c.arm_word.result (rw c.in-ArmWord.is at c.requires.sound) c.arm_word.ensures.makes c.arm_word.ensures.same c.arm_word.ensures.word }

pub returns-in-DisarmWord : goal.returns-in-DisarmWord
returns-in-DisarmWord g c =
    record { steps = word_disarmed g.B.Body.left g.B.Scripted.spot c.args.worker.now c.disarm_word.new.worker c.args.shared.now c.disarm_word.new.shared c.disarm_word.result (rw c.in-DisarmWord.is at c.requires.sound) c.disarm_word.ensures.event c.disarm_word.ensures.desk c.disarm_word.ensures.same c.disarm_word.ensures.word }

pub returns-in-SpinOnBatch : goal.returns-in-SpinOnBatch
returns-in-SpinOnBatch g c =
    record { steps = batch_sought g.B.Body.left g.B.Scripted.spot c.in-SpinOnBatch.left c.args.worker.now c.spin_on_batch.new.worker c.args.shared.now c.spin_on_batch.result c.index.result.now (rw c.in-SpinOnBatch.is at c.requires.sound) c.spin_on_batch.ensures.makes c.spin_on_batch.ensures.same c.index.ensures }

pub returns-in-SpinOnLatch : goal.returns-in-SpinOnLatch
returns-in-SpinOnLatch g c =
    record { steps = latch_sought g.B.Body.left g.B.Scripted.spot c.in-SpinOnLatch.left c.args.worker.now c.spin_on_latch.new.worker c.args.shared.now c.spin_on_latch.result c.index-in-SpinOnLatch.result.now (rw c.in-SpinOnLatch.is at c.requires.sound) c.spin_on_latch.ensures.makes c.spin_on_latch.ensures.same c.index-in-SpinOnLatch.ensures }

pub index-requires : goal.index-requires
index-requires g c = grind (arith, elements)

pub index-requires-in-SpinOnLatch : goal.index-requires-in-SpinOnLatch
index-requires-in-SpinOnLatch g c = grind (arith, elements)

pub take_latch-requires : goal.take_latch-requires
take_latch-requires g c = grind (arith, elements)

pub arm_word-requires-clause-there : goal.arm_word-requires-clause-there
arm_word-requires-clause-there g c = grind (arith, elements)

pub disarm_word-requires-clause-there : goal.disarm_word-requires-clause-there
disarm_word-requires-clause-there g c = grind (arith, elements)
