use Rattle.std.proofs.{lemmas.Option.slice_get_within, Common.arith}
use Rattle.exec_messages.proofs.BackHears.{heard_woken, hears_there}
use Rattle.exec_invariants.proofs.MailBack.{batch_taken}
use Rattle.exec_messages.proofs.callbacks.callbacks.Goals as goal

pub returns-in-TakeBatch : goal.returns-in-TakeBatch
returns-in-TakeBatch g c = record { steps = batch_taken _ _ c.args.next _ _ _ _ (rw c.in-TakeBatch.is at c.requires.sound) c.take_batch.ensures.event c.take_batch.ensures.goes }

pub wake_hearer-requires-clause-there : goal.wake_hearer-requires-clause-there
wake_hearer-requires-clause-there g c =
    let sound = rw c.in-WakeWaiter.is at c.requires.sound in
    let it = hears_there c.in-WakeWaiter.task c.in-WakeWaiter.of c.args.worker.now c.args.shared.now c.requires.whole sound.hears in
    slice_get_within c.args.shared.now.tasks.items c.in-WakeWaiter.task it.slot it.there

pub wake_hearer-requires-clause-unpaid : goal.wake_hearer-requires-clause-unpaid
wake_hearer-requires-clause-unpaid g c = grind arith

pub returns-in-WakeWaiter : goal.returns-in-WakeWaiter
returns-in-WakeWaiter g c =
    let sound = rw c.in-WakeWaiter.is at c.requires.sound in
    record { steps = heard_woken g.B.Body.left g.B.Scripted.spot c.args.next c.in-WakeWaiter.task c.in-WakeWaiter.of c.args.worker.now c.wake_hearer.new.worker c.args.shared.now c.wake_hearer.new.shared c.wake_hearer.result sound c.requires.whole c.wake_hearer.ensures.wakes }
