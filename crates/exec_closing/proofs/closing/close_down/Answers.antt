use Rattle.std.proofs.{Common.arith, lemmas.{Grind.elements, Option.slice_get_within}}
use Rattle.exec_parts.proofs.Mailboxes.{root_place}
use Rattle.exec_closing.proofs.{ClosesMail.mailbox_closed, ClosingOrphan.request_orphaned, ClosingSleeper.sleeper_let_go, LetsMay.{may_close_sleeper, may_orphan}, Parting.{barrier_left, worker_ended}, Stopping.root_told, TaskCleared.task_cleared, TaskClearing.may_clear, Visiting.shard_visited}
use Rattle.exec_invariants.proofs.{Closes.closing_began, ClosesPool.{queue_closed, barrier_opened, pool_stopped}, FiringRemoved.removes_seen, TaskOverLets.lets_seen}
use Rattle.exec_closing.proofs.closing.close_down.Goals as goal

pub returns-in-Close : goal.returns-in-Close
returns-in-Close g c =
    record { steps = closing_began g.B.Body.left g.B.Scripted.spot c.args.worker.now c.close.new.worker c.args.shared.now c.close.new.shared c.close.result (rw c.in-Close.is at c.requires.sound) c.close.ensures.event c.close.ensures.worker c.close.ensures.chair c.close.ensures.kept }

pub returns-in-CloseQueue : goal.returns-in-CloseQueue
returns-in-CloseQueue g c =
    record { steps = queue_closed g.B.Body.left g.B.Scripted.spot c.args.worker.now c.close_queue.new.worker c.args.shared.now c.close_queue.new.shared c.close_queue.result (rw c.in-CloseQueue.is at c.requires.sound) c.requires.going c.close_queue.ensures.event c.close_queue.ensures.worker c.close_queue.ensures.kept }

pub returns-in-OpenBarrier : goal.returns-in-OpenBarrier
returns-in-OpenBarrier g c =
    record { steps = barrier_opened g.B.Body.left g.B.Scripted.spot c.args.worker.now c.open_barrier.new.worker c.args.shared.now c.open_barrier.new.shared c.open_barrier.result (rw c.in-OpenBarrier.is at c.requires.sound) c.requires.going c.open_barrier.ensures.event c.open_barrier.ensures.worker c.open_barrier.ensures.kept }

pub returns-in-Stop : goal.returns-in-Stop
returns-in-Stop g c =
    record { steps = pool_stopped g.B.Body.left g.B.Scripted.spot c.args.worker.now c.stop.new.worker c.args.shared.now c.stop.new.shared c.stop.result (rw c.in-Stop.is at c.requires.sound) c.requires.going c.stop.ensures.event c.stop.ensures.worker c.stop.ensures.kept }

pub returns-in-Visit : goal.returns-in-Visit
returns-in-Visit g c =
    record { steps = shard_visited g.B.Body.left g.B.Scripted.spot c.args.worker.now c.visit.new.worker c.args.shared.now c.visit.new.set c.visit.result c.in-Visit.drain (rw c.in-Visit.is at c.requires.sound) c.requires.going c.visit.ensures.visited c.visit.ensures.event }

pub returns-in-LeaveBarrier : goal.returns-in-LeaveBarrier
returns-in-LeaveBarrier g c =
    record { steps = barrier_left g.B.Body.left g.B.Scripted.spot c.args.worker.now c.leave_barrier.new.worker c.args.shared.now c.leave_barrier.new.shared c.leave_barrier.result (rw c.in-LeaveBarrier.is at c.requires.sound) c.requires.going c.leave_barrier.ensures.event c.leave_barrier.ensures.worker c.leave_barrier.ensures.chair c.leave_barrier.ensures.kept }

pub returns-in-CloseMailbox : goal.returns-in-CloseMailbox
returns-in-CloseMailbox g c =
    record { steps = mailbox_closed g.B.Body.left g.B.Scripted.spot c.args.worker.now c.close_mailbox.new.worker c.args.shared.now c.close_mailbox.new.shared c.close_mailbox.result (rw c.in-CloseMailbox.is at c.requires.sound) c.requires.going c.requires.let_on c.close_mailbox.ensures.event c.close_mailbox.ensures.worker c.close_mailbox.ensures.place c.close_mailbox.ensures.batch c.close_mailbox.ensures.chair c.close_mailbox.ensures.kept }

pub returns-in-End : goal.returns-in-End
returns-in-End g c =
    record { steps = worker_ended g.B.Body.left g.B.Scripted.spot c.args.worker.now c.end.new.worker c.args.shared.now c.end.new.shared c.end.result (rw c.in-End.is at c.requires.sound) c.requires.whole c.requires.going c.end.ensures.event c.end.ensures.worker c.end.ensures.chair c.end.ensures.sleepers c.end.ensures.kept }

pub visit-requires-clause-its : goal.visit-requires-clause-its
visit-requires-clause-its g c =
    let sound = rw c.in-Visit.is at c.requires.sound in
    (sound.phased sound.seated.seat sound.seated.there).prepared.0

pub visit-requires-clause-more : goal.visit-requires-clause-more
visit-requires-clause-more g c =
    let sound = rw c.in-Visit.is at c.requires.sound in
    (sound.phased sound.seated.seat sound.seated.there).prepared.1

pub returns-in-TellRoot : goal.returns-in-TellRoot
returns-in-TellRoot g c =
    record { steps = root_told g.B.Body.left g.B.Scripted.spot c.args.worker.now c.tell_root.new.worker c.args.shared.now c.tell_root.new.shared c.tell_root.result c.in-TellRoot.other (rw c.in-TellRoot.is at c.requires.sound) c.requires.whole c.requires.going c.tell_root.ensures.sends }

pub tell_root-requires : goal.tell_root-requires
tell_root-requires g c =
    let sound = rw c.in-TellRoot.is at c.requires.sound in
    record { may = record { there = omega (arith, sound.aims.1, sound.seated.many); place = λ chair there. root_place chair.mailbox (c.requires.whole.whole.pool.mail c.in-TellRoot.other chair there) } }

pub clear-requires : goal.clear-requires
clear-requires g c =
    record { may = may_clear g.B.Body.left g.B.Scripted.spot c.in-Clear.task c.in-Clear.drain c.args.worker.now c.args.shared.now (rw c.in-Clear.is at c.requires.sound) c.requires.whole c.requires.going lets_seen }

pub returns-in-Clear : goal.returns-in-Clear
returns-in-Clear g c =
    record {
      steps = task_cleared g.B.Body.left g.B.Scripted.spot c.in-Clear.task c.in-Clear.drain c.args.worker.now c.args.shared.now (rw c.in-Clear.is at c.requires.sound) c.requires.whole c.requires.going c.clear.new.worker c.clear.new.shared c.clear.result c.clear.ensures.event c.clear.ensures.clears lets_seen (removes_seen g.row.B.Denot);
    }

pub leave_barrier-requires : goal.leave_barrier-requires
leave_barrier-requires g c =
    record { there = slice_get_within c.args.shared.now.seats.items c.args.worker.now.index c.requires.sound.seated.seat c.requires.sound.seated.there }

pub close_mailbox-requires : goal.close_mailbox-requires
close_mailbox-requires g c =
    record { there = slice_get_within c.args.shared.now.seats.items c.args.worker.now.index c.requires.sound.seated.seat c.requires.sound.seated.there }

pub end-requires : goal.end-requires
end-requires g c =
    record { there = slice_get_within c.args.shared.now.seats.items c.args.worker.now.index c.requires.sound.seated.seat c.requires.sound.seated.there }

pub orphan_next-requires : goal.orphan_next-requires
orphan_next-requires g c = record { may = may_orphan c.args.worker.now c.args.shared.now (rw c.in-Orphan.is at c.requires.sound) }

pub close_sleeper-requires : goal.close_sleeper-requires
close_sleeper-requires g c = record { may = may_close_sleeper c.args.worker.now c.args.shared.now (rw c.in-CloseSleeper.is at c.requires.sound) }

pub returns-in-Orphan : goal.returns-in-Orphan
returns-in-Orphan g c =
    record { steps = request_orphaned g.B.Body.left g.B.Scripted.spot c.args.worker.now c.orphan_next.new.worker c.args.shared.now c.orphan_next.new.shared c.orphan_next.result (rw c.in-Orphan.is at c.requires.sound) c.requires.going c.orphan_next.ensures.orphans }

pub returns-in-CloseSleeper : goal.returns-in-CloseSleeper
returns-in-CloseSleeper g c =
    record { steps = sleeper_let_go g.B.Body.left g.B.Scripted.spot c.args.worker.now c.close_sleeper.new.worker c.args.shared.now c.close_sleeper.new.shared c.close_sleeper.result (rw c.in-CloseSleeper.is at c.requires.sound) c.requires.going c.close_sleeper.ensures.closes }

pub close-requires : goal.close-requires
close-requires g c = grind (arith, elements)
