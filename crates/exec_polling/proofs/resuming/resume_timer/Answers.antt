use Rattle.std.proofs.{Common.{refl, sym, ◌∙◌, inl, arith}, lemmas.{Grind.elements, Option.slice_get_within}}
use Rattle.exec_machine.specs.Tests.{is_unsent}
use Rattle.exec_moves.specs.declared.place.InPoll.{InPoll}
use Rattle.exec_parts.proofs.{Facts.{not-true, not-false}, MailLets.found_at}
use Rattle.exec_invariants.proofs.{AsksEnds.{end_asked, is_unsent_so}, FiringRemoved.removes_seen, Here.polled_here, Pending.at_resume, TaskLooks.{end_looked, may_ask_end}, TaskOverLets.lets_seen, TaskOverPolls.looking, TaskTakes.sleep_taken}
use Rattle.exec_polling.proofs.{TaskPendEnds.{may_pend, poll_ends}, TaskPendLooks.{stops_timer, timer_pends}}
use Rattle.exec_polling.proofs.resuming.resume_timer.Goals as goal

pub returns-then-was_forwarded : goal.returns-then-was_forwarded
returns-then-was_forwarded g c =
    let w = c.args.worker.now in
    let s = c.args.shared.now in
    let it = polled_here InPoll.Resume c.args.task w s c.requires.sound refl in
    let z = c.index-record.result.now in
    let at_z = found_at s.sleepers.items c.args.timer z c.requires.asleep c.index-record.ensures in
    record {
      steps = end_looked g.B.Body.left g.B.Scripted.spot g.B.Scripted.answered c.args.task c.args.timer w c.hear_end.new.worker s c.hear_end.new.shared c.hear_end.result z c.requires.sound c.requires.whole it (c.requires.waits it.slot it.there) at_z
          (not-true (is_unsent z.shown.forwarding) (sym c.was_forwarded.ensures ∙ c.if-was_forwarded.true)) c.hear_end.ensures.hears;
    }

pub ask_end-requires : goal.ask_end-requires
ask_end-requires g c =
    let w = c.args.worker.now in
    let s = c.args.shared.now in
    let it = polled_here InPoll.Resume c.args.task w s c.requires.sound refl in
    let z = c.index-record.result.now in
    let at_z = found_at s.sleepers.items c.args.timer z c.requires.asleep c.index-record.ensures in
    record {
      may = may_ask_end c.args.task c.args.timer w s z c.requires.sound c.requires.whole it (c.requires.waits it.slot it.there) at_z (not-false (is_unsent z.shown.forwarding) (sym c.was_forwarded.ensures ∙ c.if-was_forwarded.false)) c.if-record-worker.true;
    }

pub returns-then-record-worker : goal.returns-then-record-worker
returns-then-record-worker g c =
    let w = c.args.worker.now in
    let s = c.args.shared.now in
    let it = polled_here InPoll.Resume c.args.task w s c.requires.sound refl in
    let z = c.index-record.result.now in
    let at_z = found_at s.sleepers.items c.args.timer z c.requires.asleep c.index-record.ensures in
    record {
      steps = end_asked g.B.Body.left g.B.Scripted.spot c.args.task c.args.timer w c.ask_end.new.worker s c.ask_end.new.shared c.ask_end.result z c.requires.sound c.requires.whole it (c.requires.waits it.slot it.there) at_z
          (not-false (is_unsent z.shown.forwarding) (sym c.was_forwarded.ensures ∙ c.if-was_forwarded.false)) c.if-record-worker.true c.ask_end.ensures.asks;
    }

pub take_sleep-requires : goal.take_sleep-requires
take_sleep-requires g c =
    let it = polled_here InPoll.Resume c.args.task c.args.worker.now c.args.shared.now c.requires.sound refl in
    record { there = slice_get_within c.args.shared.now.tasks.items c.args.task it.slot it.there }

pub returns-then-record : goal.returns-then-record
returns-then-record g c =
    let w = c.args.worker.now in
    let s = c.args.shared.now in
    let it = polled_here InPoll.Resume c.args.task w s c.requires.sound refl in
    let z = c.index-record.result.now in
    let at_z = found_at s.sleepers.items c.args.timer z c.requires.asleep c.index-record.ensures in
    let unsent = not-false (is_unsent z.shown.forwarding) (sym c.was_forwarded.ensures ∙ c.if-was_forwarded.false) in
    let is = c.take_sleep.ensures in
    record {
      steps = sleep_taken g.B.Body.left g.B.Scripted.spot g.B.Scripted.answered c.args.task c.args.timer w c.take_sleep.new.worker s c.take_sleep.new.shared c.take_sleep.result z c.requires.sound it (c.requires.waits it.slot it.there) at_z c.if-record.true
          (inl (c.if-record-worker.false, is_unsent_so z.shown.forwarding unsent)) is.event is.worker is.task;
    }

pub pend-requires : goal.pend-requires
pend-requires g c =
    let w = c.args.worker.now in
    let s = c.args.shared.now in
    let it = polled_here InPoll.Resume c.args.task w s c.requires.sound refl in
    record { may = may_pend g.B.Body.left g.B.Scripted.spot InPoll.Resume c.args.task w s c.requires.sound (at_resume c.args.task) (looking c.args.task) it c.requires.whole lets_seen (removes_seen g.row.B.Denot) }

pub returns : goal.returns
returns g c =
    let w = c.args.worker.now in
    let s = c.args.shared.now in
    let it = polled_here InPoll.Resume c.args.task w s c.requires.sound refl in
    let z = c.index-record.result.now in
    let at_z = found_at s.sleepers.items c.args.timer z c.requires.asleep c.index-record.ensures in
    let unsent = not-false (is_unsent z.shown.forwarding) (sym c.was_forwarded.ensures ∙ c.if-was_forwarded.false) in
    let waits = c.requires.waits it.slot it.there in
    let stops = stops_timer c.args.task c.args.timer w s z c.requires.whole it waits at_z c.if-record-worker.false c.if-record.false in
    record {
      steps = poll_ends g.B.Body.left g.B.Scripted.spot InPoll.Resume c.args.task w s c.requires.sound (at_resume c.args.task) (looking c.args.task) it c.requires.whole lets_seen (removes_seen g.row.B.Denot) c.pend.new.worker c.pend.new.shared c.pend.result c.pend.ensures.event
          (timer_pends g.B.Body.left g.B.Scripted.spot c.args.task c.args.timer w s it.slot z it.there waits at_z unsent c.if-record-worker.false c.if-record.false) stops.0 stops.1 c.pend.ensures.pends;
    }

pub hear_end-requires : goal.hear_end-requires
hear_end-requires g c = grind (arith, elements)
