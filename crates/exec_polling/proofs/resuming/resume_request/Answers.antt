use Rattle.std.proofs.{Common.{refl, sym, ◌∙◌}, lemmas.Option.slice_get_within}
use Rattle.exec_machine.specs.Tests.{is_unsent}
use Rattle.exec_moves.specs.declared.place.InPoll.{InPoll}
use Rattle.exec_parts.proofs.{Facts.{not-true, not-false}, MailLets.found_at}
use Rattle.exec_invariants.proofs.{FiringRemoved.removes_seen, Here.polled_here, Pending.at_resume, TaskGot.{may_take_own, output_got}, TaskLooks.{may_ask_output, may_hear_output, newest_awaited, output_looked}, TaskOverLets.lets_seen, TaskOverPolls.looking}
use Rattle.exec_polling.proofs.{TaskForwards.output_asked, TaskPendEnds.{may_pend, poll_ends}, TaskPendLooks.{request_pends, stops_request}}
use Rattle.exec_polling.proofs.resuming.resume_request.Goals as goal

pub hear_output-requires : goal.hear_output-requires
hear_output-requires g c =
    let w = c.args.worker.now in
    let s = c.args.shared.now in
    let it = polled_here InPoll.Resume c.args.task w s c.requires.sound refl in
    let r = c.index-record.result.now in
    let at_r = found_at s.requests.items c.args.request r c.requires.there c.index-record.ensures in
    record { may = may_hear_output c.args.task c.args.request w s r c.requires.whole it (c.requires.waits it.slot it.there) at_r (not-true (is_unsent r.shown.forwarding) (sym c.was_forwarded.ensures ∙ c.if-was_forwarded.true)) }

pub returns-then-was_forwarded : goal.returns-then-was_forwarded
returns-then-was_forwarded g c =
    let w = c.args.worker.now in
    let s = c.args.shared.now in
    let it = polled_here InPoll.Resume c.args.task w s c.requires.sound refl in
    let r = c.index-record.result.now in
    let at_r = found_at s.requests.items c.args.request r c.requires.there c.index-record.ensures in
    record {
      steps = output_looked g.B.Body.left g.B.Scripted.spot g.B.Scripted.answered c.args.task c.args.request w c.hear_output.new.worker s c.hear_output.new.shared c.hear_output.result r c.requires.sound c.requires.whole it (c.requires.waits it.slot it.there) at_r
          (not-true (is_unsent r.shown.forwarding) (sym c.was_forwarded.ensures ∙ c.if-was_forwarded.true)) c.hear_output.ensures.hears;
    }

pub ask_output-requires : goal.ask_output-requires
ask_output-requires g c =
    let w = c.args.worker.now in
    let s = c.args.shared.now in
    let it = polled_here InPoll.Resume c.args.task w s c.requires.sound refl in
    let r = c.index-record.result.now in
    let at_r = found_at s.requests.items c.args.request r c.requires.there c.index-record.ensures in
    let newest = newest_awaited InPoll.Resume c.args.task c.args.request w s c.requires.whole it (c.requires.waits it.slot it.there) in
    record { may = may_ask_output InPoll.Resume c.args.task c.args.request w s r c.requires.sound c.requires.whole it newest at_r (not-false (is_unsent r.shown.forwarding) (sym c.was_forwarded.ensures ∙ c.if-was_forwarded.false)) c.if-record-worker.true }

pub returns-then-record-worker : goal.returns-then-record-worker
returns-then-record-worker g c =
    let w = c.args.worker.now in
    let s = c.args.shared.now in
    let it = polled_here InPoll.Resume c.args.task w s c.requires.sound refl in
    let r = c.index-record.result.now in
    let at_r = found_at s.requests.items c.args.request r c.requires.there c.index-record.ensures in
    record {
      steps = output_asked g.B.Body.left g.B.Scripted.spot c.args.task c.args.request w c.ask_output.new.worker s c.ask_output.new.shared c.ask_output.result r c.requires.sound c.requires.whole it (c.requires.waits it.slot it.there) at_r
          (not-false (is_unsent r.shown.forwarding) (sym c.was_forwarded.ensures ∙ c.if-was_forwarded.false)) c.if-record-worker.true c.ask_output.ensures.asks;
    }

pub take_output-requires : goal.take_output-requires
take_output-requires g c =
    let w = c.args.worker.now in
    let s = c.args.shared.now in
    let it = polled_here InPoll.Resume c.args.task w s c.requires.sound refl in
    let r = c.index-record.result.now in
    let at_r = found_at s.requests.items c.args.request r c.requires.there c.index-record.ensures in
    let newest = newest_awaited InPoll.Resume c.args.task c.args.request w s c.requires.whole it (c.requires.waits it.slot it.there) in
    let may = may_take_own InPoll.Resume c.args.task c.args.request w s r c.requires.sound c.requires.whole it newest at_r (not-false (is_unsent r.shown.forwarding) (sym c.was_forwarded.ensures ∙ c.if-was_forwarded.false)) c.if-record-worker.false (sym c.is_over.ensures ∙ c.if-is_over.true) in
    record {
      there = slice_get_within s.tasks.items c.args.task it.slot it.there;
      known = c.requires.there;
      holds = may.holds;
      ready = may.ready;
    }

pub returns-then-is_over : goal.returns-then-is_over
returns-then-is_over g c =
    let w = c.args.worker.now in
    let s = c.args.shared.now in
    let it = polled_here InPoll.Resume c.args.task w s c.requires.sound refl in
    let r = c.index-record.result.now in
    let at_r = found_at s.requests.items c.args.request r c.requires.there c.index-record.ensures in
    record {
      steps = output_got g.B.Body.left g.B.Scripted.spot g.B.Scripted.answered c.args.task c.args.request w c.take_output.new.worker s c.take_output.new.shared c.take_output.result r c.requires.sound c.requires.whole it (c.requires.waits it.slot it.there) at_r
          (not-false (is_unsent r.shown.forwarding) (sym c.was_forwarded.ensures ∙ c.if-was_forwarded.false)) c.if-record-worker.false c.take_output.ensures.took;
    }

pub pend-requires : goal.pend-requires
pend-requires g c =
    let w = c.args.worker.now in
    let s = c.args.shared.now in
    let it = polled_here InPoll.Resume c.args.task w s c.requires.sound refl in
    record { may = may_pend g.B.Body.left g.B.Scripted.spot InPoll.Resume c.args.task w s c.requires.sound (at_resume c.args.task) (looking c.args.task) it c.requires.whole lets_seen (removes_seen g.row.B.Denot) }

pub returns : goal.returns
returns g c =
    let w = c.args.worker.now in
    let s = c.args.shared.now in
    let it = polled_here InPoll.Resume c.args.task w s c.requires.sound refl in
    let r = c.index-record.result.now in
    let at_r = found_at s.requests.items c.args.request r c.requires.there c.index-record.ensures in
    let unsent = not-false (is_unsent r.shown.forwarding) (sym c.was_forwarded.ensures ∙ c.if-was_forwarded.false) in
    let going = sym c.is_over.ensures ∙ c.if-is_over.false in
    let waits = c.requires.waits it.slot it.there in
    let stops = stops_request c.args.request w.index it.slot.waiting s r waits at_r c.if-record-worker.false going in
    record {
      steps = poll_ends g.B.Body.left g.B.Scripted.spot InPoll.Resume c.args.task w s c.requires.sound (at_resume c.args.task) (looking c.args.task) it c.requires.whole lets_seen (removes_seen g.row.B.Denot) c.pend.new.worker c.pend.new.shared c.pend.result c.pend.ensures.event
          (request_pends g.B.Body.left g.B.Scripted.spot c.args.task c.args.request w s it.slot r it.there waits at_r unsent c.if-record-worker.false going) stops.0 stops.1 c.pend.ensures.pends;
    }
