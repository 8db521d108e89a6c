use Rattle.std.{proofs.Common.{refl, sym, subst}, specs.Vec.with_item}
use Rattle.exec_parts.{specs.{MailTakes.{MayTake, Takes}, View.forward_of}, proofs.MailLets.found_at}
use Rattle.exec_messages.proofs.mail.take_forward.Goals as goal

pub returns-in-Request-clause-takes : goal.returns-in-Request-clause-takes
returns-in-Request-clause-takes g c =
    let s = c.args.shared.now in
    let r = c.index_mut.result.now in
    let h = subst (λ x. MayTake {B = g.row.B.Denot} (forward_of x) c.args.worker.now s) c.in-Request.is c.requires.may in
    subst (λ x. Takes {B = g.row.B.Denot} (forward_of x) c.args.worker.now c.forward_request.new.worker s (record s { requests = with_item s.requests c.in-Request.request c.forward_request.new.record })) (sym c.in-Request.is)
    (record {
      r = r;
      request = found_at s.requests.items c.in-Request.request r h.0 c.index_mut.ensures.value;
      r' = c.forward_request.new.record;
      forwards = c.forward_request.ensures.forwards;
      requests = refl;
      kept = refl;
    })

pub forward_timer-requires : goal.forward_timer-requires
forward_timer-requires g c =
    let h = subst (λ x. MayTake {B = g.row.B.Denot} (forward_of x) c.args.worker.now c.args.shared.now) c.in-Timer.is c.requires.may in
    let it = c.index_mut-in-Timer.result.now in
    record { may = h.1 it (found_at c.args.shared.now.sleepers.items c.in-Timer.timer it h.0 c.index_mut-in-Timer.ensures.value) }

pub returns-in-Timer-clause-takes : goal.returns-in-Timer-clause-takes
returns-in-Timer-clause-takes g c =
    let s = c.args.shared.now in
    let it = c.index_mut-in-Timer.result.now in
    let h = subst (λ x. MayTake {B = g.row.B.Denot} (forward_of x) c.args.worker.now s) c.in-Timer.is c.requires.may in
    subst (λ x. Takes {B = g.row.B.Denot} (forward_of x) c.args.worker.now c.forward_timer.new.worker s (record s { sleepers = with_item s.sleepers c.in-Timer.timer c.forward_timer.new.record })) (sym c.in-Timer.is)
    (record {
      it = it;
      sleeper = found_at s.sleepers.items c.in-Timer.timer it h.0 c.index_mut-in-Timer.ensures.value;
      it' = c.forward_timer.new.record;
      forwards = c.forward_timer.ensures.forwards;
      sleepers = refl;
      kept = refl;
    })
