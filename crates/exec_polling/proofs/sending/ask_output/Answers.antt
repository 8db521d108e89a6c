use Rattle.std.{proofs.Common.{refl, ap, subst, slice_set}, specs.Vec.with_item}
use Rattle.exec_machine.specs.declared.state.MailMessage.TheVariants.{ForwardRequest}
use Rattle.exec_moves.specs.declared.handing.AfterSend.{AfterSend}
use Rattle.exec_parts.{specs.{Pooled.Sends, declared.parts.record.Record.Record}, proofs.MailLets.found_at}
use Rattle.exec_polling.proofs.sending.ask_output.Goals as goal

pub returns : goal.returns
returns g c =
    let w = c.args.worker.now in
    let s = c.args.shared.now in
    let t = c.args.task in
    let k = c.args.request in
    let may = c.requires.may in
    let r = c.index_mut-record.result.now in
    let worker = ap (λ (x : Record). x.shown.worker) c.forward.ensures in
    record {
      asks = record {
        slot = c.index_mut.result.now;
        there = found_at s.tasks.items t c.index_mut.result.now may.there c.index_mut.ensures.value;
        r = r;
        request = found_at s.requests.items k r may.known c.index_mut-record.ensures.value;
        middle = record s { tasks = with_item s.tasks t c.await_output.new.self; requests = with_item s.requests k c.forward.new.self };
        kept = refl;
        tasks = ap (slice_set s.tasks.items t) c.await_output.ensures;
        requests = ap (slice_set s.requests.items k) c.forward.ensures;
        sends = subst (λ j. Sends {B = g.row.B.Denot} j (ForwardRequest k) (AfterSend.Pend t) w c.send.new.self (record s { tasks = with_item s.tasks t c.await_output.new.self; requests = with_item s.requests k c.forward.new.self }) c.send.new.shared c.send.result) worker c.send.ensures.sends;
      };
    }
