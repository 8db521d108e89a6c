use Rattle.std.{proofs.Common.{◌≡◌, ◌<◌, true, length, not, refl, sym, ap, subst, ◌∙◌, slice_set}, specs.Vec.with_item}
use Rattle.exec_waiters.specs.declared.deferred.Answer.{Answer}
use Rattle.exec_machine.specs.declared.event.Event.TheVariants.{Turn}
use Rattle.exec_moves.specs.declared.handing.Heard.{Heard}
use Rattle.exec_parts.{specs.{MailTakes.{SendsOutput, after_sending_of}, Phased.is_complete, View.number_heard, declared.parts.{mail.Reply.Reply, worker.Worker.Worker}}, proofs.{Facts.same_Some, MailLets.{fewer_results, found_at, sending_anywhere}}}
use Rattle.exec_messages.proofs.callbacks.send_output.Goals as goal

pub returns : goal.returns
returns g c =
    let w = c.args.worker.now in
    let s = c.args.shared.now in
    let may = c.requires.may in
    let a0 = c.take_first-result.result in
    let first = found_at w.home.deferred.results.items 0 a0 may.some c.take_first-result.ensures.value in
    let k = c.in-Request.request in
    let t = a0.sender.task.0 in
    let r = c.index_mut.result.now in
    let o = c.index_mut-2.result.now in
    let sender = may.first a0 first in
    let number : k ≡ may.k = ap number_heard (sym c.in-Request.is ∙ ap (λ (x : Reply). x.of) sender ∙ may.of) in
    let known = subst (λ n. n < length s.requests.items) (sym number) may.known in
    let there = subst (λ (x : Reply). x.task.0 < length s.tasks.items) (sym sender) may.there in
    let v : Worker = record w { home = record w.home { deferred = record w.home.deferred { results = c.take_first-result.new.list } } } in
    let w' : Worker = record w { place = c.after_sending-worker.result; home = record w.home { deferred = record w.home.deferred { results = c.take_first-result.new.list } } } in
    let made : SendsOutput {B = g.row.B.Denot} t k c.args.next w w' s (record s { tasks = with_item s.tasks t c.send_output-hears.new.self; requests = with_item s.requests k (record r { sent = true }) }) Turn =
    record {
      event = refl;
      r = r;
      request = found_at s.requests.items k r known c.index_mut.ensures.value;
      requests = refl;
      slot = o;
      there = found_at s.tasks.items t o there c.index_mut-2.ensures.value;
      answer = a0;
      first = first;
      tasks = ap (slice_set s.tasks.items t) c.send_output-hears.ensures.sent;
      kept = refl;
      results = c.take_first-result.ensures.rest;
      room = fewer_results w.home.deferred (record w.home.deferred { results = c.take_first-result.new.list }) refl c.take_first-result.ensures.len c.take_first-result.ensures.capacity;
      wide = c.take_first-result.ensures.capacity;
      place = c.after_sending-worker.ensures ∙ ap (λ b. after_sending_of b t (Heard.Request k) c.args.next v) c.send_output-hears.ensures.hears ∙ sending_anywhere (not (is_complete o.cell.phase)) t (Heard.Request k) c.args.next v c.after_sending-worker.result;
      worker = refl;
    } in
    record {
      sends = λ a at.
          subst (λ (x : Answer Reply). SendsOutput {B = g.row.B.Denot} x.sender.task.0 (number_heard x.sender.of) c.args.next w w' s (record s { tasks = with_item s.tasks t c.send_output-hears.new.self; requests = with_item s.requests k (record r { sent = true }) }) Turn)
          (same_Some a0 a (sym first ∙ at))
          (subst (λ n. SendsOutput {B = g.row.B.Denot} t n c.args.next w w' s (record s { tasks = with_item s.tasks t c.send_output-hears.new.self; requests = with_item s.requests k (record r { sent = true }) }) Turn) (sym (ap number_heard c.in-Request.is)) made);
    }
