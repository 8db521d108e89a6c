use Rattle.std.proofs.{Common.{refl, sym, ap, ◌∙◌, slice_set, arith}, lemmas.{Grind.elements, Bool.false≢true}}
use Rattle.exec_waiters.specs.Events.{changed, with_waker}
use Rattle.exec_machine.specs.Tests.{is_resolved}
use Rattle.exec_parts.{specs.{Awaits.awaited_by, View.driver_of, declared.parts.record.Record.Record}, proofs.{Facts.same_Some, MailLets.found_at}}
use Rattle.exec_polling.proofs.resuming.await_request.Goals as goal

pub returns : goal.returns
returns g c =
    let w = c.args.worker.now in
    let s = c.args.shared.now in
    let d = driver_of w in
    let k = c.args.request in
    let newest = c.requires.newest in
    let r = c.index.result.now in
    let first = found_at s.requests.items k r newest.known c.index.ensures in
    let second = found_at s.requests.items k c.index-2.result.now newest.known c.index-2.ensures in
    let third = found_at s.requests.items k c.index-3.result.now newest.known c.index-3.ensures in
    let last = found_at s.requests.items k c.index_mut.result.now newest.known c.index_mut.ensures.value in
    let o = c.index_mut-2.result.now in
    let there = found_at s.tasks.items c.args.task o newest.there c.index_mut-2.ensures.value in
    let seen = found_at s.tasks.items c.args.task c.index-4.result.now newest.there c.index-4.ensures in
    let waker = c.number-waker.ensures ∙ newest.number c.index-4.result.now seen in
    let going = sym c.is_over.ensures ∙ c.if-is_over.false in
    record {
      awaits = record {
        over = λ x found mine h. let same = same_Some c.index-2.result.now x (sym second ∙ found) in absurd (false≢true (sym going ∙ ap (λ (y : Record). is_resolved y.shown.phase) same ∙ h));
        waits = λ x found mine h.
            let is = same_Some c.index-3.result.now x (sym third ∙ found) in
            let is_last = same_Some c.index_mut.result.now x (sym last ∙ found) in
            record {
              slot = o;
              there = there;
              r = x;
              request = found;
              event = refl;
              worker = refl;
              driver = c.set_waker-displaced.ensures.set ∙ ap (λ (y : Record). record d { requests = changed d.requests y.id.0 (with_waker c.number-waker.result) }) is ∙ ap (λ y. record d { requests = changed d.requests x.id.0 (with_waker y) }) waker;
              punctual = c.set_waker-displaced.ensures.punctual;
              records = ap (λ (y : Record). slice_set s.requests.items k (awaited_by c.args.task y)) is_last;
              tasks = ap (slice_set s.tasks.items c.args.task) c.wait_for.ensures;
              kept = refl;
            };
        elsewhere = λ x found other. let same = same_Some r x (sym first ∙ found) in absurd (other (ap (λ (y : Record). y.shown.worker) (sym same) ∙ c.if-index-worker.false));
      };
    }

pub ask_output-requires : goal.ask_output-requires
ask_output-requires g c = grind (arith, elements)

pub returns-then-index-worker : goal.returns-then-index-worker
returns-then-index-worker g c = grind (arith, elements)

pub take_output-requires-clause-ready : goal.take_output-requires-clause-ready
take_output-requires-clause-ready g c = grind (arith, elements)

pub returns-then-is_over : goal.returns-then-is_over
returns-then-is_over g c = grind (arith, elements)

pub set_waker-displaced-requires : goal.set_waker-displaced-requires
set_waker-displaced-requires g c = grind (arith, elements)
