use Rattle.std.proofs.Common.{refl, ap, ◌∙◌}
use Rattle.exec_parts.{specs.Calls.{records_paid, sleepers_paid}, proofs.MailLets.{fewer_wakes, found_at}}
use Rattle.exec_messages.proofs.callbacks.wake_next.Goals as goal

pub returns : goal.returns
returns g c =
    let w = c.args.worker.now in
    let s = c.args.shared.now in
    let may = c.requires.may in
    let n = c.take_first-number.result in
    let first = found_at w.home.deferred.notes.wakes.items 0 n may.some c.take_first-number.ensures.value in
    let slot = c.index.result.now in
    let left = record w.home.deferred { notes = record w.home.deferred.notes { wakes = c.take_first-number.new.list } } in
    record {
      wakes = record {
        n = n;
        first = first;
        slot = slot;
        there = found_at s.tasks.items n.0 slot (may.there n first) c.index.ensures;
        paid = record s { requests = c.pay.new.requests; sleepers = c.pay.new.sleepers };
        requests = c.pay.ensures.requests ∙ ap (λ u. records_paid u s.requests.items) c.waiting-waited.ensures;
        sleepers = c.pay.ensures.sleepers ∙ ap (λ u. sleepers_paid u s.sleepers.items) c.waiting-waited.ensures;
        kept = refl;
        v = record w { home = record w.home { deferred = record w.home.deferred { notes = record w.home.deferred.notes { wakes = c.take_first-number.new.list } } } };
        wakes = c.take_first-number.ensures.rest;
        room = fewer_wakes w.home.deferred left refl c.take_first-number.ensures.len c.take_first-number.ensures.capacity;
        wide = c.take_first-number.ensures.capacity;
        worker = refl;
        wakes_it = c.wake_waiter.ensures.wakes;
      };
    }
