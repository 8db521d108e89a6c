use Rattle.std.proofs.Common.{refl, ap, ◌∙◌}
use Rattle.exec_parts.specs.Calls.{records_paid, sleepers_paid}
use Rattle.exec_messages.proofs.callbacks.wake_hearer.Goals as goal

pub returns : goal.returns
returns g c =
    let s = c.args.shared.now in
    record {
      wakes = record {
        paid = record s { requests = c.pay.new.requests; sleepers = c.pay.new.sleepers };
        requests = c.pay.ensures.requests ∙ ap (λ u. records_paid u s.requests.items) c.waited_for.ensures;
        sleepers = c.pay.ensures.sleepers ∙ ap (λ u. sleepers_paid u s.sleepers.items) c.waited_for.ensures;
        kept = refl;
        wakes_it = c.wake_waiter.ensures.wakes;
      };
    }
