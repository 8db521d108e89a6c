use Rattle.std.{proofs.{Common.{◌≡◌, ◌<◌, length, refl, sym, ap, subst, ◌∙◌, is_some, arith}, lemmas.Option.slice_get_within}, specs.Vec.with_item}
use Rattle.exec_machine.specs.{declared.event.Event.TheVariants.Expire, Deadlines.outcome_at_expiry, Requests.joined_if}
use Rattle.exec_parts.specs.{declared.parts.{names.Names.Names, worker.Worker.Worker}, Records.number_in}
use Rattle.exec_invariants.{specs.Works.Steps, proofs.{Dating.{found_is, set_changes}, Expiring.{due_first, due_room, expires}, Cancelling.expiry_steps}}
use Rattle.exec_serving.proofs.Ordering.{in_order}
use Rattle.exec_serving.proofs.submitting.expire.Goals as goal

pub index_mut-requires : goal.index_mut-requires
index_mut-requires g c =
    let s = c.args.shared.now in
    let id = c.in-Some.id in
    let who = due_first c.args.worker.now s c.requires.due id (sym c.in-Some.ensures.first) in
    subst (λ n. c.request-request.result < n) (sym s.requests.ok.0)
    (subst (λ n. n < length s.requests.items) (sym c.request-request.ensures) (slice_get_within s.requests.items (number_in c.args.worker.now.names.requests.items id.0) who.r who.there))

pub tell_expired-requires : goal.tell_expired-requires
tell_expired-requires g c = record { room = due_room c.args.worker.now c.args.shared.now c.requires.due c.in-Some.id (sym c.in-Some.ensures.first) }

pub returns : goal.returns
returns g c =
    let w : Worker = c.args.worker.now in
    let s = c.args.shared.now in
    let id = c.in-Some.id in
    let first = sym c.in-Some.ensures.first in
    let k = number_in w.names.requests.items id.0 in
    let number : c.request-request.result ≡ k = c.request-request.ensures in
    let who = due_first w s c.requires.due id first in
    let was = found_is s.requests.items k c.request-request.result who.r c.index_mut.result.now number who.there c.index_mut.ensures.value in
    let outcome = ap (λ r. outcome_at_expiry r.shown) was in
    let w1 : Worker = record w { home = record w.home { driver = c.expire.new.self; deferred = c.expire.new.deferred }; names = record w.names { ended = c.tell_expired.new.worker.names.ended } } in
    let s1 = record s { requests = with_item s.requests c.request-request.result c.tell_expired.new.it } in
    record {
      steps = subst (λ x. Steps g.B.Body.left g.B.Scripted.spot w s c.tell_expired.result x s1) (sym c.tell_expired.ensures.same)
          (expiry_steps g.B.Body.left g.B.Scripted.spot w w1 s s1 c.tell_expired.result id c.requires.due (in_order w s c.requires.due) first
          (record {
            event = c.tell_expired.ensures.event ∙ ap (λ n. Expire n (outcome_at_expiry c.index_mut.result.now.shown)) number ∙ ap (Expire k) outcome;
            driver = c.in-Some.ensures.expired;
            tells = c.in-Some.ensures.told;
            punctual = c.expire.ensures.punctual c.requires.due.submits.sound.due.punctual;
            records = set_changes s.requests.items k c.request-request.result who.r c.index_mut.result.now c.tell_expired.new.it expires
                number who.there c.index_mut.ensures.value c.tell_expired.ensures.id c.tell_expired.ensures.shown c.tell_expired.ensures.sent refl refl;
            ended = c.tell_expired.ensures.ended ∙ ap (joined_if (is_some (outcome_at_expiry c.index_mut.result.now.shown)) w.names.ended.items) number
                ∙ ap (λ o. joined_if (is_some o) w.names.ended.items k) outcome;
            capacity = c.tell_expired.ensures.capacity;
            worker = refl;
            still = λ none. ap (λ (x : Names). record w.names { ended = x.ended }) (c.tell_expired.ensures.still (outcome ∙ none));
            shared = refl;
          }));
    }

pub unreachable-requires : goal.unreachable-requires
unreachable-requires g c = grind arith
