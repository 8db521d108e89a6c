use Rattle.std.{proofs.Common.{◌≡◌, refl, sym, ap, subst, ◌∙◌, is_some, arith}, specs.{Prelude.unwrap_or, Vec.with_item}}
use Rattle.exec_driver.specs.Steps.{ended_by, tick_for}
use Rattle.exec_machine.specs.{declared.event.Event.TheVariants.Enrol, Deadlines.enrolled, Requests.joined_if}
use Rattle.exec_parts.specs.{declared.parts.{names.Names.Names, worker.Worker.Worker}, Records.number_in, Serving.{first_tick, outcome_of_error}, View.driver_of}
use Rattle.exec_invariants.{specs.Works.Steps, proofs.{Dating.{enrol_steps, new_room, new_timed, new_within, set_changes}, Enrolled.new_first}}
use Rattle.exec_serving.proofs.submitting.enrol.Goals as goal

pub index_mut-requires : goal.index_mut-requires
index_mut-requires g c = grind (arith, new_within)

pub tell_enrolled-requires-clause-room : goal.tell_enrolled-requires-clause-room
tell_enrolled-requires-clause-room g c = new_room c.args.worker.now c.args.shared.now c.requires.new c.in-Some.enrolled.id c.in-Some.ensures.first

pub tell_enrolled-requires-clause-timed : goal.tell_enrolled-requires-clause-timed
tell_enrolled-requires-clause-timed g c =
    let w : Worker = c.args.worker.now in
    let s = c.args.shared.now in
    let id = c.in-Some.enrolled.id in
    let who = new_first w s c.requires.new id c.in-Some.ensures.first in
    new_timed w s c.requires.new id c.in-Some.ensures.first c.request-request.result c.index_mut.result.now c.in-Some.enrolled.ended c.request-request.ensures c.index_mut.ensures.value
    (λ d is. (c.in-Some.ensures.enrolled who.it who.deadline who.live who.asked).told_is ∙ ap (λ m. ended_by (tick_for (driver_of w).wheel who.deadline m)) (sym is))

pub returns : goal.returns
returns g c =
    let w : Worker = c.args.worker.now in
    let s = c.args.shared.now in
    let id = c.in-Some.enrolled.id in
    let ended = c.in-Some.enrolled.ended in
    let k = number_in w.names.requests.items id.0 in
    let number : c.request-request.result ≡ k = c.request-request.ensures in
    let who = new_first w s c.requires.new id c.in-Some.ensures.first in
    let w1 : Worker = record w { home = record w.home { driver = c.enrol.new.self; deferred = c.enrol.new.deferred }; names = record w.names { ended = c.tell_enrolled.new.worker.names.ended } } in
    let s1 = record s { requests = with_item s.requests c.request-request.result c.tell_enrolled.new.it } in
    record {
      steps = subst (λ x. Steps g.B.Body.left g.B.Scripted.spot w s c.tell_enrolled.result x s1) (sym c.tell_enrolled.ensures.same)
          (enrol_steps g.B.Body.left g.B.Scripted.spot ended w w1 s s1 c.tell_enrolled.result id c.requires.new c.in-Some.ensures.first
          (record {
            event = c.tell_enrolled.ensures.event ∙ ap (λ n. Enrol n (outcome_of_error ended)) number;
            enrols = c.in-Some.ensures.enrolled;
            punctual = c.enrol.ensures.punctual c.requires.new.submits.sound.due.punctual;
            bounded = c.bounds_name.ensures;
            records = set_changes s.requests.items k c.request-request.result who.r c.index_mut.result.now c.tell_enrolled.new.it
                (λ r. record r { shown = enrolled (first_tick w.moments.start s.config.tick (unwrap_or r.shown.operation.deadline 0)) (outcome_of_error ended) r.shown })
                number who.there c.index_mut.ensures.value c.tell_enrolled.ensures.id c.tell_enrolled.ensures.shown c.tell_enrolled.ensures.sent refl refl;
            ended = c.tell_enrolled.ensures.ended ∙ ap (joined_if (is_some ended) w.names.ended.items) number;
            capacity = c.tell_enrolled.ensures.capacity;
            worker = refl;
            shared = refl;
          })
          (λ none. ap (λ (x : Names). record w.names { ended = x.ended }) (c.tell_enrolled.ensures.still none)));
    }

pub unreachable-requires : goal.unreachable-requires
unreachable-requires g c = grind arith
