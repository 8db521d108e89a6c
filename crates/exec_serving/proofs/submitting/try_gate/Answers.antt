use Rattle.std.{proofs.{Common.{◌≡◌, ◌+◌, ◌<◌, false, suc, length, refl, sym, ap, subst, ◌∙◌, arith, is_some}, lemmas.Option.slice_get_within}, specs.{Vec.with_item, VecDeque.deque_capacity}}
use Rattle.exec_request.specs.States.{as_answer}
use Rattle.exec_driver.specs.{Driving.seen, Punctual.IsPunctual, Steps.{Grants, is_turn_of}}
use Rattle.exec_opens.specs.Opens.{holder_at}
use Rattle.exec_machine.specs.{declared.event.Event.TheVariants.{Grant, Serve}, Requests.{granted, joined_if}}
use Rattle.exec_moves.specs.{Submit.after_grant, declared.place.{InService.InService, Place.Place}}
use Rattle.exec_parts.specs.{declared.parts.{names.Names.Names, worker.Worker.Worker}, Records.number_in, View.{desk_of, driver_of}}
use Rattle.exec_invariants.{specs.Works.Steps, proofs.Dating.set_changes}
use Rattle.exec_serving.proofs.{PermitAsked.{file_small, grant_room, grant_steps, place_given}, PermitQueued.granted_at, PermitTries.gate_passed_by}
use Rattle.exec_serving.proofs.submitting.try_gate.Goals as goal

pub overflow_add-file : goal.overflow_add-file
overflow_add-file g c = let small = file_small g.B.Body.left g.B.Scripted.spot c.args.service c.args.file c.args.worker.now c.args.shared.now c.requires.gated in omega (arith, small)

pub tell_granted-requires-clause-file : goal.tell_granted-requires-clause-file
tell_granted-requires-clause-file g c = file_small g.B.Body.left g.B.Scripted.spot c.args.service c.args.file c.args.worker.now c.args.shared.now c.requires.gated

pub returns-in_default : goal.returns-in_default
returns-in_default g c =
    let w : Worker = c.args.worker.now in
    let s = c.args.shared.now in
    let v = c.args.service in
    let file = c.args.file in
    let go : c.go.new.worker ≡ record w { place = Place.Service (InService.Submit (file + 1)) v } = c.go.ensures in
    let next : file + 1 ≡ suc file = omega arith in
    let w1 : Worker = record w { place = Place.Service (InService.Submit (suc file)) v; home = record w.home { driver = c.grant-granted.new.self } } in
    let to : c.go.new.worker ≡ record w { place = Place.Service (InService.Submit (suc file)) v } = go ∙ ap (λ n. record w { place = Place.Service (InService.Submit n) v }) next in
    let left = c.in_default.ensures.same in
    let deferred : c.grant-granted.new.deferred ≡ w.home.deferred = left.2 ∙ ap (λ (x : Worker). x.home.deferred) go in
    let driver : seen c.grant-granted.new.self ≡ driver_of w = left.0 ∙ ap (λ (x : Worker). driver_of x) go in
    let same : record c.go.new.worker { home = record c.go.new.worker.home { driver = c.grant-granted.new.self; deferred = c.grant-granted.new.deferred } } ≡ w1 = grind (arith, to, deferred) in
    let shared : record s { opens = c.grant-granted.new.opens } ≡ s = ap (λ o. record s { opens = o }) left.1 in
    let turn = subst (λ (x : Worker). is_turn_of x.index (driver_of x).lists (holder_at s.opens file) ≡ false) go c.in_default.ensures.none in
    record {
      steps = subst (λ x. Steps g.B.Body.left g.B.Scripted.spot w s Serve x (record s { opens = c.grant-granted.new.opens })) (sym same)
          (gate_passed_by g.B.Body.left g.B.Scripted.spot v file w s c.requires.gated w1 (record s { opens = c.grant-granted.new.opens }) Serve turn driver shared refl refl);
    }

pub index_mut-requires : goal.index_mut-requires
index_mut-requires g c =
    let w : Worker = c.args.worker.now in
    let s = c.args.shared.now in
    let grants = subst (λ (x : Worker). Grants (driver_of x) (seen c.grant-granted.new.self) s.opens c.grant-granted.new.opens x.home.deferred c.grant-granted.new.deferred x.index c.args.file c.in-Some.granted) c.go.ensures c.in-Some.ensures.granted in
    let who = granted_at w s c.args.service c.args.file c.requires.gated c.in-Some.granted.id grants.holder grants.waits in
    let number : c.request-request.result ≡ number_in w.names.requests.items c.in-Some.granted.id.0 = c.request-request.ensures ∙ ap (λ (x : Worker). number_in x.names.requests.items c.in-Some.granted.id.0) c.go.ensures in
    subst (λ n. c.request-request.result < n) (sym s.requests.ok.0)
    (subst (λ n. n < length s.requests.items) (sym number) (slice_get_within s.requests.items (number_in w.names.requests.items c.in-Some.granted.id.0) who.r who.there))

pub tell_granted-requires-clause-room : goal.tell_granted-requires-clause-room
tell_granted-requires-clause-room g c =
    let w : Worker = c.args.worker.now in
    let s = c.args.shared.now in
    let grants = subst (λ (x : Worker). Grants (driver_of x) (seen c.grant-granted.new.self) s.opens c.grant-granted.new.opens x.home.deferred c.grant-granted.new.deferred x.index c.args.file c.in-Some.granted) c.go.ensures c.in-Some.ensures.granted in
    let who = granted_at w s c.args.service c.args.file c.requires.gated c.in-Some.granted.id grants.holder grants.waits in
    subst (λ (x : Worker). length x.names.ended.items < deque_capacity x.names.ended) (sym c.go.ensures)
    (grant_room g.B.Body.left g.B.Scripted.spot c.args.service c.args.file w s c.requires.gated c.in-Some.granted.id who)

pub returns : goal.returns
returns g c =
    let w : Worker = c.args.worker.now in
    let s = c.args.shared.now in
    let v = c.args.service in
    let file = c.args.file in
    let told = c.in-Some.granted in
    let go = c.go.ensures in
    let grants = subst (λ (x : Worker). Grants (driver_of x) (seen c.grant-granted.new.self) s.opens c.grant-granted.new.opens x.home.deferred c.grant-granted.new.deferred x.index file told) go c.in-Some.ensures.granted in
    let who = granted_at w s v file c.requires.gated told.id grants.holder grants.waits in
    let k = number_in w.names.requests.items told.id.0 in
    let number : c.request-request.result ≡ k = c.request-request.ensures ∙ ap (λ (x : Worker). number_in x.names.requests.items told.id.0) go in
    let outcome : c.outcome_of-outcome.result ≡ as_answer told.ended = c.outcome_of-outcome.ensures in
    let driver = c.grant-granted.new.self in
    let deferred = c.grant-granted.new.deferred in
    let ended = c.tell_granted.new.worker.names.ended in
    let mid : Worker = record c.go.new.worker { home = record c.go.new.worker.home { driver = driver; deferred = deferred } } in
    let w1 : Worker = record w { place = (after_grant v file (as_answer told.ended) (desk_of w)).place; home = record w.home { driver = driver; deferred = deferred }; names = record w.names { ended = ended } } in
    let s1 = record s { requests = with_item s.requests c.request-request.result c.tell_granted.new.it; opens = c.grant-granted.new.opens } in
    let same : c.tell_granted.new.worker ≡ w1 = grind (arith, c.tell_granted.ensures.same, go, place_given v file c.outcome_of-outcome.result (desk_of mid) (desk_of w), outcome) in
    record {
      steps = subst (λ x. Steps g.B.Body.left g.B.Scripted.spot w s c.tell_granted.result x s1) (sym same)
          (grant_steps g.B.Body.left g.B.Scripted.spot v file w s c.requires.gated w1 s1 c.tell_granted.result told
          (record {
            grants = grants;
            punctual = c.grant-granted.ensures.punctual (subst (λ (x : Worker). IsPunctual (driver_of x)) (sym go) c.requires.gated.sound.due.punctual);
            event = c.tell_granted.ensures.event ∙ ap (λ n. Grant n c.outcome_of-outcome.result) number ∙ ap (Grant k) outcome;
            records = set_changes s.requests.items k c.request-request.result who.r c.index_mut.result.now c.tell_granted.new.it (λ r. record r { shown = granted (as_answer told.ended) r.shown })
                number who.there c.index_mut.ensures.value c.tell_granted.ensures.id (c.tell_granted.ensures.shown ∙ ap (λ o. granted o c.index_mut.result.now.shown) outcome) c.tell_granted.ensures.sent refl refl;
            shared = refl;
            ended = c.tell_granted.ensures.ended ∙ ap (λ (x : Worker). joined_if (is_some c.outcome_of-outcome.result) x.names.ended.items c.request-request.result) go
                ∙ ap (joined_if (is_some c.outcome_of-outcome.result) w.names.ended.items) number ∙ ap (λ o. joined_if (is_some o) w.names.ended.items k) outcome;
            capacity = c.tell_granted.ensures.capacity ∙ ap (λ (x : Worker). deque_capacity x.names.ended) go;
            still = λ none. ap (λ (x : Names). record w.names { ended = x.ended }) (c.tell_granted.ensures.still (outcome ∙ none) ∙ ap (λ (x : Worker). x.names) go);
            worker = refl;
          }));
    }
