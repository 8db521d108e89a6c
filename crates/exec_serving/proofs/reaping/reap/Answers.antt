use Rattle.std.{proofs.{Common.{arith, ◌≡◌, ◌<◌, false, not, length, [], Some, refl, sym, ap, subst, ◌∙◌, is_some, slice_get}, lemmas.{Bool.false≢true, Option.get_or_from_slice_get}}, specs.Vec.with_item}
use Rattle.exec_request.specs.States.{as_answer}
use Rattle.exec_driver.specs.Steps.{ReapsNext}
use Rattle.exec_machine.specs.{Requests.{joined_if, reaped}, declared.event.Event.TheVariants.{Reap, Serve}}
use Rattle.exec_moves.specs.{Serve.after_permit, declared.place.{AfterPermit.AfterPermit, InService.InService, Place.Place}}
use Rattle.exec_parts.specs.{declared.parts.{names.Names.Names, record.Record.Record, worker.Worker.Worker}, Records.number_in, View.driver_of}
use Rattle.exec_invariants.{specs.{Submitting.after_giving_up, Flown.operations, Works.Steps}, proofs.{Leaves.takes_by, Dating.set_changes, Raising.{none_waits, raised_first, sound_taken}}}
use Rattle.exec_serving.proofs.{Settled.judged_steps, Reaped.{reaps_none, reaps_quiet, tells_none}, Reporting.{none_of, of_it, reaped_countable, reaped_lawful, reaped_room, reaped_within}, Sweeping.none_reaped, reaping.reap.Goals.{then-has_completion, else-has_completion}}
use Rattle.exec_serving.proofs.reaping.reap.Goals as goal

pub returns-in_default : goal.returns-in_default
returns-in_default g c =
    let w0 : Worker = c.args.worker.now in
    let s0 = c.args.shared.now in
    let w : Worker = c.take_raises.new.self in
    let s = record s0 { seats = with_item s0.seats w0.index c.take_raises.new.seat } in
    let q : Place = Place.Service (InService.Reap c.args.reaping) c.args.service in
    let takes = takes_by w0 w s0 s c.index_mut.result.now c.take_raises.new.seat (λ chair there. c.index_mut.ensures.value ∙ get_or_from_slice_get s0.seats.items w0.index chair c.index_mut.result.now there) c.take_raises.ensures.driver c.take_raises.ensures.seat c.take_raises.ensures.same refl refl in
    let sound = sound_taken q w0 w s0 s c.requires.sound takes in
    let waits = none_waits q w0 w s0 s c.requires.sound takes sound in
    let d = driver_of w in
    let told = c.reap-reaped.result in
    let w1 : Worker = record w { place = Place.Service (after_permit (AfterPermit.Reaped c.args.reaping)) c.args.service; home = record w.home { driver = c.reap-reaped.new.self } } in
    let d' = driver_of w1 in
    let reaps = c.reap-reaped.ensures.reaps in
    let none : operations d.ring ≡ [] =
    tells_none w.names d d' s.requests.items s.opens c.reap-reaped.new.opens w.home.deferred c.reap-reaped.new.deferred sound.flown.landed
    (subst (λ o. ReapsNext d d' s.opens c.reap-reaped.new.opens w.home.deferred c.reap-reaped.new.deferred o) (none_of told c.in_default.not-Some) reaps) in
    let facts = reaps_none w.names d d' s.requests.items s.opens c.reap-reaped.new.opens w.home.deferred c.reap-reaped.new.deferred told reaps none in
    let quiet = reaps_quiet w.names d d' s.requests.items s.opens c.reap-reaped.new.opens w.home.deferred c.reap-reaped.new.deferred told reaps none in
    let no : c.has_completion.result ≡ false = c.has_completion.ensures ∙ ap not quiet in
    let back : c.if-has_completion.back ≡ AfterPermit.Reaped c.args.reaping =
    elim c.if-has_completion.branch [ then-has_completion x ↦ absurd (false≢true (sym no ∙ x.if-has_completion.true)) | else-has_completion x ↦ x.back-is ] in
    let same : c.after_permit.new.worker ≡ w1 = grind (arith, c.after_permit.ensures, back, facts.3) in
    let steps : Steps g.B.Body.left g.B.Scripted.spot w s Serve w1 s = none_reaped g.B.Body.left g.B.Scripted.spot c.args.reaping c.args.service w w1 s Serve sound waits none refl facts.0 refl in
    record {
      steps = raised_first q w0 w s0 s c.requires.sound takes g.B.Body.left g.B.Scripted.spot c.after_permit.new.worker (record s { opens = c.reap-reaped.new.opens }) Serve
          (subst (λ x. Steps g.B.Body.left g.B.Scripted.spot w s Serve x (record s { opens = c.reap-reaped.new.opens })) (sym same)
          (subst (λ o. Steps g.B.Body.left g.B.Scripted.spot w s Serve w1 (record s { opens = o })) (sym facts.2) steps));
    }

pub index_mut-requires-2 : goal.index_mut-requires-2
index_mut-requires-2 g c =
    let w0 : Worker = c.args.worker.now in
    let s0 = c.args.shared.now in
    let w : Worker = c.take_raises.new.self in
    let s = record s0 { seats = with_item s0.seats w0.index c.take_raises.new.seat } in
    let q : Place = Place.Service (InService.Reap c.args.reaping) c.args.service in
    let takes = takes_by w0 w s0 s c.index_mut.result.now c.take_raises.new.seat (λ chair there. c.index_mut.ensures.value ∙ get_or_from_slice_get s0.seats.items w0.index chair c.index_mut.result.now there) c.take_raises.ensures.driver c.take_raises.ensures.seat c.take_raises.ensures.same refl refl in
    let sound = sound_taken q w0 w s0 s c.requires.sound takes in
    subst (λ n. c.request-request.result < n) (sym s.requests.ok.0)
    (subst (λ n. n < length s.requests.items) (sym c.request-request.ensures) (reaped_within q w s sound (driver_of (record w { home = record w.home { driver = c.reap-reaped.new.self } })) s.opens c.reap-reaped.new.opens w.home.deferred c.reap-reaped.new.deferred c.in-Some.reaped c.in-Some.ensures.reaps))

pub tell_reaped-requires-clause-room : goal.tell_reaped-requires-clause-room
tell_reaped-requires-clause-room g c =
    let w0 : Worker = c.args.worker.now in
    let s0 = c.args.shared.now in
    let w : Worker = c.take_raises.new.self in
    let s = record s0 { seats = with_item s0.seats w0.index c.take_raises.new.seat } in
    let q : Place = Place.Service (InService.Reap c.args.reaping) c.args.service in
    let takes = takes_by w0 w s0 s c.index_mut.result.now c.take_raises.new.seat (λ chair there. c.index_mut.ensures.value ∙ get_or_from_slice_get s0.seats.items w0.index chair c.index_mut.result.now there) c.take_raises.ensures.driver c.take_raises.ensures.seat c.take_raises.ensures.same refl refl in
    let sound = sound_taken q w0 w s0 s c.requires.sound takes in
    reaped_room q w s sound (driver_of (record w { home = record w.home { driver = c.reap-reaped.new.self } })) s.opens c.reap-reaped.new.opens w.home.deferred c.reap-reaped.new.deferred c.in-Some.reaped c.in-Some.ensures.reaps

pub tell_reaped-requires-clause-lawful : goal.tell_reaped-requires-clause-lawful
tell_reaped-requires-clause-lawful g c =
    let w0 : Worker = c.args.worker.now in
    let s0 = c.args.shared.now in
    let w : Worker = c.take_raises.new.self in
    let s = record s0 { seats = with_item s0.seats w0.index c.take_raises.new.seat } in
    let q : Place = Place.Service (InService.Reap c.args.reaping) c.args.service in
    let takes = takes_by w0 w s0 s c.index_mut.result.now c.take_raises.new.seat (λ chair there. c.index_mut.ensures.value ∙ get_or_from_slice_get s0.seats.items w0.index chair c.index_mut.result.now there) c.take_raises.ensures.driver c.take_raises.ensures.seat c.take_raises.ensures.same refl refl in
    let sound = sound_taken q w0 w s0 s c.requires.sound takes in
    reaped_lawful q w s sound (driver_of (record w { home = record w.home { driver = c.reap-reaped.new.self } })) s.opens c.reap-reaped.new.opens w.home.deferred c.reap-reaped.new.deferred c.in-Some.reaped c.in-Some.ensures.reaps c.request-request.result c.index_mut-2.result.now c.request-request.ensures c.index_mut-2.ensures.value

pub tell_reaped-requires-clause-bytes : goal.tell_reaped-requires-clause-bytes
tell_reaped-requires-clause-bytes g c =
    let w0 : Worker = c.args.worker.now in
    let s0 = c.args.shared.now in
    let w : Worker = c.take_raises.new.self in
    let s = record s0 { seats = with_item s0.seats w0.index c.take_raises.new.seat } in
    let q : Place = Place.Service (InService.Reap c.args.reaping) c.args.service in
    let takes = takes_by w0 w s0 s c.index_mut.result.now c.take_raises.new.seat (λ chair there. c.index_mut.ensures.value ∙ get_or_from_slice_get s0.seats.items w0.index chair c.index_mut.result.now there) c.take_raises.ensures.driver c.take_raises.ensures.seat c.take_raises.ensures.same refl refl in
    let sound = sound_taken q w0 w s0 s c.requires.sound takes in
    reaped_countable q w s sound (driver_of (record w { home = record w.home { driver = c.reap-reaped.new.self } })) s.opens c.reap-reaped.new.opens w.home.deferred c.reap-reaped.new.deferred c.in-Some.reaped c.in-Some.ensures.reaps c.request-request.result c.index_mut-2.result.now c.request-request.ensures c.index_mut-2.ensures.value

pub returns : goal.returns
returns g c =
    let w0 : Worker = c.args.worker.now in
    let s0 = c.args.shared.now in
    let w : Worker = c.take_raises.new.self in
    let s = record s0 { seats = with_item s0.seats w0.index c.take_raises.new.seat } in
    let q : Place = Place.Service (InService.Reap c.args.reaping) c.args.service in
    let takes = takes_by w0 w s0 s c.index_mut.result.now c.take_raises.new.seat (λ chair there. c.index_mut.ensures.value ∙ get_or_from_slice_get s0.seats.items w0.index chair c.index_mut.result.now there) c.take_raises.ensures.driver c.take_raises.ensures.seat c.take_raises.ensures.same refl refl in
    let sound = sound_taken q w0 w s0 s c.requires.sound takes in
    let waits = none_waits q w0 w s0 s c.requires.sound takes sound in
    let done = c.in-Some.reaped in
    let n = w.names.requests.items in
    let j = c.request-request.result in
    let number : j ≡ number_in n done.id.0 = c.request-request.ensures in
    let back = c.if-has_completion.back in
    let w1 : Worker = record w { place = Place.Service (after_giving_up done.permit back) c.args.service; home = record w.home { driver = c.reap-reaped.new.self; deferred = c.reap-reaped.new.deferred }; names = record w.names { ended = c.tell_reaped.new.worker.names.ended } } in
    let s1 = record s { requests = with_item s.requests j c.tell_reaped.new.it; opens = c.reap-reaped.new.opens } in
    let f : Record → Record = λ r. record r { shown = reaped done.given (as_answer done.ended) r.shown } in
    let r = of_it q w s sound (driver_of w1) s.opens c.reap-reaped.new.opens w.home.deferred c.reap-reaped.new.deferred done c.in-Some.ensures.reaps in
    let there : slice_get s.requests.items (number_in n done.id.0) ≡ Some r.reaped.has.r = ap (λ x. slice_get s.requests.items (number_in n x.0)) r.id ∙ r.reaped.has.there in
    let same : c.tell_reaped.new.worker ≡ w1 = c.tell_reaped.ensures.same in
    record {
      steps = raised_first q w0 w s0 s c.requires.sound takes g.B.Body.left g.B.Scripted.spot c.tell_reaped.new.worker s1 c.tell_reaped.result (subst (λ x. Steps g.B.Body.left g.B.Scripted.spot w s c.tell_reaped.result x s1) (sym same)
          (judged_steps g.B.Body.left g.B.Scripted.spot c.args.reaping c.args.service w w1 s s1 c.tell_reaped.result sound waits c.lists_requests.ensures done c.reap-reaped.new.opens back c.has_completion.result
          (record {
            reaps = c.in-Some.ensures.reaps;
            punctual = c.reap-reaped.ensures.punctual sound.due.punctual;
            has_more = c.has_completion.ensures;
            more = λ yes. elim c.if-has_completion.branch [ then-has_completion x ↦ x.back-is | else-has_completion x ↦ absurd (false≢true (sym x.if-has_completion.false ∙ yes)) ];
            none = λ no. elim c.if-has_completion.branch [ then-has_completion x ↦ absurd (false≢true (sym no ∙ x.if-has_completion.true)) | else-has_completion x ↦ x.back-is ];
            event = c.tell_reaped.ensures.event ∙ ap (λ k. Reap k done.given (as_answer done.ended)) number;
            records = set_changes s.requests.items (number_in n done.id.0) j r.reaped.has.r c.index_mut-2.result.now c.tell_reaped.new.it f number there c.index_mut-2.ensures.value c.tell_reaped.ensures.id c.tell_reaped.ensures.shown c.tell_reaped.ensures.sent refl refl;
            shared = refl;
            ended = c.tell_reaped.ensures.ended ∙ ap (joined_if (is_some (as_answer done.ended)) w.names.ended.items) number;
            capacity = c.tell_reaped.ensures.capacity;
            still = λ none. ap (λ (x : Names). record w.names { ended = x.ended }) (c.tell_reaped.ensures.still none);
            worker = refl;
          })));
    }
