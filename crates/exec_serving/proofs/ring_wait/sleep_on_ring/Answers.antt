use Rattle.std.{proofs.{Common.{◌<◌, refl, sym, ap, subst, ◌∙◌}, lemmas.{Bool.{not-true, not-false}, Option.{get_or_from_slice_get, slice_get_within}}}, specs.Vec.with_item}
use Rattle.exec_lists.specs.Lists.{has_first}
use Rattle.exec_moves.specs.declared.{idling.InRingWait.InRingWait, place.Place.Place}
use Rattle.exec_parts.specs.declared.parts.worker.Worker.{Worker}
use Rattle.exec_invariants.proofs.{Leaves.takes_by, Raising.sound_taken}
use Rattle.exec_serving.proofs.Sleeping.{ring_slept, ring_unslept}
use Rattle.exec_serving.proofs.ring_wait.sleep_on_ring.Goals as goal

pub index_mut-requires : goal.index_mut-requires
index_mut-requires g c =
    let s = c.args.shared.now in
    let sound = c.requires.sound in
    subst (λ n. c.args.worker.now.index < n) (sym s.seats.ok.0) (slice_get_within s.seats.items c.args.worker.now.index sound.seated.seat sound.seated.there)

pub sleep-requires-clause-told : goal.sleep-requires-clause-told
sleep-requires-clause-told g c =
    let w : Worker = c.args.worker.now in
    let s = c.args.shared.now in
    let w1 : Worker = c.take_raises.new.self in
    let s1 = record s { seats = with_item s.seats w.index c.take_raises.new.seat } in
    let takes = takes_by w (record w1 { place = w.place }) s s1 c.index_mut.result.now c.take_raises.new.seat (λ chair there. c.index_mut.ensures.value ∙ get_or_from_slice_get s.seats.items w.index chair c.index_mut.result.now there) c.take_raises.ensures.driver c.take_raises.ensures.seat (ap (λ (v : Worker). record v { place = w.place }) c.take_raises.ensures.same) refl refl in
    let holds = sound_taken (Place.RingWait InRingWait.SleepOnRing c.args.stay) w (record w1 { place = w.place }) s s1 c.requires.sound takes in
    (holds.due.punctual, ap has_first (holds.due.told refl))

pub returns-then-has_completion : goal.returns-then-has_completion
returns-then-has_completion g c =
    let w : Worker = c.args.worker.now in
    let s = c.args.shared.now in
    let w1 : Worker = c.take_raises.new.self in
    let s1 = record s { seats = with_item s.seats w.index c.take_raises.new.seat } in
    let takes = takes_by w (record w1 { place = w.place }) s s1 c.index_mut.result.now c.take_raises.new.seat (λ chair there. c.index_mut.ensures.value ∙ get_or_from_slice_get s.seats.items w.index chair c.index_mut.result.now there) c.take_raises.ensures.driver c.take_raises.ensures.seat (ap (λ (v : Worker). record v { place = w.place }) c.take_raises.ensures.same) refl refl in
    record { steps = ring_unslept g.B.Body.left g.B.Scripted.spot c.args.stay w w1 s s1 c.requires.sound takes (ap (λ (v : Worker). v.place) c.take_raises.ensures.same) (not-true _ (sym c.has_completion.ensures ∙ c.if-has_completion.true)) }

pub returns : goal.returns
returns g c =
    let w : Worker = c.args.worker.now in
    let s = c.args.shared.now in
    let w1 : Worker = c.take_raises.new.self in
    let s1 = record s { seats = with_item s.seats w.index c.take_raises.new.seat } in
    let takes = takes_by w (record w1 { place = w.place }) s s1 c.index_mut.result.now c.take_raises.new.seat (λ chair there. c.index_mut.ensures.value ∙ get_or_from_slice_get s.seats.items w.index chair c.index_mut.result.now there) c.take_raises.ensures.driver c.take_raises.ensures.seat (ap (λ (v : Worker). record v { place = w.place }) c.take_raises.ensures.same) refl refl in
    record { steps = ring_slept g.B.Body.left g.B.Scripted.spot c.args.stay w w1 s s1 c.requires.sound takes (ap (λ (v : Worker). v.place) c.take_raises.ensures.same) c.sleep.new.worker c.sleep.new.shared c.sleep.result (not-false _ (sym c.has_completion.ensures ∙ c.if-has_completion.false)) c.sleep.ensures.sleeps c.sleep.ensures.same }
