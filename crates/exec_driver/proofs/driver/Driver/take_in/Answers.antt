use Rattle.std.{proofs.Common.{◌≡◌, ℕ, ◌+◌, ◌*◌, ◌^◌, ◌<◌, true, Option, Some, None, refl, sym, ap, ◌∙◌, inr, arith}, specs.Prelude.is_some}
use Rattle.exec_base.specs.Slab.{live_count}
use Rattle.exec_request.specs.Requests.{deadline_of, gate_of}
use Rattle.exec_time.specs.WheelView.{wheel_of, room_of}
use Rattle.exec_waiters.specs.{States.{deadline_in, gate_in}, Told.nothing_told}
use Rattle.exec_driver.{specs.{Driving.{Driving, seen, request_at, is_queued, is_gated, is_unenrolled}, Steps.{newcomer, is_late, timed_out}}, proofs.{Admitting.{on_ok, refused_over, turned_down}, Arriving.{Arrives, ready_of, one_arrived, live_arrived, live_finished, takes_over, takes_finished, joins_none, joins_put, durable_gated, put_few, put_room, is_refused, placed_over, room_to_join, held_arrived}, Telling.{tells_both, room_left, room_within, few_finished}, Endings.one_finished, Keeping.{rooms_punctual, punctual_one, ended_punctual}}}
use Rattle.exec_driver.proofs.driver.Driver.take_in.Goals as goal

pub invariant_of-self-then-is_late : goal.invariant_of-self-then-is_late
invariant_of-self-then-is_late g c =
    let same = rw (← c.self.view_is) at c.make_places.ensures.same in
    let ring = rw (← c.self.view_is) at c.make_places.ensures.ring in
    let lists = rw (← c.self.view_is) at c.in-Ok.ensures.lists in
    let wheel = on_ok c.reserve.result (sym c.is_err.ensures.value ∙ c.if-is_err.false) c.reserve.ensures.ok in
    let ready = ready_of (seen c.args.self.now) _ c.in-Ok.count (room_of c.reserve.new.self) same ring c.requires.places c.in-Ok.ensures.count lists wheel in
    let arrives : Arrives c.self.inside.waiters c.insert.new.self c.in_ok-id.id.0 (newcomer c.args.request c.args.observer) = record { slab = c.in_ok-id.ensures.inserted; next = c.in_ok-id.ensures.id; unnamed = c.in_ok-id.ensures.never_before; map = c.in_ok-id.ensures.map } in
    held_arrived _ _ c.insert.new.self (wheel_of c.reserve.new.self) _ c.in_ok-id.id c.args.request c.args.observer c.in-Ok.count _ _ _ _ ready arrives c.reserve.ensures.same (joins_none _ _ _) refl (omega arith) c.self.invariant

pub place-requires : goal.place-requires
place-requires g c =
    let same = rw (← c.self.view_is) at c.make_places.ensures.same in
    let ring = rw (← c.self.view_is) at c.make_places.ensures.ring in
    let lists = rw (← c.self.view_is) at c.in-Ok.ensures.lists in
    let wheel = on_ok c.reserve.result (sym c.is_err.ensures.value ∙ c.if-is_err.false) c.reserve.ensures.ok in
    let ready = ready_of (seen c.args.self.now) _ c.in-Ok.count (room_of c.reserve.new.self) same ring c.requires.places c.in-Ok.ensures.count lists wheel in
    assumption (room_to_join _ _ _ _ is_unenrolled _ refl c.self.invariant.sound.enrolments ready, room_to_join _ _ _ _ is_gated _ refl c.self.invariant.sound.gated ready, room_to_join _ _ _ _ is_queued _ refl c.self.invariant.sound.queued ready)

pub invariant_of-self-2 : goal.invariant_of-self-2
invariant_of-self-2 g c =
    let same = rw (← c.self.view_is) at c.make_places.ensures.same in
    let ring = rw (← c.self.view_is) at c.make_places.ensures.ring in
    let lists = rw (← c.self.view_is) at c.in-Ok.ensures.lists in
    let wheel = on_ok c.reserve.result (sym c.is_err.ensures.value ∙ c.if-is_err.false) c.reserve.ensures.ok in
    let ready = ready_of (seen c.args.self.now) _ c.in-Ok.count (room_of c.reserve.new.self) same ring c.requires.places c.in-Ok.ensures.count lists wheel in
    let arrives : Arrives c.self.inside.waiters c.insert.new.self c.in_ok-id.id.0 (newcomer c.args.request c.args.observer) = record { slab = c.in_ok-id.ensures.inserted; next = c.in_ok-id.ensures.id; unnamed = c.in_ok-id.ensures.never_before; map = c.in_ok-id.ensures.map } in
    let one = one_arrived _ _ _ _ arrives in
    let has : is_some (deadline_of c.args.request) ≡ c.is_some.result = ap is_some (sym (c.deadline-deadline.ensures ∙ ap deadline_in one.is_at)) ∙ sym c.is_some.ensures in
    let gate : is_some (gate_of c.args.request) ≡ c.is_some-is_gated.result = ap is_some (sym (c.durability.ensures ∙ ap gate_in one.is_at)) ∙ sym c.is_some-is_gated.ensures in
    let joins = joins_put c.in_ok-id.id c.args.request c.args.observer c.self.inside.lists c.is_some.result c.is_some-is_gated.result has (durable_gated c.args.request ∙ gate) in
    let few = put_few c.in_ok-id.id c.is_some.result c.is_some-is_gated.result c.self.inside.lists in
    let kept = put_room c.in_ok-id.id c.is_some.result c.is_some-is_gated.result c.self.inside.lists in
    rw c.place.ensures (held_arrived _ _ c.insert.new.self (wheel_of c.reserve.new.self) _ c.in_ok-id.id c.args.request c.args.observer c.in-Ok.count _ _ _ _ ready arrives c.reserve.ensures.same joins kept few c.self.invariant)

pub returns-then-is_late-clause-taken : goal.returns-then-is_late-clause-taken
returns-then-is_late-clause-taken g c =
    let same = rw (← c.self.view_is) at c.make_places.ensures.same in
    let arrives : Arrives c.self.inside.waiters c.insert.new.self c.in_ok-id.id.0 (newcomer c.args.request c.args.observer) = record { slab = c.in_ok-id.ensures.inserted; next = c.in_ok-id.ensures.id; unnamed = c.in_ok-id.ensures.never_before; map = c.in_ok-id.ensures.map } in
    let one = one_arrived _ _ _ _ arrives in
    let late : is_late (deadline_of c.args.request) c.args.now ≡ true = ap (λ (o : Option ℕ). is_late o c.args.now) (sym (c.deadline-deadline.ensures ∙ ap deadline_in one.is_at)) ∙ sym c.is_late.ensures ∙ c.if-is_late.true in
    let is = c.refuse.ensures.ended (newcomer c.args.request c.args.observer) one.is_at in
    placed_over (seen c.args.self.now) _ (seen c.refuse.new.self) c.in_ok-id.id c.args.request c.args.observer c.args.now same (is_refused _ (seen c.refuse.new.self) c.insert.new.self (wheel_of c.reserve.new.self) c.in_ok-id.id c.args.request c.args.observer c.args.now arrives.slab c.reserve.ensures.same late is)

pub returns-then-is_late-clause-told : goal.returns-then-is_late-clause-told
returns-then-is_late-clause-told g c =
    let arrives : Arrives c.self.inside.waiters c.insert.new.self c.in_ok-id.id.0 (newcomer c.args.request c.args.observer) = record { slab = c.in_ok-id.ensures.inserted; next = c.in_ok-id.ensures.id; unnamed = c.in_ok-id.ensures.never_before; map = c.in_ok-id.ensures.map } in
    let one = one_arrived _ _ _ _ arrives in
    let late : is_late (deadline_of c.args.request) c.args.now ≡ true = ap (λ (o : Option ℕ). is_late o c.args.now) (sym (c.deadline-deadline.ensures ∙ ap deadline_in one.is_at)) ∙ sym c.is_late.ensures ∙ c.if-is_late.true in
    rw late (tells_both c.args.deferred.now c.make_places.new.deferred c.refuse.new.deferred nothing_told _ c.in-Ok.ensures.told (c.refuse.ensures.told (newcomer c.args.request c.args.observer) one.is_at))

pub returns-then-is_late-clause-places : goal.returns-then-is_late-clause-places
returns-then-is_late-clause-places g c =
    let same = rw (← c.self.view_is) at c.make_places.ensures.same in
    let arrives : Arrives c.self.inside.waiters c.insert.new.self c.in_ok-id.id.0 (newcomer c.args.request c.args.observer) = record { slab = c.in_ok-id.ensures.inserted; next = c.in_ok-id.ensures.id; unnamed = c.in_ok-id.ensures.never_before; map = c.in_ok-id.ensures.map } in
    let one = one_arrived _ _ _ _ arrives in
    let is = c.refuse.ensures.ended (newcomer c.args.request c.args.observer) one.is_at in
    let w = newcomer c.args.request c.args.observer in
    let before = ap (λ (m : Driving g.row.S.Denot g.row.F.Denot). live_count m.requests) same in
    let came = live_arrived _ _ _ _ arrives in
    let after = live_finished c.insert.new.self c.in_ok-id.id.0 w timed_out None one.is_at in
    let ends = ap (λ (m : Driving g.row.S.Denot g.row.F.Denot). live_count m.requests) is in
    room_left (2 * (live_count (seen c.args.self.now).requests + 1) + 1) (2 * live_count (seen c.refuse.new.self).requests) c.make_places.new.deferred c.refuse.new.deferred _ (omega (arith, before, came, after, ends)) (few_finished c.in_ok-id.id.0 w timed_out None) (c.refuse.ensures.told w one.is_at) c.in-Ok.ensures.places

pub returns-then-is_late-clause-never_again : goal.returns-then-is_late-clause-never_again
returns-then-is_late-clause-never_again g c =
    let same = rw (← c.self.view_is) at c.make_places.ensures.same in
    let arrives : Arrives c.self.inside.waiters c.insert.new.self c.in_ok-id.id.0 (newcomer c.args.request c.args.observer) = record { slab = c.in_ok-id.ensures.inserted; next = c.in_ok-id.ensures.id; unnamed = c.in_ok-id.ensures.never_before; map = c.in_ok-id.ensures.map } in
    let one = one_arrived _ _ _ _ arrives in
    let is = c.refuse.ensures.ended (newcomer c.args.request c.args.observer) one.is_at in
    let slab = ap (λ (m : Driving g.row.S.Denot g.row.F.Denot). m.requests) same in
    let ends = ap (λ (m : Driving g.row.S.Denot g.row.F.Denot). m.requests) is in
    let within : c.in_ok-id.id.0.generation < 2 ^ 64 = omega arith in
    rw ends (takes_finished c.args.self.now.requests c.insert.new.self c.in_ok-id.id.0 (newcomer c.args.request c.args.observer) timed_out None one.is_at within (takes_over _ _ _ _ _ slab c.in_ok-id.ensures.never_again))

pub returns-then-is_late-clause-spots : goal.returns-then-is_late-clause-spots
returns-then-is_late-clause-spots g c =
    let arrives : Arrives c.self.inside.waiters c.insert.new.self c.in_ok-id.id.0 (newcomer c.args.request c.args.observer) = record { slab = c.in_ok-id.ensures.inserted; next = c.in_ok-id.ensures.id; unnamed = c.in_ok-id.ensures.never_before; map = c.in_ok-id.ensures.map } in
    let one = one_arrived _ _ _ _ arrives in
    let is = c.refuse.ensures.ended (newcomer c.args.request c.args.observer) one.is_at in
    let ring = rw (← c.self.view_is) at c.make_places.ensures.ring in
    ap (λ (m : Driving g.row.S.Denot g.row.F.Denot). m.ring) is ∙ ring

pub returns-clause-taken : goal.returns-clause-taken
returns-clause-taken g c = grind arith

pub returns-clause-told : goal.returns-clause-told
returns-clause-told g c = grind arith

pub returns-clause-places : goal.returns-clause-places
returns-clause-places g c = grind (arith, one_arrived, live_arrived, room_within)

pub returns-clause-never_again : goal.returns-clause-never_again
returns-clause-never_again g c = grind arith

pub returns-clause-spots : goal.returns-clause-spots
returns-clause-spots g c = rw (← c.self.view_is) at c.make_places.ensures.ring

pub returns-then-is_late-clause-gate : goal.returns-then-is_late-clause-gate
returns-then-is_late-clause-gate g c =
    let arrives : Arrives c.self.inside.waiters c.insert.new.self c.in_ok-id.id.0 (newcomer c.args.request c.args.observer) = record { slab = c.in_ok-id.ensures.inserted; next = c.in_ok-id.ensures.id; unnamed = c.in_ok-id.ensures.never_before; map = c.in_ok-id.ensures.map } in
    let one = one_arrived _ _ _ _ arrives in
    let is = c.refuse.ensures.ended (newcomer c.args.request c.args.observer) one.is_at in
    let gone = one_finished c.insert.new.self c.in_ok-id.id.0 (newcomer c.args.request c.args.observer) timed_out None one.is_at in
    inr (ap (λ (m : Driving g.row.S.Denot g.row.F.Denot). gate_in (request_at m c.in_ok-id.id)) is ∙ ap gate_in gone.is_at)

pub returns-then-is_late-clause-punctual : goal.returns-then-is_late-clause-punctual
returns-then-is_late-clause-punctual g c = λ p.
    let same = rw (← c.self.view_is) at c.make_places.ensures.same in
    let arrives : Arrives c.self.inside.waiters c.insert.new.self c.in_ok-id.id.0 (newcomer c.args.request c.args.observer) = record { slab = c.in_ok-id.ensures.inserted; next = c.in_ok-id.ensures.id; unnamed = c.in_ok-id.ensures.never_before; map = c.in_ok-id.ensures.map } in
    let one = one_arrived _ _ _ _ arrives in
    let is = c.refuse.ensures.ended (newcomer c.args.request c.args.observer) one.is_at in
    rw is (ended_punctual _ c.in_ok-id.id (newcomer c.args.request c.args.observer) timed_out None one.is_at (punctual_one _ _ c.in_ok-id.id None (Some (newcomer c.args.request c.args.observer)) one (λ t is. absurd (cc)) c.reserve.ensures.same refl (rooms_punctual (seen c.args.self.now) _ same p)))

pub returns-clause-gate : goal.returns-clause-gate
returns-clause-gate g c = grind arith

pub returns-clause-punctual : goal.returns-clause-punctual
returns-clause-punctual g c = λ p.
    let same = rw (← c.self.view_is) at c.make_places.ensures.same in
    let arrives : Arrives c.self.inside.waiters c.insert.new.self c.in_ok-id.id.0 (newcomer c.args.request c.args.observer) = record { slab = c.in_ok-id.ensures.inserted; next = c.in_ok-id.ensures.id; unnamed = c.in_ok-id.ensures.never_before; map = c.in_ok-id.ensures.map } in
    let one = one_arrived _ _ _ _ arrives in
    let has : is_some (deadline_of c.args.request) ≡ c.is_some.result = ap is_some (sym (c.deadline-deadline.ensures ∙ ap deadline_in one.is_at)) ∙ sym c.is_some.ensures in
    let gate : is_some (gate_of c.args.request) ≡ c.is_some-is_gated.result = ap is_some (sym (c.durability.ensures ∙ ap gate_in one.is_at)) ∙ sym c.is_some-is_gated.ensures in
    rw c.place.ensures (punctual_one _ _ c.in_ok-id.id None (Some (newcomer c.args.request c.args.observer)) one (λ t is. absurd (cc)) c.reserve.ensures.same (joins_put c.in_ok-id.id c.args.request c.args.observer c.self.inside.lists c.is_some.result c.is_some-is_gated.result has (durable_gated c.args.request ∙ gate)).due (rooms_punctual (seen c.args.self.now) _ same p))

pub returns-in_err-id-clause-punctual : goal.returns-in_err-id-clause-punctual
returns-in_err-id-clause-punctual g c = grind (arith, rooms_punctual)

pub returns-then-is_err-clause-punctual : goal.returns-then-is_err-clause-punctual
returns-then-is_err-clause-punctual g c = grind (arith, rooms_punctual)

pub returns-in_err-id-clause-refused : goal.returns-in_err-id-clause-refused
returns-in_err-id-clause-refused g c =
    let same = rw (← c.self.view_is) at c.make_places.ensures.same in
    let back = refused_over (seen c.args.self.now) _ (record { request = c.args.request; observer = c.args.observer }) c.in_err-id.field-0.0 same (turned_down c.self.inside.waiters _ _ c.in_err-id.ensures.refused) in
    grind arith
