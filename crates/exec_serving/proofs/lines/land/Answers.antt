use Rattle.std.{proofs.{Common.{◌≡◌, ◌<◌, refl, sym, ap, subst, ◌∙◌, slice_set}, lemmas.{List.length-set, Option.{get_or_from_slice_get, slice_get_within}}}, specs.{Result.is_err, Vec.with_item}}
use Rattle.exec_driver.specs.Driving.{seen}
use Rattle.exec_parts.specs.{Phased.TurnsChair, Records.roused, declared.parts.worker.Worker.Worker}
use Rattle.exec_invariants.{proofs.{Leaves.takes_by, Raising.sound_still}, specs.Carried.landing}
use Rattle.exec_serving.proofs.{Landing.{lander, after_one}, Landed.landed_sound, LandSeen.records_set, Lands.{lands_beside, lands_chair, lands_common, lands_desk, lands_own, lands_things}}
use Rattle.exec_serving.proofs.lines.land.Goals as goal

pub index_mut-requires : goal.index_mut-requires
index_mut-requires g c =
    let s = c.args.shared.now in
    let sound = c.requires.sound in
    subst (λ n. c.args.worker.now.index < n) (sym s.seats.ok.0) (slice_get_within s.seats.items c.args.worker.now.index sound.seated.seat sound.seated.there)

pub land-requires : goal.land-requires
land-requires g c =
    let w : Worker = c.args.worker.now in
    let s = c.args.shared.now in
    let w1 : Worker = c.take_raises.new.self in
    let s1 = record s { seats = with_item s.seats w.index c.take_raises.new.seat } in
    let takes = takes_by w w1 s s1 c.index_mut.result.now c.take_raises.new.seat (λ chair there. c.index_mut.ensures.value ∙ get_or_from_slice_get s.seats.items w.index chair c.index_mut.result.now there) c.take_raises.ensures.driver c.take_raises.ensures.seat c.take_raises.ensures.same refl refl in
    let index = ap (λ (x : Worker). x.index) c.take_raises.ensures.same in
    let who = lander w1 s1 c.args.request c.args.given (sound_still w w1 s s1 c.requires.sound takes) c.requires.lands (λ r there. c.requires.mine r there ∙ sym index) in
    let is = c.index_mut-record.ensures.value ∙ get_or_from_slice_get s.requests.items c.args.request who.r c.index_mut-record.result.now who.there in
    record { ready = λ x live may. rw is (let same : x ≡ who.it = cc (live, who.live, is) in rw same who.fit.ready) }

pub unreachable-requires : goal.unreachable-requires
unreachable-requires g c =
    let w : Worker = c.args.worker.now in
    let s = c.args.shared.now in
    let w1 : Worker = c.take_raises.new.self in
    let s1 = record s { seats = with_item s.seats w.index c.take_raises.new.seat } in
    let takes = takes_by w w1 s s1 c.index_mut.result.now c.take_raises.new.seat (λ chair there. c.index_mut.ensures.value ∙ get_or_from_slice_get s.seats.items w.index chair c.index_mut.result.now there) c.take_raises.ensures.driver c.take_raises.ensures.seat c.take_raises.ensures.same refl refl in
    let index = ap (λ (x : Worker). x.index) c.take_raises.ensures.same in
    let who = lander w1 s1 c.args.request c.args.given (sound_still w w1 s s1 c.requires.sound takes) c.requires.lands (λ r there. c.requires.mine r there ∙ sym index) in
    let is = c.index_mut-record.ensures.value ∙ get_or_from_slice_get s.requests.items c.args.request who.r c.index_mut-record.result.now who.there in
    let answer = rw (is, who.live, who.in_flight, who.fit.may) at c.land.ensures.answer in
    let bad = sym c.if-is_err.true ∙ c.is_err.ensures.value ∙ ap is_err answer in
    cc

pub returns : goal.returns
returns g c =
    let w : Worker = c.args.worker.now in
    let s = c.args.shared.now in
    let w1 : Worker = c.take_raises.new.self in
    let s1 = record s { seats = with_item s.seats w.index c.take_raises.new.seat } in
    let w' : Worker = record w1 { home = record w1.home { driver = c.land.new.self } } in
    let s' = record s1 { seats = with_item s1.seats w1.index (roused c.index_mut-2.result.now); requests = with_item s.requests c.args.request (landing c.args.given c.index_mut-record.result.now); store = c.land.new.store } in
    let takes = takes_by w w1 s s1 c.index_mut.result.now c.take_raises.new.seat (λ chair there. c.index_mut.ensures.value ∙ get_or_from_slice_get s.seats.items w.index chair c.index_mut.result.now there) c.take_raises.ensures.driver c.take_raises.ensures.seat c.take_raises.ensures.same refl refl in
    let sound1 = sound_still w w1 s s1 c.requires.sound takes in
    let index = ap (λ (x : Worker). x.index) c.take_raises.ensures.same in
    let who = lander w1 s1 c.args.request c.args.given sound1 c.requires.lands (λ r there. c.requires.mine r there ∙ sym index) in
    let is = c.index_mut-record.ensures.value ∙ get_or_from_slice_get s.requests.items c.args.request who.r c.index_mut-record.result.now who.there in
    let answer = rw (is, who.live, who.in_flight, who.fit.may) at c.land.ensures.answer in
    let lands = (rw (answer, is) at c.land.ensures.lands) who.it who.live in
    let after = after_one w1 s1 c.args.request c.args.given who (seen c.land.new.self) c.land.new.store lands in
    let records = records_set w1 s1 c.args.request c.args.given who after.q after.lands.request sound1 c.index_mut-record.result.now is in
    let turns : TurnsChair w1.index roused s1 s' = λ chair there. ap (λ x. slice_set s1.seats.items w1.index (roused x)) (c.index_mut-2.ensures.value ∙ get_or_from_slice_get s1.seats.items w1.index chair c.index_mut-2.result.now there) in
    let sound' = landed_sound w1 s1 c.args.request c.args.given who after.q after.lands.request sound1 w' s' after.driver (c.land.ensures.punctual sound1.due.punctual) refl records after.lands.leaves refl turns in
    record {
      event = refl;
      sound = sound';
      own = lands_own g.B.Body.left g.B.Scripted.spot w w1 w' s s1 s' c.args.request c.args.given c.requires.sound takes sound1 who after.q after.lands.request after.driver refl records after.lands.leaves refl turns;
      desk = lands_desk g.B.Body.left g.B.Scripted.spot w w1 w' s s1 s' c.args.request c.args.given c.requires.sound takes sound1 who after.q after.lands.request after.driver refl records after.lands.leaves refl turns;
      index = index;
      kept = refl;
      many = length-set s1.seats.items w1.index _ ∙ length-set s.seats.items w.index _;
      chair = lands_chair g.B.Body.left g.B.Scripted.spot w w1 w' s s1 s' c.args.request c.args.given c.requires.sound takes sound1 who after.q after.lands.request after.driver refl records after.lands.leaves refl turns;
      beside = lands_beside g.B.Body.left g.B.Scripted.spot w w1 w' s s1 s' c.args.request c.args.given c.requires.sound takes sound1 who after.q after.lands.request after.driver refl records after.lands.leaves refl turns sound';
      things = λ p vs suits. lands_things g.B.Body.left g.B.Scripted.spot w w1 w' s s1 s' c.args.request c.args.given c.requires.sound takes sound1 who after.q after.lands.request after.driver refl records after.lands.leaves refl turns p vs suits;
      common = λ p vs suits. lands_common g.B.Body.left g.B.Scripted.spot w w1 w' s s1 s' c.args.request c.args.given c.requires.sound takes sound1 who after.q after.lands.request after.driver refl records after.lands.leaves refl turns p vs suits;
    }
