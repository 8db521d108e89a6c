use Rattle.std.{proofs.{Common.{refl, sym, ap, subst, ◌<◌, ◌∙◌}, lemmas.Option.{get_or_from_slice_get, slice_get_within}}, specs.Vec.with_item}
use Rattle.exec_parts.specs.declared.parts.worker.Worker.{Worker}
use Rattle.exec_invariants.proofs.Leaves.{takes_by}
use Rattle.exec_serving.proofs.Setting.{ending_beside, ending_common, ending_desk, ending_own, ending_sound, ending_things}
use Rattle.exec_serving.proofs.lines.end_poll.Goals as goal

pub index_mut-requires : goal.index_mut-requires
index_mut-requires g c =
    let s = c.args.shared.now in
    let sound = c.requires.sound in
    subst (λ n. c.args.worker.now.index < n) (sym s.seats.ok.0) (slice_get_within s.seats.items c.args.worker.now.index sound.seated.seat sound.seated.there)

pub returns : goal.returns
returns g c =
    let w : Worker = c.args.worker.now in
    let s = c.args.shared.now in
    let sound = c.requires.sound in
    let w1 : Worker = c.take_raises.new.self in
    let s1 = record s { seats = with_item s.seats w.index c.take_raises.new.seat } in
    let w' : Worker = record w1 { home = record w1.home { driver = c.last.new.self } } in
    let takes = takes_by w w1 s s1 c.index_mut.result.now c.take_raises.new.seat (λ chair there. c.index_mut.ensures.value ∙ get_or_from_slice_get s.seats.items w.index chair c.index_mut.result.now there) c.take_raises.ensures.driver c.take_raises.ensures.seat c.take_raises.ensures.same refl refl in
    record {
      event = refl;
      sound = ending_sound g.B.Body.left g.B.Scripted.spot w w1 w' s s1 sound takes c.last.ensures.set refl;
      own = ending_own g.B.Body.left g.B.Scripted.spot w w1 w' s s1 sound takes c.last.ensures.set refl;
      desk = ending_desk g.B.Body.left g.B.Scripted.spot w w1 w' s s1 sound takes c.last.ensures.set refl;
      index = ap (λ x. x.index) c.take_raises.ensures.same;
      kept = refl;
      beside = ending_beside g.B.Body.left g.B.Scripted.spot w w1 w' s s1 sound takes c.last.ensures.set refl;
      things = λ p vs suits. ending_things g.B.Body.left g.B.Scripted.spot w w1 w' s s1 sound takes c.last.ensures.set refl p vs suits;
      common = λ p vs suits. ending_common g.B.Body.left g.B.Scripted.spot w w1 w' s s1 sound takes c.last.ensures.set refl p vs suits;
    }
