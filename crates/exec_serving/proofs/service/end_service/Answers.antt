use Rattle.std.proofs.Common.{arith, refl, sym, subst}
use Rattle.exec_parts.specs.declared.parts.worker.Worker.{Worker}
use Rattle.exec_invariants.{specs.Works.Steps, proofs.Firing.{gone_same, service_over}}
use Rattle.exec_serving.proofs.Telling.{sleeper_fired}
use Rattle.exec_serving.proofs.service.end_service.Goals as goal

pub returns-in-Some : goal.returns-in-Some
returns-in-Some g c =
    let first = c.in-Some.ensures.first in
    let w : Worker = c.args.worker.now in
    let s = c.args.shared.now in
    let w1 : Worker = record w { home = record w.home { timers = c.fire.new.self; deferred = record w.home.deferred { notes = c.fire.new.notes } } } in
    let s1 = record s { sleepers = c.tell_fired.new.sleepers } in
    record {
      steps = subst (λ x. Steps g.B.Body.left g.B.Scripted.spot w s c.tell_fired.result x s1) (sym c.tell_fired.ensures.same)
          (sleeper_fired g.B.Body.left g.B.Scripted.spot c.args.service w w1 s s1 c.tell_fired.result c.in-Some.id.0 c.requires.sound c.tell_fired.ensures.event
          (record { deadline = first.0; due = first.1; first = first.2; ends = c.in-Some.ensures.fired; worker = refl; sleepers = c.tell_fired.ensures.fired; shared = refl; few = omega (arith, s.sleepers.small, s.sleepers.ok.0) }));
    }

pub returns-in-None : goal.returns-in-None
returns-in-None g c =
    let w : Worker = c.args.worker.now in
    record {
      steps = service_over g.B.Body.left g.B.Scripted.spot c.args.service w c.leave_service.new.worker c.args.shared.now c.leave_service.result c.requires.sound c.leave_service.ensures.event c.in-None.ensures.none_due
          (gone_same c.args.service.back w c.leave_service.new.worker c.fire.new.self c.fire.new.notes c.leave_service.ensures.goes c.in-None.ensures.same.0 c.in-None.ensures.same.1);
    }
