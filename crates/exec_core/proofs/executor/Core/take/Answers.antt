use Rattle.std.proofs.{Common.{◌+◌, length, refl, ap, ◌∙◌}, lemmas.{List.length-map, Result.on_err_weaker}}
use Rattle.exec_machine.specs.Callers.{after_landing}
use Rattle.exec_moves.specs.{Plays.last_told, State.passed}
use Rattle.exec_parts.specs.Records.{reached}
use Rattle.exec_core.proofs.{Taking.{chair_many, peer_stands, rings_stand, seats_stand, sees_stand, spawn_stands, spawn_takes, worked, called, call_stands, call_keeps, wake_many, go_on_many}, Lifting.as_before}
use Rattle.exec_machine.specs.declared.step.Action.TheVariants as action
use Rattle.exec_core.proofs.executor.Core.take.Goals as goal

pub returns-in-Work-clause-takes : goal.returns-in-Work-clause-takes
returns-in-Work-clause-takes g c =
    rw c.in-Work.is (worked g.B.Body.left g.B.Scripted.runs g.B.Scripted.holds g.B.Scripted.spot c.in-Work.worker c.args.self.now c.work.new.self c.work.result c.requires.ready.1.stands (rw c.in-Work.is at c.requires.enabled) c.work.ensures.steps)

pub returns-in-Work-clause-same : goal.returns-in-Work-clause-same
returns-in-Work-clause-same g c = on_err_weaker c.work.result (as_before g.B.Body.left g.B.Scripted.spot c.in-Work.worker c.args.self.now c.work.new.self) c.work.ensures.stays

pub returns-in-Clock-clause-stands : goal.returns-in-Clock-clause-stands
returns-in-Clock-clause-stands g c =
    let kept = c.move_clock.ensures.kept in
    seats_stand c.args.self.now (record c.args.self.now { shared = c.move_clock.new.shared }) c.requires.ready.1.stands c.requires.ready.1.unspent refl refl refl
    (ap (λ xs. length xs) c.move_clock.ensures.seats ∙ length-map c.args.self.now.shared.seats.items (reached (c.args.self.now.shared.clock + c.in-Clock.by)))
    (ap (λ s. s.config) kept) (ap (λ s. s.tasks) kept) (ap (λ s. s.requests) kept) (ap (λ s. s.sleepers) kept) (ap (λ s. s.set) kept) c.move_clock.ensures.sound c.move_clock.ensures.whole

pub returns-in-Stir-clause-stands : goal.returns-in-Stir-clause-stands
returns-in-Stir-clause-stands g c =
    let kept = c.stir.ensures.kept in
    seats_stand c.args.self.now (record c.args.self.now { shared = c.stir.new.shared }) c.requires.ready.1.stands c.requires.ready.1.unspent refl refl refl
    (chair_many c.args.self.now c.stir.new.shared c.in-Stir.worker (rw c.in-Stir.is at c.requires.enabled) c.stir.ensures.chair)
    (ap (λ s. s.config) kept) (ap (λ s. s.tasks) kept) (ap (λ s. s.requests) kept) (ap (λ s. s.sleepers) kept) (ap (λ s. s.set) kept) c.stir.ensures.sound c.stir.ensures.whole

pub returns-in-Land-clause-stands : goal.returns-in-Land-clause-stands
returns-in-Land-clause-stands g c =
    let lands = c.land.ensures.lands in
    rings_stand g.B.Body.left g.B.Scripted.spot lands.it.shown.worker passed (λ desk. record desk { others = 0 }) (λ x. after_landing x c.in-Land.request c.in-Land.result) c.args.self.now c.land.new.self c.requires.ready.1.stands c.requires.ready.1.unspent lands.rings

pub returns-in-SetBusy-clause-stands : goal.returns-in-SetBusy-clause-stands
returns-in-SetBusy-clause-stands g c = sees_stand c.args.self.now c.set_busy.new.self c.in-SetBusy.worker c.set_busy.ensures.sees c.requires.ready.1.stands c.requires.ready.1.unspent

pub returns-in-EndPoll-clause-stands : goal.returns-in-EndPoll-clause-stands
returns-in-EndPoll-clause-stands g c =
    rings_stand g.B.Body.left g.B.Scripted.spot c.in-EndPoll.worker last_told (λ desk. desk) (λ x. x) c.args.self.now c.end_poll.new.self c.requires.ready.1.stands c.requires.ready.1.unspent c.end_poll.ensures.ends

pub returns-in-Peer-clause-stands : goal.returns-in-Peer-clause-stands
returns-in-Peer-clause-stands g c =
    peer_stands g.B.Body.left g.B.Scripted.spot c.args.self.now c.bring_peer.new.self c.bring_peer.result c.requires.ready.1.stands c.bring_peer.ensures.workers c.bring_peer.ensures.callers c.bring_peer.ensures.unspent c.bring_peer.ensures.listeners c.bring_peer.ensures.sound c.bring_peer.ensures.whole

pub returns-in-Spawn-clause-takes : goal.returns-in-Spawn-clause-takes
returns-in-Spawn-clause-takes g c =
    rw c.in-Spawn.is (spawn_takes g.B.Body.left g.B.Scripted.runs g.B.Scripted.holds g.B.Scripted.spot c.in-Spawn.caller c.in-Spawn.script c.args.self.now c.spawn.new.self c.spawn.result c.requires.ready.1.stands c.spawn.ensures.calls)

pub returns-in-Spawn-clause-stands : goal.returns-in-Spawn-clause-stands
returns-in-Spawn-clause-stands g c = spawn_stands g.B.Body.left g.B.Scripted.spot c.in-Spawn.caller c.in-Spawn.script c.args.self.now c.spawn.new.self c.spawn.result c.requires.ready.1.stands c.requires.ready.1.unspent c.spawn.ensures.calls

pub returns-in-Wake-clause-takes : goal.returns-in-Wake-clause-takes
returns-in-Wake-clause-takes g c = λ p config performs.
    rw c.in-Wake.is (called g.B.Body.left g.B.Scripted.spot (action.Wake c.in-Wake.caller c.in-Wake.task) c.in-Wake.caller p c.args.self.now c.wake.new.self c.wake.result c.requires.ready.1.stands config c.wake.ensures.calls (λ choice. refl) refl refl (λ choice may. may))

pub returns-in-Wake-clause-stands : goal.returns-in-Wake-clause-stands
returns-in-Wake-clause-stands g c = call_stands g.B.Body.left g.B.Scripted.spot (action.Wake c.in-Wake.caller c.in-Wake.task) c.in-Wake.caller c.args.self.now c.wake.new.self c.wake.result c.requires.ready.1.stands c.requires.ready.1.unspent c.wake.ensures.calls

pub returns-in-Wake-clause-keeps : goal.returns-in-Wake-clause-keeps
returns-in-Wake-clause-keeps g c = rw c.in-Wake.is (call_keeps g.B.Body.left g.B.Scripted.runs g.B.Scripted.holds g.B.Scripted.spot g.B.Body.name_of (action.Wake c.in-Wake.caller c.in-Wake.task) c.in-Wake.caller c.args.self.now c.wake.new.self c.wake.result c.args.body c.requires.ready.1.stands c.wake.ensures.calls (λ s choice. wake_many s c.in-Wake.caller c.in-Wake.task c.wake.result choice))

pub returns-in-GoOn-clause-takes : goal.returns-in-GoOn-clause-takes
returns-in-GoOn-clause-takes g c = λ p config performs.
    rw c.in-GoOn.is (called g.B.Body.left g.B.Scripted.spot (action.GoOn c.in-GoOn.caller) c.in-GoOn.caller p c.args.self.now c.go_on.new.self c.go_on.result c.requires.ready.1.stands config c.go_on.ensures.calls (λ choice. refl) refl refl (λ choice may. may))

pub returns-in-GoOn-clause-stands : goal.returns-in-GoOn-clause-stands
returns-in-GoOn-clause-stands g c = call_stands g.B.Body.left g.B.Scripted.spot (action.GoOn c.in-GoOn.caller) c.in-GoOn.caller c.args.self.now c.go_on.new.self c.go_on.result c.requires.ready.1.stands c.requires.ready.1.unspent c.go_on.ensures.calls

pub returns-in-GoOn-clause-keeps : goal.returns-in-GoOn-clause-keeps
returns-in-GoOn-clause-keeps g c = rw c.in-GoOn.is (call_keeps g.B.Body.left g.B.Scripted.runs g.B.Scripted.holds g.B.Scripted.spot g.B.Body.name_of (action.GoOn c.in-GoOn.caller) c.in-GoOn.caller c.args.self.now c.go_on.new.self c.go_on.result c.args.body c.requires.ready.1.stands c.go_on.ensures.calls (λ s choice. go_on_many s c.in-GoOn.caller c.go_on.result choice))
