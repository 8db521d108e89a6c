use Rattle.std.proofs.{Common.{◌≡◌, arith, refl, sym, ap, ◌∙◌, subst}, lemmas.Grind.elements}
use Rattle.exec_task.specs.declared.body.Act.{Act}
use Rattle.exec_moves.specs.declared.place.{InPoll.InPoll, Place.Place}
use Rattle.exec_parts.specs.declared.parts.nursery.Nursery.{Nursery}
use Rattle.exec_invariants.{specs.Acting.StepsOf, proofs.{Acting.{passed_by, yielded_by}, Acts.{acted_at, acted_within, kept_any, may_act, unmade, on_err_weaker, ok_so}, Still.steps_nobody, TaskNewest.newest_acted, TaskOverActs.{act_over, is_done, is_fault, may_end_task}, TaskOverLets.lets_seen}}
use Rattle.exec_polling.proofs.{DedicatedSteps.{dedicated_by, may_begin, undedicated}, Stirred.{woke_by, woken_there, woken_within}, WakeThere.{may_wake, woke_there}, Rooms.may_make, Refused.refused_by, MakingActs.{has_seat, in_range}, Registered.registered_by, Slept.slept_at, SpawnSteps.{may_spawn, spawned_by, unspawned}, TaskNewestSteps.{await_steps, drop_steps, drops_some}}
use Rattle.exec_polling.proofs.poll.act.Goals as goal

pub next_act-requires : goal.next_act-requires
next_act-requires g c =
    let may = may_act g.B.Body.left g.B.Scripted.spot g.B.Body.gives c.args.task c.args.worker.now c.args.shared.now c.requires.sound in
    record { there = may.there; told = may.told; body = may.body }

pub returns-in_err-request-clause-same : goal.returns-in_err-request-clause-same
returns-in_err-request-clause-same g c =
    kept_any c.from_residual.result (unmade g.B.Body.left g.B.Scripted.spot g.B.Body.gives c.args.task c.args.worker.now c.args.shared.now c.next_act.new.shared c.requires.sound c.in_err-request.ensures.kept)

pub pass-requires : goal.pass-requires
pass-requires g c = record { there = acted_within g.B.Body.left g.B.Scripted.spot g.B.Body.gives c.args.task c.args.worker.now.moments.sampled c.args.shared.now c.next_act.new.shared c.in_ok-request.field-0 c.in_ok-request.ensures.acts }

pub yield_task-requires : goal.yield_task-requires
yield_task-requires g c =
    record { there = acted_within g.B.Body.left g.B.Scripted.spot g.B.Body.gives c.args.task c.args.worker.now.moments.sampled c.args.shared.now c.next_act.new.shared c.in_ok-request.field-0 c.in_ok-request.ensures.acts }

pub returns-in-Sleep-eq0-clause-steps : goal.returns-in-Sleep-eq0-clause-steps
returns-in-Sleep-eq0-clause-steps g c =
    let w = c.args.worker.now in
    let s = c.args.shared.now in
    let s1 = c.next_act.new.shared in
    let is : c.in_ok-request.field-0 ≡ Act.Sleep 0 = cc (c.in-Sleep-eq0.is, c.in-Sleep-eq0.field-0-is) in
    let h = acted_at g.B.Body.left g.B.Scripted.runs g.B.Scripted.holds g.B.Scripted.spot g.B.Body.gives g.met.B.Scripted.plays c.args.task w s s1 c.in_ok-request.field-0 (Act.Sleep 0) is c.requires.sound c.in_ok-request.ensures.acts c.requires.performs in
    steps_nobody g.B.Body.left g.B.Scripted.runs g.B.Scripted.holds g.B.Scripted.spot c.args.nursery.now.born w c.pass.new.worker s c.pass.new.shared c.pass.result c.requires.none_yet
    (passed_by g.B.Body.left g.B.Scripted.runs g.B.Scripted.holds g.B.Scripted.spot g.B.Body.gives g.B.Scripted.answered c.args.task w c.pass.new.worker s s1 c.pass.new.shared c.pass.result h c.pass.ensures.event c.pass.ensures.worker c.pass.ensures.task)

pub returns-in-Yield-clause-steps : goal.returns-in-Yield-clause-steps
returns-in-Yield-clause-steps g c =
    let w = c.args.worker.now in
    let s = c.args.shared.now in
    let s1 = c.next_act.new.shared in
    let h = acted_at g.B.Body.left g.B.Scripted.runs g.B.Scripted.holds g.B.Scripted.spot g.B.Body.gives g.met.B.Scripted.plays c.args.task w s s1 c.in_ok-request.field-0 Act.Yield c.in-Yield.is c.requires.sound c.in_ok-request.ensures.acts c.requires.performs in
    steps_nobody g.B.Body.left g.B.Scripted.runs g.B.Scripted.holds g.B.Scripted.spot c.args.nursery.now.born w c.yield_task.new.worker s c.yield_task.new.shared c.yield_task.result c.requires.none_yet
    (yielded_by g.B.Body.left g.B.Scripted.runs g.B.Scripted.holds g.B.Scripted.spot g.B.Body.gives g.B.Scripted.answered c.args.task w c.yield_task.new.worker s s1 c.yield_task.new.shared c.yield_task.result h c.yield_task.ensures.event c.yield_task.ensures.worker c.yield_task.ensures.task)

pub finish-requires : goal.finish-requires
finish-requires g c =
    let w = c.args.worker.now in
    let s1 = c.next_act.new.shared in
    let h = acted_at g.B.Body.left g.B.Scripted.runs g.B.Scripted.holds g.B.Scripted.spot g.B.Body.gives g.met.B.Scripted.plays c.args.task w c.args.shared.now s1 c.in_ok-request.field-0 (Act.Done c.in-Done.field-0) c.in-Done.is c.requires.sound c.in_ok-request.ensures.acts c.requires.performs in
    record { may = may_end_task g.B.Body.left g.B.Scripted.runs g.B.Scripted.holds g.B.Scripted.spot g.B.Body.gives c.args.task w c.args.shared.now s1 (Act.Done c.in-Done.field-0) h c.requires.whole lets_seen }

pub returns-in-Done-clause-steps : goal.returns-in-Done-clause-steps
returns-in-Done-clause-steps g c =
    let w = c.args.worker.now in
    let s = c.args.shared.now in
    let s1 = c.next_act.new.shared in
    let it = c.finish in
    let h = acted_at g.B.Body.left g.B.Scripted.runs g.B.Scripted.holds g.B.Scripted.spot g.B.Body.gives g.met.B.Scripted.plays c.args.task w s s1 c.in_ok-request.field-0 (Act.Done c.in-Done.field-0) c.in-Done.is c.requires.sound c.in_ok-request.ensures.acts c.requires.performs in
    let end = is_done g.B.Body.left g.B.Scripted.runs g.B.Scripted.holds g.B.Scripted.spot g.B.Body.gives c.args.task c.in-Done.field-0 in
    steps_nobody g.B.Body.left g.B.Scripted.runs g.B.Scripted.holds g.B.Scripted.spot c.args.nursery.now.born w it.new.worker s it.new.shared it.result c.requires.none_yet
    (subst (λ e. StepsOf g.B.Body.left g.B.Scripted.runs g.B.Scripted.holds g.B.Scripted.spot w s e it.new.worker it.new.shared) (sym it.ensures.event)
    (act_over g.B.Body.left g.B.Scripted.runs g.B.Scripted.holds g.B.Scripted.spot g.B.Body.gives c.args.task w s s1 (Act.Done c.in-Done.field-0) h c.requires.whole lets_seen it.new.worker it.new.shared _ _ end it.ensures.ends c.requires.performs))

pub fail-requires : goal.fail-requires
fail-requires g c =
    let w = c.args.worker.now in
    let s1 = c.next_act.new.shared in
    let h = acted_at g.B.Body.left g.B.Scripted.runs g.B.Scripted.holds g.B.Scripted.spot g.B.Body.gives g.met.B.Scripted.plays c.args.task w c.args.shared.now s1 c.in_ok-request.field-0 (Act.Fault c.in-Fault.code) c.in-Fault.is c.requires.sound c.in_ok-request.ensures.acts c.requires.performs in
    record { may = may_end_task g.B.Body.left g.B.Scripted.runs g.B.Scripted.holds g.B.Scripted.spot g.B.Body.gives c.args.task w c.args.shared.now s1 (Act.Fault c.in-Fault.code) h c.requires.whole lets_seen }

pub returns-in-Fault-clause-steps : goal.returns-in-Fault-clause-steps
returns-in-Fault-clause-steps g c =
    let w = c.args.worker.now in
    let s = c.args.shared.now in
    let s1 = c.next_act.new.shared in
    let it = c.fail in
    let h = acted_at g.B.Body.left g.B.Scripted.runs g.B.Scripted.holds g.B.Scripted.spot g.B.Body.gives g.met.B.Scripted.plays c.args.task w s s1 c.in_ok-request.field-0 (Act.Fault c.in-Fault.code) c.in-Fault.is c.requires.sound c.in_ok-request.ensures.acts c.requires.performs in
    let end = is_fault g.B.Body.left g.B.Scripted.runs g.B.Scripted.holds g.B.Scripted.spot g.B.Body.gives c.args.task c.in-Fault.code in
    steps_nobody g.B.Body.left g.B.Scripted.runs g.B.Scripted.holds g.B.Scripted.spot c.args.nursery.now.born w it.new.worker s it.new.shared it.result c.requires.none_yet
    (subst (λ e. StepsOf g.B.Body.left g.B.Scripted.runs g.B.Scripted.holds g.B.Scripted.spot w s e it.new.worker it.new.shared) (sym it.ensures.event)
    (act_over g.B.Body.left g.B.Scripted.runs g.B.Scripted.holds g.B.Scripted.spot g.B.Body.gives c.args.task w s s1 (Act.Fault c.in-Fault.code) h c.requires.whole lets_seen it.new.worker it.new.shared _ _ end it.ensures.ends c.requires.performs))

pub returns-in-Sleep-eq0-clause-same : goal.returns-in-Sleep-eq0-clause-same
returns-in-Sleep-eq0-clause-same g c = tt

pub returns-in-Yield-clause-same : goal.returns-in-Yield-clause-same
returns-in-Yield-clause-same g c = tt

pub returns-in-Done-clause-same : goal.returns-in-Done-clause-same
returns-in-Done-clause-same g c = tt

pub returns-in-Fault-clause-same : goal.returns-in-Fault-clause-same
returns-in-Fault-clause-same g c = tt

pub wake_task-requires : goal.wake_task-requires
wake_task-requires g c =
    let w = c.args.worker.now in
    let s = c.args.shared.now in
    let s1 = c.next_act.new.shared in
    let h = acted_at g.B.Body.left g.B.Scripted.runs g.B.Scripted.holds g.B.Scripted.spot g.B.Body.gives g.met.B.Scripted.plays c.args.task w s s1 c.in_ok-request.field-0 (Act.Wake c.in-Wake.other) c.in-Wake.is c.requires.sound c.in_ok-request.ensures.acts c.requires.performs in
    let may = may_wake g.B.Body.left g.B.Scripted.runs g.B.Scripted.holds g.B.Scripted.spot g.B.Body.gives c.args.task c.in-Wake.other.0 w s s1 (Act.Wake c.in-Wake.other) h c.requires.whole.whole.pool.mail in
    record {
      there = acted_within g.B.Body.left g.B.Scripted.spot g.B.Body.gives c.args.task w.moments.sampled s s1 c.in_ok-request.field-0 c.in_ok-request.ensures.acts;
      some = woken_within g.B.Body.left g.B.Scripted.runs g.B.Scripted.holds g.B.Scripted.spot g.B.Body.gives c.args.task c.in-Wake.other w s s1 h;
      root = may.root;
      homes = may.homes;
      mail = may.mail;
    }

pub returns-in-Wake-clause-steps : goal.returns-in-Wake-clause-steps
returns-in-Wake-clause-steps g c =
    let w = c.args.worker.now in
    let s = c.args.shared.now in
    let s1 = c.next_act.new.shared in
    let n = c.in-Wake.other in
    let h = acted_at g.B.Body.left g.B.Scripted.runs g.B.Scripted.holds g.B.Scripted.spot g.B.Body.gives g.met.B.Scripted.plays c.args.task w s s1 c.in_ok-request.field-0 (Act.Wake n) c.in-Wake.is c.requires.sound c.in_ok-request.ensures.acts c.requires.performs in
    let it = c.wake_task.ensures.wakes in
    let other = woken_there g.B.Body.left g.B.Scripted.runs g.B.Scripted.holds g.B.Scripted.spot g.B.Body.gives c.args.task n w c.wake_task.new.worker s s1 c.wake_task.new.shared c.wake_task.result h it in
    steps_nobody g.B.Body.left g.B.Scripted.runs g.B.Scripted.holds g.B.Scripted.spot c.args.nursery.now.born w c.wake_task.new.worker s c.wake_task.new.shared c.wake_task.result c.requires.none_yet
    (woke_by g.B.Body.left g.B.Scripted.runs g.B.Scripted.holds g.B.Scripted.spot g.B.Body.gives g.B.Scripted.answered c.args.task n w c.wake_task.new.worker s s1 c.wake_task.new.shared c.wake_task.result h it other.0 other.1
    (λ j home apart. woke_there g.B.Body.left g.B.Scripted.runs g.B.Scripted.holds g.B.Scripted.spot g.B.Body.gives g.B.Scripted.answered c.args.task j n w c.wake_task.new.worker s s1 c.wake_task.new.shared c.wake_task.result h it other.0 other.1 home apart c.requires.whole.whole.pool.mail))

pub returns-in-Wake-clause-same : goal.returns-in-Wake-clause-same
returns-in-Wake-clause-same g c = tt

pub sleep_for-requires : goal.sleep_for-requires
sleep_for-requires g c = grind (arith, acted_within, has_seat, may_make)

pub returns-in-Sleep-clause-same : goal.returns-in-Sleep-clause-same
returns-in-Sleep-clause-same g c =
    let w = c.args.worker.now in
    let s = c.args.shared.now in
    let s1 = c.next_act.new.shared in
    let time = c.in-Sleep.time in
    let h = acted_at g.B.Body.left g.B.Scripted.runs g.B.Scripted.holds g.B.Scripted.spot g.B.Body.gives g.met.B.Scripted.plays c.args.task w s s1 c.in_ok-request.field-0 (Act.Sleep time) c.in-Sleep.is c.requires.sound c.in_ok-request.ensures.acts c.requires.performs in
    on_err_weaker c.sleep_for.result (refused_by g.B.Body.left g.B.Scripted.runs g.B.Scripted.holds g.B.Scripted.spot g.B.Body.gives c.args.task w c.sleep_for.new.worker s s1 c.sleep_for.new.shared (Act.Sleep time) h refl) c.sleep_for.ensures.refused

pub returns-in-Sleep-clause-steps : goal.returns-in-Sleep-clause-steps
returns-in-Sleep-clause-steps g c =
    let w = c.args.worker.now in
    let s = c.args.shared.now in
    let s1 = c.next_act.new.shared in
    let time = c.in-Sleep.time in
    let h = acted_at g.B.Body.left g.B.Scripted.runs g.B.Scripted.holds g.B.Scripted.spot g.B.Body.gives g.met.B.Scripted.plays c.args.task w s s1 c.in_ok-request.field-0 (Act.Sleep time) c.in-Sleep.is c.requires.sound c.in_ok-request.ensures.acts c.requires.performs in
    ok_so c.sleep_for.result
    (λ e made. steps_nobody g.B.Body.left g.B.Scripted.runs g.B.Scripted.holds g.B.Scripted.spot c.args.nursery.now.born w c.sleep_for.new.worker s c.sleep_for.new.shared e c.requires.none_yet
    (slept_at g.B.Body.left g.B.Scripted.runs g.B.Scripted.holds g.B.Scripted.spot g.B.Body.gives c.args.task w c.sleep_for.new.worker s s1 c.sleep_for.new.shared e time c.in-Sleep.time-test.1 h made)) c.sleep_for.ensures.made

pub register-requires : goal.register-requires
register-requires g c =
    let w = c.args.worker.now in
    let s = c.args.shared.now in
    let s1 = c.next_act.new.shared in
    let acts = c.in_ok-request.ensures.acts in
    let a = c.in_ok-request.field-0 in
    let h = acted_at g.B.Body.left g.B.Scripted.runs g.B.Scripted.holds g.B.Scripted.spot g.B.Body.gives g.met.B.Scripted.plays c.args.task w s s1 a (Act.Register c.in-Register.request) c.in-Register.is c.requires.sound acts c.requires.performs in
    record {
      there = acted_within g.B.Body.left g.B.Scripted.spot g.B.Body.gives c.args.task w.moments.sampled s s1 a acts;
      seat = has_seat c.args.task w s s1 h.sound h.made.kept;
      range = in_range g.B.Body.left g.B.Scripted.runs g.B.Scripted.holds g.B.Scripted.spot g.B.Body.gives c.args.task w s s1 c.in-Register.request h;
      may = may_make (Place.Poll c.args.task InPoll.Act) w s h.sound;
    }

pub returns-in-Register-clause-steps : goal.returns-in-Register-clause-steps
returns-in-Register-clause-steps g c =
    let w = c.args.worker.now in
    let s = c.args.shared.now in
    let s1 = c.next_act.new.shared in
    let acts = c.in_ok-request.ensures.acts in
    let q = c.in-Register.request in
    let h = acted_at g.B.Body.left g.B.Scripted.runs g.B.Scripted.holds g.B.Scripted.spot g.B.Body.gives g.met.B.Scripted.plays c.args.task w s s1 c.in_ok-request.field-0 (Act.Register q) c.in-Register.is c.requires.sound acts c.requires.performs in
    ok_so c.register.result
    (λ e made. steps_nobody g.B.Body.left g.B.Scripted.runs g.B.Scripted.holds g.B.Scripted.spot c.args.nursery.now.born w c.register.new.worker s c.register.new.shared e c.requires.none_yet
    (registered_by g.B.Body.left g.B.Scripted.runs g.B.Scripted.holds g.B.Scripted.spot g.B.Body.gives c.args.task w c.register.new.worker s s1 c.register.new.shared e q h made g.B.Scripted.answered)) c.register.ensures.made

pub returns-in-Register-clause-same : goal.returns-in-Register-clause-same
returns-in-Register-clause-same g c =
    let w = c.args.worker.now in
    let s = c.args.shared.now in
    let s1 = c.next_act.new.shared in
    let acts = c.in_ok-request.ensures.acts in
    let q = c.in-Register.request in
    let h = acted_at g.B.Body.left g.B.Scripted.runs g.B.Scripted.holds g.B.Scripted.spot g.B.Body.gives g.met.B.Scripted.plays c.args.task w s s1 c.in_ok-request.field-0 (Act.Register q) c.in-Register.is c.requires.sound acts c.requires.performs in
    on_err_weaker c.register.result (refused_by g.B.Body.left g.B.Scripted.runs g.B.Scripted.holds g.B.Scripted.spot g.B.Body.gives c.args.task w c.register.new.worker s s1 c.register.new.shared (Act.Register q) h refl) c.register.ensures.refused

pub await_newest-requires : goal.await_newest-requires
await_newest-requires g c =
    let w = c.args.worker.now in
    let s = c.args.shared.now in
    let s1 = c.next_act.new.shared in
    let acts = c.in_ok-request.ensures.acts in
    let a = c.in_ok-request.field-0 in
    record {
      there = acted_within g.B.Body.left g.B.Scripted.spot g.B.Body.gives c.args.task w.moments.sampled s s1 a acts;
      newest = newest_acted g.B.Body.left g.B.Body.gives c.args.task w s s1 a c.requires.sound c.requires.whole acts;
    }

pub returns-in-Await-clause-steps : goal.returns-in-Await-clause-steps
returns-in-Await-clause-steps g c =
    let w = c.args.worker.now in
    let s = c.args.shared.now in
    let s1 = c.next_act.new.shared in
    let acts = c.in_ok-request.ensures.acts in
    let a = c.in_ok-request.field-0 in
    let h = acted_at g.B.Body.left g.B.Scripted.runs g.B.Scripted.holds g.B.Scripted.spot g.B.Body.gives g.met.B.Scripted.plays c.args.task w s s1 a (Act.Await c.in-Await.field-0) c.in-Await.is c.requires.sound acts c.requires.performs in
    steps_nobody g.B.Body.left g.B.Scripted.runs g.B.Scripted.holds g.B.Scripted.spot c.args.nursery.now.born w c.await_newest.new.worker s c.await_newest.new.shared c.await_newest.result c.requires.none_yet
    (await_steps g.B.Body.left g.B.Scripted.runs g.B.Scripted.holds g.B.Scripted.spot g.B.Body.gives g.B.Scripted.answered c.args.task w c.await_newest.new.worker s s1 c.await_newest.new.shared c.await_newest.result c.in-Await.field-0 h c.requires.whole c.await_newest.ensures.awaits)

pub returns-in-Await-clause-same : goal.returns-in-Await-clause-same
returns-in-Await-clause-same g c = tt

pub drop_newest-requires : goal.drop_newest-requires
drop_newest-requires g c =
    let w = c.args.worker.now in
    let s = c.args.shared.now in
    let s1 = c.next_act.new.shared in
    let acts = c.in_ok-request.ensures.acts in
    let a = c.in_ok-request.field-0 in
    let h = acted_at g.B.Body.left g.B.Scripted.runs g.B.Scripted.holds g.B.Scripted.spot g.B.Body.gives g.met.B.Scripted.plays c.args.task w s s1 a (Act.Drop c.in-Drop.field-0) c.in-Drop.is c.requires.sound acts c.requires.performs in
    record {
      there = acted_within g.B.Body.left g.B.Scripted.spot g.B.Body.gives c.args.task w.moments.sampled s s1 a acts;
      some = drops_some g.B.Body.left g.B.Scripted.runs g.B.Scripted.holds g.B.Scripted.spot g.B.Body.gives g.B.Scripted.answered c.args.task w s s1 c.in-Drop.field-0 h;
      newest = newest_acted g.B.Body.left g.B.Body.gives c.args.task w s s1 a c.requires.sound c.requires.whole acts;
    }

pub returns-in-Drop-clause-steps : goal.returns-in-Drop-clause-steps
returns-in-Drop-clause-steps g c =
    let w = c.args.worker.now in
    let s = c.args.shared.now in
    let s1 = c.next_act.new.shared in
    let acts = c.in_ok-request.ensures.acts in
    let a = c.in_ok-request.field-0 in
    let h = acted_at g.B.Body.left g.B.Scripted.runs g.B.Scripted.holds g.B.Scripted.spot g.B.Body.gives g.met.B.Scripted.plays c.args.task w s s1 a (Act.Drop c.in-Drop.field-0) c.in-Drop.is c.requires.sound acts c.requires.performs in
    steps_nobody g.B.Body.left g.B.Scripted.runs g.B.Scripted.holds g.B.Scripted.spot c.args.nursery.now.born w c.drop_newest.new.worker s c.drop_newest.new.shared c.drop_newest.result c.requires.none_yet
    (drop_steps g.B.Body.left g.B.Scripted.runs g.B.Scripted.holds g.B.Scripted.spot g.B.Body.gives g.B.Scripted.answered c.args.task w c.drop_newest.new.worker s s1 c.drop_newest.new.shared c.drop_newest.result c.in-Drop.field-0 h c.requires.whole c.drop_newest.ensures.drops)

pub returns-in-Drop-clause-same : goal.returns-in-Drop-clause-same
returns-in-Drop-clause-same g c = tt

pub spawn-requires : goal.spawn-requires
spawn-requires g c =
    let w = c.args.worker.now in
    let s = c.args.shared.now in
    let s1 = c.next_act.new.shared in
    let h = acted_at g.B.Body.left g.B.Scripted.runs g.B.Scripted.holds g.B.Scripted.spot g.B.Body.gives g.met.B.Scripted.plays c.args.task w s s1 c.in_ok-request.field-0 (Act.Spawn c.in-Spawn.body) c.in-Spawn.is c.requires.sound c.in_ok-request.ensures.acts c.requires.performs in
    let may = may_spawn g.B.Body.left g.B.Scripted.runs g.B.Scripted.holds g.B.Scripted.spot g.B.Body.gives g.B.Scripted.answered c.args.task c.in-Spawn.body w w s s1 s1 h c.requires.whole in
    record { there = may.there; absent = may.absent; workers = may.workers }

pub returns-in-Spawn-clause-steps : goal.returns-in-Spawn-clause-steps
returns-in-Spawn-clause-steps g c =
    let w = c.args.worker.now in
    let s = c.args.shared.now in
    let s1 = c.next_act.new.shared in
    let h = acted_at g.B.Body.left g.B.Scripted.runs g.B.Scripted.holds g.B.Scripted.spot g.B.Body.gives g.met.B.Scripted.plays c.args.task w s s1 c.in_ok-request.field-0 (Act.Spawn c.in-Spawn.body) c.in-Spawn.is c.requires.sound c.in_ok-request.ensures.acts c.requires.performs in
    ok_so c.spawn.result
    (λ e it. steps_nobody g.B.Body.left g.B.Scripted.runs g.B.Scripted.holds g.B.Scripted.spot c.args.nursery.now.born w c.spawn.new.worker s c.spawn.new.shared e c.requires.none_yet
    (spawned_by g.B.Body.left g.B.Scripted.runs g.B.Scripted.holds g.B.Scripted.spot g.B.Body.gives g.B.Scripted.answered c.args.task c.in-Spawn.body w c.spawn.new.worker s s1 c.spawn.new.shared h g.B.Body.name_of c.requires.whole g.met.B.Scripted.named e it)) c.spawn.ensures.made

pub returns-in-Spawn-clause-same : goal.returns-in-Spawn-clause-same
returns-in-Spawn-clause-same g c =
    let w = c.args.worker.now in
    let s = c.args.shared.now in
    let s1 = c.next_act.new.shared in
    let h = acted_at g.B.Body.left g.B.Scripted.runs g.B.Scripted.holds g.B.Scripted.spot g.B.Body.gives g.met.B.Scripted.plays c.args.task w s s1 c.in_ok-request.field-0 (Act.Spawn c.in-Spawn.body) c.in-Spawn.is c.requires.sound c.in_ok-request.ensures.acts c.requires.performs in
    on_err_weaker c.spawn.result (λ it. unspawned g.B.Body.left g.B.Scripted.runs g.B.Scripted.holds g.B.Scripted.spot g.B.Body.gives g.B.Scripted.answered c.args.task c.in-Spawn.body w c.spawn.new.worker s s1 c.spawn.new.shared h it) c.spawn.ensures.refused

pub dedicate-requires : goal.dedicate-requires
dedicate-requires g c = grind (arith, acted_at, acted_within, may_begin)

pub returns-in-Dedicated-clause-steps : goal.returns-in-Dedicated-clause-steps
returns-in-Dedicated-clause-steps g c =
    let w = c.args.worker.now in
    let s = c.args.shared.now in
    let s1 = c.next_act.new.shared in
    let h = acted_at g.B.Body.left g.B.Scripted.runs g.B.Scripted.holds g.B.Scripted.spot g.B.Body.gives g.met.B.Scripted.plays c.args.task w s s1 c.in_ok-request.field-0 (Act.Dedicated c.in-Dedicated.body) c.in-Dedicated.is c.requires.sound c.in_ok-request.ensures.acts c.requires.performs in
    ok_so c.dedicate.result (dedicated_by g.B.Body.left g.B.Scripted.runs g.B.Scripted.holds g.B.Scripted.spot g.B.Body.gives g.B.Scripted.answered c.args.task c.in-Dedicated.body w c.dedicate.new.worker s s1 c.dedicate.new.shared c.args.nursery.now c.dedicate.new.nursery h c.requires.whole c.requires.none_yet) c.dedicate.ensures.made

pub returns-in-Dedicated-clause-room : goal.returns-in-Dedicated-clause-room
returns-in-Dedicated-clause-room g c = grind arith

pub returns-in-Dedicated-clause-same : goal.returns-in-Dedicated-clause-same
returns-in-Dedicated-clause-same g c =
    let w = c.args.worker.now in
    let s = c.args.shared.now in
    let s1 = c.next_act.new.shared in
    let h = acted_at g.B.Body.left g.B.Scripted.runs g.B.Scripted.holds g.B.Scripted.spot g.B.Body.gives g.met.B.Scripted.plays c.args.task w s s1 c.in_ok-request.field-0 (Act.Dedicated c.in-Dedicated.body) c.in-Dedicated.is c.requires.sound c.in_ok-request.ensures.acts c.requires.performs in
    on_err_weaker c.dedicate.result (undedicated g.B.Body.left g.B.Scripted.runs g.B.Scripted.holds g.B.Scripted.spot g.B.Body.gives g.B.Scripted.answered c.args.task c.in-Dedicated.body w c.dedicate.new.worker s s1 c.dedicate.new.shared c.args.nursery.now c.dedicate.new.nursery h) c.dedicate.ensures.refused

pub returns-in-Dedicated-clause-nobody : goal.returns-in-Dedicated-clause-nobody
returns-in-Dedicated-clause-nobody g c = on_err_weaker c.dedicate.result (λ it. ap (λ (y : Nursery). y.born) it.nobody.nursery ∙ c.requires.none_yet) c.dedicate.ensures.refused

pub returns-in_err-request-clause-steps : goal.returns-in_err-request-clause-steps
returns-in_err-request-clause-steps g c = grind (arith, elements)

pub returns-in_err-request-clause-nobody : goal.returns-in_err-request-clause-nobody
returns-in_err-request-clause-nobody g c = grind (arith, elements)

pub returns-in-Register-clause-nobody : goal.returns-in-Register-clause-nobody
returns-in-Register-clause-nobody g c = grind (arith, elements)

pub returns-in-Sleep-clause-nobody : goal.returns-in-Sleep-clause-nobody
returns-in-Sleep-clause-nobody g c = grind (arith, elements)

pub returns-in-Spawn-clause-nobody : goal.returns-in-Spawn-clause-nobody
returns-in-Spawn-clause-nobody g c = grind (arith, elements)
