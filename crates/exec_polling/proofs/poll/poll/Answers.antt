use Rattle.std.proofs.{Common.{◌≡◌, Some, refl, slice_get, sym, ap, arith, inl, inr, ⊎_elim, ◌∙◌}, lemmas.Option.slice_get_within}
use Rattle.exec_task.specs.Phases.{runnable_of}
use Rattle.exec_moves.specs.declared.place.InPoll.{InPoll}
use Rattle.exec_parts.{specs.declared.parts.task_slot.TaskSlot.TaskSlot, proofs.Facts.same_Some}
use Rattle.exec_invariants.proofs.{FiringRemoved.removes_seen, Here.{IsHere, polled_here}, Pending.at_pend, Polling.{at_start, poll_begun}, TaskOverLets.lets_seen, TaskOverPolls.pending, GateJoins.{gate_joined, joiner, place_at}, Still.steps_none}
use Rattle.exec_polling.proofs.{Heads.spawn_head_loaded, PoolWithout.held_there, PoolRemoving.{removes_here, task_removed}, TaskPendEnds.{may_pend, poll_ends}}
use Rattle.exec_polling.proofs.poll.poll.Goals as goal

pub begin_poll-requires : goal.begin_poll-requires
begin_poll-requires g c =
    let it = at_start c.args.task c.args.worker.now c.args.shared.now (rw c.in-BeginPoll.is at c.requires.sound) in
    let is : (slot : TaskSlot g.row.B.Denot) → slice_get c.args.shared.now.tasks.items c.args.task ≡ Some slot → it.slot ≡ slot = λ slot found. same_Some it.slot slot (sym it.there ∙ found) in
    record {
      there = slice_get_within c.args.shared.now.tasks.items c.args.task it.slot it.there;
      hand = λ slot found. it.hand ∙ ap (λ (o : TaskSlot g.row.B.Denot). Some (runnable_of o.cell)) (is slot found);
    }

pub returns-in-BeginPoll-clause-steps : goal.returns-in-BeginPoll-clause-steps
returns-in-BeginPoll-clause-steps g c =
    let w = c.args.worker.now in
    let s = c.args.shared.now in
    let it = c.begin_poll in
    steps_none g.B.Body.left g.B.Scripted.runs g.B.Scripted.holds g.B.Scripted.spot c.args.nursery.now.born w it.new.worker s it.new.shared it.result c.requires.none_yet
    (poll_begun g.B.Body.left g.B.Scripted.spot c.args.task w it.new.worker s it.new.shared it.result (rw c.in-BeginPoll.is at c.requires.sound) it.ensures.event it.ensures.place it.ensures.worker it.ensures.task)

pub returns-in-Resume-clause-steps : goal.returns-in-Resume-clause-steps
returns-in-Resume-clause-steps g c =
    steps_none g.B.Body.left g.B.Scripted.runs g.B.Scripted.holds g.B.Scripted.spot c.args.nursery.now.born c.args.worker.now c.resume.new.worker c.args.shared.now c.resume.new.shared c.resume.result c.requires.none_yet
    c.resume.ensures.steps

pub returns-in-Act-clause-steps : goal.returns-in-Act-clause-steps
returns-in-Act-clause-steps g c = c.act.ensures.steps

pub returns-in-Act-clause-room : goal.returns-in-Act-clause-room
returns-in-Act-clause-room g c = c.act.ensures.room

pub returns-in-Act-clause-same : goal.returns-in-Act-clause-same
returns-in-Act-clause-same g c = c.act.ensures.same

pub returns-in-Act-clause-nobody : goal.returns-in-Act-clause-nobody
returns-in-Act-clause-nobody g c = c.act.ensures.nobody

pub load_spawn_head-requires : goal.load_spawn_head-requires
load_spawn_head-requires g c = record { there = slice_get_within c.args.shared.now.seats.items c.args.worker.now.index c.requires.sound.seated.seat c.requires.sound.seated.there }

pub returns-in-LoadSpawnHead-clause-steps : goal.returns-in-LoadSpawnHead-clause-steps
returns-in-LoadSpawnHead-clause-steps g c =
    let w = c.args.worker.now in
    let s = c.args.shared.now in
    let it = c.load_spawn_head in
    steps_none g.B.Body.left g.B.Scripted.runs g.B.Scripted.holds g.B.Scripted.spot c.args.nursery.now.born w it.new.worker s s it.result c.requires.none_yet
    (spawn_head_loaded g.B.Body.left g.B.Scripted.spot c.args.task w it.new.worker s it.result (rw c.in-LoadSpawnHead.is at c.requires.sound) it.ensures.makes it.ensures.goes)

pub pend-requires : goal.pend-requires
pend-requires g c =
    let sound = rw c.in-Pend.is at c.requires.sound in
    let here : IsHere InPoll.Pend c.args.task c.args.worker.now c.args.shared.now = polled_here InPoll.Pend c.args.task c.args.worker.now c.args.shared.now sound refl in
    record { may = may_pend g.B.Body.left g.B.Scripted.spot InPoll.Pend c.args.task c.args.worker.now c.args.shared.now sound (at_pend c.args.task) (pending c.args.task) here c.requires.whole lets_seen (removes_seen g.row.B.Denot) }

pub returns-in-Pend-clause-steps : goal.returns-in-Pend-clause-steps
returns-in-Pend-clause-steps g c =
    let w = c.args.worker.now in
    let s = c.args.shared.now in
    let it = c.pend in
    let sound = rw c.in-Pend.is at c.requires.sound in
    let here : IsHere InPoll.Pend c.args.task w s = polled_here InPoll.Pend c.args.task w s sound refl in
    steps_none g.B.Body.left g.B.Scripted.runs g.B.Scripted.holds g.B.Scripted.spot c.args.nursery.now.born w it.new.worker s it.new.shared it.result c.requires.none_yet
    (poll_ends g.B.Body.left g.B.Scripted.spot InPoll.Pend c.args.task w s sound (at_pend c.args.task) (pending c.args.task) here c.requires.whole lets_seen (removes_seen g.row.B.Denot) it.new.worker it.new.shared it.result it.ensures.event (λ p vs suits. refl) here.waits (sound.stops here.slot here.there) it.ensures.pends)

pub join_gate-requires : goal.join_gate-requires
join_gate-requires g c =
    let w = c.args.worker.now in
    let s = c.args.shared.now in
    let k = c.in-JoinGate.request in
    let sound = rw c.in-JoinGate.is at c.requires.sound in
    let it = joiner c.args.task k w s sound c.requires.whole in
    record { there = slice_get_within s.requests.items k it.r it.may.there; few = sound.role.few; made = place_at c.args.task k w s it }

pub returns-in-JoinGate-clause-steps : goal.returns-in-JoinGate-clause-steps
returns-in-JoinGate-clause-steps g c =
    let w = c.args.worker.now in
    let s = c.args.shared.now in
    let it = c.join_gate in
    steps_none g.B.Body.left g.B.Scripted.runs g.B.Scripted.holds g.B.Scripted.spot c.args.nursery.now.born w it.new.worker s it.new.shared it.result c.requires.none_yet
    (gate_joined g.B.Body.left g.B.Scripted.spot c.args.task c.in-JoinGate.request w it.new.worker s it.new.shared it.result (rw c.in-JoinGate.is at c.requires.sound) c.requires.whole it.ensures.event it.ensures.worker it.ensures.opens it.ensures.kept)

pub remove_task-requires-clause-held : goal.remove_task-requires-clause-held
remove_task-requires-clause-held g c =
    let w = c.args.worker.now in
    let s = c.args.shared.now in
    let sound = rw c.in-RemoveTask.is at c.requires.sound in
    ⊎_elim (λ shut. inl shut) (λ one. inr (held_there c.args.task s.set c.requires.whole.whole.pool.home one)) (removes_here c.args.task w s sound.here c.requires.whole).1

pub remove_task-requires-clause-number : goal.remove_task-requires-clause-number
remove_task-requires-clause-number g c =
    let w = c.args.worker.now in
    let s = c.args.shared.now in
    let sound = rw c.in-RemoveTask.is at c.requires.sound in
    let over = (removes_here c.args.task w s sound.here c.requires.whole).0 in
    omega (arith, slice_get_within s.tasks.items c.args.task over.slot over.there, sound.homes.few)

pub returns-in-RemoveTask-clause-steps : goal.returns-in-RemoveTask-clause-steps
returns-in-RemoveTask-clause-steps g c =
    let w = c.args.worker.now in
    let s = c.args.shared.now in
    let it = c.remove_task in
    steps_none g.B.Body.left g.B.Scripted.runs g.B.Scripted.holds g.B.Scripted.spot c.args.nursery.now.born w it.new.worker s (record s { set = it.new.set }) it.result c.requires.none_yet
    (task_removed g.B.Body.left g.B.Scripted.spot c.args.task w it.new.worker s it.new.set it.result (rw c.in-RemoveTask.is at c.requires.sound) c.requires.whole it.ensures.event it.ensures.goes it.ensures.set)
