use Rattle.std.proofs.{Common.{◌≡◌, ◌++◌, true, None, IsSome, Result, OnOk, is_ok, refl, sym, ap, ◌∙◌, arith, option_to_list, slice_set}, lemmas.{List.append-nil, Result.on_err_weaker}}
use Rattle.exec_parts.specs.declared.parts.nursery.Nursery.{Nursery}
use Rattle.exec_core.proofs.Taking.{none_by, work_steps, was_read, whole_there}
use Rattle.exec_core.proofs.executor.Core.work.Goals as goal

when_ok : {A E P : Type 0} (r : Result A E) → is_ok r ≡ true → OnOk r P → P
when_ok = grind arith

pub step-stepped-requires-clause-sound : goal.step-stepped-requires-clause-sound
step-stepped-requires-clause-sound g c = (c.requires.ready.1.stands.together.sound c.args.worker c.index_mut.result.now (was_read c.args.self.now c.args.worker c.reserve.new.self.items c.index_mut.result.now c.requires.ready.1.stands c.requires.enabled c.reserve.ensures.items c.index_mut.ensures.value)).1

pub step-stepped-requires-clause-whole : goal.step-stepped-requires-clause-whole
step-stepped-requires-clause-whole g c = whole_there c.args.self.now c.args.worker c.index_mut.result.now c.requires.ready.1.stands (was_read c.args.self.now c.args.worker c.reserve.new.self.items c.index_mut.result.now c.requires.ready.1.stands c.requires.enabled c.reserve.ensures.items c.index_mut.ensures.value)

pub push_reserved-requires : goal.push_reserved-requires
push_reserved-requires g c =
    let some : IsSome c.step-stepped.new.nursery.born = rw c.in-Some.is refl in
    let had : is_ok c.reserve.result ≡ true = sym c.is_ok.ensures.value ∙ sym (ap (λ (n : Nursery). n.has_room) c.new-nursery.ensures) ∙ c.step-stepped.ensures.room some in
    let room = when_ok c.reserve.result had c.reserve.ensures.ok in
    omega (arith, room)

pub returns-in-Some-clause-steps : goal.returns-in-Some-clause-steps
returns-in-Some-clause-steps g c =
    let ready = c.requires.ready.1 in
    let there = was_read c.args.self.now c.args.worker c.reserve.new.self.items c.index_mut.result.now ready.stands c.requires.enabled c.reserve.ensures.items c.index_mut.ensures.value in
    let workers = c.push_reserved.ensures.items ∙ (λ k. slice_set (c.reserve.ensures.items k) c.args.worker c.step-stepped.new.worker ++ option_to_list (sym c.in-Some.is k)) in
    work_steps g.B.Body.left g.B.Scripted.runs g.B.Scripted.holds g.B.Scripted.spot c.args.worker c.args.self.now _ c.index_mut.result.now c.step-stepped.new.worker c.step-stepped.new.nursery.born c.step-stepped.result there workers refl c.is_err-self.ensures.value ready.unspent c.step-stepped.ensures.steps

pub returns-in_default-clause-steps : goal.returns-in_default-clause-steps
returns-in_default-clause-steps g c =
    let ready = c.requires.ready.1 in
    let there = was_read c.args.self.now c.args.worker c.reserve.new.self.items c.index_mut.result.now ready.stands c.requires.enabled c.reserve.ensures.items c.index_mut.ensures.value in
    let none : c.step-stepped.new.nursery.born ≡ None = none_by c.step-stepped.new.nursery.born c.in_default.not-Some in
    let workers = ap (λ xs. slice_set xs c.args.worker c.step-stepped.new.worker) c.reserve.ensures.items ∙ sym (append-nil (slice_set c.args.self.now.workers.items c.args.worker c.step-stepped.new.worker))
    ∙ ap (λ o. slice_set c.args.self.now.workers.items c.args.worker c.step-stepped.new.worker ++ option_to_list o) (sym none) in
    work_steps g.B.Body.left g.B.Scripted.runs g.B.Scripted.holds g.B.Scripted.spot c.args.worker c.args.self.now _ c.index_mut.result.now c.step-stepped.new.worker c.step-stepped.new.nursery.born c.step-stepped.result there workers refl c.is_err-self.ensures.value ready.unspent c.step-stepped.ensures.steps

pub returns-in_default-clause-stays : goal.returns-in_default-clause-stays
returns-in_default-clause-stays g c =
    let stands = c.requires.ready.1.stands in
    let there = was_read c.args.self.now c.args.worker c.reserve.new.self.items c.index_mut.result.now stands c.requires.enabled c.reserve.ensures.items c.index_mut.ensures.value in
    on_err_weaker c.step-stepped.result (λ same. record { before = c.index_mut.result.now; after = c.step-stepped.new.worker; was = there; workers = ap (λ xs. slice_set xs c.args.worker c.step-stepped.new.worker) c.reserve.ensures.items; callers = refl; same = same }) c.step-stepped.ensures.same
