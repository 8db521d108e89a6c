use Rattle.std.proofs.{Common.{Some, refl, sym, ap, ◌∙◌, arith}, lemmas.{Grind.elements, Option.{slice_get-get_or, slice_get_within}}}
use Rattle.exec_moves.specs.declared.place.InPoll.{InPoll}
use Rattle.exec_parts.{specs.declared.parts.task_slot.TaskSlot.TaskSlot, proofs.Facts.same_Some}
use Rattle.exec_invariants.{specs.Sound.may_resume, proofs.{Here.polled_here, TaskTakes.{never_resumes, wake_taken}}}
use Rattle.exec_polling.proofs.TaskKnows.{request_known, timer_known}
use Rattle.exec_polling.proofs.resuming.resume.Goals as goal

pub take_wake-requires : goal.take_wake-requires
take_wake-requires g c =
    let it = polled_here InPoll.Resume c.args.task c.args.worker.now c.args.shared.now c.requires.sound refl in
    record { there = slice_get_within c.args.shared.now.tasks.items c.args.task it.slot it.there }

pub returns-in-Woken : goal.returns-in-Woken
returns-in-Woken g c =
    let slot = c.index.result.now in
    let items = c.args.shared.now.tasks.items in
    let it = polled_here InPoll.Resume c.args.task c.args.worker.now c.args.shared.now c.requires.sound refl in
    let there = slice_get-get_or items c.args.task slot (slice_get_within items c.args.task it.slot it.there) ∙ ap (λ z. Some z) (sym c.index.ensures) in
    let is = c.take_wake.ensures in
    let waits = ap (λ (x : TaskSlot g.row.B.Denot). x.waiting) (same_Some it.slot slot (sym it.there ∙ there)) ∙ sym c.waiting.ensures ∙ c.in-Woken.is in
    record { steps = wake_taken g.B.Body.left g.B.Scripted.spot g.B.Scripted.answered c.args.task c.args.worker.now c.take_wake.new.worker c.args.shared.now c.take_wake.new.shared c.take_wake.result c.requires.sound it waits is.event is.worker is.task }

pub resume_timer-requires : goal.resume_timer-requires
resume_timer-requires g c =
    let slot = c.index.result.now in
    let items = c.args.shared.now.tasks.items in
    let it = polled_here InPoll.Resume c.args.task c.args.worker.now c.args.shared.now c.requires.sound refl in
    let there = slice_get-get_or items c.args.task slot (slice_get_within items c.args.task it.slot it.there) ∙ ap (λ z. Some z) (sym c.index.ensures) in
    let what = sym c.waiting.ensures ∙ c.in-Timer.is in
    record {
      sound = c.requires.sound;
      waits = λ o found. ap (λ (x : TaskSlot g.row.B.Denot). x.waiting) (same_Some o slot (sym found ∙ there)) ∙ what;
      whole = c.requires.whole;
      asleep = timer_known c.args.task c.in-Timer.timer c.args.worker.now c.args.shared.now slot c.requires.whole there what;
    }

pub returns-in-Timer : goal.returns-in-Timer
returns-in-Timer g c = record { steps = c.resume_timer.ensures.steps }

pub resume_request-requires : goal.resume_request-requires
resume_request-requires g c =
    let slot = c.index.result.now in
    let items = c.args.shared.now.tasks.items in
    let it = polled_here InPoll.Resume c.args.task c.args.worker.now c.args.shared.now c.requires.sound refl in
    let there = slice_get-get_or items c.args.task slot (slice_get_within items c.args.task it.slot it.there) ∙ ap (λ z. Some z) (sym c.index.ensures) in
    let what = sym c.waiting.ensures ∙ c.in-Request.is in
    record {
      sound = c.requires.sound;
      waits = λ o found. ap (λ (x : TaskSlot g.row.B.Denot). x.waiting) (same_Some o slot (sym found ∙ there)) ∙ what;
      whole = c.requires.whole;
      there = request_known c.args.task c.in-Request.request c.args.worker.now c.args.shared.now slot c.requires.whole there what;
    }

pub returns-in-Request : goal.returns-in-Request
returns-in-Request g c = record { steps = c.resume_request.ensures.steps }

pub unreachable-requires : goal.unreachable-requires
unreachable-requires g c =
    let slot = c.index.result.now in
    let items = c.args.shared.now.tasks.items in
    let it = polled_here InPoll.Resume c.args.task c.args.worker.now c.args.shared.now c.requires.sound refl in
    let there = slice_get-get_or items c.args.task slot (slice_get_within items c.args.task it.slot it.there) ∙ ap (λ z. Some z) (sym c.index.ensures) in
    let here = ap (λ (x : TaskSlot g.row.B.Denot). may_resume x.waiting) (same_Some slot it.slot (sym there ∙ it.there)) in
    never_resumes c.waiting.result (ap may_resume c.waiting.ensures ∙ here ∙ it.waits) c.in-Nothing.is

pub index-requires : goal.index-requires
index-requires g c = grind (arith, elements)
