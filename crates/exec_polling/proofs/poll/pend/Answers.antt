use Rattle.std.{proofs.{Common.{◌≡◌, ℕ, refl, sym, ap, ◌∙◌, slice_set}, lemmas.Bool.false≢true}, specs.Vec.with_item}
use Rattle.exec_task.specs.declared.runnable.{AfterPoll.AfterPoll, Runnable.Runnable}
use Rattle.exec_parts.{specs.{Phased.is_complete, Polls.pended_slot, Pooled.queued_again, Tests.after_poll_of, Things.TurnsSlot, declared.parts.{shared.Shared.Shared, task_slot.TaskSlot.TaskSlot, worker.Worker.Worker}}, proofs.{Facts.same_Some, MailLets.found_at}}
use Rattle.exec_polling.proofs.poll.pend.Goals as goal

not_again : (t : ℕ) (a : AfterPoll) (w : Worker) → ((r : Runnable) → a ≡ AfterPoll.Requeue r → ⊥) → queued_again t a w ≡ w
not_again t AfterPoll.Done w never = refl
not_again t (AfterPoll.Requeue r) w never = absurd (never r refl)
not_again t (AfterPoll.Retire n how) w never = refl

pub let_go_of-requires : goal.let_go_of-requires
let_go_of-requires g c =
    let s = c.args.shared.now in
    let t = c.args.task in
    let o = c.index_mut-slot.result.now in
    let there = found_at s.tasks.items t o c.requires.may.there c.index_mut-slot.ensures.value in
    let mid : Shared g.row.B.Denot = record s { tasks = with_item s.tasks t c.pend-after.new.self } in
    let is : TurnsSlot {B = g.row.B.Denot} t s mid pended_slot = record { kept = refl; tasks = λ slot found. ap (slice_set s.tasks.items t) (c.pend-after.ensures.pended ∙ ap (λ (x : TaskSlot g.row.B.Denot). pended_slot x) (same_Some o slot (sym there ∙ found))) } in
    record { may = c.requires.may.lets o there (ap (λ (x : TaskSlot g.row.B.Denot). is_complete x.cell.phase) (sym c.pend-after.ensures.pended) ∙ sym c.is_over.ensures ∙ c.if-is_over.true) mid is }

pub returns-then-is_over-clause-pends : goal.returns-then-is_over-clause-pends
returns-then-is_over-clause-pends g c =
    let s = c.args.shared.now in
    let t = c.args.task in
    let o = c.index_mut-slot.result.now in
    let there = found_at s.tasks.items t o c.requires.may.there c.index_mut-slot.ensures.value in
    let pended = ap (λ (x : TaskSlot g.row.B.Denot). is_complete x.cell.phase) c.pend-after.ensures.pended in
    let over = sym c.is_over.ensures ∙ c.if-is_over.true in
    record {
      slot = o;
      there = there;
      mid = record s { tasks = with_item s.tasks t c.pend-after.new.self };
      pended_is = record { kept = refl; tasks = λ slot found. ap (slice_set s.tasks.items t) (c.pend-after.ensures.pended ∙ ap (λ (x : TaskSlot g.row.B.Denot). pended_slot x) (same_Some o slot (sym there ∙ found))) };
      v = c.let_go_of.new.self;
      over = λ h. (c.let_go_of.ensures.lets, ap (λ p. record c.let_go_of.new.self { place = p }) c.after_cancels-worker.ensures);
      still = λ h. absurd (false≢true (sym h ∙ sym pended ∙ over));
    }

pub returns-in-Requeue-clause-pends : goal.returns-in-Requeue-clause-pends
returns-in-Requeue-clause-pends g c =
    let w = c.args.worker.now in
    let s = c.args.shared.now in
    let t = c.args.task in
    let o = c.index_mut-slot.result.now in
    let there = found_at s.tasks.items t o c.requires.may.there c.index_mut-slot.ensures.value in
    let pended = ap (λ (x : TaskSlot g.row.B.Denot). is_complete x.cell.phase) c.pend-after.ensures.pended in
    let going = sym c.is_over.ensures ∙ c.if-is_over.false in
    record {
      slot = o;
      there = there;
      mid = record s { tasks = with_item s.tasks t c.pend-after.new.self };
      pended_is = record { kept = refl; tasks = λ slot found. ap (slice_set s.tasks.items t) (c.pend-after.ensures.pended ∙ ap (λ (x : TaskSlot g.row.B.Denot). pended_slot x) (same_Some o slot (sym there ∙ found))) };
      v = w;
      over = λ h. absurd (false≢true (sym going ∙ pended ∙ h));
      still = λ h. (
        c.queue_again.ensures ∙ ap (λ p. queued_again t (AfterPoll.Requeue c.in-Requeue.runnable) (record w { place = p })) c.after_poll-worker.ensures
            ∙ ap (λ a. queued_again t a (record w { place = after_poll_of t w })) (sym c.in-Requeue.is ∙ c.pend-after.ensures.answer),
        refl,
      );
    }

pub returns-in_default : goal.returns-in_default
returns-in_default g c =
    let w = c.args.worker.now in
    let s = c.args.shared.now in
    let t = c.args.task in
    let o = c.index_mut-slot.result.now in
    let there = found_at s.tasks.items t o c.requires.may.there c.index_mut-slot.ensures.value in
    let pended = ap (λ (x : TaskSlot g.row.B.Denot). is_complete x.cell.phase) c.pend-after.ensures.pended in
    let going = sym c.is_over.ensures ∙ c.if-is_over.false in
    record {
      event = refl;
      pends = record {
        slot = o;
        there = there;
        mid = record s { tasks = with_item s.tasks t c.pend-after.new.self };
        pended_is = record { kept = refl; tasks = λ slot found. ap (slice_set s.tasks.items t) (c.pend-after.ensures.pended ∙ ap (λ (x : TaskSlot g.row.B.Denot). pended_slot x) (same_Some o slot (sym there ∙ found))) };
        v = w;
        over = λ h. absurd (false≢true (sym going ∙ pended ∙ h));
        still = λ h. (
          ap (λ p. record w { place = p }) c.after_poll-worker.ensures
              ∙ sym (not_again t c.pend-after.result (record w { place = after_poll_of t w }) c.in_default.not-Requeue)
              ∙ ap (λ a. queued_again t a (record w { place = after_poll_of t w })) c.pend-after.ensures.answer,
          refl,
        );
      };
    }
