use Rattle.std.proofs.Common.{◌≡◌, Some, None, sym, ap, ◌∙◌, refl, arith}
use Rattle.exec_driver.proofs.{Words.{is_some, is_durable, Asked, asked_of, hinted_of, wheel_of, waiter_at, file_of, file_in, gate_in, account_in, with_account, open_after}, Endings.one_changed, Reaping.{held_landed, held_requeued, room_to_queue, permit_of, goes_on_uncancelled, named_there, landed_of, requeue_tells, complete_tells, some_given, tells_nothing, kept_of_open, told_over, ended_over, tells_over}, Arriving.durable_gated, Granting.same_some, Stepping.permit_same, Windows.{asked_same, deadline_same, file_same}}
use Rattle.exec_request.specs.{Judging.judged_as, Requests.cursor_of, States.told_by}
use Rattle.exec_driver.proofs.driver.Driver.judge.Goals as goal

pub invariant_of-self-in-Complete : goal.invariant_of-self-in-Complete
invariant_of-self-in-Complete g c =
    let there = named_there c.self.inside.waiters c.args.completion.user_data c.given-given.result _ _ c.in_ok-id.id c.named.ensures c.in_ok-id.was c.may_give.ensures c.if-not-may_give.false in
    let over = c.on_completion-outcome.ensures.completes c.in_ok-id.id.0 there.w there.is there.at in
    rw (over.slab, c.reap-same.ensures.after) (held_landed _ c.in_ok-id.id there.w over.request c.args.completion _ _ _ _ there.at there.flies (deadline_same _ _ over.kept) (rw (← c.self.view_is) at c.requires.next) c.requires.operation c.self.invariant)

pub unreachable-requires : goal.unreachable-requires
unreachable-requires g c =
    let there = named_there c.self.inside.waiters c.args.completion.user_data c.given-given.result _ _ c.in_ok-id.id c.named.ensures c.in_ok-id.was c.may_give.ensures c.if-not-may_give.false in
    let over = c.on_completion-outcome.ensures.completes c.in_ok-id.id.0 there.w there.is there.at in
    let told = over.told_is in
    absurd (cc)

pub queue-requires : goal.queue-requires
queue-requires g c =
    let there = named_there c.self.inside.waiters c.args.completion.user_data c.given-given.result _ _ c.in_ok-id.id c.named.ensures c.in_ok-id.was c.may_give.ensures c.if-not-may_give.false in
    let over = c.on_completion-outcome.ensures.completes c.in_ok-id.id.0 there.w there.is there.at in
    let tells = requeue_tells c.in_ok-id.id.0 over.answer c.in-Requeue.id (same_some _ _ _ over.told_is c.in-Some.is ∙ c.in-Requeue.is) in
    let active = goes_on_uncancelled (asked_of there.w.request) (cursor_of there.w.request) (judged_as (hinted_of there.w.request) there.w.state c.given-given.result) (sym (rw tells.0 at over.judges.next)) in
    let permit = permit_same there.w over.request (asked_same _ _ over.kept) ∙ permit_of _ c.in_ok-id.id there.w there.at there.flies c.self.invariant.sound in
    record { room = room_to_queue _ c.in_ok-id.id there.w over.request _ _ _ there.at there.flies active permit c.self.invariant }

pub invariant_of-self-in-Requeue : goal.invariant_of-self-in-Requeue
invariant_of-self-in-Requeue g c =
    let there = named_there c.self.inside.waiters c.args.completion.user_data c.given-given.result _ _ c.in_ok-id.id c.named.ensures c.in_ok-id.was c.may_give.ensures c.if-not-may_give.false in
    let over = c.on_completion-outcome.ensures.completes c.in_ok-id.id.0 there.w there.is there.at in
    let tells = requeue_tells c.in_ok-id.id.0 over.answer c.in-Requeue.id (same_some _ _ _ over.told_is c.in-Some.is ∙ c.in-Requeue.is) in
    let active = goes_on_uncancelled (asked_of there.w.request) (cursor_of there.w.request) (judged_as (hinted_of there.w.request) there.w.state c.given-given.result) (sym (rw tells.0 at over.judges.next)) in
    let permit = permit_same there.w over.request (asked_same _ _ over.kept) ∙ permit_of _ c.in_ok-id.id there.w there.at there.flies c.self.invariant.sound in
    rw (over.slab, c.reap-same.ensures.after, c.queue.ensures, ← tells.1) (held_requeued _ c.in_ok-id.id there.w over.request c.args.completion _ _ _ _ there.at there.flies active permit (deadline_same _ _ over.kept) (rw (← c.self.view_is) at c.requires.next) c.requires.operation c.self.invariant)

pub end-requires-clause-idle : goal.end-requires-clause-idle
end-requires-clause-idle g c =
    let there = named_there c.self.inside.waiters c.args.completion.user_data c.given-given.result _ _ c.in_ok-id.id c.named.ensures c.in_ok-id.was c.may_give.ensures c.if-not-may_give.false in
    let over = c.on_completion-outcome.ensures.completes c.in_ok-id.id.0 there.w there.is there.at in
    let tells = complete_tells c.in_ok-id.id.0 over.answer c.in-Complete.id c.in-Complete.ended (same_some _ _ _ over.told_is c.in-Some.is ∙ c.in-Complete.is) in
    let one = one_changed c.self.inside.waiters c.in_ok-id.id.0 there.w (landed_of there.w over.request) there.at in
    rw (← tells.1, over.slab, one.is_at) refl

pub returns-in-Requeue-clause-reaps : goal.returns-in-Requeue-clause-reaps
returns-in-Requeue-clause-reaps g c =
    let there = named_there c.self.inside.waiters c.args.completion.user_data c.given-given.result _ _ c.in_ok-id.id c.named.ensures c.in_ok-id.was c.may_give.ensures c.if-not-may_give.false in
    let over = c.on_completion-outcome.ensures.completes c.in_ok-id.id.0 there.w there.is there.at in
    let tells = requeue_tells c.in_ok-id.id.0 over.answer c.in-Requeue.id (same_some _ _ _ over.told_is c.in-Some.is ∙ c.in-Requeue.is) in
    rw (← c.self.view_is) (λ id w done at.
    let same-id : c.in_ok-id.id.0 ≡ id = same_some _ _ _ (some_given c.self.inside.waiters c.args.completion c.in_ok-id.id.0 _ there c.given-given.ensures) done in
    let here : waiter_at c.self.inside.waiters c.in_ok-id.id.0 ≡ Some w = rw same-id at in
    let same : there.w ≡ w = same_some _ _ _ there.at here in
    let file : c.open_of-file.result ≡ file_of there.w.request = c.open_of-file.ensures ∙ ap file_in there.at in
    rw (← same-id, ← same, ← c.given-given.ensures) (record {
      request = over.request;
      answer = None;
      told_is = rw tells.1 refl;
      driver = rw (over.slab, c.reap-same.ensures.after, c.queue.ensures, ← tells.1) refl;
      judges = rw tells.0 at over.judges;
      kept = over.kept;
      tells = tells_nothing _;
      opens_after = rw (c.set_account.ensures, over.account, c.account-before.ensures, file) refl;
    }))

pub returns-in-Complete-clause-reaps : goal.returns-in-Complete-clause-reaps
returns-in-Complete-clause-reaps g c =
    let there = named_there c.self.inside.waiters c.args.completion.user_data c.given-given.result _ _ c.in_ok-id.id c.named.ensures c.in_ok-id.was c.may_give.ensures c.if-not-may_give.false in
    let over = c.on_completion-outcome.ensures.completes c.in_ok-id.id.0 there.w there.is there.at in
    let tells = complete_tells c.in_ok-id.id.0 over.answer c.in-Complete.id c.in-Complete.ended (same_some _ _ _ over.told_is c.in-Some.is ∙ c.in-Complete.is) in
    let one = one_changed c.self.inside.waiters c.in_ok-id.id.0 there.w (landed_of there.w over.request) there.at in
    let now : waiter_at c.on_completion-outcome.new.self c.in-Complete.id.0 ≡ Some (landed_of there.w over.request) = rw (← tells.1, over.slab) one.is_at in
    let file : c.open_of-file.result ≡ file_of there.w.request = c.open_of-file.ensures ∙ ap file_in there.at in
    let opens-are : c.set_account.new.self ≡ with_account c.args.opens.now (file_of there.w.request) (open_after there.w c.given-given.result (account_in c.args.opens.now (file_of there.w.request))) = rw (c.set_account.ensures, over.account, c.account-before.ensures, file) refl in
    let permit = c.durability-permit.ensures ∙ ap gate_in now in
    let kind : is_durable (asked_of there.w.request).kind ≡ is_some c.durability-permit.result = ap (λ (a : Asked). is_durable a.kind) (sym (asked_same _ _ over.kept)) ∙ durable_gated over.request ∙ ap is_some (sym permit) in
    let told = c.told.ensures (asked_of there.w.request).kind kind ∙ ap (told_by (asked_of there.w.request).kind c.in-Complete.ended) (c.account-before.ensures ∙ ap (account_in c.args.opens.now) file) in
    let same-file = file_same there.w.request over.request over.kept in
    let account : account_in c.set_account.new.self (file_of over.request) ≡ open_after there.w c.given-given.result (account_in c.args.opens.now (file_of there.w.request)) = rw (same-file, opens-are) (kept_of_open there.w c.given-given.result c.args.opens.now (file_of there.w.request)) in
    rw (← c.self.view_is) (λ id w done at.
    let same-id : c.in_ok-id.id.0 ≡ id = same_some _ _ _ (some_given c.self.inside.waiters c.args.completion c.in_ok-id.id.0 _ there c.given-given.ensures) done in
    let here : waiter_at c.self.inside.waiters c.in_ok-id.id.0 ≡ Some w = rw same-id at in
    let same : there.w ≡ w = same_some _ _ _ there.at here in
    rw (← same-id, ← same, ← c.given-given.ensures) (record {
      request = over.request;
      answer = Some c.in-Complete.ended;
      told_is = told_over _ _ _ _ _ _ _ tells.1 told permit;
      driver = ended_over (record { requests = c.self.inside.waiters; wheel = wheel_of c.self.inside.wheel; ring = g.R.Ring.state c.self.inside.ring; landings = g.R.Ring.landings c.self.inside.ring; lists = c.self.inside.lists; cancels_under_way = c.self.inside.cancels_under_way; armed = c.self.inside.armed }) _ _ _ _ (landed_of there.w over.request) _ _ _ tells.1 (c.end.ensures.ended (landed_of there.w over.request) now) (rw (over.slab, c.reap-same.ensures.after) refl) account;
      judges = rw tells.0 at over.judges;
      kept = over.kept;
      tells = tells_over _ _ _ _ (landed_of there.w over.request) _ _ _ tells.1 account (c.end.ensures.told (landed_of there.w over.request) now);
      opens_after = rw (← opens-are) (c.end.ensures.opens (landed_of there.w over.request) now);
    }))

pub returns-in-Complete-clause-none : goal.returns-in-Complete-clause-none
returns-in-Complete-clause-none g c = grind arith
