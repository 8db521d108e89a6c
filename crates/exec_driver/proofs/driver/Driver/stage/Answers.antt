use Rattle.std.proofs.Common.{◌≡◌, Some, sym, ap, ◌∙◌, refl, arith}
use Rattle.exec_driver.{proofs.{Words.{waiter_at, file_of, file_in, account_in, request_at, is_queued, first_of}, Stepping.{first_there, held_staged, place_for_request, permit_same, relanded}, Windows.{has_its_own, asked_same, deadline_same}, Serving.keeps_punctual, Turns.stage_serves}, specs.Driving.seen}
use Rattle.exec_driver.proofs.driver.Driver.stage.Goals as goal

pub stage-requires-clause-place : goal.stage-requires-clause-place
stage-requires-clause-place g c =
    let first = sym c.next_queued.ensures.first ∙ c.in_ok-id.was in
    let there = first_there is_queued refl c.self.inside.waiters c.self.inside.lists.queued c.in_ok-id.id first c.self.invariant.sound.queued in
    place_for_request _ c.in_ok-id.id there.0 there.1 first c.self.invariant.sound

pub stage-requires-clause-own : goal.stage-requires-clause-own
stage-requires-clause-own g c =
    let first = sym c.next_queued.ensures.first ∙ c.in_ok-id.was in
    let there = first_there is_queued refl c.self.inside.waiters c.self.inside.lists.queued c.in_ok-id.id first c.self.invariant.sound.queued in
    let staged = c.stage-submission.ensures.staged there.0 there.1 in
    rw staged.window (has_its_own _ there.0.request _ c.stage-submission.ensures.own)

pub invariant_of-self-2 : goal.invariant_of-self-2
invariant_of-self-2 g c =
    let first = sym c.next_queued.ensures.first ∙ c.in_ok-id.was in
    let there = first_there is_queued refl c.self.inside.waiters c.self.inside.lists.queued c.in_ok-id.id first c.self.invariant.sound.queued in
    let staged = c.stage-submission.ensures.staged there.0 there.1 in
    rw (staged.slab, c.stage.ensures, c.next_queued.ensures.rest) (relanded _ _ _ _ _ (held_staged _ c.in_ok-id.id there.0 staged.request c.stage-submission.result _ _ _ there.1 first (rw (← c.self.view_is) at c.requires.enrolled) (permit_same there.0 staged.request (asked_same _ _ staged.kept)) (deadline_same _ _ staged.kept) c.self.invariant))

pub returns-clause-staged : goal.returns-clause-staged
returns-clause-staged g c = λ w is.
    let at : waiter_at c.self.inside.waiters c.in_ok-id.id.0 ≡ Some w = rw (← c.self.view_is) at is in
    let staged = c.stage-submission.ensures.staged w at in
    let same : c.account-account.result ≡ account_in c.args.opens.now (file_of w.request) = c.account-account.ensures ∙ ap (account_in c.args.opens.now) (c.open_of.ensures ∙ ap file_in at) in
    grind arith

pub returns-clause-punctual : goal.returns-clause-punctual
returns-clause-punctual g c =
    let first = sym c.next_queued.ensures.first ∙ c.in_ok-id.was in
    let there = first_there is_queued refl c.self.inside.waiters c.self.inside.lists.queued c.in_ok-id.id first c.self.invariant.sound.queued in
    let at : request_at (seen c.args.self.now) c.in_ok-id.id ≡ Some there.0 = rw (← c.self.view_is) there.1 in
    let queued : first_of (seen c.args.self.now).lists.queued ≡ Some c.in_ok-id.id = rw (← c.self.view_is) first in
    keeps_punctual _ _ (stage_serves (seen c.args.self.now) _ c.in_ok-id.id there.0 _ at queued (returns-clause-staged g c there.0 at)).0.eases.keeps
