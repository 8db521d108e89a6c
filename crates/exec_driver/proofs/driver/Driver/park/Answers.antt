use Rattle.std.proofs.{Common.{sym, ◌∙◌, rules, arith}, lemmas.Bool.false≢true}
use Rattle.exec_driver.{specs.Driving.seen, proofs.{Keeping.way_punctual, Turns.{wait_pending, wait_calm, way_may}, Service.{waited, waits_by, waits_so, busy_found, pending_refused, may_after, signal_left, signal_out, may_pending, may_poll}}}
use Rattle.exec_driver.proofs.driver.Driver.park.Goals as goal

pub returns-then-has_pending_submissions-clause-answer : goal.returns-then-has_pending_submissions-clause-answer
returns-then-has_pending_submissions-clause-answer g c =
    wait_pending (seen c.args.self.now) (seen c.make_way.new.self) _ c.make_way.ensures (sym c.has_pending_submissions.ensures ∙ (search rules))

pub returns-clause-answer : goal.returns-clause-answer
returns-clause-answer g c =
    let found = busy_found (seen c.args.self.now) (seen c.make_way.new.self) (seen c.stage_wake_poll.new.self) c.make_way.ensures c.stage_wake_poll.ensures.staged in
    wait_calm (seen c.args.self.now) (seen c.make_way.new.self) _ _ c.make_way.ensures (sym c.has_pending_submissions.ensures ∙ (search rules)) (sym c.stage_wake_poll.ensures.answer ∙ (search rules)) (waits_by _ _ _ _ _ c.enter_armed-waits.ensures.answer c.arm-calm.ensures.calm found)

pub returns-clause-entered : goal.returns-clause-entered
returns-clause-entered g c = λ yes.
    let both = waits_so _ _ _ c.enter_armed-waits.ensures.answer yes in
    c.enter_armed-waits.ensures.entered both.0 both.1

pub returns-then-has_pending_submissions-clause-punctual : goal.returns-then-has_pending_submissions-clause-punctual
returns-then-has_pending_submissions-clause-punctual g c = way_punctual _ _ c.make_way.ensures

pub returns-clause-punctual : goal.returns-clause-punctual
returns-clause-punctual g c = λ p. c.enter_armed-waits.ensures.going.punctual (c.stage_wake_poll.ensures.punctual (way_punctual _ _ c.make_way.ensures p))

pub returns-then-has_pending_submissions-clause-parks : goal.returns-then-has_pending_submissions-clause-parks
returns-then-has_pending_submissions-clause-parks g c =
    pending_refused _ (seen c.args.self.now) (seen c.make_way.new.self) c.sound.ensures.says c.make_way.ensures (sym c.has_pending_submissions.ensures ∙ (search rules)) c.sound-2.ensures.says

pub returns-then-not-stage_wake_poll-clause-parks : goal.returns-then-not-stage_wake_poll-clause-parks
returns-then-not-stage_wake_poll-clause-parks g c = grind arith

pub returns-clause-parks : goal.returns-clause-parks
returns-clause-parks g c =
    waited _ _ (seen c.make_way.new.self) (seen c.stage_wake_poll.new.self) _ c.sound.ensures.says c.make_way.ensures c.sound-2.ensures.says (sym c.has_pending_submissions.ensures ∙ (search rules)) (sym c.stage_wake_poll.ensures.answer ∙ (search rules)) c.stage_wake_poll.ensures.staged c.sound-3.ensures.says (rw c.arm-calm.ensures.calm at c.enter_armed-waits.ensures.works) c.sound-4.ensures.says

pub returns-clause-untouched : goal.returns-clause-untouched
returns-clause-untouched g c = λ refused.
    absurd (false≢true (sym refused ∙ may_after (seen c.args.self.now) (seen c.make_way.new.self) c.make_way.ensures (sym c.has_pending_submissions.ensures ∙ (search rules)) (sym c.stage_wake_poll.ensures.answer ∙ (search rules))))

pub returns-then-has_pending_submissions-clause-signal : goal.returns-then-has_pending_submissions-clause-signal
returns-then-has_pending_submissions-clause-signal g c =
    signal_left _ _ (way_may (seen c.args.self.now) (seen c.make_way.new.self) c.make_way.ensures ∙ may_pending _ _ (sym c.has_pending_submissions.ensures ∙ (search rules)))

pub returns-then-not-stage_wake_poll-clause-signal : goal.returns-then-not-stage_wake_poll-clause-signal
returns-then-not-stage_wake_poll-clause-signal g c =
    signal_left _ _ (way_may (seen c.args.self.now) (seen c.make_way.new.self) c.make_way.ensures ∙ may_poll _ _ (sym c.stage_wake_poll.ensures.answer ∙ (search rules)))

pub returns-clause-signal : goal.returns-clause-signal
returns-clause-signal g c =
    let may = may_after (seen c.args.self.now) (seen c.make_way.new.self) c.make_way.ensures (sym c.has_pending_submissions.ensures ∙ (search rules)) (sym c.stage_wake_poll.ensures.answer ∙ (search rules)) in
    signal_out _ _ _ _ _ _ _ _ may c.arm-calm.ensures.calm c.arm-calm.ensures.signal c.enter_armed-waits.ensures.answer c.disarm_unless.ensures.signal
