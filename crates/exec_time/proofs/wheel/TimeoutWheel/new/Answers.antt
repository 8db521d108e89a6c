use Rattle.std.proofs.Common.{arith}
use Rattle.exec_time.{specs.WheelView.wheel_of, proofs.{Ranges.active_nowhere, Sizes.{some_slots, some_tick}, Turns.fresh_is}}
use Rattle.exec_time.proofs.wheel.TimeoutWheel.new.Goals as goal

pub invariant_of-result-clause-turns : goal.invariant_of-result-clause-turns
invariant_of-result-clause-turns c = some_tick c.args.horizon c.args.tick _ c.in-Ok.ensures

pub invariant_of-result-clause-has_slots : goal.invariant_of-result-clause-has_slots
invariant_of-result-clause-has_slots c = some_slots c.args.horizon c.args.tick _ c.in-Ok.ensures

pub invariant_of-result-clause-in_span : goal.invariant_of-result-clause-in_span
invariant_of-result-clause-in_span c = rw c.new-2.ensures.items (λ t active. absurd (omega (arith, active_nowhere t)))

pub invariant_of-result-clause-in_time : goal.invariant_of-result-clause-in_time
invariant_of-result-clause-in_time c = rw c.new-2.ensures.items (λ t active. absurd (omega (arith, active_nowhere t)))

pub returns : goal.returns
unfolding wheel_of
returns c = rw (c.in-Ok.ensures, c.new.ensures.items, c.new-2.ensures.items, c.new-3.ensures.items) (fresh_is c.args.horizon c.args.tick c.args.start c.in-Ok.slots)
