use Rattle.std.proofs.Common.{◌≡◌, true, sym, ◌∙◌, rules, arith}
use Rattle.exec_driver.{specs.{Driving.seen, Service.{NoStep, OneMore, Enter, Busy}}, proofs.{Entering.{taken_answer, busy_answer}, Serving.{goes_itself, goes_both, goes_by, done_itself, done_both}, Turns.{enter_any, filled_less, not_full}, Service.repeats_both}}
use Rattle.exec_driver.proofs.driver.Driver.stage_all.Goals as goal

pub queues-init : goal.queues-init
queues-init g c = (goes_itself _, done_itself _, NoStep)

pub queues-smaller : goal.queues-smaller
queues-smaller g c =
    let e = enter_any (seen c.stage_some.new.self) (seen c.enter-entered.new.self) c.enter-entered.ensures.entered in
    let free = taken_answer (seen c.stage_some.new.self).ring _ (sym c.enter-entered.ensures.answer ∙ c.in-Taken.is) in
    let size = e.1.size ∙ c.stage_some.ensures.going.size ∙ c.queues.invariant.0.size in
    let some = c.requires.ring in
    filled_less (seen c.queues.self) (seen c.stage_some.new.self) (seen c.enter-entered.new.self) c.stage_some.ensures.less (c.stage_some.ensures.some (search rules)) e.0.no_more (not_full (seen c.enter-entered.new.self) (omega (arith, size, some)) (e.1.taken free))

pub queues-preserved : goal.queues-preserved
queues-preserved g c =
    let e = enter_any (seen c.stage_some.new.self) (seen c.enter-entered.new.self) c.enter-entered.ensures.entered in
    let filled : c.stage_some.result ≡ true = search rules in
    let free = taken_answer (seen c.stage_some.new.self).ring _ (sym c.enter-entered.ensures.answer ∙ c.in-Taken.is) in (
      goes_both _ _ _ c.queues.invariant.0 (goes_both _ _ _ c.stage_some.ensures.going (goes_by _ _ e.0.eases.keeps)),
      done_both _ _ _ c.queues.invariant.1 (done_both _ _ _ c.stage_some.ensures.done e.0.eases.done),
      OneMore _ _ (repeats_both _ _ _ _ c.queues.invariant.2 c.stage_some.ensures.stages) (Enter (c.stage_some.ensures.full filled) (c.stage_some.ensures.left filled) free c.enter-entered.ensures.entered, c.sound.ensures.says),
    )

pub returns-in-Busy-clause-stages : goal.returns-in-Busy-clause-stages
returns-in-Busy-clause-stages g c =
    let filled : c.stage_some.result ≡ true = search rules in
    let busy = busy_answer (seen c.stage_some.new.self).ring (sym c.enter-entered.ensures.answer ∙ c.in-Busy.is) in
    Busy _ c.sound.ensures.says (repeats_both _ _ _ _ c.queues.invariant.2 c.stage_some.ensures.stages) (c.stage_some.ensures.full filled) (c.stage_some.ensures.left filled) busy c.enter-entered.ensures.entered

pub returns-clause-stages : goal.returns-clause-stages
returns-clause-stages g c = grind (arith, repeats_both)
