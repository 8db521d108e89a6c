use Rattle.std.proofs.Common.{◌≡◌, true, sym, ◌∙◌, rules}
use Rattle.exec_driver.{proofs.{Punctual.{settled, enrol_serves}, Serving.{serves_itself, serves_both}, Service.enrols_one}, specs.Service.{NoStep, OneMore}}
use Rattle.exec_driver.proofs.driver.Driver.enrol_all.Goals as goal

pub enrolments-init : goal.enrolments-init
enrolments-init g c = (serves_itself _ _, c.requires.told, NoStep)

pub enrol-requires-clause-settled : goal.enrol-requires-clause-settled
enrol-requires-clause-settled g c = settled _ c.sound.ensures.sound.ticks (c.enrolments.invariant.0.going.punctual c.requires.punctual) c.enrolments.invariant.1

pub enrolments-smaller : goal.enrolments-smaller
enrolments-smaller g c =
    (enrol_serves _ _ c.enrol.result _ _ _ c.sound.ensures.slots c.sound.ensures.reach c.sound.ensures.sound (sym c.has_enrolments.ensures ∙ (search rules)) c.enrol.ensures.first c.enrol.ensures.none c.enrol.ensures.enrolled).fewer

pub enrolments-preserved : goal.enrolments-preserved
enrolments-preserved g c =
    let is : c.has_enrolments.result ≡ true = search rules in
    let one = enrol_serves _ _ c.enrol.result _ _ _ c.sound.ensures.slots c.sound.ensures.reach c.sound.ensures.sound (sym c.has_enrolments.ensures ∙ is) c.enrol.ensures.first c.enrol.ensures.none c.enrol.ensures.enrolled in
    (serves_both _ _ _ _ _ _ c.enrolments.invariant.0 one.serves, one.due c.enrolments.invariant.1, OneMore _ _ c.enrolments.invariant.2 (enrols_one _ _ _ _ _ c.enrol.result c.sound-in-enrolments.ensures.says (sym c.has_enrolments.ensures ∙ is) c.enrol.ensures.first c.enrol.ensures.none c.enrol.ensures.enrolled))
