use Rattle.std.proofs.Common.{◌≡◌, true, sym, ◌∙◌, rules}
use Rattle.exec_driver.{proofs.{Serving.{serves_itself, serves_both}, Turns.expire_serves, Service.expires_one}, specs.Service.{NoStep, OneMore}}
use Rattle.exec_driver.proofs.driver.Driver.expire_all.Goals as goal

pub due-init : goal.due-init
due-init g c = (serves_itself _ _, NoStep)

pub due-smaller : goal.due-smaller
due-smaller g c =
    (expire_serves _ _ c.expire.result _ _ c.sound.ensures.sound (sym c.has_due.ensures ∙ (search rules)) c.expire.ensures.first c.expire.ensures.expired c.expire.ensures.told).fewer

pub due-preserved : goal.due-preserved
due-preserved g c =
    let is : c.has_due.result ≡ true = search rules in
    let some = sym c.has_due.ensures ∙ is in (
      serves_both _ _ _ _ _ _ c.due.invariant.0 (expire_serves _ _ c.expire.result _ _ c.sound.ensures.sound some c.expire.ensures.first c.expire.ensures.expired c.expire.ensures.told).serves,
      OneMore _ _ c.due.invariant.1 (expires_one _ _ _ _ c.expire.result c.sound-in-due.ensures.says some c.expire.ensures.first c.expire.ensures.expired c.expire.ensures.told),
    )
