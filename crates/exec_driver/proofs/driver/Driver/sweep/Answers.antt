use Rattle.std.proofs.Common.{sym, ◌∙◌, rules}
use Rattle.exec_driver.proofs.Sweeping.{sweeps_on, all_swept}
use Rattle.exec_driver.proofs.driver.Driver.sweep.Goals as goal

pub controls-preserved : goal.controls-preserved
controls-preserved g c =
    sweeps_on _ _ _ (sym c.take_control.ensures.answer ∙ (search rules)) c.take_control.ensures.taken c.controls.invariant

pub returns : goal.returns
returns g c =
    all_swept _ _ _ (sym c.take_control.ensures.answer ∙ (search rules)) c.take_control.ensures.taken c.controls.invariant
