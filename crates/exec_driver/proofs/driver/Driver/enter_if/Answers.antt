use Rattle.exec_driver.{specs.Driving.seen, proofs.{Serving.goes_by, Turns.enter_any}}
use Rattle.exec_driver.proofs.driver.Driver.enter_if.Goals as goal

pub returns-in-Taken-clause-going : goal.returns-in-Taken-clause-going
returns-in-Taken-clause-going g c = goes_by _ _ (enter_any (seen c.args.self.now) (seen c.enter.new.self) c.enter.ensures.entered).0.eases.keeps

pub returns-in-Taken-clause-entered : goal.returns-in-Taken-clause-entered
returns-in-Taken-clause-entered g c = λ yes free. (enter_any (seen c.args.self.now) (seen c.enter.new.self) c.enter.ensures.entered).1.taken free
