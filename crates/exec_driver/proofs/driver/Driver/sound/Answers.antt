use Rattle.exec_driver.proofs.{Granting.says_of, Punctual.{reach_of, turns_of, some_slots_of}}
use Rattle.exec_driver.proofs.driver.Driver.sound.Goals as goal

pub returns-clause-reach : goal.returns-clause-reach
returns-clause-reach g c = reach_of c.args.self.now.timeouts

pub returns-clause-tick : goal.returns-clause-tick
returns-clause-tick g c = turns_of c.args.self.now.timeouts

pub returns-clause-slots : goal.returns-clause-slots
returns-clause-slots g c = some_slots_of c.args.self.now.timeouts

pub returns-clause-says : goal.returns-clause-says
returns-clause-says g c = rw (← c.self.view_is) (says_of _ c.self.invariant.sound (g.met.R.Ring.may_land c.self.inside.ring))
