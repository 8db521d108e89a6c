use Rattle.exec_driver.proofs.{Turns.reap_serves}
use Rattle.exec_driver.proofs.driver.Driver.reap_one.Goals as goal

pub returns-in-Some-Some-clause-serves : goal.returns-in-Some-Some-clause-serves
returns-in-Some-Some-clause-serves g c = (reap_serves _ _ _ _ _ _ _ c.reap-reaped.ensures.reaps).0

pub returns-in-Some-Some-clause-done : goal.returns-in-Some-Some-clause-done
returns-in-Some-Some-clause-done g c = (reap_serves _ _ _ _ _ _ _ c.reap-reaped.ensures.reaps).1

pub returns-in-Some-Some-clause-fewer : goal.returns-in-Some-Some-clause-fewer
returns-in-Some-Some-clause-fewer g c = (reap_serves _ _ _ _ _ _ _ c.reap-reaped.ensures.reaps).2

pub returns-clause-serves : goal.returns-clause-serves
returns-clause-serves g c = (reap_serves _ _ _ _ _ _ _ c.reap-reaped.ensures.reaps).0

pub returns-clause-done : goal.returns-clause-done
returns-clause-done g c = (reap_serves _ _ _ _ _ _ _ c.reap-reaped.ensures.reaps).1

pub returns-clause-fewer : goal.returns-clause-fewer
returns-clause-fewer g c = (reap_serves _ _ _ _ _ _ _ c.reap-reaped.ensures.reaps).2

pub returns-2-clause-serves : goal.returns-2-clause-serves
returns-2-clause-serves g c = (reap_serves _ _ _ _ _ _ _ c.reap-reaped.ensures.reaps).0

pub returns-2-clause-done : goal.returns-2-clause-done
returns-2-clause-done g c = (reap_serves _ _ _ _ _ _ _ c.reap-reaped.ensures.reaps).1

pub returns-2-clause-fewer : goal.returns-2-clause-fewer
returns-2-clause-fewer g c = (reap_serves _ _ _ _ _ _ _ c.reap-reaped.ensures.reaps).2
