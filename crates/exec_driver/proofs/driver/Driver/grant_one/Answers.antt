use Rattle.exec_driver.proofs.{Turns.grant_any, Service.grants_passed}
use Rattle.std.proofs.Common.{Some, None, refl, rules}
use Rattle.exec_driver.proofs.driver.Driver.grant_one.Goals as goal

pub returns-in-Some-Some-clause-serves : goal.returns-in-Some-Some-clause-serves
returns-in-Some-Some-clause-serves g c = (grant_any _ _ _ _ _ _ _ _ c.grant-granted.result c.sound.ensures.sound c.grant-granted.ensures.granted c.grant-granted.ensures.same).0

pub returns-in-Some-Some-clause-done : goal.returns-in-Some-Some-clause-done
returns-in-Some-Some-clause-done g c = (grant_any _ _ _ _ _ _ _ _ c.grant-granted.result c.sound.ensures.sound c.grant-granted.ensures.granted c.grant-granted.ensures.same).1

pub returns-clause-serves : goal.returns-clause-serves
returns-clause-serves g c = (grant_any _ _ _ _ _ _ _ _ c.grant-granted.result c.sound.ensures.sound c.grant-granted.ensures.granted c.grant-granted.ensures.same).0

pub returns-clause-done : goal.returns-clause-done
returns-clause-done g c = (grant_any _ _ _ _ _ _ _ _ c.grant-granted.result c.sound.ensures.sound c.grant-granted.ensures.granted c.grant-granted.ensures.same).1

pub returns-in-Some-Some-clause-grants : goal.returns-in-Some-Some-clause-grants
returns-in-Some-Some-clause-grants g c = grants_passed _ _ _ _ _ _ _ _ _ _ _ c.grant-granted.result (Some c.args.file) c.sound-2.ensures.says (search rules) c.grant-granted.ensures.granted c.grant-granted.ensures.none c.grant-granted.ensures.same (c.pass_on.ensures.opens, c.pass_on.ensures.signalled)

pub returns-clause-grants : goal.returns-clause-grants
returns-clause-grants g c = grants_passed _ _ _ _ _ _ _ _ _ _ _ c.grant-granted.result None c.sound-2.ensures.says (search rules) c.grant-granted.ensures.granted c.grant-granted.ensures.none c.grant-granted.ensures.same (refl, refl)
