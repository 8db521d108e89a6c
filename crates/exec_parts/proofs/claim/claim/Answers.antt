use Rattle.std.proofs.{Common.{arith, refl}}
use Rattle.exec_parts.{proofs.Claims.{same_itself, same_only}}
use Rattle.exec_parts.proofs.claim.claim.Goals as goal

pub returns-in-Ok-clause-answer : goal.returns-in-Ok-clause-answer
returns-in-Ok-clause-answer c = grind (arith, same_itself c.args.set.now.has, c.in-Ok.ensures.same.0 refl, c.in-Ok.ensures.lowest)

pub returns-in-Ok-clause-idle : goal.returns-in-Ok-clause-idle
returns-in-Ok-clause-idle c = grind (arith, same_itself c.args.set.now.has, c.in-Ok.ensures.same.0 refl, c.in-Ok.ensures.lowest, c.in-Ok.ensures.claimed)

pub returns-in-Some-clause-answer : goal.returns-in-Some-clause-answer
returns-in-Some-clause-answer c = grind (arith, same_only c.args.set.now.has c.args.idle.now.published, c.in-Err.ensures, c.lowest.ensures, c.in-Some.is)

pub returns-in-Some-clause-idle : goal.returns-in-Some-clause-idle
returns-in-Some-clause-idle c = grind (arith, same_only c.args.set.now.has c.args.idle.now.published, c.in-Err.ensures, c.lowest.ensures, c.in-Some.is)
