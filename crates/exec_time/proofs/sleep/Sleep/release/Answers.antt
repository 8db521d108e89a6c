use Rattle.std.proofs.Common.{◌≡◌, arith}
use Rattle.exec_time.proofs.sleep.Sleep.release.Goals as goal

pub returns-in-Some-clause-removed : goal.returns-in-Some-clause-removed
returns-in-Some-clause-removed g c =
    λ id sleeper is there.
    let same : c.in-Some.id ≡ id = grind (arith, is, c.sleeper.ensures, c.in-Some.is) in
    rw (← same) (c.cancel.ensures.cancelled sleeper (rw same there))
