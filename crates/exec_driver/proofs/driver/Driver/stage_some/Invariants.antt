use Rattle.std.proofs.Common.{◌≡◌, ◌<◌, ◌≤◌, true, false}
use Rattle.exec_driver.specs.{Driving.{seen, is_full}, Service.{Repeats, StagesOneEntry}, Turns.{GoesOn, StaysDone, unstaged}}
use Rattle.exec_driver.proofs.driver.Driver.stage_some.Given as goal

abbrev pub invariant-entries : goal.invariant-entries
invariant-entries g l =
    GoesOn (seen l.initial.self) (seen l.self)
    × StaysDone (seen l.initial.self) (seen l.self)
    × (unstaged (seen l.self) ≤ unstaged (seen l.initial.self))
    × (is_full (seen l.initial.self) ≡ false → is_full (seen l.self) ≡ true → unstaged (seen l.self) < unstaged (seen l.initial.self))
    × Repeats (StagesOneEntry l.opens) (seen l.initial.self) (seen l.self)

abbrev pub decreases-entries : goal.decreases-entries
decreases-entries g l = unstaged (seen l.self)
