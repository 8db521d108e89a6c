-- WHAT A WORKER HAS LEFT in a state of several workers and callers.
use Rattle.std.specs.Prelude.{ℕ}
use Rattle.exec_machine.specs.{declared.config.Configuration.Configuration, World.{own_of}}
use Rattle.exec_moves.specs.Plays.{Playing, desk_of}
use Rattle.exec_progress.specs.Effort.{steps_left}

-- what worker i has left
abbrev pub left_to : Configuration → Playing → ℕ → ℕ
left_to c x i = steps_left c i (own_of x.world i) x.world.common (desk_of c x i) x.things
