-- Tests that tell two lines apart.
use Rattle.std.specs.Prelude.{Bool, true, false, not}
use Rattle.exec_machine.specs.{declared.event.{StepResult.{StepResult, TheVariants.Did}, Event.TheVariants.{Turn, Serve, Grant, Return, Apply}}, Choice.{Choice, Choice.Posts}}

abbrev pub is_turn : StepResult → Bool
is_turn (Did Turn) = true
is_turn _ = false

abbrev pub isnt_turn : StepResult → Bool
isnt_turn said = not (is_turn said)

abbrev pub is_serve : StepResult → Bool
is_serve (Did Serve) = true
is_serve _ = false

abbrev pub is_grant : StepResult → Bool
is_grant (Did (Grant r outcome)) = true
is_grant _ = false

abbrev pub is_return : StepResult → Bool
is_return (Did Return) = true
is_return _ = false

abbrev pub is_apply : StepResult → Bool
is_apply (Did (Apply m)) = true
is_apply _ = false

abbrev pub is_sent : Choice → Bool
is_sent (Posts payer left_out) = not left_out
is_sent _ = false
