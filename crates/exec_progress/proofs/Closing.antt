-- The steps of a closing, and a message about what a task held that is over.
use Rattle.std.proofs.Common.{ℕ, arith}
use Rattle.exec_machine.specs.{declared.config.Configuration.Configuration, World.{Common, Own as Books}}
use Rattle.exec_moves.specs.{declared.{handing.AfterCancels.AfterCancels, place.{InClosing.InClosing, Place.Place}}, State.{Desk, Things}}
use Rattle.exec_progress.{specs.Going.{FallsAt}}

module _ (c : Configuration) (i : ℕ) (me : Books) (s : Common) (d : Desk) (x : Things) where
  pub closes : (p : InClosing) → FallsAt c i me s d x (Place.Closing p)
  closes = grind arith

  pub sends_cancel : (b : AfterCancels) → FallsAt c i me s d x (Place.SendCancel b)
  sends_cancel = grind arith
