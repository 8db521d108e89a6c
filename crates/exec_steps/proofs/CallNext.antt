-- What follows a push of a task that a callback woke: the next of the callbacks.
use Rattle.std.proofs.Common.{Option, refl, arith}
use Rattle.exec_task.specs.declared.body.Said.{Said}
use Rattle.exec_moves.specs.declared.{handing.{AfterKick.AfterKick, AfterPush.AfterPush, InKick.InKick}, place.Place.Place}
use Rattle.exec_parts.specs.{declared.parts.{shared.Shared.Shared, worker.Worker.Worker}, Spots.Spot}
use Rattle.exec_invariants.{specs.Sound.SoundAt, proofs.{CallsBack.{call_comes, callback_seen}, Handed.{IsPushFor, KickNext, PushNext}}}

module _ {B L : Type 0} (left : B → L) (spot : L → Option Said → Spot) where
  pub push_next : (b : AfterPush) (q : Place) (w : Worker) (s : Shared B) → SoundAt q w s → IsPushFor b q → PushNext left spot b w s
  push_next = grind (arith, call_comes, callback_seen)

  pub kick_next : (b : AfterKick) (x : InKick) (w : Worker) (s : Shared B) → SoundAt (Place.Kick x b) w s → KickNext left spot b w s
  kick_next (AfterKick.Leave b) x w s sound = record { comes = tt; seen = λ p vs suits. tt }
  kick_next (AfterKick.Push b) x w s sound =
      let it = push_next b (Place.Kick x (AfterKick.Push b)) w s sound (record { callbacks = refl; closes = refl; closing = refl; spare = refl; bare = refl; held = λ x h. h; batch = λ ms h. h }) in
      record { comes = it.comes; seen = it.seen }
