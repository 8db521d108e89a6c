-- What an act needs that makes a request or a sleeper.
use Rattle.std.proofs.{Common.{◌≡◌, ℕ, ◌<◌, List, [], length, Option, sym, subst}, lemmas.Option.slice_get_within}
use Rattle.exec_request.specs.declared.request.Request.{Request as Asking}
use Rattle.exec_task.specs.{Sight.Sight, declared.body.{Act.Act, Said.Said}}
use Rattle.exec_machine.specs.Progress.{Plan}
use Rattle.exec_moves.specs.declared.place.{InPoll.InPoll, Place.Place}
use Rattle.exec_parts.specs.{declared.parts.{shared.Shared.Shared, worker.Worker.Worker}, Records.IsInRange, Spots.Spot}
use Rattle.exec_invariants.specs.{Acting.HasActed, Sound.SoundAt}
use Rattle.exec_polling.proofs.Unbegun.{unbegun}

module _ {B : Type 0} where
  -- the worker's seat is still there
  pub has_seat : (t : ℕ) (w : Worker) (s s1 : Shared B) → SoundAt (Place.Poll t InPoll.Act) w s → s1 ≡ record s { tasks = s1.tasks } → w.index < length s1.seats.items
  has_seat t w s s1 sound kept = subst (λ (x : Shared B). w.index < length x.seats.items) (sym kept) (slice_get_within s.seats.items w.index sound.seated.seat sound.seated.there)

module _ {B L : Type 0} (left : B → L) (runs : L → Plan → Option ℕ → Type 0) (holds : L → Option Said → List ℕ) (spot : L → Option Said → Spot) (gives : L → Option Sight → Said → Act B → L → Option Sight → Type 0) where
  -- a request that a body makes was not begun
  pub in_range : (t : ℕ) (w : Worker) (s s1 : Shared B) (q : Asking) → HasActed left runs holds spot gives t w s s1 (Act.Register q) → IsInRange q
  in_range t w s s1 q h = let asks = (h.asks h.one.0 (record { workers = []; calls = [] }) h.one.2).asks in (unbegun q asks.0 asks.3.unswitched).in_range
