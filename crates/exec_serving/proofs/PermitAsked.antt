-- What is asked of a gate that is looked at, and what a grant is, whatever it ends in.
use Rattle.std.{proofs.{Common.{◌≡◌, ℕ, ◌+◌, ◌^◌, ◌<◌, length, Option, Some, None, refl, arith, Err}, lemmas.Option.slice_get_within}, specs.VecDeque.deque_capacity}
use Rattle.exec_base.specs.declared.error.Error.TheVariants.{Timeout}
use Rattle.exec_outcomes.specs.declared.outcome.Outcome.{Outcome}
use Rattle.exec_request.specs.States.{Ended}
use Rattle.exec_waiters.specs.{States.pending_count, declared.waiter_id.WaiterId.WaiterId}
use Rattle.exec_driver.specs.declared.driver.staging.Granted.{Granted as Told}
use Rattle.exec_task.specs.declared.body.Said.{Said}
use Rattle.exec_machine.specs.declared.event.Event.{Event}
use Rattle.exec_moves.specs.{declared.place.Service.Service, State.Desk, Submit.after_grant}
use Rattle.exec_parts.specs.{declared.parts.{shared.Shared.Shared, worker.Worker.Worker}, Spots.Spot, View.driver_of}
use Rattle.exec_invariants.{specs.{Submits.IsGatedIn, Works.Steps}, proofs.{Dating.{one_pending, room_by}, Resolving.slab_after}}
use Rattle.exec_serving.proofs.{PermitOver.grant_over, PermitQueued.GrantAt, PermitSteps.{HasGranted, grant_queues}, PermitTries.gate_open}

-- where it leads doesn't hang on the desk
pub place_given : (v : Service) (file : ℕ) (o : Option Outcome) (d e : Desk) → (after_grant v file o d).place ≡ (after_grant v file o e).place
place_given v file None d e = refl
place_given v file (Some x) d e = refl

module _ {B L : Type 0} (left : B → L) (spot : L → Option Said → Spot) (v : Service) (file : ℕ) (w : Worker) (s : Shared B) (new : IsGatedIn v file w s) where
  -- there is a gate behind it, by its number
  pub file_small : file + 1 < 2 ^ 32
  file_small =
      let o = gate_open left spot v file w s new in
      omega (arith, slice_get_within s.opens file o.0 o.1, new.sound.gates.few)

  pub grant_room : (id : WaiterId) → GrantAt w s file id → length w.names.ended.items < deque_capacity w.names.ended
  grant_room id who =
      let sound = new.sound in
      let pending = one_pending _ (pending_count (driver_of w).requests) (slab_after (driver_of w).requests id.0 who.it (Err Timeout) None who.small who.live).pending in
      room_by (length w.names.ended.items) (pending_count (driver_of w).requests) w.names.unreleased (deque_capacity w.names.ended) sound.over.counted pending sound.flown.ending

  pub grant_steps : (w' : Worker) (s' : Shared B) (e : Event) (g : Told) → HasGranted v file w w' s s' e g → Steps left spot w s e w' s'
  grant_steps w' s' e g by = ended g.ended refl
    where
      ended : (o : Option Ended) → g.ended ≡ o → Steps left spot w s e w' s'
      ended None none = grant_queues left spot v file w w' s s' e g new by none
      ended (Some how) is = grant_over left spot v file w w' s s' e g new by how is
