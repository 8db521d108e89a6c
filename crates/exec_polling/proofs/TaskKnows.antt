-- WHAT A POLLED TASK WAITS FOR is there: a request, or a sleeper.
use Rattle.std.proofs.{Common.{◌≡◌, ℕ, ◌<◌, Some, ap, subst, length, map, slice_get}, lemmas.{List.length-map, Option.slice_get_within}}
use Rattle.exec_machine.specs.declared.state.Waiting.{Waiting}
use Rattle.exec_parts.specs.declared.parts.{shared.Shared.Shared, task_slot.TaskSlot.TaskSlot, worker.Worker.Worker}
use Rattle.exec_invariants.{specs.{Holding.{awaited_in, holder_of, nap_of, thing_of}, Whole.HasWhole}, proofs.TaskTakes.holder_there}

module _ {B : Type 0} (t k : ℕ) (w : Worker) (s : Shared B) (slot : TaskSlot B) where
  pub request_known : HasWhole w s → slice_get s.tasks.items t ≡ Some slot → slot.waiting ≡ Waiting.Request k → k < length s.requests.items
  request_known has there waits =
      let it = has.whole.holding.awaiting t (holder_of slot) k (holder_there s.tasks.items t slot there) (ap awaited_in waits) in
      subst (λ n. k < n) (length-map s.requests.items thing_of) (slice_get_within (map thing_of s.requests.items) k it.0 it.1)

  pub timer_known : HasWhole w s → slice_get s.tasks.items t ≡ Some slot → slot.waiting ≡ Waiting.Timer k → k < length s.sleepers.items
  timer_known has there waits =
      let it = has.whole.holding.asleep t (holder_of slot) k (holder_there s.tasks.items t slot there) (ap awaited_in waits) in
      subst (λ n. k < n) (length-map s.sleepers.items nap_of) (slice_get_within (map nap_of s.sleepers.items) k it.0 it.1)
