-- What is asked of the record of an operation that was reaped, and a reaping that found none.
use Rattle.std.{proofs.{Common.{◌≡◌, ℕ, ◌+◌, ◌^◌, ◌<◌, List, length, Option, Some, None, refl, sym, ap, subst, ◌∙◌, arith, get_or, Err}, lemmas.Option.slice_get_within}, specs.VecDeque.deque_capacity}
use Rattle.exec_base.specs.{Slab.value_at, declared.error.Error.TheVariants.Timeout}
use Rattle.exec_outcomes.specs.Outcomes.{bytes_of}
use Rattle.exec_ring.specs.Completions.{result_in}
use Rattle.exec_waiters.{specs.{States.pending_count, declared.deferred.Deferred.Deferred}, proofs.Changes.entry_of}
use Rattle.exec_driver.specs.{Driving.Driving, Steps.ReapsNext, declared.driver.reaping.Reaped.Reaped}
use Rattle.exec_opens.specs.Opens.{OpenState}
use Rattle.exec_moves.specs.declared.place.Place.{Place}
use Rattle.exec_parts.specs.{declared.parts.{mail.Reply.Reply, record.Record.Record, shared.Shared.Shared, worker.Worker.Worker}, Records.{IsCountable, number_in}, View.driver_of}
use Rattle.exec_invariants.{specs.{Flown.IsPlain, Sound.SoundAt}, proofs.{Mine.live_mine, Dating.{found_is, one_pending, room_by}, Known.low_there, Resolving.slab_after}}
use Rattle.exec_serving.proofs.{Reaped.{TellsOf, tells_of}, Requeued.{lawful_shown, total_shown}}

pub none_of : (told : Option Reaped) → ((x : Reaped) → told ≡ Some x → ⊥) → told ≡ None
none_of None h = refl
none_of (Some x) h = absurd (h x refl)

module _ {B : Type 0} (q : Place) (w : Worker) (s : Shared B) (sound : SoundAt q w s) (d' : Driving Reply Reply) (opens opens' : List OpenState) (before after : Deferred Reply Reply) (done : Reaped) (reaps : ReapsNext (driver_of w) d' opens opens' before after (Some done)) where
  pub of_it : TellsOf w.names (driver_of w) d' s.requests.items opens opens' before after done
  of_it = tells_of w.names (driver_of w) d' s.requests.items opens opens' before after sound.flown.landed done reaps

  pub reaped_number : number_in w.names.requests.items done.id.0 ≡ number_in w.names.requests.items of_it.reaped.has.id
  reaped_number = ap (λ y. number_in w.names.requests.items y.0) of_it.id

  pub reaped_within : number_in w.names.requests.items done.id.0 < length s.requests.items
  reaped_within =
      let h = of_it.reaped.has in
      subst (λ n. n < length s.requests.items) (sym reaped_number) (slice_get_within s.requests.items (number_in w.names.requests.items h.id) h.r h.there)

  pub reaped_room : length w.names.ended.items < deque_capacity w.names.ended
  reaped_room =
      let h = of_it.reaped.has in
      let low = low_there w.index w.names.requests.items (driver_of w).requests s.opens s.requests.items sound.known h.id (rw (entry_of (value_at (driver_of w).requests h.id) h.it h.live) refl) in
      let small : h.id.generation < 2 ^ 64 = omega (arith, low) in
      let pending = one_pending _ (pending_count (driver_of w).requests) (slab_after (driver_of w).requests h.id h.it (Err Timeout) None small h.live).pending in
      room_by (length w.names.ended.items) (pending_count (driver_of w).requests) w.names.unreleased (deque_capacity w.names.ended) sound.over.counted pending sound.flown.ending

  reaped_plain_of : IsPlain of_it.reaped.has.r.shown
  reaped_plain_of =
      let h = of_it.reaped.has in
      sound.flown.plain (number_in w.names.requests.items h.id) h.r h.there (live_mine w.index w.names (driver_of w) w.home.timers s.requests.items s.sleepers.items sound.named h.id h.it h.r h.live h.there)

  pub reaped_record : (j : ℕ) (old : Record) → j ≡ number_in w.names.requests.items done.id.0 → old ≡ get_or s.requests.items j old → old ≡ of_it.reaped.has.r
  reaped_record j old number found = found_is s.requests.items (number_in w.names.requests.items of_it.reaped.has.id) j of_it.reaped.has.r old (number ∙ reaped_number) of_it.reaped.has.there found

  pub reaped_countable : (j : ℕ) (old : Record) → j ≡ number_in w.names.requests.items done.id.0 → old ≡ get_or s.requests.items j old → IsCountable old.shown.operation
  reaped_countable = grind (arith, of_it, reaped_plain_of, reaped_record)

  pub reaped_lawful : (j : ℕ) (old : Record) → j ≡ number_in w.names.requests.items done.id.0 → old ≡ get_or s.requests.items j old → bytes_of done.given + old.shown.operation.moved < 2 ^ 64
  reaped_lawful j old number found =
      let h = of_it.reaped.has in
      let d = driver_of w in
      let alike = sound.named.alike h.id h.it h.r h.live h.there in
      let under : bytes_of (result_in of_it.c.result) + h.r.shown.operation.moved < 2 ^ 64 =
      total_shown h.r.shown (result_in of_it.c.result) reaped_plain_of (lawful_shown d.wheel.start d.wheel.tick h.it h.r.shown (result_in of_it.c.result) alike h.lawful) in
      subst (λ n. bytes_of n + old.shown.operation.moved < 2 ^ 64) (sym of_it.given) (subst (λ y. bytes_of (result_in of_it.c.result) + y.shown.operation.moved < 2 ^ 64) (sym (reaped_record j old number found)) under)
