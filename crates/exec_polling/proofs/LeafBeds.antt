-- What naming a sleeper needs that has just come in, and its worker's seat.
use Rattle.std.proofs.{Common.{◌≡◌, ℕ, ◌+◌, ◌^◌, ◌<◌, ◌≤◌, List, length, Some, sym, ap, subst, ◌∙◌, arith, slice_get}, lemmas.{List.length-set, Option.slice_get_within}}
use Rattle.exec_base.specs.declared.task_no.TaskNo.{TaskNo}
use Rattle.exec_time.specs.declared.timers.{TimerId.TimerId, Observer.Observer}
use Rattle.exec_parts.{specs.{declared.parts.{names.Names.Names, seat.Seat.Seat as Chair, shared.Shared.Shared, worker.Worker.Worker}, Records.HasTimerRoom}, proofs.Facts.{same_Some, set_there}}
use Rattle.exec_invariants.{specs.Admitting.{MayMake, TakesBed}, proofs.Taken.takes_inserted}

module _ {B : Type 0} (t until : ℕ) (waker : TaskNo) (id : TimerId) (w w' : Worker) (s s' : Shared B) (bed : TakesBed t until waker id w w' s s') where
  pub bed_names : w'.names ≡ bed.mid.names
  bed_names = ap (λ (x : Worker). x.names) bed.worker

  pub bed_within : MayMake w → id.0.index ≤ length w'.names.timers.items
  bed_within may =
      let taken = takes_inserted bed.mid.home.timers w'.home.timers (record { deadline = until; observer = Observer.Local waker }) id.0 bed.next bed.timers bed.unnamed bed.past in
      let timers : length bed.mid.home.timers.slots ≡ length w.home.timers.slots = ap (λ (x : Worker). length x.home.timers.slots) bed.rooms.worker in
      let names : length w'.names.timers.items ≡ length w.names.timers.items = ap (λ (n : Names). length n.timers.items) bed_names ∙ ap (λ (xs : List ℕ). length xs) bed.rooms.names.timers in
      omega (arith, taken.within, timers, names, may.beds)

  pub bed_room : HasTimerRoom w'.names
  bed_room = subst (λ (n : Names). HasTimerRoom n) (sym bed_names) bed.has.names

  -- its seat then
  pub bed_seat_within : w'.index < length s'.seats.items
  bed_seat_within =
      let at : w'.index ≡ w.index = ap (λ (x : Worker). x.index) bed.worker ∙ ap (λ (x : Worker). x.index) bed.rooms.worker in
      rw (at, bed.rooms.mails.seats, length-set) (slice_get_within s.seats.items w.index bed.rooms.mails.chair bed.rooms.mails.seated)

  pub bed_seat_is : (chair : Chair) → slice_get s'.seats.items w'.index ≡ Some chair → chair ≡ bed.rooms.mails.chair'
  bed_seat_is chair there =
      let at : w'.index ≡ w.index = ap (λ (x : Worker). x.index) bed.worker ∙ ap (λ (x : Worker). x.index) bed.rooms.worker in
      let found = subst (λ i. slice_get s'.seats.items i ≡ Some chair) at there in
      same_Some chair bed.rooms.mails.chair' (sym found ∙ ap (λ xs. slice_get xs w.index) bed.rooms.mails.seats ∙ set_there s.seats.items w.index bed.rooms.mails.chair' bed.rooms.mails.chair bed.rooms.mails.seated)

  pub bed_seat_counted : (chair : Chair) → slice_get s'.seats.items w'.index ≡ Some chair → chair.made + 1 < 2 ^ 64
  bed_seat_counted chair there =
      let at : w'.index ≡ bed.mid.index = ap (λ (x : Worker). x.index) bed.worker in
      (bed.has.mail chair (subst (λ i. slice_get s'.seats.items i ≡ Some chair) at there)).counted
