-- The mailbox of a closing worker is closed: what stood in it counts as a batch that was taken, and is let go.
use Rattle.std.proofs.Common.{◌≡◌, ℕ, ◌&&◌, true, Option, None, Some, refl, sym, ap, subst, ◌∙◌, slice_get, slice_set}
use Rattle.exec_words.specs.Reserved.{Reserved}
use Rattle.exec_task.specs.declared.body.Said.{Said}
use Rattle.exec_machine.specs.declared.event.Event.{Event}
use Rattle.exec_moves.specs.{declared.place.{InClosing.InClosing, Place.Place}, Seen.polls_at}
use Rattle.exec_parts.specs.{declared.parts.{seat.Seat.Seat as Chair, shared.Shared.Shared, worker.Worker.Worker}, MailPosts.IsMailbox, Spots.Spot}
use Rattle.exec_invariants.{specs.{Drained.{Duties, IsLetOn, IsPool}, Holding.Mail, Places.drops_at, Sound.SoundAt, Whole.{duties_of, with_worker}}, proofs.{PoolClosing.pool_shut, PoolKept.pool_of, Shutting.Pools}}

module _ {B L : Type 0} (left : B → L) (spot : L → Option Said → Spot) (w w' : Worker) (s s' : Shared B) (e : Event) where
  -- what holds of the task set and the mailboxes then: a worker of the pool goes on once all have passed the barrier, and a
  -- dedicated one passes none
  pub pools_unmailed : (q : Place) (batch : Reserved Mail) (n : ℕ) (seat chair : Chair) → SoundAt (Place.Closing InClosing.CloseMailbox) w s → IsLetOn w.index s.seats.items → slice_get s.seats.items w.index ≡ Some seat → s'.seats.items ≡ slice_set s.seats.items w.index chair → s'.set ≡ s.set
      → chair.left ≡ seat.left → chair.pool ≡ seat.pool → IsMailbox chair.mailbox → polls_at q ≡ None → drops_at q ≡ drops_at (Place.Closing InClosing.CloseMailbox) → Pools q w.home.closing batch n w s s'
  pools_unmailed q batch n seat chair sound let_on there items set left pool mailbox polls drops others whole =
      let w1 : Worker = record w { place = q; batch = batch; processed = n } in
      let d : Duties = duties_of (with_worker others w1) in
      let before : IsPool d s.tasks.items s.set s.seats.items = pool_of others w w1 s.tasks.items s.set s.seats.items refl (polls ∙ sym (ap polls_at sound.here)) (drops ∙ sym (ap drops_at sound.here)) whole.pool in
      let phased = sound.phased seat there in
      subst (λ z. IsPool d s.tasks.items z s'.seats.items) (sym set)
      (pool_shut w.index d s.tasks.items s.set s.seats.items s'.seats.items seat chair there items left pool mailbox (λ of_pool. let_on seat there (phased.left ∙ ap (λ b. b && true) of_pool)) before)
