-- What a finish does to the map of requests.
use Rattle.std.proofs.Common.{◌≡◌, ◌≢◌, Option, Some, None, refl, arith}
use Rattle.exec_base.{proofs.Slots.Updates-write, specs.{Slab.{Slab, value_at, Updates}, declared.slab.Id.Id}}
use Rattle.exec_request.specs.declared.output.RequestOutput.{RequestOutput}
use Rattle.exec_waiters.{proofs.Changes.{goes, entry_of}, specs.{States.waiter_at, Events.finished_for, declared.{observer.Observer.{Observer, TheVariants.{Local, Forwarded, DetachedSync, Orphaned}}, waiter.{Waiter.Waiter, Entry.{Entry, TheVariants.{Pending, Ready}}}}}}

module _ {S F : Type 0} where
  -- what stands under the id of a request that is over
  abbrev pub left_for : RequestOutput → Observer S F → Option (Entry S F)
  left_for told (Local waker) = Some (Ready told)
  left_for told _ = None

  updates_for : (s : Slab (Entry S F)) (id : Id) (e : Entry S F) (told : RequestOutput) (observer : Observer S F) → value_at s id ≡ Some e → Updates s (finished_for s id told observer) id (left_for told observer)
  updates_for s id e told (Local waker) at = Updates-write s id (Ready told) (rw at refl)
  updates_for s id e told (Forwarded sender) at = goes s id e at
  updates_for s id e told (DetachedSync sender) at = goes s id e at
  updates_for s id e told Orphaned at = goes s id e at

  -- a request that was finished is over, and no other entry changes
  pub over : (s : Slab (Entry S F)) (id : Id) (w : Waiter S F) (told : RequestOutput) (observer : Observer S F) → waiter_at s id ≡ Some w → waiter_at (finished_for s id told observer) id ≡ None
  over = grind (arith, updates_for, entry_of)

  pub others : (s : Slab (Entry S F)) (id other : Id) (w : Waiter S F) (told : RequestOutput) (observer : Observer S F) → waiter_at s id ≡ Some w → other ≢ id → value_at (finished_for s id told observer) other ≡ value_at s other
  others s id other w told observer at differs =
      (updates_for s id (Pending w) told observer (entry_of _ w at)).others other differs
