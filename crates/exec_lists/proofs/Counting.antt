-- What stands under each name, and how many are in a place, once one entry changed.
use Rattle.std.{proofs.{Common.{◌≡◌, ◌≢◌, ℕ, ◌+◌, ◌≤◌, Bool, false, cond, Option, Some, None, refl, arith}, lemmas.List.{set-get_or, Sums.{sum_by-set, sum_by-le-sum_by}}}, specs.Prelude.{count_by, is_some}}
use Rattle.exec_base.{specs.{Slab.{Slab, value_at, written, is_live, live_count, removed, freed}, declared.slab.{Id.Id, Slot.{Slot, TheVariants.{Vacant, Retired}}}}, proofs.Slots.{Changed-set, Updates-write, Updates-free}}
use Rattle.exec_waiters.{specs.{States.{waiter_at, waiter_in, waiter_of, is_flying, pending_count, flying_count, counts_pending, counts_flying}, declared.waiter.{Waiter.Waiter, Entry.Entry}}, proofs.Changes.{one_if, at_by}}
use Rattle.exec_lists.specs.Listed.{count_of, counts}

module _ {S F : Type 0} where
  asking_of : (o : Slot (Entry S F)) → counts_pending o ≡ counts is_some o
  asking_of = grind arith

  flying_of : (o : Slot (Entry S F)) → counts_flying o ≡ counts is_flying o
  flying_of = grind arith

  pub pending_is : (s : Slab (Entry S F)) → pending_count s ≡ count_of is_some s
  pending_is s = λ i. count_by (λ o. asking_of o i) s.slots

  pub flying_is : (s : Slab (Entry S F)) → flying_count s ≡ count_of is_flying s
  flying_is s = λ i. count_by (λ o. flying_of o i) s.slots

  -- from one slab to the other one request became so, and no other changed
  pub record OneChanged (s s' : Slab (Entry S F)) (id : Id) (was is : Option (Waiter S F)) : Type 0 where
    pub was_at : waiter_at s id ≡ was
    pub is_at : waiter_at s' id ≡ is
    pub others : (other : Id) → other ≢ id → waiter_at s' other ≡ waiter_at s other
    pub numbers : (place : Option (Waiter S F) → Bool) → place None ≡ false → count_of place s' + one_if (place was) ≡ count_of place s + one_if (place is)

  freed_by : (place : Option (Waiter S F) → Bool) (b : Bool) (h : ℕ) → one_if (counts place (cond b (Vacant h) Retired)) ≡ 0
  freed_by = grind arith

  -- an entry that is there, written again
  pub same_written : (s : Slab (Entry S F)) (id : Id) (e : Entry S F) → value_at s id ≡ Some e → written s id e ≡ s
  same_written = grind (arith, at_by, set-get_or)

  -- an entry becomes another
  pub one_written : (s : Slab (Entry S F)) (id : Id) (was is : Entry S F) → value_at s id ≡ Some was → OneChanged s (written s id is) id (waiter_in was) (waiter_in is)
  one_written s id was is at =
      let there = at_by s id was at in
      let map = Updates-write s id is (rw at refl) in
      grind (arith, waiter_of, one_if, sum_by-set)

  -- an entry goes
  pub one_removed : (s : Slab (Entry S F)) (id : Id) (was : Entry S F) → value_at s id ≡ Some was → OneChanged s (removed s id) id (waiter_in was) None
  one_removed s id was at =
      let there = at_by s id was at in
      let map = Updates-free s (removed s id) id was (Changed-set s (removed s id) id.index (freed id.generation) refl refl there.within) there.slot in
      grind (arith, waiter_of, one_if, freed_by, sum_by-set)

  -- no more requests are in flight than aren't over
  pub flying_few : (s : Slab (Entry S F)) → flying_count s ≤ pending_count s
  flying_few s = sum_by-le-sum_by (λ o. one_if (counts_flying o)) (λ o. one_if (counts_pending o)) s.slots (grind arith)

  -- nor aren't over than are there
  pub pending_few : (s : Slab (Entry S F)) → pending_count s ≤ live_count s
  pending_few s = sum_by-le-sum_by (λ o. one_if (counts_pending o)) (λ o. one_if (is_live o)) s.slots (grind arith)
