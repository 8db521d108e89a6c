-- How the requests of a worker lie in memory. No public clause cites this module.
use Rattle.std.specs.Prelude.{◌≡◌, ℕ, Bool, true, false, not, ◌&&◌, ◌<◌, ◌≤◌, length, All}
use Rattle.exec_base.specs.{Slab.{Slab, value_at}, SlabLayout.{AreVacant, ListsAll}, declared.slab.{Id.Id, Slot.{Slot, TheVariants.Live}}}
use Rattle.exec_waiters.specs.{States.{suits, needs_permit, pending_count, flying_count, is_held_at}, declared.waiter.{Waiter.Waiter, Entry.{Entry, TheVariants.{Pending, Ready}}}}

module _ {S F : Type 0} where
  -- who waits suits the request, and the kernel has an operation only where the permit that it needs is there
  abbrev pub is_sound : Waiter S F → Bool
  is_sound w = suits w.request w.observer && not (w.in_flight && needs_permit w)

  abbrev pub is_sound_entry : Entry S F → Bool
  is_sound_entry (Pending w) = is_sound w
  is_sound_entry (Ready output) = true

  abbrev pub is_sound_slot : Slot (Entry S F) → Bool
  is_sound_slot (Live generation entry) = is_sound_entry entry
  is_sound_slot _ = true

  -- no slot below this one has a request that someone can let go
  pub record NoneHeldBelow (s : Slab (Entry S F)) (index : ℕ) : Type 0 where
    pub none : (id : Id) → id.index < index → is_held_at (value_at s id) ≡ false

  -- the counts are right, each request is sound, the last index is never given, the vacant slots are listed, each once,
  -- and a search for a request that is held may begin there
  pub record IsKept (s : Slab (Entry S F)) (pending flying held_from : ℕ) : Type 0 where
    pub pending_is : pending ≡ pending_count s
    pub flying_is : flying ≡ flying_count s
    pub sound : All (λ slot. is_sound_slot slot ≡ true) s.slots
    pub few : length s.slots ≤ 4294967295
    pub vacant_ones : AreVacant s.slots s.vacant
    pub all_listed : ListsAll s.slots s.vacant
    pub none_held : NoneHeldBelow s held_from
