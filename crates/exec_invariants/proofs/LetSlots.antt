-- The slot of a request at its driver is its own: no other has its number.
use Rattle.exec_invariants.{proofs.{Names.{◌≡◌, ℕ, true, slice_get, slice_index_or, Some, refl, sym, ap, ◌∙◌, false≢true, Slab, is_live, value_at, Id, Slot, Live, Vacant, Retired, Entry, Place, Reply, Record, Shared, Worker, number_in, driver_of, same_Some, Names, Driving, Sleeping, OpenState, SleeperRecord, List}, Known.low_there, Slotted.OneSlot}, specs.{Sound.SoundAt, Names.IsNamed, Gates.IsKnown}}
pub use Rattle.exec_invariants.proofs.FiringSlots.{value_of_slot as value_live}

-- each number stands in one slot
pub named_slot : (i : ℕ) (n : Names) (d : Driving Reply Reply) (zs : Slab (Sleeping Reply)) (opens : List OpenState) (rs : List Record) (ss : List SleeperRecord) → IsNamed i n d zs rs ss → IsKnown i n.requests.items d.requests opens rs
    → (id : Id) (e : Entry Reply Reply) → value_at d.requests id ≡ Some e → (one : OneSlot n.requests.items d.requests id) × (one.e ≡ e)
named_slot i n d zs opens rs ss named known id e value =
    (record { e = e; live = value; low = low_there i n.requests.items d.requests opens rs known id (rw value refl); alone = by }, refl)
  where
    by : (j : ℕ) (x : Slot (Entry Reply Reply)) → slice_get d.requests.slots j ≡ Some x → is_live x ≡ true → slice_index_or n.requests.items j 0 ≡ number_in n.requests.items id → j ≡ id.index
    by j (Live g x) at alive same =
        let a = named.requests (record { index = j; generation = g }) (rw (value_live d.requests j g x at) refl) in
        let b = named.requests id (rw value refl) in
        ap (λ (y : Id). y.index) (sym a.2 ∙ ap (λ (y : Record). y.id.0) (same_Some a.0 b.0 (sym a.1 ∙ ap (slice_get rs) same ∙ b.1)) ∙ b.2)
    by j (Vacant g) at alive same = absurd (false≢true alive)
    by j Retired at alive same = absurd (false≢true alive)

module _ {B : Type 0} (q : Place) (w : Worker) (s : Shared B) (sound : SoundAt q w s) (id : Id) (e : Entry Reply Reply) (value : value_at (driver_of w).requests id ≡ Some e) where
  pub slot_here : OneSlot w.names.requests.items (driver_of w).requests id
  slot_here = (named_slot w.index w.names (driver_of w) w.home.timers s.opens s.requests.items s.sleepers.items sound.named sound.known id e value).0

  pub slot_here_is : slot_here.e ≡ e
  unfolding slot_here
  slot_here_is = (named_slot w.index w.names (driver_of w) w.home.timers s.opens s.requests.items s.sleepers.items sound.named sound.known id e value).1
