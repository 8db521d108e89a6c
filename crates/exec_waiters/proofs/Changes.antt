-- How a change of one entry keeps the counts, and what is said of every entry.
use Rattle.std.proofs.{Common.{◌≡◌, ℕ, ◌+◌, ◌-◌, ◌^◌, ◌<◌, ◌≤◌, Bool, true, false, ◌&&◌, cond, List, [], ◌∷◌, length, set, get_or, Option, Some, None, refl, ap, ◌∙◌, arith, inl, inr, length-set, length-append}, lemmas.{Grind.common_steps, Bool.{cases_lt, cases_Bool, leb-true, leb-false, false≢true, Decides.eqb_tells}, List.{get_or_past, get_or-set_same, get_or_default, Sums.{sum_by-set, sum_by_push, get_or-le-sum_by}, Elements.{All-set, All-push}}}}
use Rattle.exec_base.specs.{Slab.{Slab, Updates, value_at, value_in, slot_at, written, removed, inserted, filled, freed, generation_of}, SlabLayout.{Lacks, AreVacant, ListsAll}, declared.slab.{Id.Id, Slot.{Slot, TheVariants.{Live, Vacant, Retired}}}}
use Rattle.exec_base.proofs.Slots.{ltb_tells, id_cases, Changed-set, Updates-write, Updates-free, vacant_within, AreVacant-set, AreVacant-push, ListsAll-fill, ListsAll-keep, ListsAll-free, ListsAll-push, none-vacant, Lacks-live}
use Rattle.exec_request.specs.{Kept.kept_of, declared.{output.RequestOutput.RequestOutput, request.Request.Request}}
use Rattle.exec_waiters.specs.{declared.{observer.Observer.Observer, waiter.{Entry.{Entry, TheVariants.{Pending, Ready}}, Waiter.Waiter}, waiter_id.WaiterId.WaiterId}, States.{is_asking, flies, is_held, is_held_by, is_held_at, counts_pending, counts_flying, waiter_at, waiter_of, is_full, suits, is_detached, needs_permit, may_stage, named, is_idle, name_of, IsUsedUp}, Events.{admitted, with_permit, with_observer}, Layout.{IsKept, NoneHeldBelow, is_sound, is_sound_entry, is_sound_slot}}

abbrev pub one_if : Bool → ℕ
one_if b = cond b 1 0

-- what both say, the first says
pub and_left : (a b : Bool) → (a && b) ≡ true → a ≡ true
and_left true b is = refl
and_left false b is = absurd (false≢true is)

pub name_tells : (o : Option Id) (n : WaiterId) → name_of o ≡ Some n → o ≡ Some n.0
name_tells None n is = absurd (cc)
name_tells (Some id) n is = let same : record { 0 = id } ≡ n = cc in ap (λ (m : WaiterId). Some m.0) same

module _ {T : Type 0} where
  -- a slot with this value holds it
  pub slot_of : (slot : Slot T) (g : ℕ) (e : T) → value_in slot g ≡ Some e → slot ≡ Live g e
  slot_of (Live h v) g e at = elim (eqb_tells h g) [ inl same ↦ let got = rw same.0 at at in cc (same.1) | inr other ↦ let got = rw other.0 at at in absurd (cc) ]
  slot_of (Vacant h) g e at = absurd (cc)
  slot_of Retired g e at = absurd (cc)

  -- the value is there
  pub record IsAt (s : Slab T) (id : Id) (e : T) : Type 0 where
    pub within : id.index < length s.slots
    pub slot : get_or s.slots id.index (Vacant s.first) ≡ Live id.generation e

  pub at_by : (s : Slab T) (id : Id) (e : T) → value_at s id ≡ Some e → IsAt s id e
  at_by s id e at =
      let slot = slot_of (slot_at s id.index) id.generation e at in
      elim (cases_lt id.index (length s.slots)) [
        | inl inside ↦ record { within = inside; slot = slot }
        | inr past ↦ let none = get_or_past s.slots id.index (Vacant s.first) past in absurd (cc)
      ]

  -- a value goes
  pub goes : (s : Slab T) (id : Id) (e : T) → value_at s id ≡ Some e → Updates s (removed s id) id None
  goes s id e at =
      let there = at_by s id e at in
      Updates-free s (removed s id) id e (Changed-set s (removed s id) id.index (freed id.generation) refl refl there.within) there.slot

module _ {S F : Type 0} where
  -- a request that isn't over is an entry
  pub entry_of : (o : Option (Entry S F)) (w : Waiter S F) → waiter_of o ≡ Some w → o ≡ Some (Pending w)
  entry_of None w is = absurd (cc)
  entry_of (Some (Pending v)) w is = cc
  entry_of (Some (Ready output)) w is = absurd (cc)

  -- where the one entry that changes is not held but where it was, no more are held
  pub none_held_by : (s s' : Slab (Entry S F)) (id : Id) (is : Option (Entry S F)) (h h' : ℕ) → Updates s s' id is → (id.index < h' → is_held_at is ≡ true → is_held_at (value_at s id) ≡ true) → h' ≤ h → NoneHeldBelow s h → NoneHeldBelow s' h'
  none_held_by = grind (arith, id_cases, cases_Bool)

  -- a slot is set to another
  kept_set : {h h' : ℕ} (s : Slab (Entry S F)) (vacant : List ℕ) (room i : ℕ) (is : Slot (Entry S F)) (n k n' k' : ℕ) → i < length s.slots → n' + one_if (counts_pending (slot_at s i)) ≡ n + one_if (counts_pending is) → k' + one_if (counts_flying (slot_at s i)) ≡ k + one_if (counts_flying is) → is_sound_slot is ≡ true → AreVacant (set s.slots i is) vacant → ListsAll (set s.slots i is) vacant → NoneHeldBelow (record s { slots = set s.slots i is; vacant = vacant; room = room }) h' → IsKept s n k h → IsKept (record s { slots = set s.slots i is; vacant = vacant; room = room }) n' k' h'
  kept_set s vacant room i is n k n' k' inside asking flying sound ones listed none kept =
      record {
        pending_is = omega (arith, sum_by-set (λ (o : Slot (Entry S F)). cond (counts_pending o) 1 0) s.slots i is (Vacant s.first) inside, asking, kept.pending_is);
        flying_is = omega (arith, sum_by-set (λ (o : Slot (Entry S F)). cond (counts_flying o) 1 0) s.slots i is (Vacant s.first) inside, flying, kept.flying_is);
        sound = All-set (λ (o : Slot (Entry S F)). is_sound_slot o ≡ true) s.slots i is sound kept.sound;
        few = rw length-set kept.few;
        vacant_ones = ones;
        all_listed = listed;
        none_held = none;
      }

  -- the slot of an entry isn't listed as vacant
  lacks_at : (s : Slab (Entry S F)) (id : Id) (e : Entry S F) → IsAt s id e → AreVacant s.slots s.vacant → Lacks s.vacant id.index
  lacks_at s id e there ones =
      let live = get_or_default s.slots id.index Retired (Vacant s.first) there.within ∙ there.slot in
      Lacks-live s.slots s.vacant id.index id.generation e live ones

  -- an entry becomes another
  pub kept_written : {h : ℕ} (s : Slab (Entry S F)) (id : Id) (was is : Entry S F) (n k n' k' : ℕ) → value_at s id ≡ Some was → n' + one_if (is_asking was) ≡ n + one_if (is_asking is) → k' + one_if (flies was) ≡ k + one_if (flies is) → is_sound_entry is ≡ true → (is_held is ≡ true → is_held was ≡ true) → IsKept s n k h → IsKept (written s id is) n' k' h
  kept_written s id was is n k n' k' at asking flying sound held kept =
      let there = at_by s id was at in
      kept_set s s.vacant s.room id.index (Live id.generation is) n k n' k' there.within (rw there.slot asking) (rw there.slot flying) sound (AreVacant-set s.slots s.vacant id.index (Live id.generation is) (lacks_at s id was there kept.vacant_ones) kept.vacant_ones) (ListsAll-keep s.slots s.vacant id.index (Live id.generation is) there.within refl kept.all_listed) (none_held_by s (written s id is) id (Some is) _ _ (Updates-write s id is (rw at refl)) (rw at (λ below. held)) (omega arith) kept.none_held) kept

  -- an entry goes
  pub kept_removed : {h : ℕ} (s : Slab (Entry S F)) (id : Id) (was : Entry S F) (n k n' k' : ℕ) → value_at s id ≡ Some was → n' + one_if (is_asking was) ≡ n → k' + one_if (flies was) ≡ k → IsKept s n k h → IsKept (removed s id) n' k' h
  kept_removed {h} s id was n k n' k' at asking flying kept =
      let there = at_by s id was at in
      let lacks = lacks_at s id was there kept.vacant_ones in
      let i = id.index in
      let next = id.generation + 1 in
      let none = none_held_by s (removed s id) id None h h (goes s id was at) (λ below held. absurd (false≢true held)) (omega arith) kept.none_held in
      elim (ltb_tells next (2 ^ 64)) [
        | inl fits ↦
            rw fits.0 (kept_set s (i ∷ s.vacant) s.room i (Vacant next) n k n' k' there.within (rw there.slot (omega (arith, asking))) (rw there.slot (omega (arith, flying))) refl (
              record { generation = next; is = get_or-set_same s.slots i (Vacant next) Retired there.within },
              lacks,
              AreVacant-set s.slots s.vacant i (Vacant next) lacks kept.vacant_ones,
            ) (ListsAll-free s.slots s.vacant i (Vacant next) kept.all_listed) (rw fits.0 at none) kept)
        | inr last ↦
            rw last.0 (kept_set s s.vacant s.room i Retired n k n' k' there.within (rw there.slot (omega (arith, asking))) (rw there.slot (omega (arith, flying))) refl (AreVacant-set s.slots s.vacant i Retired lacks kept.vacant_ones) (ListsAll-keep s.slots s.vacant i Retired there.within refl kept.all_listed) (rw last.0 at none) kept)
      ]

  -- an entry comes
  kept_filled : {h h' : ℕ} (s : Slab (Entry S F)) (vacant : List ℕ) (r : Request) (observer : Observer S F) (room n k : ℕ) → is_full (record s { vacant = vacant }) ≡ false → is_sound_entry (admitted r observer) ≡ true → NoneHeldBelow (record (filled (record s { vacant = vacant }) vacant (admitted r observer)) { room = room }) h' → IsKept (record s { vacant = vacant }) n k h → IsKept (record (filled (record s { vacant = vacant }) vacant (admitted r observer)) { room = room }) (n + 1) k h'
  kept_filled s [] r observer room n k free sound none kept =
      let last = Live s.first (admitted r observer) in
      record {
        pending_is = omega (arith, sum_by_push (λ (o : Slot (Entry S F)). cond (counts_pending o) 1 0) s.slots last, kept.pending_is);
        flying_is = omega (arith, sum_by_push (λ (o : Slot (Entry S F)). cond (counts_flying o) 1 0) s.slots last, kept.flying_is);
        sound = All-push (λ (o : Slot (Entry S F)). is_sound_slot o ≡ true) s.slots last kept.sound sound;
        few = omega (arith, length-append s.slots (last ∷ []), leb-false _ _ free);
        vacant_ones = AreVacant-push s.slots [] last kept.vacant_ones;
        all_listed = ListsAll-push s.slots [] last refl kept.all_listed;
        none_held = none;
      }
  kept_filled s (i ∷ rest) r observer room n k free sound none kept =
      let was = kept.vacant_ones.0 in
      let inside = vacant_within s.slots i was.generation was.is in
      let here : slot_at s i ≡ Vacant was.generation = get_or_default s.slots i (Vacant s.first) Retired inside ∙ was.is in
      let slot = Live (generation_of (slot_at s i)) (admitted r observer) in
      kept_set (record s { vacant = i ∷ rest }) rest room i slot n k (n + 1) k inside (rw here (omega arith)) (rw here (omega arith)) sound (AreVacant-set s.slots rest i slot kept.vacant_ones.1 kept.vacant_ones.2) (ListsAll-fill s.slots rest i slot inside refl kept.all_listed) none kept

  pub kept_inserted : {h h' : ℕ} (s : Slab (Entry S F)) (r : Request) (observer : Observer S F) (room n k : ℕ) → is_full s ≡ false → suits r observer ≡ true → NoneHeldBelow (record (inserted s (admitted r observer)) { room = room }) h' → IsKept s n k h → IsKept (record (inserted s (admitted r observer)) { room = room }) (n + 1) k h'
  kept_inserted s r observer room n k free fits none kept = kept_filled s s.vacant r observer room n k free (rw fits refl) none kept

  -- where the next slot would be that of the last index, each index is used
  used_by : {h : ℕ} (s : Slab (Entry S F)) (vacant : List ℕ) (n k : ℕ) → is_full (record s { vacant = vacant }) ≡ true → IsKept (record s { vacant = vacant }) n k h → IsUsedUp s
  used_by s [] n k full kept =
      record { all_there = omega (arith, leb-true _ _ full, kept.few); none_vacant = none-vacant s.slots kept.all_listed }
  used_by s (i ∷ rest) n k full kept =
      let was = kept.vacant_ones.0 in
      absurd (omega (arith, leb-true _ _ full, vacant_within s.slots i was.generation was.is, kept.few))

  pub used_up : {h : ℕ} (s : Slab (Entry S F)) (n k : ℕ) → is_full s ≡ true → IsKept s n k h → IsUsedUp s
  used_up s n k full kept = used_by s s.vacant n k full kept

  -- what keeps a request sound: its permit, another observer that is no detached sync, an operation of what may be staged
  pub sound_permitted : (w : Waiter S F) → is_sound w ≡ true → is_sound (with_permit w) ≡ true
  sound_permitted = grind (arith, cases_Bool)

  pub sound_observed : (w : Waiter S F) (observer : Observer S F) → is_detached observer ≡ false → is_sound w ≡ true → is_sound (with_observer observer w) ≡ true
  sound_observed = grind (arith, cases_Bool)

  pub sound_staged : (w : Waiter S F) (request : Request) → kept_of request ≡ kept_of w.request → needs_permit w ≡ false → is_sound w ≡ true → is_sound (record w { in_flight = true; request = request }) ≡ true
  sound_staged = grind (arith, cases_Bool)

  pub sound_landed : (w : Waiter S F) (request : Request) → kept_of request ≡ kept_of w.request → is_sound w ≡ true → is_sound (record w { in_flight = false; request = request }) ≡ true
  sound_landed = grind (arith, cases_Bool)

  -- one that isn't over counts, and so does one in flight; neither count is more than there are slots
  pub counted : {h : ℕ} (s : Slab (Entry S F)) (id : Id) (was : Entry S F) (n k : ℕ) → value_at s id ≡ Some was → IsKept s n k h → (one_if (is_asking was) ≤ n) × (one_if (flies was) ≤ k)
  counted s id was n k at kept =
      let there = at_by s id was at in
      let asks : one_if (counts_pending (slot_at s id.index)) ≤ n = omega (arith, get_or-le-sum_by (λ (o : Slot (Entry S F)). cond (counts_pending o) 1 0) s.slots id.index (Vacant s.first) there.within, kept.pending_is) in
      let flying : one_if (counts_flying (slot_at s id.index)) ≤ k = omega (arith, get_or-le-sum_by (λ (o : Slot (Entry S F)). cond (counts_flying o) 1 0) s.slots id.index (Vacant s.first) there.within, kept.flying_is) in
      (rw there.slot at asks, rw there.slot at flying)

  -- the request is sound
  pub sound_at : {h : ℕ} (s : Slab (Entry S F)) (id : Id) (w : Waiter S F) (n k : ℕ) → waiter_at s id ≡ Some w → IsKept s n k h → is_sound w ≡ true
  sound_at s id w n k at kept =
      let there = at_by s id (Pending w) (entry_of _ w at) in
      rw there.slot at (kept.sound id.index (Vacant s.first) there.within)

  -- a request becomes another that is as sound
  pub kept_changed : {h : ℕ} (s : Slab (Entry S F)) (id : Id) (w w' : Waiter S F) (n k k' : ℕ) → waiter_at s id ≡ Some w → k' + one_if w.in_flight ≡ k + one_if w'.in_flight → (is_sound w ≡ true → is_sound w' ≡ true) → (is_held_by w'.observer ≡ true → is_held_by w.observer ≡ true) → IsKept s n k h → IsKept (written s id (Pending w')) n k' h
  kept_changed s id w w' n k k' at flying sound held kept =
      kept_written s id (Pending w) (Pending w') n k n k' (entry_of _ w at) refl flying (sound (sound_at s id w n k at kept)) held kept

  -- what may be staged isn't under way, and lacks no permit
  pub staging_tells : (o : Option (Waiter S F)) (w : Waiter S F) → o ≡ Some w → may_stage o ≡ true → (w.in_flight ≡ false) × (needs_permit w ≡ false)
  staging_tells = grind (arith, cases_Bool)

  -- what a completion names is under way
  pub named_flies : (s : Slab (Entry S F)) (user_data : ℕ) (id : Id) (w : Waiter S F) → named s user_data ≡ Some id → waiter_at s id ≡ Some w → w.in_flight ≡ true
  named_flies = grind (arith, common_steps)

  -- what is idle isn't under way
  pub idle_tells : (o : Option (Waiter S F)) (w : Waiter S F) → o ≡ Some w → is_idle o ≡ true → w.in_flight ≡ false
  idle_tells = grind (arith, cases_Bool)

  -- a request is over, and its output is kept, or it is gone
  pub kept_over : {h : ℕ} (s : Slab (Entry S F)) (id : Id) (w : Waiter S F) (told : RequestOutput) (n k : ℕ) → waiter_at s id ≡ Some w → w.in_flight ≡ false → is_held_by w.observer ≡ true → IsKept s n k h → IsKept (written s id (Ready told)) (n - 1) k h
  kept_over s id w told n k at idle held kept =
      let one : 1 ≤ n = (counted s id (Pending w) n k (entry_of _ w at) kept).0 in
      kept_written s id (Pending w) (Ready told) n k (n - 1) k (entry_of _ w at) (omega arith) (rw idle refl) refl (λ told. held) kept

  pub kept_gone : {h : ℕ} (s : Slab (Entry S F)) (id : Id) (w : Waiter S F) (n k : ℕ) → waiter_at s id ≡ Some w → w.in_flight ≡ false → IsKept s n k h → IsKept (removed s id) (n - 1) k h
  kept_gone s id w n k at idle kept =
      let one : 1 ≤ n = (counted s id (Pending w) n k (entry_of _ w at) kept).0 in
      kept_removed s id (Pending w) n k (n - 1) k (entry_of _ w at) (omega arith) (rw idle (omega arith)) kept
