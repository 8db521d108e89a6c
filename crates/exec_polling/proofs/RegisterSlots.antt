-- The slots of requests, or of sleepers, as they are seen once one more came: in the slot that was freed last, or in a new one.
use Rattle.std.proofs.{Common.{◌≡◌, ◌≢◌, ℕ, suc, zero, ◌+◌, ◌<◌, false, List, [], ◌∷◌, ◌++◌, length, Some, None, refl, sym, ap, ◌∙◌, arith, slice_get, slice_index_or, slice_set, if◌then◌else◌}, lemmas.{Bool.eq-eqb, Option.get_or_from_slice_get}}
use Rattle.exec_base.specs.{Slab.{Slab, inserted, next_id, next_index, value_in}, declared.slab.{Id.Id, Slot.{Slot, TheVariants.{Live, Vacant, Retired}}}}
use Rattle.exec_waiters.specs.declared.waiter.Entry.{Entry}
use Rattle.exec_moves.specs.Slots.{entered}
use Rattle.exec_parts.specs.{declared.parts.mail.Reply.Reply, View.{awaited_from, awaits_entry, is_awaited, slots_from, slots_seen}}
use Rattle.exec_invariants.proofs.Taken.{Takes, number_old}

module _ (numbers numbers' : List ℕ) (at k : ℕ) (here : slice_get numbers' at ≡ Some k) (others : (j : ℕ) → j ≢ at → slice_get numbers' j ≡ slice_get numbers j) where
  number_at : slice_index_or numbers' at 0 ≡ k
  number_at = get_or_from_slice_get numbers' at k 0 here

  number_same : (j : ℕ) → j ≢ at → slice_index_or numbers' j 0 ≡ slice_index_or numbers j 0
  number_same j apart = number_old numbers numbers' (record { index = at; generation = 0 }) k here others (record { index = j; generation = 0 }) apart

  -- behind it, or before it
  slots_behind : {T : Type 0} (m : ℕ) (xs : List (Slot T)) → at < m → slots_from m numbers' xs ≡ slots_from m numbers xs
  slots_behind m [] past = refl
  slots_behind m (x ∷ xs) past = grind (arith, number_same, slots_behind (suc m) xs (omega (arith, past)))

  slots_pushed : {T : Type 0} (m g : ℕ) (v : T) (xs : List (Slot T)) → m + length xs ≡ at → slots_from m numbers' (xs ++ Live g v ∷ []) ≡ slots_from m numbers xs ++ Some k ∷ []
  slots_pushed m g v [] is = grind (arith, number_at)
  slots_pushed m g v (x ∷ xs) is = grind (arith, number_same, slots_pushed (suc m) g v xs (omega (arith, is)))

  slots_filled : {T : Type 0} (m i g : ℕ) (v : T) (xs : List (Slot T)) → m + i ≡ at → slots_from m numbers' (slice_set xs i (Live g v)) ≡ slice_set (slots_from m numbers xs) i (Some k)
  slots_filled m i g v [] is = refl
  slots_filled m zero g v (x ∷ xs) is = grind (arith, number_at, slots_behind)
  slots_filled m (suc i) g v (x ∷ xs) is = grind (arith, number_same, slots_filled (suc m) i g v xs (omega (arith, is)))

  -- nobody waits for what came
  awaited_behind : (m : ℕ) (xs : List (Slot (Entry Reply Reply))) → at < m → awaited_from m numbers' xs ≡ awaited_from m numbers xs
  awaited_behind m [] past = refl
  awaited_behind m (x ∷ xs) past = grind (arith, number_same, awaited_behind (suc m) xs (omega (arith, past)))

  awaited_pushed : (m g : ℕ) (e : Entry Reply Reply) (xs : List (Slot (Entry Reply Reply))) → m + length xs ≡ at → awaits_entry e ≡ false → awaited_from m numbers' (xs ++ Live g e ∷ []) ≡ awaited_from m numbers xs
  awaited_pushed m g e [] is free = ap (λ b. if b then slice_index_or numbers' m 0 ∷ [] else []) free
  awaited_pushed m g e (x ∷ xs) is free = grind (arith, number_same, awaited_pushed (suc m) g e xs (omega (arith, is)) free)

  awaited_filled : (m i g : ℕ) (e : Entry Reply Reply) (xs : List (Slot (Entry Reply Reply))) → m + i ≡ at → awaits_entry e ≡ false → ((x : Slot (Entry Reply Reply)) → slice_get xs i ≡ Some x → is_awaited x ≡ false)
      → awaited_from m numbers' (slice_set xs i (Live g e)) ≡ awaited_from m numbers xs
  awaited_filled m i g e [] is free was = refl
  awaited_filled m zero g e (x ∷ xs) is free was = grind (arith, awaited_behind)
  awaited_filled m (suc i) g e (x ∷ xs) is free was = grind (arith, number_same, awaited_filled (suc m) i g e xs (omega (arith, is)) free was)

-- it takes the slot that was freed last, or a new one
index_next : {T : Type 0} (s : Slab T) (id : Id) → next_id s ≡ Some id → next_index s.vacant (length s.slots) ≡ id.index
index_next = grind arith

pub slots_entered : {T : Type 0} (numbers numbers' : List ℕ) (s : Slab T) (id : Id) (v : T) (k : ℕ) → next_id s ≡ Some id → slice_get numbers' id.index ≡ Some k → ((j : ℕ) → j ≢ id.index → slice_get numbers' j ≡ slice_get numbers j)
    → slots_seen numbers' (inserted s v) ≡ entered k (slots_seen numbers s)
slots_entered = grind (arith, index_next, slots_pushed, slots_filled)

-- WHO IS AWAITED

dead_slot : (x : Slot (Entry Reply Reply)) → ((g : ℕ) → value_in x g ≡ None) → is_awaited x ≡ false
dead_slot (Live g e) empty = absurd (let no : Some e ≡ None = sym (ap (λ b. if b then Some e else None) (eq-eqb g g refl)) ∙ empty g in cc)
dead_slot (Vacant g) empty = refl
dead_slot Retired empty = refl

pub awaited_entered : (numbers numbers' : List ℕ) (s s' : Slab (Entry Reply Reply)) (id : Id) (e : Entry Reply Reply) (k : ℕ) → next_id s ≡ Some id → Takes s s' id e → slice_get numbers' id.index ≡ Some k → ((j : ℕ) → j ≢ id.index → slice_get numbers' j ≡ slice_get numbers j)
    → awaits_entry e ≡ false → awaited_from 0 numbers' (inserted s e).slots ≡ awaited_from 0 numbers s.slots
awaited_entered = grind (arith, index_next, awaited_pushed, awaited_filled, get_or_from_slice_get, dead_slot)
