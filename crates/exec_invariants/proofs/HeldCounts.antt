-- Of how many requests somebody may take or let go the output, once one changed; and the slots, as they are seen then.
use Rattle.exec_invariants.{proofs.Names.{◌≡◌, ℕ, zero, suc, ◌+◌, Bool, true, false, cond, List, [], ◌∷◌, set, slice_get, slice_index_or, Some, None, refl, ap, arith, if◌then◌else◌, sum_by-set, Slab, is_live, removed, value_at, written, Id, Slot, Live, Vacant, Retired, is_held, Entry, at_by, one_if, Reply, awaited_from, awaits_entry, is_awaited, slots_from}, specs.Names.{counts_held, held_count}}

pub held_written : (s : Slab (Entry Reply Reply)) (id : Id) (was is : Entry Reply Reply) → value_at s id ≡ Some was → held_count (written s id is) + one_if (is_held was) ≡ held_count s + one_if (is_held is)
held_written = grind (arith, at_by, one_if, sum_by-set)

freed_held : (b : Bool) (h : ℕ) → one_if (counts_held (cond b (Vacant h) Retired)) ≡ 0
freed_held true h = refl
freed_held false h = refl

pub held_removed : (s : Slab (Entry Reply Reply)) (id : Id) (was : Entry Reply Reply) → value_at s id ≡ Some was → held_count (removed s id) + one_if (is_held was) ≡ held_count s
held_removed = grind (arith, at_by, one_if, freed_held, sum_by-set)

-- THE SLOTS AS THEY ARE SEEN, where a live one is written again

pub slots_set : (k : ℕ) (numbers : List ℕ) (slots : List (Slot (Entry Reply Reply))) (i g : ℕ) (o : Slot (Entry Reply Reply)) (e : Entry Reply Reply) → slice_get slots i ≡ Some o → is_live o ≡ true → slots_from k numbers (set slots i (Live g e)) ≡ slots_from k numbers slots
slots_set k numbers [] i g o e there live = refl
slots_set k numbers (x ∷ slots) zero g o e there live = grind arith
slots_set k numbers (x ∷ slots) (suc i) g o e there live = ap (λ xs. (if is_live x then Some (slice_index_or numbers k 0) else None) ∷ xs) (slots_set (suc k) numbers slots i g o e there live)

pub awaited_set : (k : ℕ) (numbers : List ℕ) (slots : List (Slot (Entry Reply Reply))) (i g : ℕ) (o : Slot (Entry Reply Reply)) (e : Entry Reply Reply) → slice_get slots i ≡ Some o → is_awaited o ≡ awaits_entry e → awaited_from k numbers (set slots i (Live g e)) ≡ awaited_from k numbers slots
awaited_set k numbers [] i g o e there same = refl
awaited_set k numbers (x ∷ slots) zero g o e there same = grind arith
awaited_set k numbers (x ∷ slots) (suc i) g o e there same = ap (λ xs. if is_awaited x then slice_index_or numbers k 0 ∷ xs else xs) (awaited_set (suc k) numbers slots i g o e there same)
