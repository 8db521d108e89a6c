-- The slots of requests as they are seen, where one is written again, or is free again; and which of them are awaited.
use Rattle.exec_invariants.proofs.{Words.{◌≡◌, ◌≢◌, ℕ, zero, suc, ◌+◌, ◌==◌, ◌||◌, not, cond, Bool, true, false, List, [], ◌∷◌, filter, set, slice_get, slice_index_or, Some, None, if◌then◌else◌, refl, sym, ap, ◌∙◌, arith, eq-eqb, Slab, freed, is_live, removed, value_at, written, Id, Slot, Live, Entry, is_in_slots, vacated, has_number, Reply, number_in, awaited_from, awaits_entry, is_awaited, slots_seen, not_same, same_Some}, HeldCounts.{awaited_set, slots_set}, FiringSlots.{alive_at, number_there, at_zero, OneBed, bed_in, bed_vacated}}

-- what is live stands in its slot
pub live_at : (s : Slab (Entry Reply Reply)) (id : Id) (e : Entry Reply Reply) → value_at s id ≡ Some e → slice_get s.slots id.index ≡ Some (Live id.generation e)
live_at = alive_at

-- WRITTEN AGAIN

pub slots_written : (numbers : List ℕ) (s : Slab (Entry Reply Reply)) (id : Id) (was is : Entry Reply Reply) → value_at s id ≡ Some was → slots_seen numbers (written s id is) ≡ slots_seen numbers s
slots_written numbers s id was is at =
    ap (λ xs. record { held = xs; vacant = s.vacant }) (slots_set 0 numbers s.slots id.index id.generation (Live id.generation was) is (live_at s id was at) refl)

pub awaited_written : (numbers : List ℕ) (s : Slab (Entry Reply Reply)) (id : Id) (was is : Entry Reply Reply) → value_at s id ≡ Some was → awaits_entry was ≡ awaits_entry is → awaited_from 0 numbers (written s id is).slots ≡ awaited_from 0 numbers s.slots
awaited_written numbers s id was is at same = awaited_set 0 numbers s.slots id.index id.generation (Live id.generation was) is (live_at s id was at) same

-- FREE AGAIN

freed_unawaited : (g : ℕ) → is_awaited (freed g) ≡ false
freed_unawaited = grind arith

-- each number stands in one slot
abbrev pub OneSlot : List ℕ → Slab (Entry Reply Reply) → Id → Type 0
OneSlot numbers s id = OneBed numbers s id

module _ (numbers : List ℕ) (s : Slab (Entry Reply Reply)) (id : Id) (one : OneSlot numbers s id) where
  pub slot_in : is_in_slots (number_in numbers id) (slots_seen numbers s) ≡ true
  slot_in = bed_in numbers s id one

  pub slots_vacated : slots_seen numbers (removed s id) ≡ vacated (number_in numbers id) (slots_seen numbers s)
  slots_vacated = bed_vacated numbers s id one

-- WHO IS AWAITED

awaited_freed : (k : ℕ) (numbers : List ℕ) (slots : List (Slot (Entry Reply Reply))) (i g : ℕ) (o : Slot (Entry Reply Reply)) → slice_get slots i ≡ Some o → is_awaited o ≡ false → awaited_from k numbers (set slots i (freed g)) ≡ awaited_from k numbers slots
awaited_freed k numbers [] i g o at none = refl
awaited_freed k numbers (x ∷ slots) zero g o at none = grind (arith, same_Some, freed_unawaited)
awaited_freed k numbers (x ∷ slots) (suc i) g o at none = ap (λ xs. if is_awaited x then slice_index_or numbers k 0 ∷ xs else xs) (awaited_freed (suc k) numbers slots i g o at none)

-- others have other numbers
abbrev AreOthers : ℕ → ℕ → List ℕ → List (Slot (Entry Reply Reply)) → ℕ → Type 0
AreOthers n k numbers slots i = (j : ℕ) (x : Slot (Entry Reply Reply)) → slice_get slots j ≡ Some x → is_awaited x ≡ true → (j ≡ i → ⊥) → slice_index_or numbers (k + j) 0 ≢ n

others_later : (n k : ℕ) (numbers : List ℕ) (x : Slot (Entry Reply Reply)) (slots : List (Slot (Entry Reply Reply))) (i : ℕ) → AreOthers n k numbers (x ∷ slots) (suc i) → AreOthers n (suc k) numbers slots i
others_later n k numbers x slots i others j y at awaited apart same =
    others (suc j) y at awaited (λ e. apart (let is : j ≡ i = omega (arith, e) in is)) (ap (λ m. slice_index_or numbers m 0) (let e : k + suc j ≡ suc k + j = omega arith in e) ∙ same)

-- none of the rest has this number
none_kept : (n k : ℕ) (numbers : List ℕ) (slots : List (Slot (Entry Reply Reply))) → ((j : ℕ) (x : Slot (Entry Reply Reply)) → slice_get slots j ≡ Some x → is_awaited x ≡ true → slice_index_or numbers (k + j) 0 ≢ n)
    → (filter (λ q. not (q == n)) (awaited_from k numbers slots) ≡ awaited_from k numbers slots) × (has_number n (awaited_from k numbers slots) ≡ false)
none_kept n k numbers [] others = (refl, refl)
none_kept n k numbers (x ∷ slots) others =
    let rest = none_kept n (suc k) numbers slots (λ j y at awaited same. others (suc j) y at awaited (ap (λ m. slice_index_or numbers m 0) (let e : k + suc j ≡ suc k + j = omega arith in e) ∙ same)) in
    by (is_awaited x) refl rest
  where
    keep : List ℕ → List ℕ
    keep ns = filter (λ q. not (q == n)) ns

    by : (b : Bool) → is_awaited x ≡ b → (keep (awaited_from (suc k) numbers slots) ≡ awaited_from (suc k) numbers slots) × (has_number n (awaited_from (suc k) numbers slots) ≡ false)
        → (keep (awaited_from k numbers (x ∷ slots)) ≡ awaited_from k numbers (x ∷ slots)) × (has_number n (awaited_from k numbers (x ∷ slots)) ≡ false)
    by true is rest =
        let m = slice_index_or numbers k 0 in
        let ns = awaited_from (suc k) numbers slots in
        let other : (m == n) ≡ false = not_same m n (λ same. others 0 x refl is (ap (λ q. slice_index_or numbers q 0) (let e : k + 0 ≡ k = omega arith in e) ∙ same)) in (
          ap (λ b. keep (if b then m ∷ ns else ns)) is ∙ ap (λ b. cond (not b) (m ∷ keep ns) (keep ns)) other ∙ ap (λ ys. m ∷ ys) rest.0 ∙ sym (ap (λ b. if b then m ∷ ns else ns) is),
          ap (λ b. has_number n (if b then m ∷ ns else ns)) is ∙ ap (λ b. b || has_number n ns) other ∙ rest.1,
        )
    by false is rest = grind arith

-- one is awaited no more
awaited_dropped : (n k : ℕ) (numbers : List ℕ) (slots : List (Slot (Entry Reply Reply))) (i g : ℕ) (o : Slot (Entry Reply Reply)) (e : Entry Reply Reply) → slice_get slots i ≡ Some o → awaits_entry e ≡ false → slice_index_or numbers (k + i) 0 ≡ n → AreOthers n k numbers slots i
    → (awaited_from k numbers (set slots i (Live g e)) ≡ filter (λ q. not (q == n)) (awaited_from k numbers slots)) × (has_number n (awaited_from k numbers slots) ≡ is_awaited o)
awaited_dropped n k numbers [] i g o e there none is others = absurd (let no : None ≡ Some o = there in cc)
awaited_dropped n k numbers (x ∷ slots) zero g o e there none is others =
    let keep : List ℕ → List ℕ = λ ns. filter (λ q. not (q == n)) ns in
    let ns : List ℕ = awaited_from (suc k) numbers slots in
    let by : (b : Bool) → is_awaited x ≡ b → (keep ns ≡ ns) × (has_number n ns ≡ false) → (slice_index_or numbers k 0 == n) ≡ true → is_awaited x ≡ is_awaited o → (awaited_from k numbers (set (x ∷ slots) zero (Live g e)) ≡ keep (awaited_from k numbers (x ∷ slots))) × (has_number n (awaited_from k numbers (x ∷ slots)) ≡ is_awaited o) =
    grind arith in
    let same : x ≡ o = same_Some x o there in
    let rest = none_kept n (suc k) numbers slots (λ j y at awaited same. others (suc j) y at awaited (λ e. absurd (omega (arith, e))) (ap (λ m. slice_index_or numbers m 0) (let e : k + suc j ≡ suc k + j = omega arith in e) ∙ same)) in
    let here : slice_index_or numbers k 0 ≡ n = ap (λ m. slice_index_or numbers m 0) (let e : k ≡ k + 0 = omega arith in e) ∙ is in
    by (is_awaited x) refl rest (ap (λ m. m == n) here ∙ eq-eqb n n refl) (ap is_awaited same)
awaited_dropped n k numbers (x ∷ slots) (suc i) g o e there none is others =
    let rest = awaited_dropped n (suc k) numbers slots i g o e there none (ap (λ m. slice_index_or numbers m 0) (let e : suc k + i ≡ k + suc i = omega arith in e) ∙ is) (others_later n k numbers x slots i others) in
    by (is_awaited x) refl rest
  where
    keep : List ℕ → List ℕ
    keep ns = filter (λ q. not (q == n)) ns

    ns : List ℕ
    ns = awaited_from (suc k) numbers slots

    ns' : List ℕ
    ns' = awaited_from (suc k) numbers (set slots i (Live g e))

    by : (b : Bool) → is_awaited x ≡ b → (ns' ≡ keep ns) × (has_number n ns ≡ is_awaited o)
        → (awaited_from k numbers (set (x ∷ slots) (suc i) (Live g e)) ≡ keep (awaited_from k numbers (x ∷ slots))) × (has_number n (awaited_from k numbers (x ∷ slots)) ≡ is_awaited o)
    by true at rest =
        let m = slice_index_or numbers k 0 in
        let other : (m == n) ≡ false = not_same m n (λ same. others 0 x refl at (λ e. absurd (omega (arith, e))) (ap (λ q. slice_index_or numbers q 0) (let e : k + 0 ≡ k = omega arith in e) ∙ same)) in (
          ap (λ b. if b then m ∷ ns' else ns') at ∙ ap (λ ys. m ∷ ys) rest.0 ∙ sym (ap (λ b. keep (if b then m ∷ ns else ns)) at ∙ ap (λ b. cond (not b) (m ∷ keep ns) (keep ns)) other),
          ap (λ b. has_number n (if b then m ∷ ns else ns)) at ∙ ap (λ b. b || has_number n ns) other ∙ rest.1,
        )
    by false at rest =
        let m = slice_index_or numbers k 0 in (
          ap (λ b. if b then m ∷ ns' else ns') at ∙ rest.0 ∙ sym (ap (λ b. keep (if b then m ∷ ns else ns)) at),
          ap (λ b. has_number n (if b then m ∷ ns else ns)) at ∙ rest.1,
        )

awaited_live : (x : Slot (Entry Reply Reply)) → is_awaited x ≡ true → is_live x ≡ true
awaited_live = grind arith

module _ (numbers : List ℕ) (s : Slab (Entry Reply Reply)) (id : Id) (one : OneSlot numbers s id) where
  -- it goes, and nobody of the worker awaited it
  pub awaited_removed : awaits_entry one.e ≡ false → awaited_from 0 numbers (removed s id).slots ≡ awaited_from 0 numbers s.slots
  awaited_removed none = awaited_freed 0 numbers s.slots id.index id.generation (Live id.generation one.e) (live_at s id one.e one.live) none

  -- it is over
  pub awaited_over : (e : Entry Reply Reply) → awaits_entry e ≡ false
      → (awaited_from 0 numbers (written s id e).slots ≡ filter (λ q. not (q == number_in numbers id)) (awaited_from 0 numbers s.slots)) × (has_number (number_in numbers id) (awaited_from 0 numbers s.slots) ≡ awaits_entry one.e)
  awaited_over e none =
      awaited_dropped (number_in numbers id) 0 numbers s.slots id.index id.generation (Live id.generation one.e) e (live_at s id one.e one.live) none (number_there numbers id)
      (λ j x at awaited apart same. apart (one.alone j x at (awaited_live x awaited) (at_zero numbers j (number_in numbers id) same)))
