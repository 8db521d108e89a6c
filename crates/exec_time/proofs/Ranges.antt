-- Ranges of ticks, the first of them that passes a test, and their slots.
use Rattle.std.{proofs.{Common.{◌≡◌, ℕ, ◌+◌, ◌-◌, ◌/◌, ◌<◌, ◌≤◌, ◌%◌, zero, suc, Bool, true, false, cond, ◌==◌, List, [], ◌∷◌, length, map, Contains, All, nat_lt, nat_le, min, Option, None, Some, refl, sym, arith, inl, inr}, lemmas.{Grind.common_steps, List.Sums.{sum_by-le, get_or-le-sum_by, count_by-le-length}, Bool.{cases_lt, cases_eq, lt-ltb, le-ltb, Decides.nat_tests}}, Math.Nat.{mul-le-mul_left, div-add-mod}}, specs.{List.{range_with_len, find, list_any}, Option.{IfNone, IfSome}}}
use Rattle.exec_time.specs.Entries.{active_in}

-- the first number of a range that passes
pub find_first : (p : ℕ → Bool) (a n m : ℕ) → a ≤ m → m < a + n → p m ≡ true → ((k : ℕ) → k < m → p k ≡ false) → find p (range_with_len a n) ≡ Some m
find_first p a zero m low high passes_there fails = absurd (omega arith)
find_first p a (suc n) m low high passes_there fails =
    elim (cases_lt a m) [
      | inl before ↦ rw (fails a before) (find_first p (a + 1) n m (omega arith) (omega arith) passes_there fails)
      | inr here ↦ let same : a ≡ m = omega arith in let passes : p a ≡ true = cc in rw passes (cc)
    ]

-- none passes
pub find_none : (p : ℕ → Bool) (xs : List ℕ) → ((k : ℕ) → p k ≡ false) → find p xs ≡ None
find_none p [] fails = refl
find_none p (x ∷ xs) fails = grind (arith, common_steps, fails x, find_none p xs fails)

-- nothing is active
pub active_nowhere : (tick : ℕ) → active_in [] tick ≡ 0
unfolding active_in
active_nowhere tick = refl

-- what is among the ticks is active
pub active_among : (ticks : List ℕ) (tick : ℕ) → Contains ticks tick → 0 < active_in ticks tick
unfolding active_in
active_among ticks tick (k, h, e) = grind (arith, common_steps, get_or-le-sum_by (λ x. cond (x == tick) 1 0) ticks k tick h)

-- so is what a list may give
pub found_active : (r : Option ℕ) (ticks : List ℕ) → IfSome r (Contains ticks) → IfSome r (λ t. 0 < active_in ticks t)
found_active None ticks among = tt
found_active (Some t) ticks among = active_among ticks t among

-- nothing less than the least of them is
pub active_is_among : (ticks : List ℕ) (least tick : ℕ) → All (λ t. least ≤ t) ticks → 0 < active_in ticks tick → least ≤ tick
unfolding active_in
active_is_among ticks least tick all some =
    elim (cases_lt tick least) [
      | inl below ↦ absurd (omega (arith, sum_by-le (λ t. cond (t == tick) 1 0) 0 ticks (λ k d inside. grind (arith, common_steps, all k d inside))))
      | inr least_is ↦ least_is
    ]

-- the least of the active ticks is the first ahead that is active
pub least_found : (r : Option ℕ) (ticks : List ℕ) (current slots : ℕ) → 0 < slots → ((t : ℕ) → 0 < active_in ticks t → current < t) → ((t : ℕ) → 0 < active_in ticks t → t < current + slots) → IfNone r (length ticks ≡ 0) → IfSome r (Contains ticks) → IfSome r (λ l. All (λ t. l ≤ t) ticks) → r ≡ find (λ t. nat_lt 0 (active_in ticks t)) (range_with_len (current + 1) (slots - 1))
least_found None [] current slots some ahead near none among least = sym (find_none (λ t. nat_lt 0 (active_in [] t)) (range_with_len (current + 1) (slots - 1)) (λ k. grind (arith, common_steps, active_nowhere k)))
least_found None (t ∷ ticks) current slots some ahead near none among least = absurd (omega arith)
least_found (Some l) ticks current slots some ahead near none among least =
    let active : 0 < active_in ticks l = active_among ticks l among in
    let after : current < l = ahead l active in
    let before : l < current + slots = near l active in
    sym (find_first (λ t. nat_lt 0 (active_in ticks t)) (current + 1) (slots - 1) l (omega arith) (omega arith) (lt-ltb _ _ active) (λ k below. le-ltb _ _ (not_below k below)))
  where
    not_below : (k : ℕ) → k < l → active_in ticks k ≤ 0
    not_below k below =
        elim (cases_lt 0 (active_in ticks k)) [
          | inl active_there ↦ let no_less : l ≤ k = active_is_among ticks l k least active_there in absurd (omega arith)
          | inr none_there ↦ none_there
        ]

-- ticks less than a revolution apart have slots of their own
pub slots_apart : (slots a b : ℕ) → 0 < slots → a < b → b < a + slots → a % slots ≡ b % slots → ⊥
slots_apart slots a b some less near same =
    elim (cases_lt (a / slots) (b / slots)) [
      | inl up ↦ omega (arith, div-add-mod a slots, div-add-mod b slots, mul-le-mul_left slots (more up))
      | inr down ↦ omega (arith, div-add-mod a slots, div-add-mod b slots, mul-le-mul_left slots down)
    ]
  where
    more : (a / slots) < (b / slots) → (a / slots) + 1 ≤ b / slots
    more up = omega arith

-- whether a slot is among those of a range of ticks: not that of a later tick, within a revolution
pub slot_of_later : (slots a n b : ℕ) → 0 < slots → a + n ≤ b → b < a + slots → list_any (λ s. s == (b % slots)) (map (λ t. t % slots) (range_with_len a n)) ≡ false
slot_of_later slots a zero b some below near = refl
slot_of_later slots a (suc n) b some below near =
    let apart : (a % slots) ≡ (b % slots) → ⊥ = slots_apart slots a b some (omega arith) near in
    let rest : list_any (λ s. s == (b % slots)) (map (λ t. t % slots) (range_with_len (a + 1) n)) ≡ false = slot_of_later slots (a + 1) n b some (omega arith) (omega arith) in
    grind (arith, common_steps, apart, rest)

-- so not that of the next one
pub slot_of_next : (slots first count : ℕ) → 0 < slots → count < slots → list_any (λ s. s == ((first + count) % slots)) (map (λ t. t % slots) (range_with_len first count)) ≡ false
slot_of_next slots first count some less = slot_of_later slots first count (first + count) some (omega arith) (omega arith)

-- and that of each tick of the range
pub slot_of_passed : (slots a n b : ℕ) → a ≤ b → b < a + n → list_any (λ s. s == (b % slots)) (map (λ t. t % slots) (range_with_len a n)) ≡ true
slot_of_passed slots a zero b low high = absurd (omega arith)
slot_of_passed slots a (suc n) b low high =
    elim (cases_eq a b) [
      | inl same ↦ rw same (grind (arith, common_steps))
      | inr other ↦ let rest : list_any (λ s. s == (b % slots)) (map (λ t. t % slots) (range_with_len (a + 1) n)) ≡ true = slot_of_passed slots (a + 1) n b (omega (arith, other)) (omega arith) in grind (arith, common_steps, rest)
    ]

-- the first number of a range that passes is no later than one that does
pub find_before : (p : ℕ → Bool) (a n b : ℕ) → a ≤ b → b < a + n → p b ≡ true → (m : ℕ) × (find p (range_with_len a n) ≡ Some m) × (m ≤ b)
find_before p a zero b low high passes = absurd (omega arith)
find_before p a (suc n) b low high passes =
    by_test (p a) refl (λ later. find_before p (a + 1) n b (omega (arith, later)) (omega arith) passes)
  where
    by_test : (t : Bool) → p a ≡ t → ((a ≡ b → ⊥) → (m : ℕ) × (find p (range_with_len (a + 1) n) ≡ Some m) × (m ≤ b)) → (m : ℕ) × (find p (range_with_len a (suc n)) ≡ Some m) × (m ≤ b)
    by_test true is rest = (a, rw is refl, low)
    by_test false is rest =
        let found = rest (λ same. absurd (let passes_here : p a ≡ true = rw same passes in cc)) in
        (found.0, rw is found.1, found.2)

-- a revolution at most is a full one where as much or more has elapsed
pub full_turn : (elapsed slots count all : ℕ) → count ≡ min elapsed slots → all ≡ slots → (count == all) ≡ nat_le slots elapsed
full_turn elapsed slots count all least same = grind (arith, common_steps, nat_tests, least, same)

-- no tick is active more often than there are active ones
pub active_few : (ticks : List ℕ) (tick : ℕ) → active_in ticks tick ≤ length ticks
unfolding active_in
active_few ticks tick = count_by-le-length (λ t. t == tick) ticks
