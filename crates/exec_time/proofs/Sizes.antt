-- The sizes of wheels.
use Rattle.std.{proofs.{Common.{◌≡◌, ℕ, ◌+◌, ◌*◌, ◌/◌, ◌^◌, ◌<◌, ◌≤◌, zero, suc, Bool, true, false, List, [], ◌∷◌, None, Some, nat_le, ◌||◌, max, map, refl, sym, ◌∙◌, ap, arith, inl, inr}, lemmas.{Grind.common_steps, Bool.{cases_lt, cases_Bool, le-leb, lt-leb, leb-true, Decides.nat_tests}}, Math.Nat.pow-le-pow_right}, specs.{List.{find, range_with_len, list_all}, Int.IsPowerOfTwo}}
use Rattle.exec_time.specs.Layouts.{sizes, slots_needed, is_out_of_range, slots_of}

-- the horizon or the tick is out of range
pub refused : (horizon tick : ℕ) → (is_out_of_range horizon || is_out_of_range tick) ≡ true → slots_of horizon tick ≡ None
unfolding slots_of
refused horizon tick is = rw is refl

pow_more : (j : ℕ) → 2 ^ (j + 1) ≡ 2 * 2 ^ j
pow_more j = grind (arith, common_steps)

-- all sizes are too small
none_enough : (needed most : ℕ) (xs : List ℕ) → list_all (λ x. nat_le x most) xs ≡ true → most < needed → find (λ size. nat_le needed size) xs ≡ None
none_enough needed most [] all more = refl
none_enough needed most (x ∷ xs) all more = grind (arith, common_steps, nat_tests, all, none_enough needed most xs)

pub too_many : (horizon tick : ℕ) → 1048576 < slots_needed horizon tick → slots_of horizon tick ≡ None
unfolding slots_of
too_many horizon tick more =
    elim (cases_Bool (is_out_of_range horizon || is_out_of_range tick)) [
      | inl out ↦ rw out refl
      | inr within ↦ rw within (none_enough (slots_needed horizon tick) 1048576 sizes refl more)
    ]

-- the first of the powers that is enough
first_enough : (p : ℕ → Bool) (f : ℕ → ℕ) (a n m : ℕ) → a ≤ m → m < a + n → p (f m) ≡ true → ((k : ℕ) → k < m → p (f k) ≡ false) → find p (map f (range_with_len a n)) ≡ Some (f m)
first_enough p f a zero m low high passes fails = absurd (omega arith)
first_enough p f a (suc n) m low high passes fails =
    elim (cases_lt a m) [
      | inl before ↦ rw (fails a before) (first_enough p f (a + 1) n m (omega arith) (omega arith) passes fails)
      | inr here ↦ let same : a ≡ m = omega arith in let passes_here : p (f a) ≡ true = cc in rw passes_here (cc)
    ]

pub enough : (horizon tick size : ℕ) → is_out_of_range horizon ≡ false → is_out_of_range tick ≡ false → slots_needed horizon tick ≤ 1048576 → IsPowerOfTwo size → slots_needed horizon tick ≤ size → size / 2 < max 1 (slots_needed horizon tick) → slots_of horizon tick ≡ Some size
unfolding slots_of
enough horizon tick size in_horizon in_tick few (k, is) low high =
    rw (in_horizon, in_tick) (first_enough (λ s. nat_le (slots_needed horizon tick) s) (λ j. 2 ^ j) 0 21 k (omega arith) small passes fails ∙ ap Some (sym is))
  where
    half : (j : ℕ) → 2 ^ (j + 1) / 2 ≡ 2 ^ j
    half j = omega (arith, pow_more j)

    small : k < 0 + 21
    small =
        elim (cases_lt k 21) [
          | inl less ↦ omega arith
          | inr more ↦ let big : 2 ^ 21 ≤ 2 ^ k = pow-le-pow_right (omega arith) more in absurd (omega arith)
        ]

    passes : nat_le (slots_needed horizon tick) (2 ^ k) ≡ true
    passes = le-leb _ _ (omega arith)

    fails : (j : ℕ) → j < k → nat_le (slots_needed horizon tick) (2 ^ j) ≡ false
    fails j less =
        let up : 2 ^ (j + 1) ≤ 2 ^ k = pow-le-pow_right (omega arith) (omega arith) in
        lt-leb _ _ (omega (arith, half j))

-- what is found passes
find_passes : (p : ℕ → Bool) (xs : List ℕ) (x : ℕ) → find p xs ≡ Some x → p x ≡ true
find_passes p [] x found = absurd (cc)
find_passes p (y ∷ ys) x found =
    elim (cases_Bool (p y)) [
      | inl here ↦ let same = rw here at found in let at : y ≡ x = cc in rw (← at) here
      | inr not_here ↦ find_passes p ys x (rw not_here at found)
    ]

-- a wheel has slots, and its tick is some time
pub some_slots : (horizon tick slots : ℕ) → slots_of horizon tick ≡ Some slots → 0 < slots
unfolding slots_of
some_slots horizon tick slots found =
    elim (cases_Bool (is_out_of_range horizon || is_out_of_range tick)) [
      | inl out ↦ let none = rw out at found in absurd (cc)
      | inr within ↦ let is = rw within at found in
          let more : slots_needed horizon tick ≤ slots = leb-true _ _ (find_passes (λ s. nat_le (slots_needed horizon tick) s) sizes slots is) in omega arith
    ]

pub some_tick : (horizon tick slots : ℕ) → slots_of horizon tick ≡ Some slots → 0 < tick
unfolding slots_of
some_tick horizon tick slots found =
    elim (cases_Bool (is_out_of_range horizon || is_out_of_range tick)) [
      | inl out ↦ let none = rw out at found in absurd (cc)
      | inr within ↦ grind (arith, common_steps, nat_tests, within)
    ]
