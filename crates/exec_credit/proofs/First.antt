-- Where something is due, something is due first.
use Rattle.std.{proofs.{Common.{◌≡◌, ℕ, zero, suc, ◌+◌, ◌<◌, ◌≤◌, ◌==◌, ◌&&◌, ◌||◌, Bool, true, false, not, List, [], ◌∷◌, length, get_or, if◌then◌else◌, Option, Some, None, ◌∙◌, refl, sym, ap, subst, arith, inl, inr}, lemmas.Bool.{true≢false, false≢true, or_cases, or_parts, or_from, eq-eqb, and_from, and_parts, or_right, or_left, ltb-false, lt-leb, le-leb, leb-true, leb-false, eqb-true, not-true}}, specs.{Prelude.{nat_le, nat_lt}, List.list_any}}
use Rattle.exec_machine.specs.{declared.{config.Configuration.Configuration, state.{Request.Request, Sleeper.Sleeper}}, Deadlines.{is_due, is_first_due, is_none_earlier, is_told_after, order_on_wheel}, Tests.{all_numbered, is_asleep, is_open}, World.{Own as Books, Common, no_request, no_sleeper, seat_of, sleeper_of}}
use Rattle.exec_moves.specs.{Serve.{first_numbered, first_to_fire, is_to_fire}, Slots.{first_in, is_some_slot, slot_of, is_in_slots}, State.Desk, Submit.first_due}

-- where none is found, none passes the test
pub none_passes : {X : Type 0} (test : ℕ → X → Bool) (n : ℕ) (xs : List X) (d : X) → first_numbered test n xs ≡ None → (k : ℕ) → k < length xs → test (n + k) (get_or xs k d) ≡ false
none_passes test n [] d none k within = let no : ⊥ = omega (arith, within) in absurd no
none_passes test n (x ∷ xs) d none k within = by (test n x) refl none (λ rest j less. none_passes test (suc n) xs d rest j less) k within
  where
    by : (b : Bool) → test n x ≡ b → (if b then Some n else first_numbered test (suc n) xs) ≡ None
        → (first_numbered test (suc n) xs ≡ None → (j : ℕ) → j < length xs → test (suc n + j) (get_or xs j d) ≡ false)
        → (k : ℕ) → k < suc (length xs) → test (n + k) (get_or (x ∷ xs) k d) ≡ false
    by true h none later k within = let no : Some n ≡ None = none in absurd (cc)
    by false h none later zero within = let same : n + 0 ≡ n = omega arith in rw same h
    by false h none later (suc k) within = let same : n + suc k ≡ suc n + k = omega arith in rw same (later none k (omega (arith, within)))

-- FIRST DUE: of those that are due one is told before all others

abbrev comes : ℕ → ℕ → ℕ → ℕ → Bool
comes o k p j = nat_lt o p || ((o == p) && nat_lt k j)

comes_no : (o k p j : ℕ) → p ≤ o → (o ≡ p → j ≤ k) → comes o k p j ≡ false
comes_no o k p j le same = rw (lt-leb (suc o) p (omega (arith, le))) (by (o == p) refl)
  where
    by : (b : Bool) → (o == p) ≡ b → (b && nat_lt k j) ≡ false
    by true h = lt-leb (suc k) j (omega (arith, same (eqb-true o p h)))
    by false h = refl

no_comes : (o k p j : ℕ) → comes o k p j ≡ false → (p ≤ o) × (o ≡ p → j ≤ k)
no_comes o k p j h =
    let it = or_parts (nat_lt o p) ((o == p) && nat_lt k j) h in
    (omega (arith, ltb-false o p it.0), λ same. omega (arith, ltb-false k j (subst (λ b. (b && nat_lt k j) ≡ false) (eq-eqb o p same) it.1)))

-- none of those from number n on that pass comes before this one
abbrev IsBefore : {X : Type 0} → (X → Bool) → (X → ℕ) → ℕ → ℕ → ℕ → List X → Type 0
IsBefore passes order k o n xs = all_numbered (λ j z. not (passes z) || not (comes (order z) j o k)) n xs ≡ true

all_weaker : {X : Type 0} (f g : ℕ → X → Bool) (n : ℕ) (xs : List X) → ((j : ℕ) (z : X) → n ≤ j → f j z ≡ true → g j z ≡ true) → all_numbered f n xs ≡ true → all_numbered g n xs ≡ true
all_weaker f g n [] weaker h = refl
all_weaker f g n (x ∷ xs) weaker h =
    let it = and_parts (f n x) (all_numbered f (suc n) xs) h in
    and_from (g n x) (all_numbered g (suc n) xs) (weaker n x (omega arith) it.0) (all_weaker f g (suc n) xs (λ j z le. weaker j z (omega (arith, le))) it.1)

all_of : {X : Type 0} (f : ℕ → X → Bool) (n : ℕ) (xs : List X) (d : X) → ((k : ℕ) → k < length xs → (j : ℕ) → f j (get_or xs k d) ≡ true) → all_numbered f n xs ≡ true
all_of f n [] d each = refl
all_of f n (x ∷ xs) d each = and_from (f n x) (all_numbered f (suc n) xs) (each 0 (omega arith) n) (all_of f (suc n) xs d (λ k within. each (suc k) (omega (arith, within))))

-- nothing passes, or there is a first of what passes, by order and number
data Search {X : Type 0} (passes : X → Bool) (order : X → ℕ) (n : ℕ) (xs : List X) (d : X) : Type 0 where
  Nothing : ((k : ℕ) → k < length xs → passes (get_or xs k d) ≡ false) → Search passes order n xs d
  Least : (k : ℕ) → k < length xs → passes (get_or xs k d) ≡ true → IsBefore passes order (n + k) (order (get_or xs k d)) n xs → Search passes order n xs d

module _ {X : Type 0} (passes : X → Bool) (order : X → ℕ) (d : X) where
  before_head : (n : ℕ) (x : X) → (not (passes x) || not (comes (order x) n (order x) (n + 0))) ≡ true
  before_head n x = or_right (not (passes x)) (not (comes (order x) n (order x) (n + 0))) (ap not (comes_no (order x) n (order x) (n + 0) (omega arith) (λ h. omega arith)))

  -- the head comes before all, where it isn't behind the first of the rest
  head_first : (n : ℕ) (x : X) (xs : List X) (k p : ℕ) → order x ≤ p → IsBefore passes order (suc n + k) p (suc n) xs → IsBefore passes order (n + 0) (order x) n (x ∷ xs)
  head_first n x xs k p le before =
      and_from (not (passes x) || not (comes (order x) n (order x) (n + 0))) (all_numbered (λ j z. not (passes z) || not (comes (order z) j (order x) (n + 0))) (suc n) xs) (before_head n x)
      (all_weaker (λ j z. not (passes z) || not (comes (order z) j p (suc n + k))) (λ j z. not (passes z) || not (comes (order z) j (order x) (n + 0))) (suc n) xs weaker before)
    where
      weaker : (j : ℕ) (z : X) → suc n ≤ j → (not (passes z) || not (comes (order z) j p (suc n + k))) ≡ true → (not (passes z) || not (comes (order z) j (order x) (n + 0))) ≡ true
      weaker j z later h = elim (or_cases (not (passes z)) (not (comes (order z) j p (suc n + k))) h) [
        | inl fails ↦ or_left (not (passes z)) (not (comes (order z) j (order x) (n + 0))) fails
        | inr behind ↦
            let it = no_comes (order z) j p (suc n + k) (not-true (comes (order z) j p (suc n + k)) behind) in
            or_right (not (passes z)) (not (comes (order z) j (order x) (n + 0))) (ap not (comes_no (order z) j (order x) (n + 0) (omega (arith, le, it.0)) (λ same. omega (arith, later))))
      ]

  step : (n : ℕ) (x : X) (xs : List X) (b : Bool) → passes x ≡ b → Search passes order (suc n) xs d → Search passes order n (x ∷ xs) d
  step n x xs false fails (Nothing none) = Nothing (λ k within. none_here k within)
    where
      none_here : (k : ℕ) → k < suc (length xs) → passes (get_or (x ∷ xs) k d) ≡ false
      none_here zero within = fails
      none_here (suc k) within = none k (omega (arith, within))
  step n x xs true is (Nothing none) =
      Least 0 (omega arith) is (and_from (not (passes x) || not (comes (order x) n (order x) (n + 0))) (all_numbered (λ j z. not (passes z) || not (comes (order z) j (order x) (n + 0))) (suc n) xs) (before_head n x)
      (all_of (λ j z. not (passes z) || not (comes (order z) j (order x) (n + 0))) (suc n) xs d (λ k within j. or_left (not (passes (get_or xs k d))) (not (comes (order (get_or xs k d)) j (order x) (n + 0))) (ap not (none k within)))))
  step n x xs false fails (Least k within passed before) =
      let same : suc n + k ≡ n + suc k = omega arith in
      Least (suc k) (omega (arith, within)) passed (and_from (not (passes x) || not (comes (order x) n (order (get_or xs k d)) (n + suc k))) (all_numbered (λ j z. not (passes z) || not (comes (order z) j (order (get_or xs k d)) (n + suc k))) (suc n) xs)
      (or_left (not (passes x)) (not (comes (order x) n (order (get_or xs k d)) (n + suc k))) (ap not fails))
      (subst (λ m. IsBefore passes order m (order (get_or xs k d)) (suc n) xs) same before))
  step n x xs true is (Least k within passed before) = by (nat_le (order x) (order (get_or xs k d))) refl
    where
      by : (b : Bool) → nat_le (order x) (order (get_or xs k d)) ≡ b → Search passes order n (x ∷ xs) d
      by true le = Least 0 (omega arith) is (head_first n x xs k (order (get_or xs k d)) (leb-true (order x) (order (get_or xs k d)) le) before)
      by false more =
          let less : order (get_or xs k d) < order x = omega (arith, leb-false (order x) (order (get_or xs k d)) more) in
          let same : suc n + k ≡ n + suc k = omega arith in
          Least (suc k) (omega (arith, within)) passed (and_from (not (passes x) || not (comes (order x) n (order (get_or xs k d)) (n + suc k))) (all_numbered (λ j z. not (passes z) || not (comes (order z) j (order (get_or xs k d)) (n + suc k))) (suc n) xs)
          (or_right (not (passes x)) (not (comes (order x) n (order (get_or xs k d)) (n + suc k))) (ap not (comes_no (order x) n (order (get_or xs k d)) (n + suc k) (omega (arith, less)) (λ h. omega (arith, less)))))
          (subst (λ m. IsBefore passes order m (order (get_or xs k d)) (suc n) xs) same before))

  search_first : (n : ℕ) (xs : List X) → Search passes order n xs d
  search_first n [] = Nothing (λ k within. let no : ⊥ = omega (arith, within) in absurd no)
  search_first n (x ∷ xs) = step n x xs (passes x) refl (search_first (suc n) xs)

  none_any : (xs : List X) → ((k : ℕ) → k < length xs → passes (get_or xs k d) ≡ false) → list_any passes xs ≡ false
  none_any [] none = refl
  none_any (x ∷ xs) none = or_from (passes x) (list_any passes xs) (none 0 (omega arith)) (none_any xs (λ k within. none (suc k) (omega (arith, within))))

-- where no deadline is told first, none is due
pub deadlines : (c : Configuration) (i : ℕ) (me : Books) (s : Common) → first_due c i me s ≡ None → list_any (is_due i me.sampled) s.requests ≡ false
deadlines c i me s none = by (search_first (is_due i me.sampled) (λ r. order_on_wheel c me r.timer) no_request 0 s.requests)
  where
    by : Search (is_due i me.sampled) (λ (r : Request). order_on_wheel c me r.timer) 0 s.requests no_request → list_any (is_due i me.sampled) s.requests ≡ false
    by (Nothing h) = none_any (is_due i me.sampled) (λ r. order_on_wheel c me r.timer) no_request s.requests h
    by (Least k within passed before) =
        let y = get_or s.requests k no_request in
        let zero : 0 + k ≡ k = omega arith in
        let first = subst (λ m. IsBefore (is_due i me.sampled) (λ (r : Request). order_on_wheel c me r.timer) m (order_on_wheel c me y.timer) 0 s.requests) zero before in
        let is = and_from (is_due i me.sampled y) (all_numbered (is_told_after c me i k y.timer) 0 s.requests) passed first in
        let not_first = subst (λ m. is_first_due c me i s.requests m ≡ false) zero (none_passes (λ r it. is_first_due c me i s.requests r) 0 s.requests no_request none k within) in
        absurd (true≢false (sym is ∙ not_first))

-- where none of the slots passes the test, no number that stands in one does
none_in : (test : ℕ → Bool) (held : List (Option ℕ)) → first_in test held ≡ None → (n k : ℕ) → is_some_slot (slot_of n k held) ≡ true
    → test n ≡ false
none_in test [] none n k there = absurd (false≢true there)
none_in test (None ∷ held) none n k there = none_in test held none n (suc k) there
none_in test (Some m ∷ held) none n k there = by (test m) refl none (n == m) refl there (λ h. none_in test held h n (suc k))
  where
    by : (b : Bool) → test m ≡ b → (if b then Some m else first_in test held) ≡ None
        → (same : Bool) → (n == m) ≡ same → is_some_slot (if same then Some k else slot_of n (suc k) held) ≡ true
        → (first_in test held ≡ None → is_some_slot (slot_of n (suc k) held) ≡ true → test n ≡ false) → test n ≡ false
    by true h none same is there later = let no : Some m ≡ None = none in absurd (cc)
    by false h none true is there later = ap test (eqb-true n m is) ∙ h
    by false h none false is there later = later none there

weaker : (a b e : Bool) → (not a || not (b || e)) ≡ true → (not a || not b) ≡ true
weaker false b e h = refl
weaker true false e h = refl
weaker true true e h = h

-- where no sleeper is told first, none of an open worker is due
pub sleepers : (i : ℕ) (me : Books) (s : Common) (d : Desk) → ((z : ℕ) → is_asleep i (sleeper_of s z) ≡ true → is_in_slots z d.timers ≡ true) → is_open (seat_of s i).phase ≡ true
    → first_to_fire i me s d ≡ None → list_any (λ z. is_asleep i z && nat_le z.until me.sampled) s.sleepers ≡ false
sleepers i me s d beds open_still none = by (search_first (λ z. is_asleep i z && nat_le z.until me.sampled) (λ z. z.until) no_sleeper 0 s.sleepers)
  where
    passes : Sleeper → Bool
    passes z = is_asleep i z && nat_le z.until me.sampled

    none_first : first_in (is_to_fire i me s) d.timers.held ≡ None
    none_first = subst (λ b. (if b then first_in (is_to_fire i me s) d.timers.held else None) ≡ None) open_still none

    later : (until : ℕ) → until ≤ me.sampled → (z : Sleeper) (b : Bool) → is_asleep i z ≡ b → (not (b && nat_le z.until me.sampled) || not (nat_lt z.until until)) ≡ true → (not b || nat_le until z.until) ≡ true
    later until le z false h k = refl
    later until le z true h k = elim (or_cases (not (nat_le z.until me.sampled)) (not (nat_lt z.until until)) k) [
      | inl far ↦ le-leb until z.until (omega (arith, le, leb-false z.until me.sampled (not-true (nat_le z.until me.sampled) far)))
      | inr behind ↦ le-leb until z.until (omega (arith, ltb-false z.until until (not-true (nat_lt z.until until) behind)))
    ]

    none_earlier : (until k n : ℕ) → until ≤ me.sampled → (zs : List Sleeper) → IsBefore passes (λ (z : Sleeper). z.until) k until n zs → is_none_earlier i until zs ≡ true
    none_earlier until k n le [] before = refl
    none_earlier until k n le (z ∷ zs) before =
        let it = and_parts (not (passes z) || not (comes z.until n until k)) (all_numbered (λ j y. not (passes y) || not (comes y.until j until k)) (suc n) zs) before in
        and_from (not (is_asleep i z) || nat_le until z.until) (is_none_earlier i until zs) (later until le z (is_asleep i z) refl (weaker (passes z) (nat_lt z.until until) ((z.until == until) && nat_lt n k) it.0)) (none_earlier until k (suc n) le zs it.1)

    by : Search passes (λ (z : Sleeper). z.until) 0 s.sleepers no_sleeper → list_any passes s.sleepers ≡ false
    by (Nothing h) = none_any passes (λ z. z.until) no_sleeper s.sleepers h
    by (Least k within passed before) =
        let y = get_or s.sleepers k no_sleeper in
        let parts = and_parts (is_asleep i y) (nat_le y.until me.sampled) passed in
        let is = and_from (passes y) (is_none_earlier i y.until s.sleepers) passed (none_earlier y.until (0 + k) 0 (leb-true y.until me.sampled parts.1) s.sleepers before) in
        absurd (true≢false (sym is ∙ none_in (is_to_fire i me s) d.timers.held none_first k 0 (beds k parts.0)))
