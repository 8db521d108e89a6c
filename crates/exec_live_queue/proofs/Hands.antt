-- The slots of a run of labels: taken out all at once, and given back all at once.
use Rattle.exec_live_queue.{proofs.Words.{◌≡◌, ◌≢◌, ℕ, zero, suc, ◌+◌, ◌-◌, ◌%◌, ◌<◌, ◌≤◌, List, [], ◌∷◌, ◌++◌, length, map, set, replicate, sym, refl, ap, ap₂, ◌∙◌, subst, mod-lt, length-set, append_assoc, arith, add-mod_right, none, some, dite, ℕ_discrete, get_elem?, Option, Some, None, Valid, carried_after, homes_after, rest, set_here, set_else, one_turn, Homes, HomeAt, hand, give_all, values_of}, specs.Plays.take_all}
use Rattle.std.proofs.Common.{arith}

-- two labels less than 256 apart have slots of their own
pub apart : (a b : ℕ) → a < b → b < a + 256 → a % 256 ≢ b % 256
apart a b lt near e = let is : a ≡ b = one_turn a b 256 (omega arith) near e in omega arith

in_row : (a : ℕ) → a % 256 < 256
in_row a = mod-lt a (omega arith)

module _ {T : Type 0} where
  -- the slots of the labels from a on are home with these
  abbrev pub AllHome : Homes T → ℕ → List (Option T) → Type 0
  AllHome homes a [] = Unit {0}
  AllHome homes a (x ∷ xs) = HomeAt homes a x × AllHome homes (suc a) xs

  pub take_before : (xs : List (Option T)) (hs : Homes T) (c : List (ℕ × Option T)) (a l : ℕ) → l < a → a + length xs ≤ l + 256
      → get_elem? (homes_after hs c (take_all a xs)) (l % 256) ≡ get_elem? hs (l % 256)
  take_before [] hs c a l lt near = refl
  take_before (x ∷ xs) hs c a l lt near = grind (arith, set_else, homes_after, none, apart, take_before xs hs c (suc a) l (omega arith) (omega arith))

  pub take_behind : (xs : List (Option T)) (hs : Homes T) (c : List (ℕ × Option T)) (a l : ℕ) → a + length xs ≤ l → l < a + 256
      → get_elem? (homes_after hs c (take_all a xs)) (l % 256) ≡ get_elem? hs (l % 256)
  take_behind [] hs c a l le near = refl
  take_behind (x ∷ xs) hs c a l le near = grind (arith, set_else, homes_after, none, apart, take_behind xs hs c (suc a) l (omega arith) (omega arith))

  pub take_valid : (xs : List (Option T)) (hs : Homes T) (c : List (ℕ × Option T)) (a : ℕ) → length xs ≤ 256 → AllHome hs a xs → Valid hs c (take_all a xs)
  take_valid [] hs c a small home = tt
  take_valid (x ∷ xs) hs c a small home = (take_valid xs hs c (suc a) (omega arith) home.1, take_before xs hs c (suc a) a (omega arith) (omega arith) ∙ home.0)

  pub take_carried : (xs : List (Option T)) (c : List (ℕ × Option T)) (a : ℕ) → carried_after c (take_all a xs) ≡ hand a xs ++ c
  take_carried [] c a = refl
  take_carried (x ∷ xs) c a = ap (λ (l : List (ℕ × Option T)). (a % 256, x) ∷ l) (take_carried xs c (suc a))

  pub take_length : (xs : List (Option T)) (hs : Homes T) (c : List (ℕ × Option T)) (a : ℕ) → length (homes_after hs c (take_all a xs)) ≡ length hs
  take_length [] hs c a = refl
  take_length (x ∷ xs) hs c a = length-set (homes_after hs c (take_all (suc a) xs)) (a % 256) none ∙ take_length xs hs c (suc a)

  pub give_before : (xs : List (Option T)) (hs : Homes T) (a l : ℕ) → l < a → a + length xs ≤ l + 256
      → get_elem? (homes_after hs (hand a xs) (give_all xs)) (l % 256) ≡ get_elem? hs (l % 256)
  give_before [] hs a l lt near = refl
  give_before (x ∷ xs) hs a l lt near = grind (arith, set_else, apart, give_before xs (set hs (a % 256) (some x)) (suc a) l (omega arith) (omega arith))

  pub give_behind : (xs : List (Option T)) (hs : Homes T) (a l : ℕ) → a + length xs ≤ l → l < a + 256
      → get_elem? (homes_after hs (hand a xs) (give_all xs)) (l % 256) ≡ get_elem? hs (l % 256)
  give_behind [] hs a l le near = refl
  give_behind (x ∷ xs) hs a l le near = grind (arith, set_else, apart, give_behind xs (set hs (a % 256) (some x)) (suc a) l (omega arith) (omega arith))

  pub give_here : (xs : List (Option T)) (hs : Homes T) (a : ℕ) → length xs ≤ 256 → length hs ≡ 256 → AllHome (homes_after hs (hand a xs) (give_all xs)) a xs
  give_here [] hs a small wide = tt
  give_here (x ∷ xs) hs a small wide = let hs' : Homes T = set hs (a % 256) (some x) in (
    give_before xs hs' (suc a) a (omega arith) (omega arith) ∙ set_here hs (a % 256) (some x) (subst (λ (n : ℕ). a % 256 < n) (sym wide) (in_row a)),
    give_here xs hs' (suc a) (omega arith) (length-set hs (a % 256) (some x) ∙ wide),
  )

  pub give_valid : (xs : List (Option T)) (hs : Homes T) (c : List (ℕ × Option T)) → Valid hs c (give_all xs)
  give_valid [] hs c = tt
  give_valid (x ∷ xs) hs [] = (tt, give_valid xs hs [])
  give_valid (x ∷ xs) hs (y ∷ c) = (tt, give_valid xs (set hs y.0 (some y.1)) c)

  pub give_carried : (xs : List (Option T)) (a : ℕ) → carried_after (hand a xs) (give_all xs) ≡ []
  give_carried [] a = refl
  give_carried (x ∷ xs) a = give_carried xs (suc a)

  -- the slots that are carried behind the run stay as they are
  pub give_first : (xs : List (Option T)) (hs : Homes T) (a : ℕ) (c : List (ℕ × Option T))
      → homes_after hs (hand a xs ++ c) (give_all xs) ≡ homes_after hs (hand a xs) (give_all xs)
  give_first [] hs a c = refl
  give_first (x ∷ xs) hs a c = give_first xs (set hs (a % 256) (some x)) (suc a) c

  pub give_left : (xs : List (Option T)) (a : ℕ) (c : List (ℕ × Option T))
      → carried_after (hand a xs ++ c) (give_all xs) ≡ c
  give_left [] a c = refl
  give_left (x ∷ xs) a c = give_left xs (suc a) c

  pub give_length : (xs : List (Option T)) (hs : Homes T) (a : ℕ) → length (homes_after hs (hand a xs) (give_all xs)) ≡ length hs
  give_length [] hs a = refl
  give_length (x ∷ xs) hs a = give_length xs (set hs (a % 256) (some x)) (suc a) ∙ length-set hs (a % 256) (some x)

  -- a run of free labels, and one of them
  pub all_free : (n : ℕ) (hs : Homes T) (a : ℕ) → ((l : ℕ) → a ≤ l → l < a + n → HomeAt hs l None) → AllHome hs a (replicate n None)
  all_free zero hs a free = tt
  all_free (suc n) hs a free = (free a (omega arith) (omega arith), all_free n hs (suc a) (λ l le lt. free l (omega arith) (omega arith)))

  pub free_at : (n : ℕ) (hs : Homes T) (a l : ℕ) → AllHome hs a (replicate n None) → a ≤ l → l < a + n → HomeAt hs l None
  free_at zero hs a l home le lt = absurd (omega arith)
  free_at (suc n) hs a l home le lt = dite (ℕ_discrete l a) (λ e. subst (λ (k : ℕ). HomeAt hs k None) (sym e) home.0) (λ ne. free_at n hs (suc a) l home.1 (omega arith) (omega arith))

  -- the same slots serve the labels one turn further on
  pub hand_turn : (a : ℕ) (xs : List (Option T)) → hand (a + 256) xs ≡ hand a xs
  hand_turn a [] = refl
  hand_turn a (x ∷ xs) = grind (arith, ap₂, add-mod_right, hand, hand_turn (suc a) xs)

  -- a run of values that are home
  pub all_full : (ys : List T) (hs : Homes T) (a : ℕ) → ((j : ℕ) (x : T) → get_elem? ys j ≡ some x → HomeAt hs (a + j) (Some x)) → AllHome hs a (map Some ys)
  all_full [] hs a full = tt
  all_full (y ∷ ys) hs a full = let here : a + zero ≡ a = omega arith in (
    subst (λ (n : ℕ). HomeAt hs n (Some y)) here (full zero y refl),
    all_full ys hs (suc a) (λ j x e. let next : a + suc j ≡ suc a + j = omega arith in subst (λ (n : ℕ). HomeAt hs n (Some x)) next (full (suc j) x e)),
  )

  -- one of a run of values that are home
  pub some_at : (xs : List T) (hs : Homes T) (a l : ℕ) → AllHome hs a (map Some xs) → a ≤ l → l < a + length xs
      → (x : T) × (get_elem? xs (l - a) ≡ some x) × HomeAt hs l (Some x)
  some_at [] hs a l home le lt = absurd (omega arith)
  some_at (x ∷ xs) hs a l home le lt = dite (ℕ_discrete l a)
      (λ e. let first : 0 ≡ l - a = omega arith in (x, subst (λ (k : ℕ). get_elem? (x ∷ xs) k ≡ some x) first refl, subst (λ (k : ℕ). HomeAt hs k (Some x)) (sym e) home.0))
      (λ ne. let r = some_at xs hs (suc a) l home.1 (omega arith) (omega arith) in let next : suc (l - suc a) ≡ l - a = omega arith in (r.0, subst (λ (k : ℕ). get_elem? (x ∷ xs) k ≡ some r.0) next r.1, r.2))

  -- the values in the slots of two runs, one of which is empty
  pub values_behind : (xs : List T) (r a b : ℕ) → values_of (hand a (replicate r None) ++ hand b (map Some xs)) ≡ xs
  values_behind xs (suc r) a b = values_behind xs r (suc a) b
  values_behind [] zero a b = refl
  values_behind (x ∷ xs) zero a b = ap (λ (l : List T). x ∷ l) (values_behind xs zero a (suc b))

  pub values_before : (xs : List T) (r a b : ℕ) → values_of (hand a (map Some xs) ++ hand b (replicate r None)) ≡ xs
  values_before [] zero a b = refl
  values_before [] (suc r) a b = values_before [] r a (suc b)
  values_before (x ∷ xs) r a b = ap (λ (l : List T). x ∷ l) (values_before xs r (suc a) b)

  -- a run of slots, and one more behind it
  hand_snoc : (b : ℕ) (ys : List (Option T)) (y : Option T) → hand b ys ++ ((b + length ys) % 256, y) ∷ [] ≡ hand b (ys ++ y ∷ [])
  hand_snoc b [] y = let e : b + zero ≡ b = omega arith in ap (λ (n : ℕ). (n % 256, y) ∷ []) e
  hand_snoc b (z ∷ ys) y = let e : b + suc (length ys) ≡ suc b + length ys = omega arith in ap (λ (l : List (ℕ × Option T)). (b % 256, z) ∷ l) (ap (λ (n : ℕ). hand (suc b) ys ++ (n % 256, y) ∷ []) e ∙ hand_snoc (suc b) ys y)

  -- the slot in front is written, and turned behind the others
  pub turned_on : (l : List (ℕ × Option T)) (a b : ℕ) (x y : Option T) (xs ys : List (Option T)) → l ≡ hand a (x ∷ xs) ++ hand b ys → a ≡ b + length ys
      → rest l ++ (a % 256, y) ∷ [] ≡ hand (a + 1) xs ++ hand b (ys ++ y ∷ [])
  turned_on l a b x y xs ys e is = grind (arith, append_assoc, hand_snoc)
