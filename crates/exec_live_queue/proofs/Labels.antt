-- Runs of labels, and what they weigh; and lists.
use Rattle.exec_live_queue.proofs.Words.{◌≡◌, ℕ, zero, suc, ◌+◌, ◌-◌, ◌<◌, ◌≤◌, ◌⊎◌, List, [], ◌∷◌, ◌++◌, length, take, sym, refl, ap, ◌∙◌, subst, inl, inr, ⊎_elim, drop-drop, length-drop, length-append, arith, drop-take, drop_at, drop-append-le, some, some-injective, some-ne-none, get_elem?, sum_by, sum_by-cons, labels}
use Rattle.std.proofs.{Common.{arith, drop}, lemmas.List.{take_all, length-take-le}}

-- the labels of two runs, one behind the other
pub weigh_runs : (w : ℕ → ℕ) (a n m : ℕ) → sum_by w (labels a (n + m)) ≡ sum_by w (labels a n) + sum_by w (labels (a + n) m)
unfolding labels
weigh_runs w a zero m = let e : zero + m ≡ m = omega arith in let h : a + zero ≡ a = omega arith in rw (e, h) (omega arith)
weigh_runs w a (suc n) m =
    let e : suc n + m ≡ suc (n + m) = omega arith in let h : suc a + n ≡ a + suc n = omega arith in
    let r = weigh_runs w (suc a) n m in let p = sum_by-cons w a (labels (suc a) (n + m)) in let q = sum_by-cons w a (labels (suc a) n) in
    let here : sum_by w (a ∷ labels (suc a) (n + m)) ≡ sum_by w (a ∷ labels (suc a) n) + sum_by w (labels (suc a + n) m) = omega (arith, r, p, q) in
    rw (e, ← h) here

pub weigh_one : (w : ℕ → ℕ) (a : ℕ) → sum_by w (labels a 1) ≡ w a
unfolding labels
weigh_one w a = let p = sum_by-cons w a [] in omega (arith, p)

pub labels_length : (a n : ℕ) → length (labels a n) ≡ n
unfolding labels
labels_length a zero = refl
labels_length a (suc n) = let r = labels_length (suc a) n in omega (arith, r)

pub labels_at : (a n i l : ℕ) → get_elem? (labels a n) i ≡ some l → (i < n) × (l ≡ a + i)
unfolding labels
labels_at a zero i l e = absurd (some-ne-none l (sym e))
labels_at a (suc n) zero l e = let h : a ≡ l = some-injective a l e in (omega arith, omega arith)
labels_at a (suc n) (suc i) l e = let r = labels_at (suc a) n i l e in (omega (arith, r.0), omega (arith, r.1))

module _ {X : Type 0} where
  -- the m items behind the first k of those from a on
  pub window : (xs : List X) (a k m : ℕ) → take m (drop (a + k) xs) ≡ drop k (take (k + m) (drop a xs))
  window xs a k m = sym (drop-take k m (drop a xs) ∙ ap (take m) (drop-drop k a xs))

  pub at_drop : (xs : List X) (a j : ℕ) → get_elem? (drop a xs) j ≡ get_elem? xs (a + j)
  at_drop xs zero j = let e : j ≡ zero + j = omega arith in ap (get_elem? xs) e
  at_drop [] (suc a) j = refl
  at_drop (x ∷ xs) (suc a) j = let e : suc (a + j) ≡ suc a + j = omega arith in at_drop xs a j ∙ ap (get_elem? (x ∷ xs)) e

  pub at_take : (xs : List X) (m j : ℕ) → j < m → get_elem? (take m xs) j ≡ get_elem? xs j
  at_take xs zero j lt = absurd (omega arith)
  at_take [] (suc m) j lt = refl
  at_take (x ∷ xs) (suc m) zero lt = refl
  at_take (x ∷ xs) (suc m) (suc j) lt = at_take xs m j (omega arith)

  pub at_within : (xs : List X) (j : ℕ) (x : X) → get_elem? xs j ≡ some x → j < length xs
  at_within [] j x e = absurd (some-ne-none x (sym e))
  at_within (y ∷ xs) zero x e = omega arith
  at_within (y ∷ xs) (suc j) x e = let h = at_within xs j x e in omega (arith, h)

  -- what was appended stands behind the rest
  pub at_appended : (log xs : List X) (j : ℕ) (x : X) → get_elem? xs j ≡ some x → get_elem? (log ++ xs) (length log + j) ≡ some x
  at_appended [] xs j x e = subst (λ (k : ℕ). get_elem? xs k ≡ some x) (let same : j ≡ 0 + j = omega arith in same) e
  at_appended (y ∷ log) xs j x e = let next : suc (length log + j) ≡ suc (length log) + j = omega arith in subst (λ (k : ℕ). get_elem? (y ∷ log ++ xs) k ≡ some x) next (at_appended log xs j x e)

  -- a window over the end of a list, and over what was appended
  pub window_grows : (xs ys : List X) (a m n : ℕ) → a + m ≡ length xs → n ≡ length ys → take (m + n) (drop a (xs ++ ys)) ≡ take m (drop a xs) ++ ys
  window_grows xs ys a m n e h = grind (arith, length-drop, length-append, drop-append-le, take_all)

  -- the end of a list that was appended
  pub window_of_end : (xs ys : List X) (a n : ℕ) → a ≡ length xs → n ≡ length ys → take n (drop a (xs ++ ys)) ≡ ys
  window_of_end xs ys a n e h = ap (take n) (drop_at xs ys a (sym e)) ∙ take_all n ys (omega (arith, h))

  pub window_length : (xs : List X) (a m : ℕ) → a + m ≤ length xs → length (take m (drop a xs)) ≡ m
  window_length xs a m le = length-take-le m (drop a xs) (omega (arith, length-drop a xs))

  -- what stands in two lists, one behind the other
  pub at_either : (xs ys : List X) (i : ℕ) (x : X) → get_elem? (xs ++ ys) i ≡ some x → (get_elem? xs i ≡ some x) ⊎ ((length xs ≤ i) × (get_elem? ys (i - length xs) ≡ some x))
  at_either [] ys i x e = let same : i ≡ i - 0 = omega arith in inr (omega arith, subst (λ (k : ℕ). get_elem? ys k ≡ some x) same e)
  at_either (z ∷ xs) ys zero x e = inl e
  at_either (z ∷ xs) ys (suc i) x e = grind (arith, ⊎_elim, get_elem?, at_either xs ys i x e)
