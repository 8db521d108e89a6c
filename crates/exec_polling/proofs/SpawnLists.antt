-- What stands in a list that grew by one.
use Rattle.std.proofs.Common.{◌≡◌, ◌⊎◌, inl, inr, ℕ, zero, suc, ◌<◌, List, [], ◌∷◌, ◌++◌, length, Some, refl, ap, arith, slice_get, slice_set}

module _ {A : Type 0} where
  pub found_again : (xs ys : List A) (k : ℕ) (x : A) → slice_get xs k ≡ Some x → slice_get (xs ++ ys) k ≡ Some x
  found_again [] ys k x found = absurd (cc)
  found_again (y ∷ xs) ys zero x found = found
  found_again (y ∷ xs) ys (suc k) x found = found_again xs ys k x found

  pub found_last : (xs : List A) (x : A) → slice_get (xs ++ x ∷ []) (length xs) ≡ Some x
  found_last [] x = refl
  found_last (y ∷ xs) x = found_last xs x

  pub found_which : (xs : List A) (x y : A) (k : ℕ) → slice_get (xs ++ x ∷ []) k ≡ Some y → (slice_get xs k ≡ Some y) ⊎ ((k ≡ length xs) × (x ≡ y))
  found_which [] x y zero found = inr (refl, cc)
  found_which [] x y (suc k) found = absurd (cc)
  found_which (z ∷ xs) x y zero found = inl found
  found_which (z ∷ xs) x y (suc k) found = grind (arith, found_which xs x y k found)

  pub set_within : (xs : List A) (x y : A) (k : ℕ) → k < length xs → slice_set (xs ++ x ∷ []) k y ≡ slice_set xs k y ++ x ∷ []
  set_within [] x y k few = absurd (omega (arith, few))
  set_within (z ∷ xs) x y zero few = refl
  set_within (z ∷ xs) x y (suc k) few = ap (λ zs. z ∷ zs) (set_within xs x y k (omega (arith, few)))
