-- The least of the moments that the elements of a list have.
use Rattle.exec_invariants.proofs.Names.{◌≡◌, ℕ, suc, ◌≤◌, Bool, true, false, List, [], ◌∷◌, Option, Some, None, refl, sym, ap, ◌∙◌, arith, slice_get, nat_le, if◌then◌else◌, nat_tests, leb-true, earlier}

-- element k has this moment
pub record HasAt {A : Type 0} (f : A → Option ℕ) (xs : List A) (m : ℕ) : Type 0 where
  pub k : ℕ
  pub x : A
  pub there : slice_get xs k ≡ Some x
  pub moment : f x ≡ Some m

-- this is the least of the moments, where there is one
abbrev pub IsLeast : {A : Type 0} → (A → Option ℕ) → List A → Option ℕ → Type 0
IsLeast f xs None = (m : ℕ) → HasAt f xs m → ⊥
IsLeast f xs (Some m) = HasAt f xs m × ((n : ℕ) → HasAt f xs n → m ≤ n)

abbrev pub least_in : {A : Type 0} → (A → Option ℕ) → List A → Option ℕ
least_in f [] = None
least_in f (x ∷ xs) = earlier (f x) (least_in f xs)

is_later : (u m : ℕ) → nat_le u m ≡ false → m ≤ u
is_later u m h = grind (arith, nat_tests, h)

at_most : (a b c : ℕ) → a ≤ b → b ≤ c → a ≤ c
at_most a b c h k = omega (arith, h, k)

module _ {A : Type 0} (f : A → Option ℕ) where
  further : (x : A) (xs : List A) (m : ℕ) → HasAt f xs m → HasAt f (x ∷ xs) m
  further x xs m h = record { k = suc h.k; x = h.x; there = h.there; moment = h.moment }

  -- who has a moment in a longer list is its head, or in the rest
  split : (P : ℕ → Type 0) (x : A) (xs : List A) → ((n : ℕ) → f x ≡ Some n → P n) → ((n : ℕ) → HasAt f xs n → P n) → (n : ℕ) → HasAt f (x ∷ xs) n → P n
  split = grind arith

  least_cons : (x : A) (xs : List A) (a b : Option ℕ) → f x ≡ a → IsLeast f xs b → IsLeast f (x ∷ xs) (earlier a b)
  least_cons x xs None None is none = split (λ n. ⊥) x xs (λ n has. let no : None ≡ Some n = sym is ∙ has in absurd (cc)) none
  least_cons x xs None (Some m) is least = (further x xs m least.0, split (λ n. m ≤ n) x xs (λ n has. let no : None ≡ Some n = sym is ∙ has in absurd (cc)) least.1)
  least_cons x xs (Some u) None is none =
      (record { k = 0; x = x; there = refl; moment = is }, split (λ n. u ≤ n) x xs (λ n has. let it : Some u ≡ Some n = sym is ∙ has in let same : u ≡ n = cc in omega (arith, same)) (λ n h. absurd (none n h)))
  least_cons x xs (Some u) (Some m) is least = by (nat_le u m) refl
    where
      own : (n : ℕ) → f x ≡ Some n → u ≡ n
      own n has = let it : Some u ≡ Some n = sym is ∙ has in cc

      by : (b : Bool) → nat_le u m ≡ b → IsLeast f (x ∷ xs) (if b then Some u else Some m)
      by true le = (record { k = 0; x = x; there = refl; moment = is }, split (λ n. u ≤ n) x xs (λ n has. omega (arith, own n has)) (λ n h. at_most u m n (leb-true u m le) (least.1 n h)))
      by false gt = (further x xs m least.0, split (λ n. m ≤ n) x xs (λ n has. at_most m u n (is_later u m gt) (omega (arith, own n has))) least.1)

  pub least_there : (xs : List A) → IsLeast f xs (least_in f xs)
  least_there [] = λ m h. let no : None ≡ Some h.x = h.there in absurd (cc)
  least_there (x ∷ xs) = least_cons x xs (f x) (least_in f xs) refl (least_there xs)

  pub least_once : (xs : List A) (a b : Option ℕ) → IsLeast f xs a → IsLeast f xs b → a ≡ b
  least_once xs None None h k = refl
  least_once xs None (Some m) h k = absurd (h m k.0)
  least_once xs (Some m) None h k = absurd (k m h.0)
  least_once xs (Some m) (Some n) h k = let same : m ≡ n = omega (arith, h.1 n k.0, k.1 m h.0) in ap (λ x. Some x) same
