-- MESSAGES: which are the same, how few are in an inbox, and what one that is sent changes.
use Rattle.exec_invariants.{proofs.Names.{◌≡◌, ◌≢◌, ℕ, zero, suc, ◌+◌, ◌*◌, ◌≤◌, ◌==◌, true, cond, Contains, List, [], ◌∷◌, ◌++◌, count_by, length, sum_by, Some, refl, sym, ap, subst, ◌∙◌, arith, slice_get, Contains-append_right, sum_by-cons, sum_by-append, is_wake_root, Message, Subject, false_from_ne_true, same_Some}, specs.Holding.{IsAbout, IsOf, Mail, Nap, Thing, mail_in, same_mail}}

-- WHICH ARE THE SAME

pub mail_is : (a b : Mail) → same_mail a b ≡ true → a ≡ b
mail_is = grind arith

pub mail_self : (m : Mail) → same_mail m m ≡ true
mail_self = grind arith

-- how often one message is another: once or never
pub once_or_never : (a b : Mail) → mail_in a (b ∷ []) ≤ 1
once_or_never = grind arith

pub is_once : (a : Mail) → mail_in a (a ∷ []) ≡ 1
is_once a = ap (λ c. 0 + cond c 1 0) (mail_self a)

pub is_never : (a b : Mail) → a ≢ b → mail_in a (b ∷ []) ≡ 0
is_never a b apart = ap (λ c. 0 + cond c 1 0) (false_from_ne_true (same_mail a b) (λ is. apart (mail_is a b is)))

pub mail_first : (x m : Mail) (ms : List Mail) → mail_in x (m ∷ ms) ≡ mail_in x (m ∷ []) + mail_in x ms
mail_first x m ms = sum_by-append (λ other. cond (same_mail x other) 1 0) (m ∷ []) ms

pub mail_last : (x m : Mail) (ms : List Mail) → mail_in x (ms ++ m ∷ []) ≡ mail_in x ms + mail_in x (m ∷ [])
mail_last x m ms = sum_by-append (λ other. cond (same_mail x other) 1 0) ms (m ∷ [])

roots_first : (m : Mail) (ms : List Mail) → count_by is_wake_root (m ∷ ms) ≡ count_by is_wake_root (m ∷ []) + count_by is_wake_root ms
roots_first m ms = sum_by-append (λ other. cond (is_wake_root other) 1 0) (m ∷ []) ms

first_of : (m : Mail) (ms : List Mail) → Contains (m ∷ ms) m
first_of m ms = (0, omega arith, refl)

later_of : (m x : Mail) (ms : List Mail) → Contains ms x → Contains (m ∷ ms) x
later_of m x ms has = Contains-append_right (m ∷ []) ms x has

pub mail_none : (x : Mail) (ms : List Mail) → (Contains ms x → ⊥) → mail_in x ms ≡ 0
mail_none x [] none = refl
mail_none x (m ∷ ms) none = grind (arith, is_never, first_of, later_of, mail_first, mail_none x ms (λ has. none (later_of m x ms has)))

-- A SUM OVER PLACES

abbrev tally : {A : Type 0} → (ℕ → ℕ) → ℕ → List A → ℕ
tally f a [] = 0
tally f a (x ∷ xs) = f a + tally f (suc a) xs

tally_both : {A : Type 0} (f g h : ℕ → ℕ) (a : ℕ) (xs : List A) → ((n : ℕ) → h n ≡ f n + g n) → tally h a xs ≡ tally f a xs + tally g a xs
tally_both f g h a [] both = refl
tally_both f g h a (x ∷ xs) both = omega (arith, both a, tally_both f g h (suc a) xs both)

tally_some : {A : Type 0} (f : ℕ → ℕ) (a k : ℕ) (xs : List A) (x : A) → slice_get xs k ≡ Some x → f (a + k) ≤ tally f a xs
tally_some f a k [] x at = absurd (cc)
tally_some f a zero (y ∷ ys) x at = let same : f (a + 0) ≡ f a = ap f (omega arith) in omega (arith, same)
tally_some f a (suc k) (y ∷ ys) x at = grind (arith, tally_some f (suc a) k ys x at)

tally_most : {A : Type 0} (f : ℕ → ℕ) (g : A → ℕ) (a : ℕ) (xs : List A) → ((k : ℕ) (x : A) → slice_get xs k ≡ Some x → f (a + k) ≤ g x) → tally f a xs ≤ sum_by g xs
tally_most f g a [] most = omega arith
tally_most f g a (x ∷ xs) most =
    let here : f a ≤ g x = subst (λ n. f n ≤ g x) (omega arith) (most 0 x refl) in
    let rest = tally_most f g (suc a) xs (λ k y at. subst (λ n. f n ≤ g y) (omega arith) (most (suc k) y at)) in
    let sums = sum_by-cons g x xs in
    omega (arith, here, rest, sums)

-- from the first place on
tally_here : {A : Type 0} (f : ℕ → ℕ) (k : ℕ) (xs : List A) (x : A) → slice_get xs k ≡ Some x → f k ≤ tally f 0 xs
tally_here f k xs x at = subst (λ n. f n ≤ tally f 0 xs) (omega arith) (tally_some f 0 k xs x at)

tally_within : {A : Type 0} (f : ℕ → ℕ) (g : A → ℕ) (xs : List A) → ((k : ℕ) (x : A) → slice_get xs k ≡ Some x → f k ≤ g x) → tally f 0 xs ≤ sum_by g xs
tally_within f g xs most = tally_most f g 0 xs (λ k x at. subst (λ n. f n ≤ g x) (omega arith) (most k x at))

pub sum_least : {A : Type 0} (f : A → ℕ) (xs : List A) (i : ℕ) (x : A) → slice_get xs i ≡ Some x → f x ≤ sum_by f xs
sum_least f [] i x at = absurd (cc)
sum_least f (y ∷ ys) zero x at = grind (arith, same_Some, sum_by-cons)
sum_least f (y ∷ ys) (suc i) x at = grind (arith, sum_by-cons, sum_least f ys i x at)

-- SO FEW ARE IN AN INBOX, of messages about what worker j has, each once

module _ (workers j : ℕ) (ts : List Thing) (naps : List Nap) where
  abbrev forwards : List Mail → ℕ → ℕ
  forwards ms k = mail_in (Message.Forward (Subject.Request k)) ms

  abbrev cancels : List Mail → ℕ → ℕ
  cancels ms k = mail_in (Message.Cancel (Subject.Request k)) ms

  abbrev ends : List Mail → ℕ → ℕ
  ends ms n = mail_in (Message.Forward (Subject.Timer n)) ms

  abbrev removes : List Mail → ℕ → ℕ
  removes ms n = mail_in (Message.Cancel (Subject.Timer n)) ms

  abbrev all_of : List Mail → ℕ
  all_of ms = (count_by is_wake_root ms + (tally (forwards ms) 0 ts + tally (cancels ms) 0 ts)) + (tally (ends ms) 0 naps + tally (removes ms) 0 naps)

  one_of_all : (m : Mail) → IsAbout workers j m ts naps → 1 ≤ all_of (m ∷ [])
  one_of_all = grind (arith, is_once, tally_here)

  within_all : (ms : List Mail) → ((m : Mail) → Contains ms m → IsAbout workers j m ts naps) → length ms ≤ all_of ms
  within_all [] about = omega arith
  within_all (m ∷ ms) about =
      let a = tally_both (forwards (m ∷ [])) (forwards ms) (forwards (m ∷ ms)) 0 ts (λ k. mail_first (Message.Forward (Subject.Request k)) m ms) in
      let b = tally_both (cancels (m ∷ [])) (cancels ms) (cancels (m ∷ ms)) 0 ts (λ k. mail_first (Message.Cancel (Subject.Request k)) m ms) in
      let c = tally_both (ends (m ∷ [])) (ends ms) (ends (m ∷ ms)) 0 naps (λ n. mail_first (Message.Forward (Subject.Timer n)) m ms) in
      let d = tally_both (removes (m ∷ [])) (removes ms) (removes (m ∷ ms)) 0 naps (λ n. mail_first (Message.Cancel (Subject.Timer n)) m ms) in
      omega (arith, within_all ms (λ x has. about x (later_of m x ms has)), one_of_all m (about m (first_of m ms)), roots_first m ms, a, b, c, d)

  -- one at most of each that the worker has, and none of another's
  by_owner : (n i : ℕ) → (i ≡ j → n ≤ 1) → (i ≢ j → n ≡ 0) → n ≤ cond (i == j) 1 0
  by_owner = grind arith

  pub few_mail : (ms : List Mail) → ((m : Mail) → Contains ms m → IsAbout workers j m ts naps)
      → ((k : ℕ) (r : Thing) → slice_get ts k ≡ Some r → r.worker ≡ j → (forwards ms k ≤ 1) × (cancels ms k ≤ 1))
      → ((n : ℕ) (z : Nap) → slice_get naps n ≡ Some z → z.worker ≡ j → (ends ms n ≤ 1) × (removes ms n ≤ 1))
      → length ms ≤ count_by is_wake_root ms + 2 * (count_by (λ r. r.worker == j) ts + count_by (λ z. z.worker == j) naps)
  few_mail ms about once once_too =
      let not_mine : (k : ℕ) (r : Thing) → slice_get ts k ≡ Some r → r.worker ≢ j → IsOf workers j (Subject.Request k) ts naps → ⊥ = λ k r at other of. other (ap (λ (x : Thing). x.worker) (same_Some r of.0 (sym at ∙ of.1)) ∙ of.2) in
      let not_my_nap : (n : ℕ) (z : Nap) → slice_get naps n ≡ Some z → z.worker ≢ j → IsOf workers j (Subject.Timer n) ts naps → ⊥ = λ n z at other of. other (ap (λ (x : Nap). x.worker) (same_Some z of.0 (sym at ∙ of.1)) ∙ of.2) in
      let a = tally_within (forwards ms) (λ (r : Thing). cond (r.worker == j) 1 0) ts (λ k r at. by_owner (forwards ms k) r.worker (λ own. (once k r at own).0) (λ other. mail_none (Message.Forward (Subject.Request k)) ms (λ has. not_mine k r at other (about (Message.Forward (Subject.Request k)) has)))) in
      let b = tally_within (cancels ms) (λ (r : Thing). cond (r.worker == j) 1 0) ts (λ k r at. by_owner (cancels ms k) r.worker (λ own. (once k r at own).1) (λ other. mail_none (Message.Cancel (Subject.Request k)) ms (λ has. not_mine k r at other (about (Message.Cancel (Subject.Request k)) has)))) in
      let c = tally_within (ends ms) (λ (z : Nap). cond (z.worker == j) 1 0) naps (λ n z at. by_owner (ends ms n) z.worker (λ own. (once_too n z at own).0) (λ other. mail_none (Message.Forward (Subject.Timer n)) ms (λ has. not_my_nap n z at other (about (Message.Forward (Subject.Timer n)) has)))) in
      let d = tally_within (removes ms) (λ (z : Nap). cond (z.worker == j) 1 0) naps (λ n z at. by_owner (removes ms n) z.worker (λ own. (once_too n z at own).1) (λ other. mail_none (Message.Cancel (Subject.Timer n)) ms (λ has. not_my_nap n z at other (about (Message.Cancel (Subject.Timer n)) has)))) in
      omega (arith, within_all ms about, a, b, c, d)
