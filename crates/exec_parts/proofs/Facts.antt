-- Small facts that many proofs cite: of numbers, tests, what is there, and names.
use Rattle.std.proofs.{Common.{⊎_elim, inl, inr, sym, ◌≢◌, ◌≡◌, ℕ, suc, [], ◌∷◌, ◌==◌, ◌&&◌, Bool, true, false, List, Option, Some, None, is_some, slice_get, slice_set, refl, ap, ◌∙◌, arith, length, ◌<◌}, lemmas.{Bool.{cases_eq, false≢true, eq-eqb, Decides.nat_tests}, List.{get_or-set_same, length-set}, Option.{slice_get_within, slice_get-get_or, slice_get_cases}}}
use Rattle.exec_base.{specs.declared.slab.Id.Id, proofs.Slots.id_cases}
use Rattle.exec_waiters.specs.declared.waiter_id.WaiterId.{WaiterId}
use Rattle.exec_lists.specs.Lists.{is_same}
pub use Rattle.std.proofs.lemmas.{Option.same_Some, Bool.{eqb-true as same_number, ne_eqb as not_same, or_right, or_left, and_parts, and_from, and_right, not-true, not-false, false_from_ne_true}}

pub second_true : (a b : Bool) → (a && b) ≡ true → b ≡ true
second_true a b h = grind arith

pub zero_false : (n : ℕ) → (suc n == 0) ≡ false
zero_false n = grind (arith, nat_tests)

-- WHAT IS THERE

pub some_of : {A : Type 0} (o : Option A) → is_some o ≡ true → (x : A) × (o ≡ Some x)
some_of None h = absurd (false≢true h)
some_of (Some x) h = (x, refl)

-- what is found in a list after one element was set
pub set_there : {A : Type 0} (xs : List A) (i : ℕ) (x y : A) → slice_get xs i ≡ Some y → slice_get (slice_set xs i x) i ≡ Some x
set_there xs i x y there =
    let within = slice_get_within xs i y there in
    slice_get-get_or (slice_set xs i x) i x (rw length-set within) ∙ ap (λ z. Some z) (get_or-set_same xs i x x within)

-- and at any other place
pub set_elsewhere : {A : Type 0} (xs : List A) (i k : ℕ) (x : A) → k ≢ i → slice_get (slice_set xs i x) k ≡ slice_get xs k
set_elsewhere [] i k x other = refl
set_elsewhere (y ∷ ys) i k x other = grind (arith, set_elsewhere ys)

-- by whether a number is another
pub by_number : {P : Type 0} (k i : ℕ) → (k ≢ i → P) → (k ≡ i → P) → P
by_number k i other same = ⊎_elim same other (cases_eq k i)

-- NAMES

pub same_self : (id : WaiterId) → is_same id id ≡ true
same_self id = rw (eq-eqb id.0.index id.0.index refl, eq-eqb id.0.generation id.0.generation refl) refl

-- by whether a name is another
pub by_name : {P : Type 0} (x id : Id) → (x ≢ id → P) → (x ≡ id → P) → P
by_name x id other same = ⊎_elim (λ i. other (λ e. i (cc))) (⊎_elim (λ e. other (λ q. e.1 (cc))) same) (id_cases x id)

-- what stands within a list
pub found_within : {A : Type 0} (xs : List A) (i : ℕ) → i < length xs → (x : A) × (slice_get xs i ≡ Some x)
found_within xs i few = elim (slice_get_cases xs i).1 [ inl at ↦ (at.0, at.2) | inr past ↦ absurd (omega (arith, few, past.0)) ]

pub true_false : {P : Type 0} → true ≡ false → P
true_false h = absurd (false≢true (sym h))
