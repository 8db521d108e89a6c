-- What the kernel has of a request whose result lands: one operation, which leaves; and one completion more.
use Rattle.exec_invariants.{proofs.{Names.{◌≡◌, ℕ, suc, ◌+◌, ◌%◌, ◌<◌, ◌≤◌, ◌&&◌, ◌||◌, Bool, true, false, not, cond, List, [], ◌∷◌, ◌++◌, filter, Some, refl, sym, ap, subst, ◌∙◌, arith, slice_get, sum_by, and_parts, nat_tests, sum_by-set, get_or-le-sum_by, slice_get_within, get_or_from_slice_get, list_any, remove, Id, is_lawful, OpResult, completed, number_of, result_in, last_place, without_flight, landed, RingState, completions, user_data_of, index_in, generation_in, is_control, passed, Record, changed_at, trailing, wake_poll_in}, WokenEntered.{landing as landing_added}}, specs.{Carried.those_of, Flown.{IsPolled, operations}}}

-- THE LAST THAT PASSES A TEST

module _ {A : Type 0} (p : A → Bool) where
  head_fails : (b : Bool) (y : A) (ys : List A) → (filter p ys ≡ [] → list_any p ys ≡ false) → cond b (y ∷ filter p ys) (filter p ys) ≡ [] → (b || list_any p ys) ≡ false
  head_fails true y ys more h = absurd (cc h)
  head_fails false y ys more h = more h

  none_passes : (xs : List A) → filter p xs ≡ [] → list_any p xs ≡ false
  none_passes [] h = refl
  none_passes (y ∷ ys) h = head_fails (p y) y ys (none_passes ys) h

  head_found : (b any : Bool) (y x : A) (ys zs : List A) (n : ℕ) → (b ≡ false → slice_get ys n ≡ Some x) → (zs ≡ [] → any ≡ false) → cond b (y ∷ zs) (filter p ys) ≡ x ∷ [] → slice_get (y ∷ ys) (cond (b && not any) 0 (1 + n)) ≡ Some x
  head_found = grind arith

  -- where one passes, it is found
  pub lone_found : (xs : List A) (x : A) → filter p xs ≡ x ∷ [] → slice_get xs (last_place p xs) ≡ Some x
  lone_found [] x h = absurd (cc)
  lone_found (y ∷ ys) x h =
      head_found (p y) (list_any p ys) y x ys (filter p ys) (last_place p ys) (λ no. lone_found ys x (sym (ap (λ b. cond b (y ∷ filter p ys) (filter p ys)) no) ∙ h)) (none_passes ys) h

  head_removed : (b any : Bool) (y x : A) (ys : List A) (n : ℕ) → p y ≡ b → (b ≡ false → filter p (remove ys n) ≡ []) → (filter p ys ≡ [] → any ≡ false) → cond b (y ∷ filter p ys) (filter p ys) ≡ x ∷ [] → filter p (remove (y ∷ ys) (cond (b && not any) 0 (1 + n))) ≡ []
  head_removed = grind arith

  -- and once it is taken out none passes
  pub lone_removed : (xs : List A) (x : A) → filter p xs ≡ x ∷ [] → filter p (remove xs (last_place p xs)) ≡ []
  lone_removed [] x h = absurd (cc)
  lone_removed (y ∷ ys) x h =
      head_removed (p y) (list_any p ys) y x ys (last_place p ys) refl (λ no. lone_removed ys x (sym (ap (λ b. cond b (y ∷ filter p ys) (filter p ys)) no) ∙ h)) (none_passes ys) h

  head_left : (q : A → Bool) (b : Bool) (y : A) (ys : List A) (n : ℕ) → (b ≡ true → q y ≡ false) → filter q (remove ys n) ≡ filter q ys → filter q (remove (y ∷ ys) (cond b 0 (1 + n))) ≡ filter q (y ∷ ys)
  head_left q true y ys n apart more = rw (apart refl) refl
  head_left q false y ys n apart more = let e : 1 + n ≡ suc n = omega arith in rw e (ap (λ zs. cond (q y) (y ∷ zs) zs) more)

  -- of those that pass another test none goes
  pub others_left : (q : A → Bool) → ((x : A) → p x ≡ true → q x ≡ false) → (xs : List A) → filter q (remove xs (last_place p xs)) ≡ filter q xs
  others_left q apart [] = refl
  others_left q apart (y ∷ ys) =
      head_left q (p y && not (list_any p ys)) y ys (last_place p ys) (λ both. apart y ((and_parts (p y) (not (list_any p ys)) both).0)) (others_left q apart ys)

-- USER DATA

pub index_told : (id : Id) → id.index < 4294967295 → index_in (user_data_of id) ≡ id.index
index_told id small = omega (arith, small)

pub generation_told : (id : Id) → id.index < 4294967295 → generation_in (user_data_of id) ≡ id.generation % 4294967296
generation_told id small = omega (arith, small)

-- an operation of a request is no control
pub no_control : (u : ℕ) (n : OpResult) → index_in u < 4294967295 → is_control (completed u n) ≡ false
no_control = grind arith

-- RESULTS

pub result_told : (window : ℕ) (n : OpResult) → is_lawful window n ≡ true → result_in (number_of n) ≡ n
result_told = grind arith

-- THE ROOM FOR BYTES

pub sum_changed : (f : Record → ℕ) (rs : List Record) (k : ℕ) (r : Record) (g : Record → Record) → slice_get rs k ≡ Some r → sum_by f (changed_at rs k g) + f r ≡ sum_by f rs + f (g r)
sum_changed f rs k r g there = grind (arith, there, get_or_from_slice_get rs k r r there, sum_by-set f rs k (g r) r (slice_get_within rs k r there))

pub part_within : (f : Record → ℕ) (rs : List Record) (k : ℕ) (r : Record) → slice_get rs k ≡ Some r → f r ≤ sum_by f rs
part_within f rs k r there = subst (λ x. f x ≤ sum_by f rs) (get_or_from_slice_get rs k r r there) (get_or-le-sum_by f rs k r (slice_get_within rs k r there))

-- THE FLIGHT

pub others_fly : (u v : ℕ) (r : RingState) (n : OpResult) → (u ≡ v → ⊥) → those_of v (landed r u n).flying ≡ those_of v r.flying
others_fly = grind (arith, others_left, nat_tests)

-- COMPLETIONS

-- one more completion of an operation stands there, as the last
pub record OneLanded (r : RingState) (u : ℕ) (n : OpResult) : Type 0 where
  pub others : trailing 0 (completions (landed r u n)) ≡ 0
  pub operated : operations (landed r u n) ≡ operations r ++ completed u n ∷ []
  pub poll : wake_poll_in (landed r u n) ≡ passed (wake_poll_in r)
  pub polled : (a : Bool) → IsPolled r a → IsPolled (landed r u n) a

pub one_landed : (r : RingState) (u : ℕ) (n : OpResult) → index_in u < 4294967295 → OneLanded r u n
one_landed r u n small =
    let it = landing_added (without_flight r u) (completed u n) (no_control u n small) in
    record { others = it.others; operated = it.operated; poll = it.poll; polled = it.polled }
