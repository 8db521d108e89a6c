-- What the records and the driver of a worker say alike: which requests stand, and what may go into the submission queue.
use Rattle.exec_invariants.{specs.Names.IsNamed, proofs.Words.{◌≡◌, ℕ, zero, suc, ◌+◌, ◌==◌, ◌&&◌, ◌||◌, Bool, true, false, not, cond, List, [], ◌∷◌, map, get_or, Option, Some, None, refl, sym, ap, ◌∙◌, arith, slice_get, count_by, nat_tests, false≢true, eq-eqb, list_any_at, is_count_by, slice_get_within, get_or_from_slice_get, list_any, and_parts, Slab, value_at, value_in, slot_at, Id, Slot, Live, Vacant, Sleeping, waiter_at, waiter_of, counts_pending, pending_count, Waiter, Entry, Pending, Driving, has_pending, Configuration, Request, ring_size, is_resolved, has_submissions, Reply, Names, Record, SleeperRecord, Worker, number_in, own_of, driver_of, same_number, or_right, not-true}}

-- TESTS OVER LISTS

bool_same : (a b : Bool) → (a ≡ true → b ≡ true) → (b ≡ true → a ≡ true) → a ≡ b
bool_same = grind arith

positive : (n : ℕ) → true ≡ not (1 + n == 0)
positive n = grind (arith, nat_tests)

module _ {A : Type 0} (p : A → Bool) where
  abbrev counted : List A → ℕ
  counted [] = 0
  counted (x ∷ xs) = cond (p x) (1 + counted xs) (counted xs)

  any_counted : (xs : List A) → list_any p xs ≡ not (counted xs == 0)
  any_counted [] = refl
  any_counted (x ∷ xs) =
      elim (p x) as (λ b. (b || list_any p xs) ≡ not (cond b (1 + counted xs) (counted xs) == 0)) [ true ↦ positive (counted xs) | false ↦ any_counted xs ]

  any_counts : (xs : List A) → list_any p xs ≡ not (count_by p xs == 0)
  any_counts xs = any_counted xs ∙ ap (λ n. not (n == 0)) (is_count_by counted p refl (λ x ys. refl) xs)

  record_found : (xs : List A) → list_any p xs ≡ true → (k : ℕ) × (x : A) × (slice_get xs k ≡ Some x) × (p x ≡ true)
  record_found [] h = absurd (false≢true h)
  record_found (x ∷ xs) h =
      let split : (b : Bool) → p x ≡ b → (b || list_any p xs) ≡ true → (k : ℕ) × (y : A) × (slice_get (x ∷ xs) k ≡ Some y) × (p y ≡ true) = λ b.
      elim b as (λ v. p x ≡ v → (v || list_any p xs) ≡ true → (k : ℕ) × (y : A) × (slice_get (x ∷ xs) k ≡ Some y) × (p y ≡ true)) [
        | true ↦ λ is there. (0, x, refl, is)
        | false ↦ λ is there. let rest = record_found xs there in (suc rest.0, rest.1, rest.2, rest.3)
      ] in
      split (p x) refl h

  found_any : (xs : List A) (k : ℕ) (x : A) → slice_get xs k ≡ Some x → p x ≡ true → list_any p xs ≡ true
  found_any xs k x there h = list_any_at p xs k x (slice_get_within xs k x there) (rw (get_or_from_slice_get xs k x x there) h)

  any_or : (xs : List A) (k : ℕ) (d : A) → p d ≡ false → p (get_or xs k d) ≡ true → list_any p xs ≡ true
  any_or [] k d unfit h = absurd (false≢true (sym unfit ∙ h))
  any_or (x ∷ xs) zero d unfit h = rw h refl
  any_or (x ∷ xs) (suc k) d unfit h = or_right (p x) (list_any p xs) (any_or xs k d unfit h)

list_any-map : {A C : Type 0} (p : C → Bool) (f : A → C) (xs : List A) → list_any p (map f xs) ≡ list_any (λ x. p (f x)) xs
list_any-map p f [] = refl
list_any-map p f (x ∷ xs) = ap (λ b. p (f x) || b) (list_any-map p f xs)

-- SLOTS THAT HAVE A REQUEST

module _ {S F : Type 0} where
  stands : (slot : Slot (Entry S F)) → counts_pending slot ≡ true → (g : ℕ) × (it : Waiter S F) × (slot ≡ Live g (Pending it))
  stands = grind arith

  asks : (slot : Slot (Entry S F)) (g : ℕ) (it : Waiter S F) → waiter_of (value_in slot g) ≡ Some it → counts_pending slot ≡ true
  asks = grind arith

  there_by_slot : (s : Slab (Entry S F)) (k g : ℕ) (it : Waiter S F) → slice_get s.slots k ≡ Some (Live g (Pending it)) → value_at s (record { index = k; generation = g }) ≡ Some (Pending it)
  there_by_slot s k g it there =
      rw (get_or_from_slice_get s.slots k (Live g (Pending it)) (Vacant s.first) there, eq-eqb g g refl) refl

-- WHAT IS SEEN

-- worker i has an open request
abbrev is_of : ℕ → Request → Bool
is_of i r = (r.worker == i) && not (is_resolved r.phase)

pub requests_seen : (i : ℕ) (n : Names) (d : Driving Reply Reply) (zs : Slab (Sleeping Reply)) (records : List Record) (sleepers : List SleeperRecord) → IsNamed i n d zs records sleepers
    → not (pending_count d.requests == 0) ≡ list_any (λ r. (r.worker == i) && not (is_resolved r.phase)) (map (λ r. r.shown) records)
requests_seen i n d zs records sleepers named =
    let slots = d.requests.slots in
    let to : list_any counts_pending slots ≡ true → list_any (λ r. is_of i r.shown) records ≡ true = λ h.
    let f = record_found counts_pending slots h in
    let live = stands f.1 f.3 in
    let value = there_by_slot d.requests f.0 live.0 live.1 (f.2 ∙ ap (λ slot. Some slot) live.2) in
    let id : Id = record { index = f.0; generation = live.0 } in
    let r = named.requests id (rw value refl) in
    let alike = named.alike id live.1 r.0 (ap waiter_of value) r.1 in
    found_any (λ x. is_of i x.shown) records (number_in n.requests.items id) r.0 r.1 (rw (r.3, eq-eqb i i refl, alike.open_still) refl) in
    let from : list_any (λ r. is_of i r.shown) records ≡ true → list_any counts_pending slots ≡ true = λ h.
    let f = record_found (λ x. is_of i x.shown) records h in
    let two = and_parts (f.1.shown.worker == i) (not (is_resolved f.1.shown.phase)) f.3 in
    let at_driver : (o : Option (Waiter Reply Reply)) → waiter_at d.requests f.1.id.0 ≡ o → list_any counts_pending slots ≡ true = λ o.
    elim o as (λ x. waiter_at d.requests f.1.id.0 ≡ x → list_any counts_pending slots ≡ true) [
      | None ↦ λ is. absurd (false≢true (sym (not-true (is_resolved f.1.shown.phase) two.1) ∙ named.over f.0 f.1 f.2 (same_number f.1.shown.worker i two.0) is))
      | Some it ↦ λ is. any_or counts_pending slots f.1.id.0.index (Vacant d.requests.first) refl (asks (slot_at d.requests f.1.id.0.index) f.1.id.0.generation it is)
    ] in
    at_driver (waiter_at d.requests f.1.id.0) refl in
    sym (any_counts counts_pending slots) ∙ bool_same (list_any counts_pending slots) (list_any (λ r. is_of i r.shown) records) to from ∙ sym (list_any-map (is_of i) (λ r. r.shown) records)

pub submissions_seen : (c : Configuration) (w : Worker) → (driver_of w).ring.size ≡ ring_size c → has_pending (driver_of w) ≡ has_submissions c (own_of w)
submissions_seen = grind arith
