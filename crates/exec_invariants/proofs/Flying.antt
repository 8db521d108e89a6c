-- The records of what was staged, once the kernel took it in: for the machine all requests of the worker that are Staged
-- fly.
use Rattle.exec_invariants.proofs.Names.{◌≡◌, ℕ, zero, suc, ◌<◌, ◌==◌, ◌&&◌, ◌||◌, Bool, true, false, List, [], ◌∷◌, ◌++◌, length, map, get_or, Option, Some, None, refl, sym, ap, subst, ◌∙◌, arith, slice_get, slice_set, if◌then◌else◌, false≢true, nat_tests, length-set, slice_get-map, slice_get-get_or, option_map, Request, RequestPhase, flown, is_staged, Record, AreKnown, changed_in, changed_at, flies, flown_in, is_one_of, same_number}

-- LISTS

pub same_list : {A : Type 0} (xs ys : List A) → ((k : ℕ) → slice_get xs k ≡ slice_get ys k) → xs ≡ ys
same_list [] [] same = refl
same_list [] (y ∷ ys) same = let no = same 0 in absurd (cc)
same_list (x ∷ xs) [] same = let no = same 0 in absurd (cc)
same_list (x ∷ xs) (y ∷ ys) same =
    let first = same 0 in
    let head : x ≡ y = cc in
    rw (head, same_list xs ys (λ k. same (suc k))) refl

-- an element that was set, and any other
pub get_set : {A : Type 0} (xs : List A) (q k : ℕ) (x y : A) → slice_get xs q ≡ Some y → slice_get (slice_set xs q x) k ≡ (if q == k then Some x else slice_get xs k)
get_set [] q k x y there = absurd (cc)
get_set (z ∷ xs) zero zero x y there = refl
get_set (z ∷ xs) zero (suc k) x y there = grind (arith, nat_tests)
get_set (z ∷ xs) (suc q) zero x y there = grind (arith, nat_tests)
get_set (z ∷ xs) (suc q) (suc k) x y there = grind (arith, nat_tests, get_set xs q k x y there)

-- of the records one becomes what a function makes of it
pub get_changed : (rs : List Record) (q k : ℕ) (f : Record → Record) → slice_get (changed_at rs q f) k ≡ (if q == k then option_map f (slice_get rs k) else slice_get rs k)
get_changed rs q k f =
    elim (slice_get rs q) as (λ o. slice_get rs q ≡ o → slice_get (changed_in rs q f o) k ≡ (if q == k then option_map f (slice_get rs k) else slice_get rs k)) [
      | None ↦ λ none. same_or rs q k f (slice_get rs k) (λ e. ap (slice_get rs) (sym (same_number q k e)) ∙ none)
      | Some r ↦ λ there. get_set rs q k (f r) r there ∙ set_or rs q k f r there (q == k) refl
    ] refl
  where
    same_or : (rs : List Record) (q k : ℕ) (f : Record → Record) (o : Option Record) → ((q == k) ≡ true → o ≡ None) → o ≡ (if q == k then option_map f o else o)
    same_or rs q k f o none =
        elim (q == k) as (λ b. (b ≡ true → o ≡ None) → o ≡ (if b then option_map f o else o)) [ true ↦ λ h. rw (h refl) refl | false ↦ λ h. refl ] none

    set_or : (rs : List Record) (q k : ℕ) (f : Record → Record) (r : Record) → slice_get rs q ≡ Some r → (b : Bool) → (q == k) ≡ b → (if b then Some (f r) else slice_get rs k) ≡ (if b then option_map f (slice_get rs k) else slice_get rs k)
    set_or rs q k f r there true is = rw (← same_number q k is, there) refl
    set_or rs q k f r there false is = refl

-- FLYING

-- what a record becomes where it is one of those that fly
abbrev pub flies_if : Bool → Record → Record
flies_if true r = flies r
flies_if false r = r

pub worker_kept : (i : ℕ) (r : Request) → (flown i r).worker ≡ r.worker
worker_kept = grind arith

flown_again : (i : ℕ) (r : Request) → flown i (flown i r) ≡ flown i r
flown_again = grind arith

flown_twice : (r : Request) → flown (flown r.worker r).worker (flown r.worker r) ≡ flown r.worker r
flown_twice r = subst (λ j. flown j (flown r.worker r) ≡ flown r.worker r) (sym (worker_kept r.worker r)) (flown_again r.worker r)

flies_again : (b : Bool) (r : Record) → flies (flies_if b r) ≡ flies r
flies_again true r = ap (λ x. record r { shown = x }) (flown_twice r.shown)
flies_again false r = refl

pub get_flown : (ks : List ℕ) (rs : List Record) (k : ℕ) → slice_get (flown_in ks rs) k ≡ option_map (flies_if (is_one_of k ks)) (slice_get rs k)
get_flown [] rs k = elim (slice_get rs k) as (λ o. o ≡ option_map (flies_if false) o) [ None ↦ refl | Some r ↦ refl ]
get_flown (q ∷ ks) rs k =
    get_changed (flown_in ks rs) q k flies ∙ rw (get_flown ks rs k) (joined (q == k) (is_one_of k ks) (slice_get rs k))
  where
    joined : (a b : Bool) (o : Option Record) → (if a then option_map flies (option_map (flies_if b) o) else option_map (flies_if b) o) ≡ option_map (flies_if (a || b)) o
    joined true b None = refl
    joined true b (Some r) = ap (λ x. Some x) (flies_again b r)
    joined false b o = refl

-- for the machine, where those that are Staged of worker i are among these, and these are of it
pub all_flown : (i : ℕ) (ks : List ℕ) (rs : List Record)
    → ((k : ℕ) (x : Record) → is_one_of k ks ≡ true → slice_get rs k ≡ Some x → x.shown.worker ≡ i)
    → ((k : ℕ) (x : Record) → slice_get rs k ≡ Some x → x.shown.worker ≡ i → is_staged x.shown.phase ≡ true → is_one_of k ks ≡ true)
    → map (λ r. r.shown) (flown_in ks rs) ≡ map (flown i) (map (λ r. r.shown) rs)
all_flown i ks rs own staged =
    same_list (map (λ r. r.shown) (flown_in ks rs)) (map (flown i) (map (λ r. r.shown) rs))
    (λ k.
    slice_get-map (λ r. r.shown) (flown_in ks rs) k
    ∙ ap (option_map (λ r. r.shown)) (get_flown ks rs k)
    ∙ at_each k (slice_get rs k) refl
    ∙ ap (option_map (flown i)) (sym (slice_get-map (λ r. r.shown) rs k))
    ∙ sym (slice_get-map (flown i) (map (λ r. r.shown) rs) k))
  where
    of_one : (k : ℕ) (x : Record) → slice_get rs k ≡ Some x → (b : Bool) → is_one_of k ks ≡ b → (flies_if b x).shown ≡ flown i x.shown
    of_one k x there true is = ap (λ j. flown j x.shown) (own k x is there)
    of_one k x there false is = sym (stays (x.shown.worker == i) refl (is_staged x.shown.phase) refl)
      where
        stays : (a : Bool) → (x.shown.worker == i) ≡ a → (b : Bool) → is_staged x.shown.phase ≡ b → (if a && b then (record x.shown { phase = RequestPhase.Flying }) else x.shown) ≡ x.shown
        stays true mine true flying = absurd (false≢true (sym is ∙ staged k x there (same_number x.shown.worker i mine) flying))
        stays true mine false flying = refl
        stays false mine b flying = refl

    at_each : (k : ℕ) (o : Option Record) → slice_get rs k ≡ o → option_map (λ r. r.shown) (option_map (flies_if (is_one_of k ks)) o) ≡ option_map (flown i) (option_map (λ r. r.shown) o)
    at_each k None there = refl
    at_each k (Some x) there = ap (λ r. Some r) (of_one k x there (is_one_of k ks) refl)

-- ONE BY ONE, THE LAST FIRST

last_flies : (ks : List ℕ) (k : ℕ) (rs : List Record) → flown_in (ks ++ k ∷ []) rs ≡ flown_in ks (changed_at rs k flies)
last_flies [] k rs = refl
last_flies (q ∷ ks) k rs = ap (λ xs. changed_at xs q flies) (last_flies ks k rs)

known_of_all : (ks : List ℕ) (k : ℕ) (rs rs' : List Record) → length rs' ≡ length rs → AreKnown (ks ++ k ∷ []) rs → AreKnown ks rs' × (k < length rs)
known_of_all [] k rs rs' same known = (tt, known.0)
known_of_all (q ∷ ks) k rs rs' same known =
    let rest = known_of_all ks k rs rs' same known.1 in
    ((rw same known.0, rest.0), rest.1)

pub known_last : (ks before : List ℕ) (k : ℕ) (rs : List Record) → before ≡ ks ++ k ∷ [] → AreKnown before rs → k < length rs
known_last ks before k rs is known = (known_of_all ks k rs rs refl (subst (λ b. AreKnown b rs) is known)).1

-- a record that was set as it flies
pub one_flown : (ks before : List ℕ) (k : ℕ) (rs : List Record) (x : Record) → before ≡ ks ++ k ∷ [] → x ≡ get_or rs k x → AreKnown before rs
    → (flown_in ks (slice_set rs k (flies x)) ≡ flown_in before rs) × AreKnown ks (slice_set rs k (flies x)) × (k < length rs)
one_flown ks before k rs x is found known =
    let all = known_of_all ks k rs (slice_set rs k (flies x)) (length-set rs k (flies x)) (subst (λ b. AreKnown b rs) is known) in
    (ap (λ o. flown_in ks (changed_in rs k flies o)) (sym (slice_get-get_or rs k x all.1 ∙ ap (λ y. Some y) (sym found))) ∙ sym (last_flies ks k rs) ∙ ap (λ b. flown_in b rs) (sym is), all.0, all.1)
