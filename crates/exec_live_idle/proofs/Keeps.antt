-- Each change of the views that a step makes keeps the rule of the idle set.
use Rattle.std.{proofs.{Common.{◌≡◌, ◌≢◌, ℕ, zero, suc, ◌+◌, ◌*◌, ◌^◌, ◌<◌, ◌≤◌, Bool, true, false, List, [], ◌∷◌, ◌++◌, set, sym, refl, ap, ◌∙◌, subst, ⊎_elim, le_refl, arith}, lemmas.Bool.Decides.{nat_tests}}, specs.Prelude.{if◌then◌else◌, Option}}
use native.Mathlib.Decide.{ℕ_discrete}
use mathlib.Core.{Logic.{dite}, Option.{some, some-injective, some-ne-none}}
use lib.ListN.{get_elem?}
use Rattle.atomic_table.proofs.Lists.{at_set, at_snoc}
use Rattle.exec_words.specs.Idle.{is_in}
use Rattle.exec_live_idle.{specs.{declared.view.View.View, Live.{total, awaits, publishes, shares, width, has_number, IsSeat, Kept, next_number, own_number, with_counts, joined, first_view}, Plays.{published, withdrawn, claimed}}, proofs.Sets.in_changed}

-- ---- sums over views
-- a fact of each view
abbrev pub Each : (View → Type 0) → List View → Type 0
Each P views = (j : ℕ) (u : View) → get_elem? views j ≡ some u → P u

module _ (f : View → ℕ) where
  total_set : (views : List View) (id : ℕ) (v w : View) → get_elem? views id ≡ some v → total f (set views id w) + f v ≡ total f views + f w
  total_set [] id v w at = absurd (some-ne-none v (sym at))
  total_set (u ∷ us) zero v w at = let e = ap f (some-injective u v at) in omega (arith, e)
  total_set (u ∷ us) (suc id) v w at = let e = total_set us id v w at in omega (arith, e)

  total_push : (views : List View) (w : View) → total f (views ++ w ∷ []) ≡ total f views + f w
  total_push [] w = omega arith
  total_push (u ∷ us) w = let e = total_push us w in omega (arith, e)

  total_thrice : (g : View → ℕ) (views : List View) → Each (λ u. f u ≤ 3 * g u) views → total f views ≤ 3 * total g views
  total_thrice g [] each = le_refl 0
  total_thrice g (u ∷ us) each = let one : f u ≤ 3 * g u = each 0 u refl in
      let e = total_thrice g us (λ j w at. each (suc j) w at) in omega (arith, one, e)

-- ---- two sets that differ in the worker k at most
beside : (k : ℕ) (a b : List Bool) (u : View) → (u.number ≢ k → is_in a u.number ≡ is_in b u.number)
    → awaits a u + (if is_in a k then publishes k u else 0) ≡ awaits b u + (if is_in b k then publishes k u else 0)
beside k a b u others = grind (arith, nat_tests)

both_parts : (x y : Bool) (h f g p s t q : ℕ) → f + (if x then p else 0) ≡ g + (if y then p else 0)
    → s + (if x then q else 0) ≡ t + (if y then q else 0)
    → h + f + s + (if x then p + q else 0) ≡ h + g + t + (if y then p + q else 0)
both_parts x y h f g p s t q one more = grind arith

-- where the bit of a published worker is gone, its seat awaits a count
besides : (k : ℕ) (a b : List Bool) → ((i : ℕ) → i ≢ k → is_in a i ≡ is_in b i) → (views : List View)
    → total (shares a) views + (if is_in a k then total (publishes k) views else 0)
    ≡ total (shares b) views + (if is_in b k then total (publishes k) views else 0)
besides k a b others [] = grind arith
besides k a b others (u ∷ us) = both_parts (is_in a k) (is_in b k) u.held (awaits a u) (awaits b u) (publishes k u)
    (total (shares a) us) (total (shares b) us) (total (publishes k) us)
    (beside k a b u (others u.number)) (besides k a b others us)

-- ---- one seat
within : (workers i : ℕ) (set_ : List Bool) (u : View) → IsSeat workers u
    → (shares set_ u ≤ 3 * width u) × (publishes i u ≤ 3 * has_number i u)
within workers i set_ u s = (grind (arith, nat_tests), grind (arith, nat_tests))

no_number : (i : ℕ) → has_number i joined ≡ 0
no_number i = grind (arith, nat_tests)

spent_seat : (workers : ℕ) → IsSeat workers joined
spent_seat workers = let pool : 0 < 0 → 0 ≡ workers = λ e. absurd (omega arith) in
    record { pool = pool; held = omega arith; spent = λ _. (refl, refl); worker = λ e. absurd (cc) }

module _ (workers : ℕ) where
  each_after : (views : List View) (id : ℕ) (w : View) → Each (IsSeat workers) views → IsSeat workers w → Each (IsSeat workers) (set views id w)
  each_after views id w each mine j u at = ⊎_elim
      (λ (is : (j ≡ id) × (w ≡ u)). subst (IsSeat workers) is.1 mine)
      (λ (other : (j ≢ id) × (get_elem? views j ≡ some u)). each j u other.1)
      (at_set views id j w u at)

  each_push : (views : List View) (w : View) → Each (IsSeat workers) views → IsSeat workers w → Each (IsSeat workers) (views ++ w ∷ [])
  each_push views w each mine j u at = ⊎_elim (λ old. each j u old) (λ (is : w ≡ u). subst (IsSeat workers) is mine) (at_snoc views w u j at)

  -- the first seat alone
  pub begins : (set_ : List Bool) → ((i : ℕ) → is_in set_ i ≡ false) → Kept workers set_ 0 (first_view workers ∷ [])
  begins set_ empty = record {
    counted = refl;
    each_bit = λ i up. absurd (let clash : true ≡ false = sym up ∙ empty i in cc);
    each_number = λ i. grind (arith, nat_tests);
    few = omega arith;
    each_seat = each_push [] (first_view workers) (λ j u at. absurd (some-ne-none u (sym at)))
        record { pool = λ _. refl; held = omega arith; spent = λ e. absurd (omega arith); worker = λ e. absurd (cc) };
  }

-- ---- the steps of the seat id, which has the view v
module _ (workers : ℕ) (set_ : List Bool) (count : ℕ) (views : List View) (k : Kept workers set_ count views) (id : ℕ) (v : View) (at : get_elem? views id ≡ some v) where
  pub bounded : count + 1 < 2 ^ 64
  bounded = let a = total_thrice (shares set_) width views
      (λ j u there. (within workers 0 set_ u (k.each_seat j u there)).0) in omega (arith, a, k.counted, k.few)

  pub held_within : v.held ≤ count
  held_within = let a = total_set (shares set_) views id v joined at in omega (arith, a, k.counted)

  -- no other seat has published this seat's worker
  own : v.number < v.end → v.published ≡ false → total (publishes v.number) views ≡ 0
  own live down = let others : List View = set views id joined in let n : ℕ = v.number in
      let one : has_number n v ≡ publishes n v + 1 = grind (arith, nat_tests) in
      let each = each_after workers views id joined k.each_seat (spent_seat workers) in
      let most = total_thrice (publishes n) (has_number n) others
      (λ j u there. (within workers n [] u (each j u there)).1) in
      let p = total_set (publishes n) views id v joined at in let h = total_set (has_number n) views id v joined at in
      omega (arith, one, most, p, h, no_number n, k.each_number n)

  -- The seat's view changes to w, and at most the bit of the worker i with it. A set bit is published by one seat still
  changes : (after : List Bool) (left i : ℕ) (w : View)
      → (w.workers ≡ v.workers) × (w.number ≡ v.number) × (w.end ≡ v.end)
      → w.held ≤ 2 → v.number < v.end → (w.published ≡ true → v.number < workers)
      → ((j : ℕ) → j ≢ i → (is_in after j ≡ is_in set_ j) × (publishes j w ≡ publishes j v))
      → ((j : ℕ) → j ≡ i → is_in after j ≡ true
      → (j < workers) × (total (publishes j) views + publishes j w ≡ 1 + publishes j v))
      → left + shares after v + (if is_in after i then total (publishes i) views else 0)
      ≡ count + shares after w + (if is_in set_ i then total (publishes i) views else 0)
      → Kept workers after left (set views id w)
  changes after left i w same few live worker others here moved = record {
    counted = let t = total_set (shares after) views id v w at in
        let b = besides i after set_ (λ j ne. (others j ne).0) views in omega (arith, t, b, moved, k.counted);
    each_bit = λ j up. let t = total_set (publishes j) views id v w at in dite (ℕ_discrete j i)
        (λ (e : j ≡ i). let new = here j e up in (new.0, omega (arith, t, new.1)))
        (λ ne. let o = others j ne in let old = k.each_bit j (sym o.0 ∙ up) in (old.0, omega (arith, t, o.1, old.1)));
    each_number = λ j. let t = total_set (has_number j) views id v w at in
        let e : has_number j w ≡ has_number j v = rw (same.1, same.2) refl in omega (arith, t, e, k.each_number j);
    few = let t = total_set width views id v w at in omega (arith, t, same.1, same.2, k.few);
    each_seat = each_after workers views id w k.each_seat record {
      pool = λ _. same.0 ∙ (k.each_seat id v at).pool live;
      held = few;
      spent = λ e. absurd (omega (arith, e, same.1, same.2, live));
      worker = λ up. let low = worker up in omega (arith, low, same.1);
    };
  }

  -- the seat's counts change, and the count with them
  pub counts : (left held saw : ℕ) (took last before : Option ℕ) → v.number < v.end → held ≤ 2
      → left + v.held ≡ count + held → Kept workers set_ left
      (set views id record v { held = held; saw = saw; took = took; last = last; before = before })
  counts left held saw took last before live few moved =
      let w : View = record v { held = held; saw = saw; took = took; last = last; before = before } in
      changes set_ left v.number w (refl, refl, refl) few live (k.each_seat id v at).worker (λ j ne. (refl, refl))
      (λ j e up. let old = k.each_bit j up in (old.0, omega (arith, old.1))) (omega (arith, moved))

  -- it publishes its worker
  pub publishes_kept : v.number < v.end → v.number < workers → v.published ≡ false
      → is_in (set set_ v.number true) v.number ≡ true
      → Kept workers (set set_ v.number true) count (set views id (published v))
  publishes_kept live pool down here = let none = own live down in let s = k.each_seat id v at in
      changes (set set_ v.number true) count v.number (published v) (refl, refl, refl) s.held live (λ _. pool)
      (λ j ne. (in_changed set_ v.number j true ne, rw down (grind (arith, nat_tests))))
      (λ j e up. (omega (arith, e, pool), rw (e, down, none) (grind (arith, nat_tests))))
      (rw (none, here, down) (grind arith))

  -- it claims the worker i
  pub claims_kept : (i : ℕ) → v.number < v.end → 0 < v.held → is_in set_ i ≡ true → is_in (set set_ i false) i ≡ false
      → Kept workers (set set_ i false) count (set views id (claimed v i))
  claims_kept i live holds up gone = let s = k.each_seat id v at in let one = (k.each_bit i up).1 in
      changes (set set_ i false) count i (claimed v i) (refl, refl, refl) (omega (arith, s.held)) live s.worker
      (λ j ne. (in_changed set_ i j false ne, refl)) (λ j e there. absurd (cc))
      (rw (gone, up, one) (omega (arith, holds)))

  -- it withdraws its worker. The seat's number is its own, so its publication is no other's
  pub withdraws_kept : v.number < v.end → v.published ≡ true → v.held < 2
      → is_in (set set_ v.number false) v.number ≡ false
      → Kept workers (set set_ v.number false) count (set views id (withdrawn v (is_in set_ v.number)))
  withdraws_kept live up few gone = let n : ℕ = v.number in
      let one = λ (there : is_in set_ n ≡ true). (k.each_bit n there).1 in
      changes (set set_ n false) count n (withdrawn v (is_in set_ n)) (refl, refl, refl) (grind (arith, few)) live
      (λ e. absurd (cc)) (λ j ne. (in_changed set_ n j false ne, rw up (grind (arith, nat_tests))))
      (λ j e there. absurd (cc)) (rw (gone, up) (grind (arith, one)))

  -- a seat is made
  pub splits : v.published ≡ false → v.number + 1 < v.end → Kept workers set_ count (set views id (next_number v) ++ own_number v ∷ [])
  splits down room =
      let l : View = next_number v in let r : View = own_number v in let vs : List View = set views id l in
      let s = k.each_seat id v at in let pool : v.workers ≡ workers = s.pool (omega arith) in
      let each : (f : View → ℕ) → f v ≡ f l + f r → total f (vs ++ r ∷ []) ≡ total f views
      = λ f parts. (let t = total_set f views id v l at in let p = total_push f vs r in omega (arith, t, p, parts)) in
      record {
        counted = k.counted ∙ sym (each (shares set_) (rw down (omega arith)));
        each_bit = λ i up. let old = k.each_bit i up in (old.0, each (publishes i) (rw down refl) ∙ old.1);
        each_number = λ i. let e = each (has_number i) (grind (arith, nat_tests)) in omega (arith, e, k.each_number i);
        few = let e = each width (omega arith) in omega (arith, e, k.few);
        each_seat = each_push workers vs r
            (each_after workers views id l k.each_seat
            record { pool = λ _. pool; held = s.held; spent = λ e. absurd (omega arith); worker = λ e. absurd (cc) })
            record { pool = λ _. pool; held = omega arith; spent = λ e. absurd (omega arith); worker = λ e. absurd (cc) };
      }

  -- another is joined to it
  pub joins : (other : ℕ) (w : View) → ¬ (other ≡ id) → get_elem? (set views id (with_counts v w)) other ≡ some w
      → v.number < v.end → w.published ≡ false → v.held + w.held ≤ 2 → Kept workers set_ count (set (set views id (with_counts v w)) other joined)
  joins other w apart there live down few =
      let b : View = with_counts v w in let vs : List View = set views id b in let s = k.each_seat id v at in
      let both : (f : View → ℕ) → total f (set vs other joined) + f v + f w ≡ total f views + f b + f joined
      = λ f. (let t = total_set f views id v b at in let p = total_set f vs other w joined there in omega (arith, t, p)) in
      record {
        counted = let e = both (shares set_) in let p : shares set_ w ≡ w.held = rw down (omega arith) in omega (arith, e, p, k.counted);
        each_bit = λ i up. let old = k.each_bit i up in let e = both (publishes i) in let p : publishes i w ≡ 0 = rw down refl in (old.0, omega (arith, e, p, old.1));
        each_number = λ i. let e = both (has_number i) in omega (arith, e, no_number i, k.each_number i);
        few = let e = both width in omega (arith, e, k.few);
        each_seat = each_after workers vs other joined
            (each_after workers views id b k.each_seat record { pool = s.pool; held = few; spent = λ e. absurd (omega arith); worker = s.worker })
            (spent_seat workers);
      }
