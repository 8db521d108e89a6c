-- The results that say something, with how much the ones before them moved, as one more comes.
use Rattle.std.{proofs.{Common.{◌≡◌, ℕ, ◌+◌, Bool, true, false, cond, not, ◌||◌, List, [], ◌∷◌, ◌++◌, Option, Some, None, find, filter, refl, sym, ◌∙◌, ap, add-zero, arith, zero-add, inl, inr, subst, if◌then◌else◌}, lemmas.{Bool.{or_parts, cases_Bool}, List.{Folds.find-append, Elements.filter-append, Sums.sum_by-cons}}}, specs.List.{list_any, after_first}}
use Rattle.exec_outcomes.specs.{declared.outcome.{Kind.Kind, Judged.Judged, Outcome.Outcome}, Outcomes.{Asked, Cursor, first_part, second_kind, second_part, is_transient, refuses_hint, without_first, lasting, bytes_of, moved_by, with_totals, results_in, decides, passes_on, stops, verdict, last_is_cancelled, outcome_by, outcome_of_part, outcome_by_stop, HasCome}}

with_totals-append : (before : ℕ) (xs ys : List Judged) → with_totals before (xs ++ ys) ≡ with_totals before xs ++ with_totals (before + moved_by xs) ys
with_totals-append before [] ys = ap (λ n. with_totals n ys) (sym (add-zero before))
with_totals-append before (x ∷ xs) ys =
    let rest = with_totals-append (before + bytes_of x.result) xs ys in
    let sum : (before + bytes_of x.result) + moved_by xs ≡ before + moved_by (x ∷ xs) = omega (arith, sum_by-cons (λ (r : Judged). bytes_of r.result) x xs) in
    ap (λ tail. (x, before + bytes_of x.result) ∷ tail) (rest ∙ ap (λ n. with_totals (before + bytes_of x.result) xs ++ with_totals n ys) sum)

results_in-with_totals : (before : ℕ) (xs : List Judged) → results_in (with_totals before xs) ≡ xs
results_in-with_totals before [] = refl
results_in-with_totals before (x ∷ xs) = ap (λ tail. x ∷ tail) (results_in-with_totals (before + bytes_of x.result) xs)

results_in-append : (xs ys : List (Judged × ℕ)) → results_in (xs ++ ys) ≡ results_in xs ++ results_in ys
results_in-append [] ys = refl
results_in-append (x ∷ xs) ys = ap (λ tail. x.0 ∷ tail) (results_in-append xs ys)

-- a search that fails goes on behind, and one that ends stays where it ended
pub find-after_none : {X : Type 0} (p : X → Bool) (xs ys : List X) → find p xs ≡ None → find p (xs ++ ys) ≡ find p ys
find-after_none p xs ys none = rw (find-append p xs ys, none)

pub find-after_some : {X : Type 0} (p : X → Bool) (xs ys : List X) (x : X) → find p xs ≡ Some x → find p (xs ++ ys) ≡ Some x
find-after_some p xs ys x found = rw (find-append p xs ys, found)

found_later : {X : Type 0} (b : Bool) (x : X) (rest : Option X) → cond b (Some x) rest ≡ None → (b ≡ false) × (rest ≡ None)
found_later true x rest none = cc
found_later false x rest none = (refl, none)

after_first-true : {X : Type 0} (p : X → Bool) (x : X) (xs : List X) → p x ≡ true → after_first p (x ∷ xs) ≡ xs
after_first-true p x xs passes = rw passes

after_first-false : {X : Type 0} (p : X → Bool) (x : X) (xs : List X) → p x ≡ false → after_first p (x ∷ xs) ≡ after_first p xs
after_first-false = grind arith

pub after_first-none : {X : Type 0} (p : X → Bool) (xs ys : List X) → find p xs ≡ None → after_first p (xs ++ ys) ≡ after_first p ys
after_first-none p [] ys none = refl
after_first-none p (x ∷ xs) ys none =
    let here = found_later (p x) x (find p xs) none in
    after_first-false p x (xs ++ ys) here.0 ∙ after_first-none p xs ys here.1

after_first-some : {X : Type 0} (p : X → Bool) (xs ys : List X) (s : X) → find p xs ≡ Some s → after_first p (xs ++ ys) ≡ after_first p xs ++ ys
after_first-some p [] ys s found = cc
after_first-some p (x ∷ xs) ys s found =
    elim (cases_Bool (p x)) [
      | inl passes ↦ after_first-true p x (xs ++ ys) passes ∙ ap (λ zs. zs ++ ys) (sym (after_first-true p x xs passes))
      | inr fails ↦
          let later : find p xs ≡ Some s = subst (λ b. cond b (Some x) (find p xs) ≡ Some s) fails found in
          after_first-false p x (xs ++ ys) fails ∙ (after_first-some p xs ys s later ∙ ap (λ zs. zs ++ ys) (sym (after_first-false p x xs fails)))
    ]

pub last_is_cancelled-push : (xs : List Judged) (r : Judged) → last_is_cancelled (xs ++ r ∷ []) ≡ r.cancelled
last_is_cancelled-push [] r = refl
last_is_cancelled-push (x ∷ []) r = refl
last_is_cancelled-push (x ∷ y ∷ xs) r = last_is_cancelled-push (y ∷ xs) r

-- striking the first that passes, where one does and where none does
without_first-any : {X : Type 0} (p : X → Bool) (xs ys : List X) → list_any p xs ≡ true → without_first p (xs ++ ys) ≡ without_first p xs ++ ys
without_first-any p [] ys some = cc
without_first-any p (x ∷ xs) ys some =
    elim (cases_Bool (p x)) [
      | inl passes ↦ rw passes
      | inr fails ↦
          let later : list_any p xs ≡ true = subst (λ b. (b || list_any p xs) ≡ true) fails some in
          rw fails (ap (λ zs. x ∷ zs) (without_first-any p xs ys later))
    ]

without_first-none : {X : Type 0} (p : X → Bool) (xs ys : List X) → list_any p xs ≡ false → without_first p (xs ++ ys) ≡ without_first p xs ++ without_first p ys
without_first-none p [] ys none = refl
without_first-none p (x ∷ xs) ys none =
    let parts = or_parts (p x) (list_any p xs) none in
    rw parts.0 (ap (λ zs. x ∷ zs) (without_first-none p xs ys parts.1))

-- a filter finds nothing new
list_any-filter : {X : Type 0} (p keep : X → Bool) (xs : List X) → list_any p xs ≡ false → list_any p (filter keep xs) ≡ false
list_any-filter p keep [] none = refl
list_any-filter p keep (x ∷ xs) none =
    let parts = or_parts (p x) (list_any p xs) none in
    elim (cases_Bool (keep x)) [
      | inl kept ↦ rw (kept, parts.0) (list_any-filter p keep xs parts.1)
      | inr struck ↦ rw struck (list_any-filter p keep xs parts.1)
    ]

-- a result without a hint refuses none
refuses_hint-unhinted : (r : Judged) → r.hinted ≡ false → refuses_hint r ≡ false
refuses_hint-unhinted r unhinted = rw unhinted

-- where none refuses, none is struck
struck_none : (kind : Kind) (r : Judged) → refuses_hint r ≡ false → lasting kind (r ∷ []) ≡ filter (λ (x : Judged). not (is_transient kind x.result)) (r ∷ [])
struck_none kind r taken = elim (cases_Bool (is_transient kind r.result)) [ inl transient ↦ rw transient refl | inr lasts ↦ rw (lasts, taken) refl ]

-- the results that say something, with one more
pub lasting-push : (kind : Kind) (hinted : Bool) (results : List Judged) (r : Judged) → (hinted ≡ true → list_any refuses_hint results ≡ false) → (r.hinted ≡ true → hinted ≡ true) → lasting kind (results ++ r ∷ []) ≡ lasting kind results ++ lasting kind (r ∷ [])
lasting-push = grind (arith, filter-append, cases_Bool, list_any-filter, without_first-any, struck_none, refuses_hint-unhinted, without_first-none)

pub none_decides : (kind : Kind) (given_up : Bool) (first : Option (Judged × ℕ)) → outcome_by kind given_up first ≡ None → first ≡ None
none_decides kind given_up (Some d) undecided = cc
none_decides kind given_up None undecided = refl

second_only : (asked : Asked) (given_up : Bool) (o : Outcome) (later : List Judged) (b : Bool) → (if b then outcome_of_part (second_part asked) given_up (with_totals 0 later) else Some o) ≡ None → (b ≡ true) × (find (decides (second_part asked)) (with_totals 0 later) ≡ None)
second_only asked given_up o later true none = (refl, none_decides (second_kind asked.kind) given_up (find (decides (second_part asked)) (with_totals 0 later)) none)
second_only asked given_up o later false none = cc

-- only in its second part does a stop leave a request undecided
pub second_undecided : (asked : Asked) (given_up : Bool) (s : Judged × ℕ) (later : List Judged) → outcome_by_stop asked given_up (Some s) later ≡ None → (passes_on asked.kind (first_part asked) s ≡ true) × (find (decides (second_part asked)) (with_totals 0 later) ≡ None)
second_undecided asked given_up s later undecided =
    second_only asked given_up (verdict asked.kind s.0) later (passes_on asked.kind (first_part asked) s) undecided

-- the results with their totals, with one more
pub totals-push : (asked : Asked) (cursor : Cursor) (results : List Judged) (r : Judged) → HasCome asked cursor results → (r.hinted ≡ true → cursor.hinted ≡ true) → with_totals 0 (lasting asked.kind (results ++ r ∷ [])) ≡ with_totals 0 (lasting asked.kind results) ++ with_totals (moved_by (lasting asked.kind results)) (lasting asked.kind (r ∷ []))
totals-push asked cursor results r come allowed =
    let kind = asked.kind in
    ap (with_totals 0) (lasting-push kind cursor.hinted results r come.unrefused allowed)
    ∙ (with_totals-append 0 (lasting kind results) (lasting kind (r ∷ []))
    ∙ ap (λ n. with_totals 0 (lasting kind results) ++ with_totals n (lasting kind (r ∷ []))) (zero-add (moved_by (lasting kind results))))

-- the outcome by results with their totals
unfoldable pub by_totals : Asked → Bool → List (Judged × ℕ) → Option Outcome
by_totals asked given_up rs = outcome_by_stop asked given_up (find (stops asked) rs) (results_in (after_first (stops asked) rs))

-- while no result has stopped the first part, the next ones are judged as if they were the first
pub by_totals-none : (asked : Asked) (given_up : Bool) (xs ys : List (Judged × ℕ)) → find (stops asked) xs ≡ None → by_totals asked given_up (xs ++ ys) ≡ by_totals asked given_up ys
unfolding by_totals
by_totals-none = grind (arith, find-after_none, after_first-none)

-- what came after the stop, with more
pub later-push : (asked : Asked) (xs : List (Judged × ℕ)) (s : Judged × ℕ) (n : ℕ) (more : List Judged) → find (stops asked) xs ≡ Some s → results_in (after_first (stops asked) (xs ++ with_totals n more)) ≡ results_in (after_first (stops asked) xs) ++ more
later-push asked xs s n more stopped =
    grind (arith, after_first-some, results_in-append, results_in-with_totals)

-- once it is stopped, and its second part is undecided, the next ones go on with that part
pub by_totals-some : (asked : Asked) (given_up : Bool) (xs : List (Judged × ℕ)) (s : Judged × ℕ) (n : ℕ) (more : List Judged) → find (stops asked) xs ≡ Some s → passes_on asked.kind (first_part asked) s ≡ true → find (decides (second_part asked)) (with_totals 0 (results_in (after_first (stops asked) xs))) ≡ None
    → by_totals asked given_up (xs ++ with_totals n more) ≡ outcome_of_part (second_part asked) given_up (with_totals (moved_by (results_in (after_first (stops asked) xs))) more)
unfolding by_totals
by_totals-some asked given_up xs s n more stopped passes undecided =
    let part = second_part asked in
    let later : List Judged = results_in (after_first (stops asked) xs) in
    let totals : with_totals 0 (later ++ more) ≡ with_totals 0 later ++ with_totals (moved_by later) more = with_totals-append 0 later more ∙ ap (λ m. with_totals 0 later ++ with_totals m more) (zero-add (moved_by later)) in
    ap (λ o. outcome_by_stop asked given_up o (results_in (after_first (stops asked) (xs ++ with_totals n more)))) (find-after_some (stops asked) xs (with_totals n more) s stopped)
    ∙ (ap (λ zs. outcome_by_stop asked given_up (Some s) zs) (later-push asked xs s n more stopped)
    ∙ (ap (λ b. if b then outcome_of_part part given_up (with_totals 0 (later ++ more)) else Some (verdict asked.kind s.0)) passes
    ∙ (ap (outcome_of_part part given_up) totals
    ∙ ap (outcome_by part.kind given_up) (find-after_none (decides part) (with_totals 0 later) (with_totals (moved_by later) more) undecided))))
