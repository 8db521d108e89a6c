-- What one more result makes of a list of results.
use Rattle.std.{proofs.{Common.{◌≡◌, ℕ, ◌+◌, Bool, true, false, not, ◌&&◌, List, [], ◌∷◌, ◌++◌, Option, Some, None, is_some, find, refl, sym, ◌∙◌, ap, inl, inr, ◌⊎◌, subst, if◌then◌else◌, arith}, lemmas.{Bool.{and_parts, cases_Bool}, List.{Folds.list_any-append, Sums.sum_by-append}}}, specs.List.{list_any, after_first}}
use Rattle.exec_outcomes.{specs.{declared.outcome.{Kind.Kind, OpResult.OpResult, Judged.Judged}, Outcomes.{Asked, Part, Cursor, moves_bytes, part_now, counted_for, first_part, second_kind, second_part, refuses_hint, lasting, bytes_of, moved_by, with_totals, results_in, passes_on, stops, outcome_of_part, outcome_of, outcome_next, moves_on, cursor_next, stop_of, present, HasCome}}, proofs.Totals.{find-after_none, find-after_some, after_first-none, last_is_cancelled-push, lasting-push, second_undecided, totals-push, by_totals, by_totals-none, later-push, by_totals-some}}

-- the outcome that one more result gives, by the part in which it comes
module _ (asked : Asked) (cursor : Cursor) (results : List Judged) (r : Judged) (come : HasCome asked cursor results) (allowed : r.hinted ≡ true → cursor.hinted ≡ true) where
  pushed : outcome_of asked (results ++ r ∷ []) ≡ by_totals asked r.cancelled (with_totals 0 (lasting asked.kind results) ++ with_totals (moved_by (lasting asked.kind results)) (lasting asked.kind (r ∷ [])))
  unfolding by_totals
  pushed =
      ap (λ b. by_totals asked b (with_totals 0 (lasting asked.kind (results ++ r ∷ [])))) (last_is_cancelled-push results r)
      ∙ ap (by_totals asked r.cancelled) (totals-push asked cursor results r come allowed)

  next_by : (o : Option (Judged × ℕ)) → stop_of asked results ≡ o → outcome_of asked (results ++ r ∷ []) ≡ outcome_next asked cursor r
  unfolding by_totals
  next_by = grind (arith, pushed, by_totals-none, second_undecided, by_totals-some)

pub next : (asked : Asked) (cursor : Cursor) (results : List Judged) (r : Judged) → HasCome asked cursor results → (r.hinted ≡ true → cursor.hinted ≡ true) → outcome_of asked (results ++ r ∷ []) ≡ outcome_next asked cursor r
next asked cursor results r come allowed = next_by asked cursor results r come allowed (stop_of asked results) refl

-- one result says something, or it moved nothing
pub one_lasts : (kind : Kind) (r : OpResult) (hinted cancelled : Bool) → let x : Judged = record { result = r; hinted = hinted; cancelled = cancelled } in ((lasting kind (x ∷ []) ≡ []) × (bytes_of r ≡ 0)) ⊎ (lasting kind (x ∷ []) ≡ x ∷ [])
one_lasts = grind arith

-- nothing comes after the only one
pub after_only : {X : Type 0} (p : X → Bool) (x : X) → after_first p (x ∷ []) ≡ []
after_only p x = elim (cases_Bool (p x)) [ inl passes ↦ rw passes refl | inr fails ↦ rw fails refl ]

record StopsOnce (asked : Asked) (rs : List (Judged × ℕ)) : Type 0 where
  passes : list_any (passes_on asked.kind (first_part asked)) rs ≡ is_some (find (stops asked) rs)
  nothing_after : results_in (after_first (stops asked) rs) ≡ []

stops_once : (asked : Asked) (given_up : Bool) (m : ℕ) (r : Judged) → by_totals asked given_up (with_totals m (r ∷ [])) ≡ None → StopsOnce asked (with_totals m (r ∷ []))
unfolding by_totals
stops_once = grind arith

one_stop : (asked : Asked) (given_up : Bool) (m : ℕ) (r : Judged) → by_totals asked given_up (with_totals m (lasting asked.kind (r ∷ []))) ≡ None → StopsOnce asked (with_totals m (lasting asked.kind (r ∷ [])))
one_stop asked given_up m r none =
    grind (arith, one_lasts, by_totals, stops_once)

moved_by-lasting : (kind : Kind) (r : Judged) → moved_by (lasting kind (r ∷ [])) ≡ bytes_of r.result
moved_by-lasting = grind arith

moved_by-append : (kind : Kind) (xs : List Judged) (r : Judged) → moved_by (xs ++ lasting kind (r ∷ [])) ≡ moved_by xs + bytes_of r.result
moved_by-append kind xs r = sum_by-append (λ (x : Judged). bytes_of x.result) xs (lasting kind (r ∷ [])) ∙ ap (λ n. moved_by xs + n) (moved_by-lasting kind r)

still_first : (asked : Asked) (given_up : Bool) (m : ℕ) (r : Judged) → moves_bytes asked.kind ≡ false → by_totals asked given_up (with_totals m (lasting asked.kind (r ∷ []))) ≡ None → bytes_of r.result ≡ 0
unfolding by_totals
still_first = grind arith

still_second : (part : Part) (given_up : Bool) (kind : Kind) (m : ℕ) (r : Judged) → moves_bytes part.kind ≡ false → outcome_of_part part given_up (with_totals m (lasting kind (r ∷ []))) ≡ None → bytes_of r.result ≡ 0
still_second = grind arith

-- what a part counts is all bytes of a result that doesn't decide it
counted_by : (b : Bool) (n : ℕ) → (b ≡ false → n ≡ 0) → (if b then n else 0) ≡ n
counted_by true n none = refl
counted_by false n none = sym (none refl)

amount_by : (moves on : Bool) (n : ℕ) (later all : List Judged) → moves ≡ on → later ≡ [] → moved_by all ≡ n → (if moves then 0 else n) ≡ moved_by (if on then later else all)
amount_by = grind arith

unrefused-push : (hinted : Bool) (results : List Judged) (r : Judged) → (hinted ≡ true → list_any refuses_hint results ≡ false) → (hinted && not (refuses_hint r)) ≡ true → list_any refuses_hint (results ++ r ∷ []) ≡ false
unrefused-push = grind (arith, and_parts, cases_Bool, list_any-append)

module _ (asked : Asked) (cursor : Cursor) (results : List Judged) (r : Judged) (come : HasCome asked cursor results) (allowed : r.hinted ≡ true → cursor.hinted ≡ true) (undecided : outcome_next asked cursor r ≡ None) where
  goes_on_by : (o : Option (Judged × ℕ)) → stop_of asked results ≡ o → HasCome asked (cursor_next asked cursor r) (results ++ r ∷ [])
  unfolding by_totals
  goes_on_by None none =
      let kind = asked.kind in
      let before : List (Judged × ℕ) = with_totals 0 (lasting kind results) in
      let here : List (Judged × ℕ) = with_totals cursor.moved (lasting kind (r ∷ [])) in
      let first : cursor.switched ≡ false = come.part ∙ ap is_some none in
      let amount : cursor.moved ≡ moved_by (lasting kind results) = come.amount ∙ ap (λ o. moved_by (if is_some o then results_in (after_first (stops asked) before) else lasting kind results)) none in
      let all : with_totals 0 (lasting kind (results ++ r ∷ [])) ≡ before ++ here = totals-push asked cursor results r come allowed ∙ ap (λ n. before ++ with_totals n (lasting kind (r ∷ []))) (sym amount) in
      let open_still : by_totals asked r.cancelled here ≡ None = subst (λ b. (if b then outcome_of_part (second_part asked) r.cancelled here else by_totals asked r.cancelled here) ≡ None) first undecided in
      let once = one_stop asked r.cancelled cursor.moved r open_still in
      let counted : counted_for (part_now asked cursor) r.result ≡ bytes_of r.result = rw first (counted_by (moves_bytes kind) (bytes_of r.result) (λ still. still_first asked r.cancelled cursor.moved r still open_still)) in
      let stop : stop_of asked (results ++ r ∷ []) ≡ find (stops asked) here = ap (find (stops asked)) all ∙ find-after_none (stops asked) before here none in
      let after : results_in (after_first (stops asked) (with_totals 0 (lasting kind (results ++ r ∷ [])))) ≡ [] = ap (λ rs. results_in (after_first (stops asked) rs)) all ∙ (ap results_in (after_first-none (stops asked) before here none) ∙ once.nothing_after) in
      let total : moved_by (lasting kind (results ++ r ∷ [])) ≡ cursor.moved + counted_for (part_now asked cursor) r.result = ap moved_by (lasting-push kind cursor.hinted results r come.unrefused allowed) ∙ (moved_by-append kind (lasting kind results) r ∙ (ap (λ n. n + bytes_of r.result) (sym amount) ∙ ap (λ n. cursor.moved + n) (sym counted))) in
      let moves : moves_on asked cursor r ≡ is_some (stop_of asked (results ++ r ∷ [])) = rw first (once.passes ∙ ap is_some (sym stop)) in
      grind (arith, next, amount_by, unrefused-push)
  goes_on_by (Some s) stopped =
      let kind = asked.kind in
      let before : List (Judged × ℕ) = with_totals 0 (lasting kind results) in
      let later : List Judged = results_in (after_first (stops asked) before) in
      let n : ℕ = moved_by (lasting kind results) in
      let second : cursor.switched ≡ true = come.part ∙ ap is_some stopped in
      let amount : cursor.moved ≡ moved_by later = come.amount ∙ ap (λ o. moved_by (if is_some o then later else lasting kind results)) stopped in
      let all : with_totals 0 (lasting kind (results ++ r ∷ [])) ≡ before ++ with_totals n (lasting kind (r ∷ [])) = totals-push asked cursor results r come allowed in
      let stop : stop_of asked (results ++ r ∷ []) ≡ Some s = ap (find (stops asked)) all ∙ find-after_some (stops asked) before (with_totals n (lasting kind (r ∷ []))) s stopped in
      let after : results_in (after_first (stops asked) (with_totals 0 (lasting kind (results ++ r ∷ [])))) ≡ later ++ lasting kind (r ∷ []) = ap (λ rs. results_in (after_first (stops asked) rs)) all ∙ later-push asked before s n (lasting kind (r ∷ [])) stopped in
      let here : List (Judged × ℕ) = with_totals cursor.moved (lasting kind (r ∷ [])) in
      let open_still : outcome_of_part (second_part asked) r.cancelled here ≡ None = subst (λ b. (if b then outcome_of_part (second_part asked) r.cancelled here else by_totals asked r.cancelled here) ≡ None) second undecided in
      let counted : counted_for (second_part asked) r.result ≡ bytes_of r.result = (counted_by (moves_bytes (second_kind kind)) (bytes_of r.result) (λ still. still_second (second_part asked) r.cancelled kind cursor.moved r still open_still)) in
      let total : moved_by (present asked (results ++ r ∷ [])) ≡ cursor.moved + counted_for (second_part asked) r.result =
      ap (λ o. moved_by (if is_some o then results_in (after_first (stops asked) (with_totals 0 (lasting kind (results ++ r ∷ [])))) else lasting kind (results ++ r ∷ []))) stop
      ∙ (ap moved_by after ∙ (moved_by-append kind later r ∙ (ap (λ m. m + bytes_of r.result) (sym amount) ∙ ap (λ n. cursor.moved + n) (sym counted)))) in
      grind (arith, next, unrefused-push)

pub goes_on : (asked : Asked) (cursor : Cursor) (results : List Judged) (r : Judged) → HasCome asked cursor results → (r.hinted ≡ true → cursor.hinted ≡ true) → outcome_next asked cursor r ≡ None → HasCome asked (cursor_next asked cursor r) (results ++ r ∷ [])
goes_on asked cursor results r come allowed undecided = goes_on_by asked cursor results r come allowed undecided (stop_of asked results) refl

pub begins : (asked : Asked) → HasCome asked (record { moved = 0; switched = false; hinted = true }) []
begins asked = record { undecided = refl; part = refl; amount = refl; unrefused = λ _. refl }

pub unhinted : (asked : Asked) (cursor : Cursor) (results : List Judged) → HasCome asked cursor results → HasCome asked (record cursor { hinted = false }) results
unhinted asked cursor results come = record { undecided = come.undecided; part = come.part; amount = come.amount; unrefused = λ no. cc }

-- another operation is needed only where no cancellation was asked for
pub uncancelled : (asked : Asked) (cursor : Cursor) (r : Judged) → outcome_next asked cursor r ≡ None → r.cancelled ≡ false
uncancelled = grind arith
