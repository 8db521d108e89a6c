-- What one more result means depends on what is left alone.
use Rattle.std.{proofs.{Common.{◌≡◌, ℕ, ◌+◌, ◌-◌, Bool, true, false, not, ◌||◌, ◌&&◌, [], ◌∷◌, Option, Some, None, find, refl, sym, ap, ◌∙◌, inl, inr, arith, if◌then◌else◌, leb}, lemmas.Bool.cases_Bool}, specs.List.after_first}
use Rattle.exec_outcomes.{specs.{declared.outcome.{Kind.{Kind, TheVariants.{Read, Direct, Write, Dsync, Many, Sync}}, OpResult.OpResult, Judged.Judged, Outcome.Outcome}, Outcomes.{Asked, Part, first_length, first_part, bytes_of, is_positive, takes_any, is_transient, refuses_hint, lasting, with_totals, results_in, completes, decides, passes_on, stops, verdict, verdict_of, outcome_by, outcome_by_stop, outcome_next}}, proofs.Runs.{one_lasts, after_only}}
use Rattle.exec_request.specs.{Judging.{whole, judged_alone, is_enough, passes, ends}, Ways.{asked_by, is_direct, is_switched, size_for}, Syncing.{write_kind, is_syncing}, declared.{way.Way.{Way, TheVariants.{Buffered, Hinted, Switched}}, write_at.WriteAtState.{WriteAtState, TheVariants.{Writing, WritingSync, WritingBeforeSync, Syncing}}}}
use Rattle.exec_request.specs.declared.way.Way.TheVariants as way

-- so many bytes are enough where they are as many as are left
leb-left : (n m b : ℕ) → leb n (m + b) ≡ leb (n - m) (0 + b)
leb-left = grind arith

completes-left : (kind : Kind) (n m left : ℕ) (r : Judged) → left ≡ n - m → completes (record { kind = kind; length = n }) (r, m + bytes_of r.result) ≡ completes (record { kind = kind; length = left }) (r, 0 + bytes_of r.result)
completes-left kind n m left r e =
    ap (λ t. is_positive r.result && (takes_any kind || t)) (leb-left n m (bytes_of r.result) ∙ ap (λ k. leb k (0 + bytes_of r.result)) (sym e))

-- whether a request passes on depends on whether the part is complete
passes-left : (kind : Kind) (p q : Part) (x y : Judged × ℕ) → x.0.result ≡ y.0.result → completes p x ≡ completes q y → passes_on kind p x ≡ passes_on kind q y
passes-left = grind arith

-- what one result that says something means, by its tests
one_form : Kind → Bool → Judged → Bool → Bool → Option Outcome
one_form kind given_up r stop passes = if stop then (if passes then outcome_by kind given_up None else Some (verdict kind r)) else outcome_by kind given_up None

one-form : (asked : Asked) (m : ℕ) (h : Bool) (r : Judged) → lasting asked.kind (r ∷ []) ≡ r ∷ [] →
    let x : Judged × ℕ = (r, m + bytes_of r.result) in
    outcome_next asked (record { moved = m; switched = false; hinted = h }) r ≡ one_form asked.kind r.cancelled r (stops asked x) (passes_on asked.kind (first_part asked) x)
unfolding one_form
one-form = grind (arith, after_only)

nothing-form : (asked : Asked) (m : ℕ) (h : Bool) (r : Judged) → lasting asked.kind (r ∷ []) ≡ [] → outcome_next asked (record { moved = m; switched = false; hinted = h }) r ≡ outcome_by asked.kind r.cancelled None
nothing-form asked m h r nothing =
    ap (λ l. outcome_by_stop asked r.cancelled (find (stops asked) (with_totals m l)) (results_in (after_first (stops asked) (with_totals m l)))) nothing

-- two requests of one kind, with as much left
module _ (kind : Kind) (n s left : ℕ) (m : ℕ) (h g : Bool) (e : first_length kind left 0 ≡ first_length kind n s - m) where
  pub outcome-left : (r : Judged) → outcome_next (record { kind = kind; length = n; skip = s }) (record { moved = m; switched = false; hinted = h }) r ≡ outcome_next (record { kind = kind; length = left; skip = 0 }) (record { moved = 0; switched = false; hinted = g }) r
  unfolding one_form
  outcome-left r =
      let a : Asked = record { kind = kind; length = n; skip = s } in
      let b : Asked = record { kind = kind; length = left; skip = 0 } in
      let x : Judged × ℕ = (r, m + bytes_of r.result) in
      let y : Judged × ℕ = (r, 0 + bytes_of r.result) in
      let done : completes (first_part a) x ≡ completes (first_part b) y = completes-left kind (first_length kind n s) m (first_length kind left 0) r e in
      let pass : passes_on kind (first_part a) x ≡ passes_on kind (first_part b) y = passes-left kind (first_part a) (first_part b) x y refl done in
      let stop : stops a x ≡ stops b y = ap (λ t. (not (is_positive r.result) || t) || passes_on kind (first_part a) x) done ∙ ap (λ t. decides (first_part b) y || t) pass in
      elim (one_lasts kind r.result r.hinted r.cancelled) [
        | inl nothing ↦ nothing-form a m h r nothing.0 ∙ sym (nothing-form b 0 g r nothing.0)
        | inr itself ↦ one-form a m h r itself ∙ (ap (λ t. one_form kind r.cancelled r t (passes_on kind (first_part a) x)) stop ∙ (ap (λ t. one_form kind r.cancelled r (stops b y) t) pass ∙ sym (one-form b 0 g r itself)))
      ]

-- a buffered read, however it was made
pub buffered : (way : Way) (n read : ℕ) (h c : Bool) (given : OpResult) → is_direct way ≡ false → n ≡ size_for way n →
    let r : Judged = record { result = given; hinted = h; cancelled = c } in
    outcome_next (asked_by way n) (record { moved = read; switched = is_switched way; hinted = h }) r ≡ outcome_next (record { kind = Read; length = n - read; skip = 0 }) (record { moved = 0; switched = false; hinted = h }) r
buffered Buffered n read h c given other sized = outcome-left Read n 0 (n - read) read h h refl (record { result = given; hinted = h; cancelled = c })
buffered Hinted n read h c given other sized = grind arith
buffered (way.Direct skip len) n read h c given other sized = cc
buffered (Switched skip len) n read h c given other sized = grind arith

-- a sync that trails a write
pub trailing : (n : ℕ) (h c : Bool) (given : OpResult) →
    let r : Judged = record { result = given; hinted = false; cancelled = c } in
    outcome_next (record { kind = Many; length = n; skip = 0 }) (record { moved = 0; switched = true; hinted = h }) r ≡ outcome_next (record { kind = Sync; length = 1; skip = 0 }) (record { moved = 0; switched = false; hinted = false }) r
trailing = grind arith

-- what isn't direct isn't
pub not_direct : (w : Way) → ((skip len : ℕ) → w ≡ way.Direct skip len → ⊥) → is_direct w ≡ false
not_direct = grind arith

-- a result that says nothing is struck out
silent : (kind : Kind) (r : Judged) → (is_transient kind r.result || refuses_hint r) ≡ true → lasting kind (r ∷ []) ≡ []
silent = grind arith

-- and one that says something stays
audible : (kind : Kind) (r : Judged) → (is_transient kind r.result || refuses_hint r) ≡ false → lasting kind (r ∷ []) ≡ r ∷ []
audible = grind arith

completes-alone : (kind : Kind) (left : ℕ) (r : Judged) → completes (first_part (whole kind left)) (r, 0 + bytes_of r.result) ≡ is_enough kind left r.result
completes-alone = grind arith

passes-alone : (kind : Kind) (left : ℕ) (r : Judged) → completes (first_part (whole kind left)) (r, 0 + bytes_of r.result) ≡ is_enough kind left r.result → passes_on kind (first_part (whole kind left)) (r, 0 + bytes_of r.result) ≡ passes kind left r.result
passes-alone = grind arith

-- a part that passes on doesn't end the request
ends-form : (kind : Kind) (given_up d p : Bool) (r : Judged) → one_form kind given_up r (d || p) p ≡ (if d && not p then Some (verdict kind r) else outcome_by kind given_up None)
unfolding one_form
ends-form = grind arith

-- what one result alone means, by whether it ends the request
pub judged_by : (kind : Kind) (left : ℕ) (hinted cancelled : Bool) (given : OpResult) → judged_alone kind left hinted cancelled given ≡ (if ends kind left hinted given then Some (verdict_of kind given cancelled) else outcome_by kind cancelled None)
judged_by kind left hinted cancelled given =
    let asked : Asked = whole kind left in
    let r : Judged = record { result = given; hinted = hinted; cancelled = cancelled } in
    let x : Judged × ℕ = (r, 0 + bytes_of given) in
    let no : Option Outcome = outcome_by kind cancelled None in
    let by : Bool → Option Outcome = λ b. if b then Some (verdict kind r) else no in
    let done : completes (first_part asked) x ≡ is_enough kind left given = completes-alone kind left r in
    let pass : passes_on kind (first_part asked) x ≡ passes kind left given = passes-alone kind left r done in
    elim (cases_Bool (is_transient kind given || refuses_hint r)) [
      | inl nothing ↦ nothing-form asked 0 hinted r (silent kind r nothing) ∙ ap (λ b. by (not b && ((not (is_positive given) || is_enough kind left given) && not (passes kind left given)))) (sym nothing)
      | inr something ↦
          one-form asked 0 hinted r (audible kind r something)
          ∙ (ends-form kind cancelled (decides (first_part asked) x) (passes_on kind (first_part asked) x) r
          ∙ (ap (λ d. by ((not (is_positive given) || d) && not (passes_on kind (first_part asked) x))) done
          ∙ (ap (λ p. by ((not (is_positive given) || is_enough kind left given) && not p)) pass
          ∙ ap (λ b. by (not b && ((not (is_positive given) || is_enough kind left given) && not (passes kind left given)))) (sym something))))
    ]

-- a write, however durable and however far
pub of_write : (state : WriteAtState) (n m : ℕ) (h c : Bool) (given : OpResult) →
    outcome_next (record { kind = write_kind state; length = n; skip = 0 }) (record { moved = if is_syncing state then 0 else m; switched = is_syncing state; hinted = h }) (record { result = given; hinted = not (is_syncing state) && h; cancelled = c })
    ≡ (if is_syncing state then judged_alone Sync 1 false c given else judged_alone (write_kind state) (n - m) h c given)
of_write Writing n m h c given = outcome-left Write n 0 (n - m) m h h refl (record { result = given; hinted = h; cancelled = c })
of_write WritingSync n m h c given = outcome-left Dsync n 0 (n - m) m h h refl (record { result = given; hinted = h; cancelled = c })
of_write WritingBeforeSync n m h c given = outcome-left Many n 0 (n - m) m h h refl (record { result = given; hinted = h; cancelled = c })
of_write Syncing n m h c given = trailing n h c given
