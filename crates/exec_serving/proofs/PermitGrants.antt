-- The first of a gate is granted its permit: it waits no more, and stands there still.
use Rattle.std.proofs.{Common.{◌≡◌, ◌≢◌, ℕ, ◌+◌, ◌<◌, ◌≤◌, ◌==◌, ◌&&◌, ◌++◌, arith, Bool, true, false, not, List, [], ◌∷◌, cond, count_by, length, map, Some, None, option_to_list, refl, sym, ap, subst, ◌∙◌, slice_get}, lemmas.{Bool.{eq-eqb, false≢true}}}
use Rattle.exec_outcomes.specs.Accounts.{is_durable}
use Rattle.exec_opens.specs.{Opens.OpenState, declared.opens.WaiterKey.WaiterKey}
use Rattle.exec_machine.specs.Tests.{is_gated, is_of_file, is_resolved}
use Rattle.exec_parts.{specs.{declared.parts.record.Record.Record, Serving.changed_at}, proofs.Facts.{by_number, not_same, or_left, same_number, same_Some}}
use Rattle.exec_invariants.{specs.{Gates.{AreLinedUp, HaveGates, IsLinedUp, at_gate, is_coming, is_in_line, key_for, line_at, same_key}, Places.Drops}, proofs.{GateLines.key_self, Lined.{map_changed, tallied, tally}, Marking.{mark_if, marked, was_marked}}}

-- LISTS

tally_map : {A : Type 0} (p : A → Bool) (xs : List A) → tally p xs ≡ tally (λ (b : Bool). b) (map p xs)
unfolding tally
tally_map p [] = refl
tally_map p (x ∷ xs) = ap (λ n. cond (p x) (1 + n) n) (tally_map p xs)

count_alike : {A : Type 0} (p : A → Bool) (xs ys : List A) → map p ys ≡ map p xs → count_by p ys ≡ count_by p xs
count_alike p xs ys same = sym (tallied p ys) ∙ tally_map p ys ∙ ap (tally (λ (b : Bool). b)) same ∙ sym (tally_map p xs) ∙ tallied p xs

and_all : (a b c : Bool) → (a && (b && c)) ≡ true → (b ≡ true) × (c ≡ true)
and_all = grind arith

-- WHO IS GRANTED, and what is its end then, if it ends

pub record Granted (k : ℕ) (r : Record) (f : Record → Record) (o : OpenState) (opens : List OpenState) (rs : List Record) : Type 0 where
  pub there : slice_get rs k ≡ Some r
  pub open_there : slice_get opens r.shown.operation.target ≡ Some o
  pub holds : o.holder ≡ Some (key_for r)
  pub gated : is_gated r.shown.phase ≡ true
  pub going : is_resolved r.shown.phase ≡ false
  pub key : key_for (f r) ≡ key_for r
  pub kind : (f r).shown.operation.kind ≡ r.shown.operation.kind
  pub target : (f r).shown.operation.target ≡ r.shown.operation.target
  pub ungated : is_gated (f r).shown.phase ≡ false

module _ (k : ℕ) (r : Record) (f : Record → Record) (o : OpenState) (opens : List OpenState) (rs : List Record) (it : Granted k r f o opens rs) (lined : AreLinedUp opens rs) where
  abbrev pub rs_granted : List Record
  rs_granted = changed_at rs k f

  pub keys_granted : map key_for rs_granted ≡ map key_for rs
  keys_granted = map_changed key_for rs k r f it.there it.key

  first : slice_get (line_at o) 0 ≡ Some (key_for r)
  first = ap (λ h. slice_get (option_to_list h ++ o.waiting) 0) it.holds

  -- a record is that one, or as before
  which : {P : Type 0} (j : ℕ) (x : Record) → slice_get rs_granted j ≡ Some x → (j ≢ k → slice_get rs j ≡ Some x → P) → (j ≡ k → f r ≡ x → P) → P
  which = grind (arith, was_marked, by_number, mark_if, not_same, same_Some, eq-eqb)

  now : (j : ℕ) (x : Record) → slice_get rs j ≡ Some x → j ≢ k → slice_get rs_granted j ≡ Some x
  now j x at apart = marked f rs k j x at ∙ ap (λ b. Some (mark_if f b x)) (not_same k j (λ e. apart (sym e)))

  -- what it was, by its key
  before : (j : ℕ) (x : Record) → slice_get rs_granted j ≡ Some x → (y : Record) × (slice_get rs j ≡ Some y) × (key_for y ≡ key_for x) × (y.shown.operation.kind ≡ x.shown.operation.kind) × (y.shown.operation.target ≡ x.shown.operation.target)
  before j x at =
      which j x at
      (λ apart there. (x, there, refl, refl, refl))
      (λ is same. (r, ap (slice_get rs) is ∙ it.there, sym it.key ∙ ap key_for same, sym it.kind ∙ ap (λ y. y.shown.operation.kind) same, sym it.target ∙ ap (λ y. y.shown.operation.target) same))

  its_file : (file : ℕ) (x : OpenState) (n : ℕ) (key : WaiterKey) → slice_get opens file ≡ Some x → slice_get (line_at x) n ≡ Some key → key_for r ≡ key → (file ≡ r.shown.operation.target) × (x ≡ o)
  its_file file x n key at in_line is =
      let target : r.shown.operation.target ≡ file = ((lined.lines file x at).durable n key k r in_line it.there is).1 in
      (sym target, same_Some x o (sym at ∙ ap (slice_get opens) (sym target) ∙ it.open_there))

  line_granted : (file : ℕ) (x : OpenState) → slice_get opens file ≡ Some x → IsLinedUp file x rs_granted
  line_granted file x at =
      let line = lined.lines file x at in
      record {
        named = λ n key in_line.
            let old = line.named n key in_line in
            by_number old.0 k
            (λ apart. (old.0, old.1, now old.0 old.1 old.2 apart, old.3))
            (λ is.
            (k, f r, now_its, it.key ∙ ap key_for (sym (same_Some old.1 r (sym old.2 ∙ ap (slice_get rs) is ∙ it.there))) ∙ old.3));
        durable = λ n key j y in_line there is.
            let old = before j y there in
            let was = line.durable n key j old.0 in_line old.1 (old.2 ∙ is) in
            (ap is_durable (sym old.3) ∙ was.0, sym old.4 ∙ was.1);
        waits = λ n key j y some in_line there is.
            which j y there
            (λ apart at_j. line.waits n key j y some in_line at_j is)
            (λ at_k same.
            let mine : key_for r ≡ key = sym it.key ∙ ap key_for same ∙ is in
            let zero_of : n ≡ 0 = line.once n 0 key in_line (ap (λ l. slice_get (line_at l) 0) (its_file file x n key at in_line mine).1 ∙ first ∙ ap (λ y. Some y) mine) in
            absurd (omega (arith, some, zero_of)));
        once = line.once;
        held = λ j y there durable of ungated going.
            which j y there
            (λ apart at_j. line.held j y at_j durable of ungated going)
            (λ at_k same.
            let is_o : x ≡ o = same_Some x o (sym at ∙ ap (slice_get opens) (sym (sym it.target ∙ ap (λ z. z.shown.operation.target) same ∙ of)) ∙ it.open_there) in
            ap (λ z. z.holder) is_o ∙ it.holds ∙ ap (λ z. Some z) (sym it.key ∙ ap key_for same));
        first = line.first;
        kept = line.kept;
        places = subst (λ n. n ≤ x.coming) (sym (count_alike (λ y. is_coming file x (at_gate y)) rs rs_granted (map_changed (λ y. is_coming file x (at_gate y)) rs k r f it.there coming_same))) line.places;
      }
    where
      now_its : slice_get (changed_at rs k f) k ≡ Some (f r)
      now_its = marked f rs k k r it.there ∙ ap (λ b. Some (mark_if f b r)) (eq-eqb k k refl)

      -- it isn't coming: not before, since it stands there, and not now
      coming_same : is_coming file x (at_gate (f r)) ≡ is_coming file x (at_gate r)
      coming_same = ap (λ b. b && (((f r).shown.operation.target == file) && not (is_in_line (key_for (f r)) x))) it.ungated ∙ sym (by (is_coming file x (at_gate r)) refl)
        where
          by : (b : Bool) → is_coming file x (at_gate r) ≡ b → is_coming file x (at_gate r) ≡ false
          by false is = is
          by true is =
              let parts = and_all (is_gated r.shown.phase) (r.shown.operation.target == file) (not (is_in_line (key_for r) x)) is in
              let is_o : x ≡ o = same_Some x o (sym at ∙ ap (slice_get opens) (sym (same_number r.shown.operation.target file parts.0)) ∙ it.open_there) in
              let in_it : is_in_line (key_for r) o ≡ true =
              ap (λ h. is_in_line (key_for r) (record o { holder = h })) it.holds ∙ or_left (same_key (key_for r) (key_for r)) (is_in_line (key_for r) (record o { holder = None })) (key_self (key_for r) (key_for r) refl) in
              absurd (false≢true (sym (ap not (ap (is_in_line (key_for r)) is_o ∙ in_it)) ∙ parts.1))

  pub lined_granted : AreLinedUp opens rs_granted
  lined_granted =
      record {
        lines = line_granted;
        there = λ j x at of.
            let old = before j x at in
            subst (λ n. n < length opens) old.4 (lined.there j old.0 old.1 (ap is_of_file old.3 ∙ of));
        durable = λ j x at gated.
            which j x at
            (λ apart there. lined.durable j x there gated)
            (λ is same. absurd (false≢true (sym it.ungated ∙ ap (λ y. is_gated y.shown.phase) same ∙ gated)));
        few = lined.few;
        unique = λ j l x y at_j at_l same.
            let a = before j x at_j in
            let b = before l y at_l in
            lined.unique j l a.0 b.0 a.1 b.1 (a.2 ∙ same ∙ sym b.2);
      }

  pub gates_granted : (drops : ℕ → Drops) → HaveGates drops opens rs → HaveGates drops opens rs_granted
  gates_granted drops have =
      record {
        passes = λ j file is.
            let p = have.passes j file is in
            by_number p.k k
            (λ apart. record { o = p.o; open_there = p.open_there; k = p.k; r = p.r; there = now p.k p.r p.there apart; mine = p.mine; over = p.over; holds = p.holds })
            (λ same.
            absurd (false≢true (sym it.going ∙ ap (λ y. is_resolved y.shown.phase) (sym (same_Some p.r r (sym p.there ∙ ap (slice_get rs) same ∙ it.there))) ∙ p.over)));
        joins = λ j n is.
            let p = have.joins j n is in
            by_number n k
            (λ apart. record { r = p.r; there = now n p.r p.there apart; mine = p.mine; gated = p.gated; apart = p.apart })
            (λ same.
            let is_r : p.r ≡ r = same_Some p.r r (sym p.there ∙ ap (slice_get rs) same ∙ it.there) in
            absurd (p.apart o 0 (ap (λ y. slice_get opens y.shown.operation.target) is_r ∙ it.open_there) (first ∙ ap (λ y. Some (key_for y)) (sym is_r))));
      }
