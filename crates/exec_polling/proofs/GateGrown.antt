-- A new request has no place in any line yet: who stands at the gates stays, and there is room for it where a place was made.
use Rattle.std.proofs.{Common.{◌≡◌, ◌≢◌, inl, inr, ℕ, zero, suc, ◌+◌, ◌<◌, ◌≤◌, ◌++◌, arith, Bool, true, false, List, [], ◌∷◌, cond, count_by, length, Some, None, refl, sym, ap, subst, ◌∙◌, slice_get, slice_set}, lemmas.List.{length-set}}
use Rattle.exec_outcomes.specs.Accounts.{is_durable}
use Rattle.exec_opens.specs.{Opens.{OpenState, placed}, declared.opens.WaiterKey.WaiterKey}
use Rattle.exec_machine.specs.Tests.{is_gated, is_of_file, is_resolved}
use Rattle.exec_parts.{specs.declared.parts.record.Record.Record, proofs.Facts.{by_number, same_Some, set_elsewhere, set_there}}
use Rattle.exec_invariants.{specs.{Gates.{AreLinedUp, HaveGates, IsLinedUp, JoinsGate, at_gate, is_coming, key_for, line_at}, Places.Drops}, proofs.{Lined.{tallied, tally}, HoldSteps.get_front, GateLines.snoc_get}}

-- LISTS

tally_more : {A : Type 0} (p : A → Bool) (xs : List A) (x : A) (n : ℕ) → tally p xs ≤ n → (p x ≡ true → tally p xs + 1 ≤ n) → tally p (xs ++ x ∷ []) ≤ n
unfolding tally
tally_more p [] x n le room = grind arith
tally_more {A} p (y ∷ ys) x n le room = by (λ m. tally_more p ys x m) (p y) refl le room
  where
    one : (rest : (m : ℕ) → tally p ys ≤ m → (p x ≡ true → tally p ys + 1 ≤ m) → tally p (ys ++ x ∷ []) ≤ m) (m : ℕ) → 1 + tally p ys ≤ m → (p x ≡ true → 1 + tally p ys + 1 ≤ m) → 1 + tally p (ys ++ x ∷ []) ≤ m
    one rest zero le room = absurd (omega (arith, le))
    one rest (suc m) le room = let more : tally p (ys ++ x ∷ []) ≤ m = rest m (omega (arith, le)) (λ h. let some : 1 + tally p ys + 1 ≤ suc m = room h in omega (arith, some)) in omega (arith, more)

    by : (rest : (m : ℕ) → tally p ys ≤ m → (p x ≡ true → tally p ys + 1 ≤ m) → tally p (ys ++ x ∷ []) ≤ m) → (b : Bool) → p y ≡ b → cond b (1 + tally p ys) (tally p ys) ≤ n → (p x ≡ true → cond b (1 + tally p ys) (tally p ys) + 1 ≤ n)
        → cond b (1 + tally p (ys ++ x ∷ [])) (tally p (ys ++ x ∷ [])) ≤ n
    by rest true is le room = one rest n le room
    by rest false is le room = rest n le room

-- ONE MORE PLACE at the gate of an open

line_placed : (file : ℕ) (o : OpenState) (rs : List Record) → IsLinedUp file o rs → IsLinedUp file (placed o) rs
line_placed = grind arith

pub lined_placed : (opens : List OpenState) (rs : List Record) (file : ℕ) (o : OpenState) → slice_get opens file ≡ Some o → AreLinedUp opens rs → AreLinedUp (slice_set opens file (placed o)) rs
lined_placed opens rs file o there lined =
    let many : length (slice_set opens file (placed o)) ≡ length opens = length-set opens file (placed o) in
    record {
      lines = λ f x at.
          by_number f file
          (λ other. lined.lines f x (sym (set_elsewhere opens file f (placed o) other) ∙ at))
          (λ same.
          let is : placed o ≡ x = same_Some (placed o) x (sym (set_there opens file (placed o) o there) ∙ ap (slice_get (slice_set opens file (placed o))) (sym same) ∙ at) in
          subst (λ y. IsLinedUp f y rs) is (subst (λ n. IsLinedUp n (placed o) rs) (sym same) (line_placed file o rs (lined.lines file o there))));
      there = λ k r at of. subst (λ n. r.shown.operation.target < n) (sym many) (lined.there k r at of);
      durable = lined.durable;
      few = rw many lined.few;
      unique = lined.unique;
    }

-- A NEW REQUEST

pub record IsNew (r : Record) (opens : List OpenState) (rs : List Record) : Type 0 where
  pub fresh : (k : ℕ) (x : Record) → slice_get rs k ≡ Some x → key_for x ≢ key_for r
  pub there : is_of_file r.shown.operation.kind ≡ true → r.shown.operation.target < length opens
  pub durable : is_gated r.shown.phase ≡ true → is_durable r.shown.operation.kind ≡ true
  pub waits : is_durable r.shown.operation.kind ≡ true → is_gated r.shown.phase ≡ false → is_resolved r.shown.phase ≡ false → ⊥
  pub room : (file : ℕ) (o : OpenState) → slice_get opens file ≡ Some o → is_coming file o (at_gate r) ≡ true → count_by (λ x. is_coming file o (at_gate x)) rs + 1 ≤ o.coming

module _ (opens : List OpenState) (rs : List Record) (r : Record) (new : IsNew r opens rs) where
  line_grown : (file : ℕ) (o : OpenState) → slice_get opens file ≡ Some o → IsLinedUp file o rs → IsLinedUp file o (rs ++ r ∷ [])
  line_grown file o there line =
      let apart : (n : ℕ) (key : WaiterKey) → slice_get (line_at o) n ≡ Some key → key_for r ≡ key → ⊥ = λ n key at is. let it = line.named n key at in new.fresh it.0 it.1 it.2 (it.3 ∙ sym is) in
      let p : Record → Bool = λ x. is_coming file o (at_gate x) in
      let most : tally p (rs ++ r ∷ []) ≤ o.coming = tally_more p rs r o.coming (subst (λ n. n ≤ o.coming) (sym (tallied p rs)) line.places) (λ h. subst (λ n. n + 1 ≤ o.coming) (sym (tallied p rs)) (new.room file o there h)) in
      record {
        named = λ n key at. let it = line.named n key at in (it.0, it.1, get_front rs (r ∷ []) it.0 it.1 it.2, it.3);
        durable = λ n key k x at found is. elim (snoc_get rs r x k found) [ inl before ↦ line.durable n key k x at before is | inr last ↦ absurd (apart n key at (ap key_for last.1 ∙ is)) ];
        waits = λ n key k x some at found is. elim (snoc_get rs r x k found) [ inl before ↦ line.waits n key k x some at before is | inr last ↦ absurd (apart n key at (ap key_for last.1 ∙ is)) ];
        once = line.once;
        held = grind (arith, snoc_get);
        first = line.first;
        kept = line.kept;
        places = subst (λ n. n ≤ o.coming) (tallied p (rs ++ r ∷ [])) most;
      }

  pub lined_grown : AreLinedUp opens rs → AreLinedUp opens (rs ++ r ∷ [])
  lined_grown lined =
      record {
        lines = λ file o there. line_grown file o there (lined.lines file o there);
        there = λ k x found of.
            elim (snoc_get rs r x k found) [
              | inl before ↦ lined.there k x before of
              | inr last ↦ subst (λ (y : Record). y.shown.operation.target < length opens) last.1 (new.there (ap (λ (y : Record). is_of_file y.shown.operation.kind) last.1 ∙ of))
            ];
        durable = grind (arith, snoc_get);
        few = lined.few;
        unique = grind (arith, snoc_get);
      }

-- WHERE WORKERS ARE

pub found_last : {A : Type 0} (xs : List A) (x : A) → slice_get (xs ++ x ∷ []) (length xs) ≡ Some x
found_last [] x = refl
found_last (y ∷ xs) x = found_last xs x

-- the new request joins next
pub joins_new : (i : ℕ) (opens : List OpenState) (rs : List Record) (r : Record) → IsNew r opens rs → AreLinedUp opens rs → r.shown.worker ≡ i → is_gated r.shown.phase ≡ true → JoinsGate i (length rs) opens (rs ++ r ∷ [])
joins_new i opens rs r new lined mine gated =
    record { r = r; there = found_last rs r; mine = mine; gated = gated; apart = λ o n there at. let it = (lined.lines r.shown.operation.target o there).named n (key_for r) at in new.fresh it.0 it.1 it.2 it.3 }

pub gates_grown : (i : ℕ) (drops drops' : ℕ → Drops) (opens : List OpenState) (rs : List Record) (r : Record) → ((j : ℕ) → j ≢ i → drops' j ≡ drops j) → (drops' i).passes ≡ None
    → ((k : ℕ) → (drops' i).joins ≡ Some k → JoinsGate i k opens (rs ++ r ∷ [])) → HaveGates drops opens rs → HaveGates drops' opens (rs ++ r ∷ [])
gates_grown i drops drops' opens rs r others none joins have =
    record {
      passes = λ j file is.
          by_number j i
          (λ other.
          let p = have.passes j file (ap (λ x. x.passes) (sym (others j other)) ∙ is) in
          record { o = p.o; open_there = p.open_there; k = p.k; r = p.r; there = get_front rs (r ∷ []) p.k p.r p.there; mine = p.mine; over = p.over; holds = p.holds })
          (λ same. let no : None ≡ Some file = sym none ∙ ap (λ m. (drops' m).passes) (sym same) ∙ is in absurd (cc));
      joins = λ j k is.
          by_number j i
          (λ other.
          let p = have.joins j k (ap (λ x. x.joins) (sym (others j other)) ∙ is) in
          record { r = p.r; there = get_front rs (r ∷ []) k p.r p.there; mine = p.mine; gated = p.gated; apart = p.apart })
          (λ same. subst (λ m. JoinsGate m k opens (rs ++ r ∷ [])) (sym same) (joins k (ap (λ m. (drops' m).joins) (sym same) ∙ is)));
    }

-- one more place at the gate of an open
pub gates_placed : (drops : ℕ → Drops) (opens : List OpenState) (rs : List Record) (file : ℕ) (o : OpenState) → slice_get opens file ≡ Some o → HaveGates drops opens rs → HaveGates drops (slice_set opens file (placed o)) rs
gates_placed drops opens rs file o there have =
    record {
      passes = λ j f is.
          let p = have.passes j f is in
          by_number f file
          (λ other. record { o = p.o; open_there = set_elsewhere opens file f (placed o) other ∙ p.open_there; k = p.k; r = p.r; there = p.there; mine = p.mine; over = p.over; holds = p.holds })
          (λ same.
          let one : p.o ≡ o = same_Some p.o o (sym p.open_there ∙ ap (slice_get opens) same ∙ there) in
          record {
            o = placed o;
            open_there = ap (slice_get (slice_set opens file (placed o))) same ∙ set_there opens file (placed o) o there;
            k = p.k;
            r = p.r;
            there = p.there;
            mine = p.mine;
            over = p.over;
            holds = ap (λ (y : OpenState). y.holder) (sym one) ∙ p.holds;
          });
      joins = λ j k is.
          let p = have.joins j k is in
          record {
            r = p.r;
            there = p.there;
            mine = p.mine;
            gated = p.gated;
            apart = λ x n at found.
                by_number p.r.shown.operation.target file
                (λ other. p.apart x n (sym (set_elsewhere opens file p.r.shown.operation.target (placed o) other) ∙ at) found)
                (λ same.
                let one : placed o ≡ x = same_Some (placed o) x (sym (set_there opens file (placed o) o there) ∙ ap (slice_get (slice_set opens file (placed o))) (sym same) ∙ at) in
                p.apart o n (ap (slice_get opens) same ∙ there) (ap (λ (y : OpenState). slice_get (line_at y) n) one ∙ found));
          };
    }
