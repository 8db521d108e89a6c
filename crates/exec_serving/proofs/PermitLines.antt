-- The first of a gate leaves it, whose request is over: who stands there then, and what is seen of that.
use Rattle.std.proofs.{Common.{◌≡◌, ◌≢◌, ℕ, zero, suc, ◌+◌, ◌<◌, ◌&&◌, ◌++◌, ◌^◌, arith, Bool, true, false, List, [], ◌∷◌, cond, count_by, drop, length, map, Some, None, option_to_list, refl, sym, ap, subst, ◌∙◌, slice_get, slice_set, if◌then◌else◌}, lemmas.{Bool.false≢true, List.length-set}}
use Rattle.exec_outcomes.specs.Accounts.{is_durable}
use Rattle.exec_opens.specs.{Opens.{OpenState, passed}, declared.opens.WaiterKey.WaiterKey}
use Rattle.exec_machine.specs.{declared.state.RequestPhase.RequestPhase, Tests.{is_gated, is_resolved}}
use Rattle.exec_parts.{specs.{declared.parts.record.Record.Record, View.{account_seen, gate_seen, gives_up, has_given_up, line_of, number_of_key, open_seen}}, proofs.Facts.{by_number, false_from_ne_true, same_Some, set_elsewhere, set_there}}
use Rattle.exec_invariants.{specs.{Gates.{AreLinedUp, HaveGates, IsLinedUp, at_gate, has_hint_at, is_coming, key_for, line_at}, Places.Drops}, proofs.Lined.{tallied, tally}}
use Rattle.exec_serving.proofs.PermitSeen.{number_named, shows}

-- LISTS

tally_same : {A : Type 0} (p q : A → Bool) (xs : List A) → ((n : ℕ) (x : A) → slice_get xs n ≡ Some x → p x ≡ q x) → tally p xs ≡ tally q xs
unfolding tally
tally_same p q [] same = refl
tally_same p q (x ∷ xs) same = ap (λ b. cond b (1 + tally p xs) (tally p xs)) (same zero x refl) ∙ ap (λ n. cond (q x) (1 + n) n) (tally_same p q xs (λ n y at. same (suc n) y at))

count_same : {A : Type 0} (p q : A → Bool) (xs : List A) → ((n : ℕ) (x : A) → slice_get xs n ≡ Some x → p x ≡ q x) → count_by p xs ≡ count_by q xs
count_same p q xs same = sym (tallied p xs) ∙ tally_same p q xs same ∙ tallied q xs

pub left_behind : {A : Type 0} (xs : List A) → option_to_list (slice_get xs 0) ++ drop 1 xs ≡ xs
left_behind [] = refl
left_behind (x ∷ xs) = refl

none_behind : {A : Type 0} (xs : List A) → slice_get xs 0 ≡ None → drop 1 xs ≡ []
none_behind [] none = refl
none_behind (x ∷ xs) none = absurd (let no : Some x ≡ None = none in cc)

-- WHO LEAVES

pub record Leaver (file : ℕ) (opens : List OpenState) (rs : List Record) : Type 0 where
  pub o : OpenState
  pub open_there : slice_get opens file ≡ Some o
  pub k : ℕ
  pub r : Record
  pub there : slice_get rs k ≡ Some r
  pub over : is_resolved r.shown.phase ≡ true
  pub holds : o.holder ≡ Some (key_for r)

phase_ungated : (p : RequestPhase) → is_resolved p ≡ true → is_gated p ≡ true → ⊥
phase_ungated RequestPhase.Gated over gated = false≢true over
phase_ungated _ over gated = false≢true gated

over_ungated : (r : Record) → is_resolved r.shown.phase ≡ true → is_gated r.shown.phase ≡ true → ⊥
over_ungated r over gated = phase_ungated r.shown.phase over gated

gated_open : (r : Record) → is_gated r.shown.phase ≡ true → is_resolved r.shown.phase ≡ false
gated_open r gated = false_from_ne_true (is_resolved r.shown.phase) (λ over. over_ungated r over gated)

module _ (file : ℕ) (opens : List OpenState) (rs : List Record) (it : Leaver file opens rs) (lined : AreLinedUp opens rs) where
  abbrev pub opens_left : List OpenState
  opens_left = slice_set opens file (passed it.o)

  line : IsLinedUp file it.o rs
  line = lined.lines file it.o it.open_there

  behind : line_at (passed it.o) ≡ it.o.waiting
  behind = left_behind it.o.waiting

  whole_line : line_at it.o ≡ key_for it.r ∷ it.o.waiting
  whole_line = ap (λ h. option_to_list h ++ it.o.waiting) it.holds

  later : (n : ℕ) (key : WaiterKey) → slice_get (line_at (passed it.o)) n ≡ Some key → slice_get (line_at it.o) (suc n) ≡ Some key
  later n key at = ap (λ l. slice_get l (suc n)) whole_line ∙ ap (λ l. slice_get l n) (sym behind) ∙ at

  -- it alone has its key
  itself : (k : ℕ) (x : Record) → slice_get rs k ≡ Some x → key_for x ≡ key_for it.r → x ≡ it.r
  itself k x at same = same_Some x it.r (sym at ∙ ap (slice_get rs) (lined.unique k it.k x it.r at it.there same) ∙ it.there)

  coming_same : (k : ℕ) (x : Record) → slice_get rs k ≡ Some x → is_coming file (passed it.o) (at_gate x) ≡ is_coming file it.o (at_gate x)
  coming_same = grind arith

  line_left : IsLinedUp file (passed it.o) rs
  line_left =
      let many : count_by (λ r. is_coming file (passed it.o) (at_gate r)) rs ≡ count_by (λ r. is_coming file it.o (at_gate r)) rs = count_same (λ r. is_coming file (passed it.o) (at_gate r)) (λ r. is_coming file it.o (at_gate r)) rs coming_same in
      record {
        named = λ n key at. line.named (suc n) key (later n key at);
        durable = λ n key k r at there is. line.durable (suc n) key k r (later n key at) there is;
        waits = λ n key k r some at there is. line.waits (suc n) key k r (omega arith) (later n key at) there is;
        once = λ m n key at_m at_n. let same : suc m ≡ suc n = line.once (suc m) (suc n) key (later m key at_m) (later n key at_n) in omega (arith, same);
        held = λ k r there durable of ungated going.
            let same : key_for r ≡ key_for it.r = same_Some (key_for r) (key_for it.r) (sym (line.held k r there durable of ungated going) ∙ it.holds) in
            absurd (false≢true (sym going ∙ ap (λ y. is_resolved y.shown.phase) (itself k r there same) ∙ it.over));
        first = λ none. none_behind it.o.waiting none;
        kept = line.kept;
        places = omega (arith, many, line.places);
      }

  -- an open is that one, or as before
  which : {P : Type 0} (f : ℕ) (o : OpenState) → slice_get opens_left f ≡ Some o → (f ≢ file → slice_get opens f ≡ Some o → P) → (f ≡ file → passed it.o ≡ o → P) → P
  which = grind (arith, by_number, set_elsewhere, same_Some, set_there)

  pub lined_left : AreLinedUp opens_left rs
  lined_left =
      let many : length opens_left ≡ length opens = length-set opens file (passed it.o) in
      record {
        lines = λ f o at.
            which f o at
            (λ apart before. lined.lines f o before)
            (λ same is. subst (λ y. IsLinedUp f y rs) is (subst (λ n. IsLinedUp n (passed it.o) rs) (sym same) line_left));
        there = λ k r at of. subst (λ n. r.shown.operation.target < n) (sym many) (lined.there k r at of);
        durable = lined.durable;
        few = subst (λ n. n < 2 ^ 32) (sym many) lined.few;
        unique = lined.unique;
      }

  pub hints_left : (f : ℕ) → has_hint_at opens f ≡ false → has_hint_at opens_left f ≡ false
  hints_left = grind (arith, by_number, set_elsewhere, set_there)

  -- where the others are
  pub gates_left : (drops drops' : ℕ → Drops) (i : ℕ) → it.r.shown.worker ≡ i → ((j : ℕ) → j ≢ i → drops' j ≡ drops j) → (drops' i).passes ≡ None → (drops' i).joins ≡ None → HaveGates drops opens rs → HaveGates drops' opens_left rs
  gates_left drops drops' i mine others none free have =
      record {
        passes = λ j f is.
            by_number j i
            (λ apart.
            let p = have.passes j f (sym (ap (λ (d : Drops). d.passes) (others j apart)) ∙ is) in
            by_number f file
            (λ other. record { o = p.o; open_there = set_elsewhere opens file f (passed it.o) other ∙ p.open_there; k = p.k; r = p.r; there = p.there; mine = p.mine; over = p.over; holds = p.holds })
            (λ same.
            let is_o : p.o ≡ it.o = same_Some p.o it.o (sym p.open_there ∙ ap (slice_get opens) same ∙ it.open_there) in
            let key : key_for p.r ≡ key_for it.r = same_Some (key_for p.r) (key_for it.r) (sym p.holds ∙ ap (λ y. y.holder) is_o ∙ it.holds) in
            absurd (apart (sym p.mine ∙ ap (λ y. y.worker) key ∙ mine))))
            (λ same. absurd (let no : None ≡ Some f = sym none ∙ sym (ap (λ m. (drops' m).passes) same) ∙ is in cc));
        joins = λ j k is.
            by_number j i
            (λ apart.
            let p = have.joins j k (sym (ap (λ (d : Drops). d.joins) (others j apart)) ∙ is) in
            record {
              r = p.r;
              there = p.there;
              mine = p.mine;
              gated = p.gated;
              apart = λ o n at found.
                  which p.r.shown.operation.target o at
                  (λ other before. p.apart o n before found)
                  (λ same now. p.apart it.o (suc n) (ap (slice_get opens) same ∙ it.open_there) (later n (key_for p.r) (ap (λ y. slice_get (line_at y) n) now ∙ found)));
            })
            (λ same. absurd (let no : None ≡ Some k = sym free ∙ sym (ap (λ m. (drops' m).joins) same) ∙ is in cc));
      }

  -- WHAT IS SEEN

  abbrev pub gate_behind : List ℕ
  gate_behind = map (number_of_key 0 rs) it.o.waiting

  pub gate_was : gate_seen rs it.o ≡ it.k ∷ gate_behind
  gate_was = ap (map (number_of_key 0 rs)) whole_line ∙ ap (λ n. n ∷ gate_behind) (number_named opens rs lined it.k it.r (key_for it.r) it.there refl)

  pub gate_is : gate_seen rs (passed it.o) ≡ gate_behind
  gate_is = ap (map (number_of_key 0 rs)) behind

  -- who is next
  pub record NextAt (key : WaiterKey) : Type 0 where
    pub k : ℕ
    pub r : Record
    pub there : slice_get rs k ≡ Some r
    pub named : key_for r ≡ key
    pub number : number_of_key 0 rs key ≡ k
    pub gated : is_gated r.shown.phase ≡ true

  pub next_at_gate : (key : WaiterKey) → slice_get it.o.waiting 0 ≡ Some key → NextAt key
  next_at_gate key at =
      let second : slice_get (line_at it.o) 1 ≡ Some key = ap (λ l. slice_get l 1) whole_line ∙ at in
      let n = line.named 1 key second in
      search (n.2, n.3, number_named opens rs lined n.0 n.1 key n.2 n.3, line.waits 1 key n.0 n.1 (omega arith) second n.2 n.3)

  line_behind : (ks : List WaiterKey) → it.o.waiting ≡ ks → line_of rs (map (number_of_key 0 rs) ks) ≡ map (number_of_key 0 rs) ks
  line_behind [] is = refl
  line_behind (key ∷ ks) is =
      let next = next_at_gate key (ap (λ l. slice_get l 0) is) in
      let going : gives_up next.r ≡ false = ap (λ b. b && is_durable next.r.shown.operation.kind) (gated_open next.r next.gated) in
      let given : has_given_up (slice_get rs (number_of_key 0 rs key)) ≡ false = ap (λ n. has_given_up (slice_get rs n)) next.number ∙ ap has_given_up next.there ∙ going in
      ap (λ b. if b then map (number_of_key 0 rs) ks else number_of_key 0 rs key ∷ map (number_of_key 0 rs) ks) given

  pub open_left : open_seen rs (passed it.o) ≡ open_seen rs it.o
  open_left =
      let account = account_seen it.o.account in
      let durable = (line.durable 0 (key_for it.r) it.k it.r (ap (λ l. slice_get l 0) whole_line) it.there refl).0 in
      let given : has_given_up (slice_get rs it.k) ≡ true = ap has_given_up it.there ∙ ap (λ b. b && is_durable it.r.shown.operation.kind) it.over ∙ durable in
      ap (λ ns. shows account (line_of rs ns)) gate_is ∙ ap (shows account) (line_behind it.o.waiting refl)
      ∙ sym (ap (λ ns. shows account (line_of rs ns)) gate_was ∙ ap (λ b. shows account (if b then gate_behind else it.k ∷ gate_behind)) given)
