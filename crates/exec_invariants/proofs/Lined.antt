-- Who stands at gates, as records change: what counts there is a request's key, its kind and open, and whether it waits for the
-- permit; and that one that is over stays so.
use Rattle.exec_invariants.{proofs.{Names.{◌≡◌, ℕ, zero, suc, ◌≤◌, ◌<◌, ◌+◌, ◌^◌, ◌==◌, ◌&&◌, Bool, true, false, List, [], ◌∷◌, cond, count_by, length, map, Option, Some, None, IsSome, option_map, refl, sym, ap, subst, ◌∙◌, slice_get, if◌then◌else◌, map-set_same, is_count_by, false≢true, get_or_from_slice_get, slice_get-map, arith, is_durable, OpenState, WaiterKey, is_of_file, is_resolved, is_unsent, is_gated, Record, changed_in, changed_at, flies, flown_in, gate_seen, number_of_key, numbers_of_passing, false_from_ne_true}, Marking.{marked, mark_if}}, specs.{Gates.{AreLinedUp, AtGate, HaveGates, IsLinedUp, at_gate, has_hint_at, is_coming, line_at, key_for}, Places.Drops}}

-- LISTS

some_same : {A : Type 0} {x y : A} → Some x ≡ Some y → x ≡ y
some_same h = cc

unfoldable pub tally : {X : Type 0} → (X → Bool) → List X → ℕ
tally p [] = 0
tally p (x ∷ xs) = cond (p x) (1 + tally p xs) (tally p xs)

pub tallied : {X : Type 0} (p : X → Bool) (xs : List X) → tally p xs ≡ count_by p xs
unfolding tally
tallied p xs = is_count_by (tally p) p refl (λ x ys. refl) xs

tally_map : {A X : Type 0} (p : X → Bool) (f : A → X) (xs : List A) → tally (λ x. p (f x)) xs ≡ tally p (map f xs)
unfolding tally
tally_map p f [] = refl
tally_map p f (x ∷ xs) = ap (λ n. cond (p (f x)) (1 + n) n) (tally_map p f xs)

count_map : {A X : Type 0} (p : X → Bool) (f : A → X) (xs : List A) → count_by (λ x. p (f x)) xs ≡ count_by p (map f xs)
count_map p f xs = sym (tallied (λ x. p (f x)) xs) ∙ tally_map p f xs ∙ tallied p (map f xs)

pub unmapped : {A X : Type 0} (f : A → X) (xs : List A) (k : ℕ) (x : X) → slice_get (map f xs) k ≡ Some x → (a : A) × (slice_get xs k ≡ Some a) × (f a ≡ x)
unmapped f [] k x there = absurd (let no : None ≡ Some x = there in cc)
unmapped f (y ∷ ys) zero x there = (y, refl, some_same there)
unmapped f (y ∷ ys) (suc k) x there = unmapped f ys k x there

pub mapped : {A X : Type 0} (f : A → X) (xs : List A) (k : ℕ) (a : A) → slice_get xs k ≡ Some a → slice_get (map f xs) k ≡ Some (f a)
mapped f xs k a there = slice_get-map f xs k ∙ ap (option_map f) there

abbrev pub was_sent : Record → Bool
was_sent r = r.sent

-- A RECORD counts there as before, its end was sent elsewhere as before, and that it is waited for elsewhere stays
pub record SameAtGate (r r' : Record) : Type 0 where
  pub at : at_gate r' ≡ at_gate r
  pub over : is_resolved r.shown.phase ≡ true → is_resolved r'.shown.phase ≡ true
  pub sent : r'.sent ≡ r.sent
  pub forwarded : is_unsent r.shown.forwarding ≡ false → is_unsent r'.shown.forwarding ≡ false

-- and so does each
pub record KeepsLines (rs rs' : List Record) : Type 0 where
  pub at : map at_gate rs' ≡ map at_gate rs
  pub over : (k : ℕ) (r r' : Record) → slice_get rs k ≡ Some r → slice_get rs' k ≡ Some r' → is_resolved r.shown.phase ≡ true → is_resolved r'.shown.phase ≡ true
  pub sent : map was_sent rs' ≡ map was_sent rs
  pub forwarded : (k : ℕ) (r r' : Record) → slice_get rs k ≡ Some r → slice_get rs' k ≡ Some r' → is_unsent r.shown.forwarding ≡ false → is_unsent r'.shown.forwarding ≡ false

pub lines_same : (rs rs' : List Record) → rs' ≡ rs → KeepsLines rs rs'
lines_same = grind arith

-- one record changed, and counts as before
pub lines_changed : (rs : List Record) (k : ℕ) (r : Record) (f : Record → Record) → slice_get rs k ≡ Some r → SameAtGate r (f r) → KeepsLines rs (changed_at rs k f)
lines_changed rs k r f there same =
    let still : (j : ℕ) (x : Record) (b : Bool) → (k == j) ≡ b → slice_get rs j ≡ Some x → is_unsent x.shown.forwarding ≡ false → is_unsent (mark_if f b x).shown.forwarding ≡ false = grind arith in
    let by : (j : ℕ) (x : Record) (b : Bool) → (k == j) ≡ b → slice_get rs j ≡ Some x → is_resolved x.shown.phase ≡ true → is_resolved (mark_if f b x).shown.phase ≡ true = grind arith in
    record {
      at = ap (λ o. map at_gate (changed_in rs k f o)) there ∙ map-set_same at_gate rs k (f r) r (same.at ∙ ap at_gate (sym (get_or_from_slice_get rs k r r there)));
      over = λ j x x' at at' over.
          subst (λ y. is_resolved y.shown.phase ≡ true) (sym (some_same (sym at' ∙ marked f rs k j x at))) (by j x (k == j) refl at over);
      sent = ap (λ o. map was_sent (changed_in rs k f o)) there ∙ map-set_same was_sent rs k (f r) r (same.sent ∙ ap was_sent (sym (get_or_from_slice_get rs k r r there)));
      forwarded = λ j x x' at at' h.
          subst (λ y. is_unsent y.shown.forwarding ≡ false) (sym (some_same (sym at' ∙ marked f rs k j x at))) (still j x (k == j) refl at h);
    }

-- one record changed, of which this stays
pub map_changed : {A : Type 0} (p : Record → A) (rs : List Record) (k : ℕ) (r : Record) (f : Record → Record) → slice_get rs k ≡ Some r → p (f r) ≡ p r → map p (changed_at rs k f) ≡ map p rs
map_changed p rs k r f there same = ap (λ o. map p (changed_in rs k f o)) there ∙ map-set_same p rs k (f r) r (same ∙ ap p (sym (get_or_from_slice_get rs k r r there)))

pub lines_on : (rs xs ys : List Record) → KeepsLines rs xs → KeepsLines xs ys → KeepsLines rs ys
lines_on rs xs ys a b =
    let over_so : (k : ℕ) (r r' : Record) → slice_get rs k ≡ Some r → slice_get ys k ≡ Some r' → is_resolved r.shown.phase ≡ true → is_resolved r'.shown.phase ≡ true = λ k r y there there' over.
    let mid = unmapped at_gate xs k (at_gate r) (ap (λ zs. slice_get zs k) a.at ∙ mapped at_gate rs k r there) in
    b.over k mid.0 y mid.1 there' (a.over k r mid.0 there mid.1 over) in
    let forwarded : (k : ℕ) (r r' : Record) → slice_get rs k ≡ Some r → slice_get ys k ≡ Some r' → is_unsent r.shown.forwarding ≡ false → is_unsent r'.shown.forwarding ≡ false = λ k r y there there' h.
    let mid = unmapped at_gate xs k (at_gate r) (ap (λ zs. slice_get zs k) a.at ∙ mapped at_gate rs k r there) in
    b.forwarded k mid.0 y mid.1 there' (a.forwarded k r mid.0 there mid.1 h) in
    assumption (b.at ∙ a.at, over_so, b.sent ∙ a.sent, forwarded)

-- WHAT THAT KEEPS

-- what gates rest on of that
pub record KeepsAt (rs rs' : List Record) : Type 0 where
  pub at : map at_gate rs' ≡ map at_gate rs
  pub over : (k : ℕ) (r r' : Record) → slice_get rs k ≡ Some r → slice_get rs' k ≡ Some r' → is_resolved r.shown.phase ≡ true → is_resolved r'.shown.phase ≡ true

pub kept_at : (rs rs' : List Record) → KeepsLines rs rs' → KeepsAt rs rs'
kept_at rs rs' keeps = record { at = keeps.at; over = keeps.over }

module _ (rs rs' : List Record) (keeps : KeepsAt rs rs') where
  -- who stood there, and who stands there then
  was : (k : ℕ) (r' : Record) → slice_get rs' k ≡ Some r' → (r : Record) × (slice_get rs k ≡ Some r) × (at_gate r ≡ at_gate r')
  was k r' there = unmapped at_gate rs k (at_gate r') (sym (ap (λ zs. slice_get zs k) keeps.at) ∙ mapped at_gate rs' k r' there)

  pub now_at : (k : ℕ) (r : Record) → slice_get rs k ≡ Some r → (r' : Record) × (slice_get rs' k ≡ Some r') × (at_gate r' ≡ at_gate r)
  now_at k r there = unmapped at_gate rs' k (at_gate r) (ap (λ zs. slice_get zs k) keeps.at ∙ mapped at_gate rs k r there)

  going : (k : ℕ) (r r' : Record) → slice_get rs k ≡ Some r → slice_get rs' k ≡ Some r' → is_resolved r'.shown.phase ≡ false → is_resolved r.shown.phase ≡ false
  going k r r' there there' open_still = false_from_ne_true (is_resolved r.shown.phase) (λ is. false≢true (sym open_still ∙ keeps.over k r r' there there' is))

  line_kept : (file : ℕ) (o : OpenState) → IsLinedUp file o rs → IsLinedUp file o rs'
  line_kept file o line =
      let named : (n : ℕ) (key : WaiterKey) → slice_get (line_at o) n ≡ Some key → (k : ℕ) × (r : Record) × (slice_get rs' k ≡ Some r) × (key_for r ≡ key) = λ n key at.
      let old = line.named n key at in
      let new = now_at old.0 old.1 old.2 in
      (old.0, new.0, new.1, ap (λ x. x.key) new.2 ∙ old.3) in
      let durable_so : (n : ℕ) (key : WaiterKey) (k : ℕ) (r : Record) → slice_get (line_at o) n ≡ Some key → slice_get rs' k ≡ Some r → key_for r ≡ key → (is_durable r.shown.operation.kind ≡ true) × (r.shown.operation.target ≡ file) = λ n key k r at there is.
      let old = was k r there in
      let it = line.durable n key k old.0 at old.1 (ap (λ x. x.key) old.2 ∙ is) in
      (ap (λ x. is_durable x.kind) (sym old.2) ∙ it.0, ap (λ x. x.target) (sym old.2) ∙ it.1) in
      let waits : (n : ℕ) (key : WaiterKey) (k : ℕ) (r : Record) → 0 < n → slice_get (line_at o) n ≡ Some key → slice_get rs' k ≡ Some r → key_for r ≡ key → is_gated r.shown.phase ≡ true = λ n key k r some at there is.
      let old = was k r there in
      ap (λ x. x.gated) (sym old.2) ∙ line.waits n key k old.0 some at old.1 (ap (λ x. x.key) old.2 ∙ is) in
      let held : (k : ℕ) (r : Record) → slice_get rs' k ≡ Some r → is_durable r.shown.operation.kind ≡ true → r.shown.operation.target ≡ file → is_gated r.shown.phase ≡ false → is_resolved r.shown.phase ≡ false → o.holder ≡ Some (key_for r) =
      λ k r there durable of ungated open_still.
      let old = was k r there in
      line.held k old.0 old.1 (ap (λ x. is_durable x.kind) old.2 ∙ durable) (ap (λ x. x.target) old.2 ∙ of) (ap (λ x. x.gated) old.2 ∙ ungated) (going k old.0 r old.1 there open_still)
      ∙ ap (λ x. Some x.key) old.2 in
      assumption (named, durable_so, waits, held, subst (λ n. n ≤ o.coming) (count_map (is_coming file o) at_gate rs ∙ ap (count_by (is_coming file o)) (sym keeps.at) ∙ sym (count_map (is_coming file o) at_gate rs')) line.places, line)

  pub lined_at : (opens : List OpenState) → AreLinedUp opens rs → AreLinedUp opens rs'
  lined_at opens lined =
      record {
        lines = λ file o there. line_kept file o (lined.lines file o there);
        there = λ k r at of.
            let old = was k r at in
            subst (λ x. x.target < length opens) old.2 (lined.there k old.0 old.1 (ap (λ x. is_of_file x.kind) old.2 ∙ of));
        durable = λ k r at gated.
            let old = was k r at in
            ap (λ x. is_durable x.kind) (sym old.2) ∙ lined.durable k old.0 old.1 (ap (λ x. x.gated) old.2 ∙ gated);
        few = lined.few;
        unique = λ k l r x at_k at_l same.
            let a = was k r at_k in
            let b = was l x at_l in
            lined.unique k l a.0 b.0 a.1 b.1 (ap (λ y. y.key) a.2 ∙ same ∙ sym (ap (λ y. y.key) b.2));
      }

  pub gates_at : (drops : ℕ → Drops) (opens : List OpenState) → HaveGates drops opens rs → HaveGates drops opens rs'
  gates_at drops opens have =
      record {
        passes = λ j file is.
            let p = have.passes j file is in
            let new = now_at p.k p.r p.there in
            record {
              o = p.o;
              open_there = p.open_there;
              k = p.k;
              r = new.0;
              there = new.1;
              mine = ap (λ x. x.key.worker) new.2 ∙ p.mine;
              over = keeps.over p.k p.r new.0 p.there new.1 p.over;
              holds = p.holds ∙ ap (λ x. Some x.key) (sym new.2);
            };
        joins = λ j k is.
            let p = have.joins j k is in
            let new = now_at k p.r p.there in
            record {
              r = new.0;
              there = new.1;
              mine = ap (λ x. x.key.worker) new.2 ∙ p.mine;
              gated = ap (λ x. x.gated) new.2 ∙ p.gated;
              apart = λ o n at is_there.
                  p.apart o n (subst (λ x. slice_get opens x.target ≡ Some o) new.2 at) (is_there ∙ ap (λ x. Some x.key) new.2);
            };
      }

pub now : (rs rs' : List Record) → KeepsLines rs rs' → (k : ℕ) (r : Record) → slice_get rs k ≡ Some r → (r' : Record) × (slice_get rs' k ≡ Some r') × (at_gate r' ≡ at_gate r)
now rs rs' keeps = now_at rs rs' (kept_at rs rs' keeps)

pub lined_kept : (rs rs' : List Record) → KeepsLines rs rs' → (opens : List OpenState) → AreLinedUp opens rs → AreLinedUp opens rs'
lined_kept rs rs' keeps = lined_at rs rs' (kept_at rs rs' keeps)

pub gates_kept : (rs rs' : List Record) → KeepsLines rs rs' → (drops : ℕ → Drops) (opens : List OpenState) → HaveGates drops opens rs → HaveGates drops opens rs'
gates_kept rs rs' keeps = gates_at rs rs' (kept_at rs rs' keeps)

-- WHAT FLIES counts as before

flies_same : (r : Record) → SameAtGate r (flies r)
flies_same = grind arith

one_flown : (k : ℕ) (xs : List Record) → KeepsLines xs (changed_at xs k flies)
one_flown k xs = by (slice_get xs k) refl
  where
    by : (o : Option Record) → slice_get xs k ≡ o → KeepsLines xs (changed_at xs k flies)
    by None none = lines_same xs (changed_at xs k flies) (ap (changed_in xs k flies) none)
    by (Some r) there = lines_changed xs k r flies there (flies_same r)

pub lines_flown : (ks : List ℕ) (rs : List Record) → KeepsLines rs (flown_in ks rs)
lines_flown [] rs = lines_same rs rs refl
lines_flown (k ∷ ks) rs = lines_on rs (flown_in ks rs) (changed_at (flown_in ks rs) k flies) (lines_flown ks rs) (one_flown k (flown_in ks rs))

-- THE LINES of opens, whatever is kept of them

abbrev pub only_line : OpenState → OpenState
only_line o = record o { account = None }

-- only accounts changed: each is there, and a hint that was refused stays so
pub record SameLines (opens opens' : List OpenState) : Type 0 where
  pub lines : map only_line opens' ≡ map only_line opens
  pub kept : (file : ℕ) (o : OpenState) → slice_get opens' file ≡ Some o → IsSome o.account
  pub hints : (file : ℕ) → has_hint_at opens file ≡ false → has_hint_at opens' file ≡ false

pub accounts_kept : (opens : List OpenState) (rs : List Record) → AreLinedUp opens rs → (file : ℕ) (o : OpenState) → slice_get opens file ≡ Some o → IsSome o.account
accounts_kept opens rs lined file o there = (lined.lines file o there).kept

pub opens_same : (opens opens' : List OpenState) (rs : List Record) → AreLinedUp opens rs → opens' ≡ opens → SameLines opens opens'
opens_same = grind arith

pub length_map : {A X : Type 0} (f : A → X) (xs : List A) → length (map f xs) ≡ length xs
length_map f [] = refl
length_map f (x ∷ xs) = ap suc (length_map f xs)

module _ (opens opens' : List OpenState) (same : SameLines opens opens') where
  open_was : (file : ℕ) (o' : OpenState) → slice_get opens' file ≡ Some o' → (o : OpenState) × (slice_get opens file ≡ Some o) × (only_line o ≡ only_line o')
  open_was file o' there = unmapped only_line opens file (only_line o') (sym (ap (λ os. slice_get os file) same.lines) ∙ mapped only_line opens' file o' there)

  open_now : (file : ℕ) (o : OpenState) → slice_get opens file ≡ Some o → (o' : OpenState) × (slice_get opens' file ≡ Some o') × (only_line o' ≡ only_line o)
  open_now file o there = unmapped only_line opens' file (only_line o) (ap (λ os. slice_get os file) same.lines ∙ mapped only_line opens file o there)

  pub many_opens : length opens' ≡ length opens
  many_opens = sym (length_map only_line opens') ∙ ap length same.lines ∙ length_map only_line opens

  line_moved : (file : ℕ) (o o' : OpenState) (rs : List Record) → only_line o ≡ only_line o' → IsSome o'.account → IsLinedUp file o rs → IsLinedUp file o' rs
  line_moved file o o' rs is kept line =
      let bare : OpenState = record o { account = o'.account } in
      let shape : bare ≡ o' = ap (λ (x : OpenState). record x { account = o'.account }) is in
      subst (λ x. IsLinedUp file x rs) shape (assumption (kept, line))

  pub lined_opens : (rs : List Record) → AreLinedUp opens rs → AreLinedUp opens' rs
  lined_opens rs lined =
      let lines : (file : ℕ) (o : OpenState) → slice_get opens' file ≡ Some o → IsLinedUp file o rs = λ file o' there.
      let old = open_was file o' there in
      line_moved file old.0 o' rs old.2 (same.kept file o' there) (lined.lines file old.0 old.1) in
      let there_so : (k : ℕ) (r : Record) → slice_get rs k ≡ Some r → is_of_file r.shown.operation.kind ≡ true → r.shown.operation.target < length opens' =
      λ k r at of. subst (λ n. r.shown.operation.target < n) (sym many_opens) (lined.there k r at of) in
      assumption (lines, there_so, subst (λ n. n < 2 ^ 32) (sym many_opens) lined.few, lined)

  pub gates_opens : (drops : ℕ → Drops) (rs : List Record) → HaveGates drops opens rs → HaveGates drops opens' rs
  gates_opens drops rs have =
      record {
        passes = λ j file is.
            let p = have.passes j file is in
            let new = open_now file p.o p.open_there in
            record { o = new.0; open_there = new.1; k = p.k; r = p.r; there = p.there; mine = p.mine; over = p.over; holds = ap (λ x. x.holder) new.2 ∙ p.holds };
        joins = λ j k is.
            let p = have.joins j k is in
            record {
              r = p.r;
              there = p.there;
              mine = p.mine;
              gated = p.gated;
              apart = λ o' n at there.
                  let old = open_was p.r.shown.operation.target o' at in
                  p.apart old.0 n old.1 (ap (λ x. slice_get (line_at x) n) old.2 ∙ there);
            };
      }

-- WHAT IS SEEN of who stands at gates

first_at : ℕ → List AtGate → WaiterKey → ℕ
first_at n [] key = n
first_at n (x ∷ xs) key =
    if (x.key.worker == key.worker) && ((x.key.id.0.index == key.id.0.index) && (x.key.id.0.generation == key.id.0.generation))
    then n else first_at (suc n) xs key

number_at : (n : ℕ) (rs : List Record) (key : WaiterKey) → number_of_key n rs key ≡ first_at n (map at_gate rs) key
unfolding first_at
number_at n [] key = refl
number_at n (r ∷ rs) key =
    ap (λ m. if (r.shown.worker == key.worker) && ((r.id.0.index == key.id.0.index) && (r.id.0.generation == key.id.0.generation)) then n else m) (number_at (suc n) rs key)

same_numbers : (rs rs' : List Record) → map at_gate rs' ≡ map at_gate rs → (keys : List WaiterKey) → map (number_of_key 0 rs') keys ≡ map (number_of_key 0 rs) keys
same_numbers rs rs' at [] = refl
same_numbers rs rs' at (key ∷ keys) = grind (arith, number_at, first_at, same_numbers rs rs' at keys)

gates_by_lines : (rs : List Record) (os : List OpenState) → map (gate_seen rs) os ≡ map (gate_seen rs) (map only_line os)
gates_by_lines rs [] = refl
gates_by_lines rs (o ∷ os) = ap (λ gs. gate_seen rs o ∷ gs) (gates_by_lines rs os)

pub gates_seen_at : (rs rs' : List Record) (opens opens' : List OpenState) → map at_gate rs' ≡ map at_gate rs → SameLines opens opens' → map (gate_seen rs') opens' ≡ map (gate_seen rs) opens
gates_seen_at rs rs' opens opens' at same =
    gates_by_lines rs' opens' ∙ ap (map (gate_seen rs')) same.lines ∙ by (map only_line opens) ∙ sym (gates_by_lines rs opens)
  where
    by : (os : List OpenState) → map (gate_seen rs') os ≡ map (gate_seen rs) os
    by [] = refl
    by (o ∷ os) = rw (same_numbers rs rs' at (line_at o), by os) refl

pub gates_seen_same : (rs rs' : List Record) (opens opens' : List OpenState) → KeepsLines rs rs' → SameLines opens opens' → map (gate_seen rs') opens' ≡ map (gate_seen rs) opens
gates_seen_same rs rs' opens opens' keeps = gates_seen_at rs rs' opens opens' keeps.at

passing_by : {A : Type 0} (test : A → Bool) (n : ℕ) (xs : List A) → numbers_of_passing test n xs ≡ numbers_of_passing (λ b. b) n (map test xs)
passing_by test n [] = refl
passing_by test n (x ∷ xs) = ap (λ ns. if test x then n ∷ ns else ns) (passing_by test (suc n) xs)

pub passing_same : {A : Type 0} (test : A → Bool) (xs ys : List A) → map test ys ≡ map test xs → numbers_of_passing test 0 ys ≡ numbers_of_passing test 0 xs
passing_same test xs ys same = passing_by test 0 ys ∙ ap (numbers_of_passing (λ b. b) 0) same ∙ sym (passing_by test 0 xs)
