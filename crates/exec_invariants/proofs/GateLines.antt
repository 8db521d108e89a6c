-- A durable request joins the line at its gate, behind all who stand there.
use Rattle.exec_invariants.{proofs.{Names.{◌≡◌, ◌≢◌, ◌⊎◌, inl, inr, ℕ, zero, suc, ◌+◌, ◌-◌, ◌<◌, ◌≤◌, ◌==◌, ◌&&◌, ◌||◌, ◌++◌, arith, Bool, true, false, not, List, [], ◌∷◌, drop, length, map, Some, None, IsSome, refl, sym, ap, subst, ◌∙◌, slice_get, slice_set, eq-eqb, false≢true, length-set, map-append, list_any-append, list_any, Account, is_durable, OpenState, joined, WaiterKey, open_joined_by, is_gated, Open, Record, gate_seen, line_of, number_of_key, open_seen, and_parts, and_from, not-true, by_number, false_from_ne_true, or_right, same_Some, set_elsewhere, set_there, or_parts}, Lined.{tallied, tally}}, specs.{Gates.{AreLinedUp, HaveGates, IsLinedUp, at_gate, has_hint_at, is_coming, is_in_line, key_for, line_at, same_key}, Places.Drops}}

-- LISTS

pub snoc_get : {A : Type 0} (xs : List A) (x y : A) (n : ℕ) → slice_get (xs ++ x ∷ []) n ≡ Some y → (slice_get xs n ≡ Some y) ⊎ ((n ≡ length xs) × (x ≡ y))
snoc_get [] x y zero at = inr (refl, same_Some x y at)
snoc_get [] x y (suc n) at = absurd (let no : None ≡ Some y = at in cc)
snoc_get (z ∷ zs) x y zero at = inl at
snoc_get (z ∷ zs) x y (suc n) at = grind (arith, snoc_get zs x y n at)

any_found : {A : Type 0} (test : A → Bool) (xs : List A) → list_any test xs ≡ true → (n : ℕ) × (x : A) × (slice_get xs n ≡ Some x) × (test x ≡ true)
any_found test [] h = absurd (false≢true h)
any_found {A} test (x ∷ xs) h = by (λ some. any_found test xs some) (test x) refl
  where
    by : (list_any test xs ≡ true → (n : ℕ) × (y : A) × (slice_get xs n ≡ Some y) × (test y ≡ true)) → (b : Bool) → test x ≡ b → (n : ℕ) × (y : A) × (slice_get (x ∷ xs) n ≡ Some y) × (test y ≡ true)
    by rest true is = (zero, x, refl, is)
    by rest false is =
        let later = rest (sym (ap (λ b. b || list_any test xs) is) ∙ h) in
        (suc later.0, later.1, later.2, later.3)

-- no more pass another test that passes only what passes this
no_more : {A : Type 0} (p q : A → Bool) (xs : List A) → ((x : A) → q x ≡ true → p x ≡ true) → tally q xs ≤ tally p xs
unfolding tally
no_more p q [] less = omega arith
no_more p q (x ∷ xs) less = grind (arith, tally, false≢true, no_more p q xs less)

-- and one fewer where one doesn't pass it
one_fewer : {A : Type 0} (p q : A → Bool) (xs : List A) (k : ℕ) (x : A) → ((x : A) → q x ≡ true → p x ≡ true) → slice_get xs k ≡ Some x → p x ≡ true → q x ≡ false → tally q xs + 1 ≤ tally p xs
unfolding tally
one_fewer p q [] k x less there passes fails = absurd (let never : None ≡ Some x = there in cc)
one_fewer p q (y ∷ ys) zero x less there passes fails = grind (arith, same_Some, tally, no_more)
one_fewer p q (y ∷ ys) (suc k) x less there passes fails = grind (arith, tally, false≢true, one_fewer p q ys k x less there passes fails)

-- KEYS

pub key_is : (a b : WaiterKey) → same_key a b ≡ true → a ≡ b
key_is = grind arith

pub key_self : (a b : WaiterKey) → a ≡ b → same_key a b ≡ true
key_self = grind arith

-- the number of a key is that of the request that alone has it
pub key_number : (rs : List Record) (n k : ℕ) (r : Record) (key : WaiterKey) → slice_get rs k ≡ Some r → key_for r ≡ key → ((l : ℕ) (x : Record) → slice_get rs l ≡ Some x → key_for x ≡ key → k ≡ l) → number_of_key n rs key ≡ n + k
key_number [] n k r key there is alone = absurd (let never : None ≡ Some r = there in cc)
key_number (y ∷ ys) n zero r key there is alone = grind (arith, same_Some, key_self)
key_number (y ∷ ys) n (suc k) r key there is alone =
    let no : same_key (key_for y) key ≡ false = false_from_ne_true (same_key (key_for y) key) (λ h. let never : suc k ≡ zero = alone zero y refl (key_is (key_for y) key h) in absurd (omega (arith, never))) in
    let later : number_of_key (suc n) ys key ≡ suc n + k = key_number ys (suc n) k r key there is (λ l x at same. let more : suc k ≡ suc l = alone (suc l) x at same in omega (arith, more)) in
    rw no (omega (arith, later))

-- WHAT JOINING MAKES OF AN OPEN
pub record HasJoined (key : WaiterKey) (o o' : OpenState) : Type 0 where
  pub line : line_at o' ≡ line_at o ++ key ∷ []
  pub coming : o'.coming ≡ o.coming - 1
  pub account : o'.account ≡ o.account
  pub holds : (x : WaiterKey) → o.holder ≡ Some x → o'.holder ≡ Some x
  pub some : o'.holder ≡ None → ⊥

pub has_joined : (key : WaiterKey) (o : OpenState) → (o.holder ≡ None → o.waiting ≡ []) → HasJoined key o (joined key o)
has_joined = grind arith

-- the opens then
abbrev pub joined_in : List OpenState → Record → OpenState → List OpenState
joined_in opens r o = slice_set opens r.shown.operation.target (joined (key_for r) o)

-- THE LINES

pub record MayJoin (k : ℕ) (r : Record) (o : OpenState) (opens : List OpenState) (rs : List Record) : Type 0 where
  pub there : slice_get rs k ≡ Some r
  pub open_there : slice_get opens r.shown.operation.target ≡ Some o
  pub gated : is_gated r.shown.phase ≡ true
  pub apart : (n : ℕ) → slice_get (line_at o) n ≢ Some (key_for r)

-- an open is as before, or the one that was joined
which_open : {P : Type 0} (opens : List OpenState) (r : Record) (o : OpenState) (file : ℕ) (x : OpenState) → slice_get opens r.shown.operation.target ≡ Some o → slice_get (joined_in opens r o) file ≡ Some x
    → (file ≢ r.shown.operation.target → slice_get opens file ≡ Some x → P) → (file ≡ r.shown.operation.target → joined (key_for r) o ≡ x → P) → P
which_open = grind (arith, by_number, set_elsewhere, same_Some, set_there)

module _ (k : ℕ) (r : Record) (o : OpenState) (opens : List OpenState) (rs : List Record) (may : MayJoin k r o opens rs) where
  not_in_line : is_in_line (key_for r) o ≡ false
  not_in_line = false_from_ne_true (is_in_line (key_for r) o) (λ h. let found = any_found (same_key (key_for r)) (line_at o) h in absurd (may.apart found.0 (found.2 ∙ ap (λ y. Some y) (sym (key_is (key_for r) found.1 found.3)))))

  comes : is_coming r.shown.operation.target o (at_gate r) ≡ true
  comes = and_from (is_gated r.shown.phase) ((r.shown.operation.target == r.shown.operation.target) && not (is_in_line (key_for r) o)) may.gated (and_from (r.shown.operation.target == r.shown.operation.target) (not (is_in_line (key_for r) o)) (eq-eqb r.shown.operation.target r.shown.operation.target refl) (ap not not_in_line))

  -- one place was made for it
  pub place_made : IsLinedUp r.shown.operation.target o rs → 0 < o.coming
  place_made line =
      let none : Record → Bool = λ x. false in
      let p : Record → Bool = λ x. is_coming r.shown.operation.target o (at_gate x) in
      omega (arith, one_fewer p none rs k r (λ x never. absurd (false≢true never)) may.there comes refl, tallied p rs, line.places)

  line_joined : AreLinedUp opens rs → (o' : OpenState) → HasJoined (key_for r) o o' → IsLinedUp r.shown.operation.target o' rs
  line_joined lined o' has =
      let file = r.shown.operation.target in
      let line = lined.lines file o may.open_there in
      let split : (n : ℕ) (key : WaiterKey) → slice_get (line_at o') n ≡ Some key → (slice_get (line_at o) n ≡ Some key) ⊎ ((n ≡ length (line_at o)) × (key_for r ≡ key)) =
      λ n key at. snoc_get (line_at o) (key_for r) key n (ap (λ l. slice_get l n) (sym has.line) ∙ at) in
      let itself : (m : ℕ) (x : Record) → slice_get rs m ≡ Some x → key_for x ≡ key_for r → r ≡ x =
      λ m x at is. same_Some r x (sym may.there ∙ ap (slice_get rs) (lined.unique k m r x may.there at (sym is)) ∙ at) in
      let p : Record → Bool = λ x. is_coming file o (at_gate x) in
      let q : Record → Bool = λ x. is_coming file o' (at_gate x) in
      let any : (key : WaiterKey) → is_in_line key o' ≡ (is_in_line key o || (same_key key (key_for r) || false)) =
      λ key. ap (list_any (same_key key)) has.line ∙ list_any-append (same_key key) (line_at o) (key_for r ∷ []) in
      let fewer : tally q rs + 1 ≤ tally p rs =
      one_fewer p q rs k r
      (λ x h.
      let one = and_parts (is_gated x.shown.phase) ((x.shown.operation.target == file) && not (is_in_line (key_for x) o')) h in
      let two = and_parts (x.shown.operation.target == file) (not (is_in_line (key_for x) o')) one.1 in
      let out : is_in_line (key_for x) o ≡ false = (or_parts (is_in_line (key_for x) o) (same_key (key_for x) (key_for r) || false) (sym (any (key_for x)) ∙ not-true (is_in_line (key_for x) o') two.1)).0 in
      and_from (is_gated x.shown.phase) ((x.shown.operation.target == file) && not (is_in_line (key_for x) o)) one.0 (and_from (x.shown.operation.target == file) (not (is_in_line (key_for x) o)) two.0 (ap not out)))
      may.there comes
      (let in_it : is_in_line (key_for r) o' ≡ true = any (key_for r) ∙ or_right (is_in_line (key_for r) o) (same_key (key_for r) (key_for r) || false) (ap (λ b. b || false) (key_self (key_for r) (key_for r) refl)) in
      rw (may.gated, eq-eqb file file refl, in_it) refl) in
      record {
        named = λ n key at.
            elim (split n key at) [
              | inl before ↦ line.named n key before
              | inr last ↦ (k, r, may.there, last.1)
            ];
        durable = λ n key m x at there is.
            elim (split n key at) [
              | inl before ↦ line.durable n key m x before there is
              | inr last ↦
                  subst (λ (y : Record). (is_durable y.shown.operation.kind ≡ true) × (y.shown.operation.target ≡ file)) (itself m x there (is ∙ sym last.1)) (lined.durable k r may.there may.gated, refl)
            ];
        waits = λ n key m x some at there is.
            elim (split n key at) [
              | inl before ↦ line.waits n key m x some before there is
              | inr last ↦ subst (λ (y : Record). is_gated y.shown.phase ≡ true) (itself m x there (is ∙ sym last.1)) may.gated
            ];
        once = λ m n key at_m at_n.
            elim (split m key at_m) [
              | inl a ↦
                  elim (split n key at_n) [
                    | inl b ↦ line.once m n key a b
                    | inr last ↦ absurd (may.apart m (a ∙ ap (λ y. Some y) (sym last.1)))
                  ]
              | inr last ↦
                  elim (split n key at_n) [
                    | inl b ↦ absurd (may.apart n (b ∙ ap (λ y. Some y) (sym last.1)))
                    | inr also ↦ last.0 ∙ sym also.0
                  ]
            ];
        held = λ m x there durable of ungated going. has.holds (key_for x) (line.held m x there durable of ungated going);
        first = λ none. absurd (has.some none);
        kept = subst IsSome (sym has.account) line.kept;
        places = omega (arith, fewer, tallied p rs, tallied q rs, line.places, has.coming);
      }

  pub lined_joined : AreLinedUp opens rs → AreLinedUp (joined_in opens r o) rs
  lined_joined lined =
      let file = r.shown.operation.target in
      let many : length (joined_in opens r o) ≡ length opens = length-set opens file (joined (key_for r) o) in
      record {
        lines = λ f x at.
            which_open opens r o f x may.open_there at
            (λ other before. lined.lines f x before)
            (λ same is. subst (λ y. IsLinedUp f y rs) is (subst (λ n. IsLinedUp n (joined (key_for r) o) rs) (sym same) (line_joined lined (joined (key_for r) o) (has_joined (key_for r) o (lined.lines file o may.open_there).first))));
        there = λ m x at of. subst (λ n. x.shown.operation.target < n) (sym many) (lined.there m x at of);
        durable = lined.durable;
        few = rw many lined.few;
        unique = lined.unique;
      }

  -- no hint comes back
  pub hints_joined : (o.holder ≡ None → o.waiting ≡ []) → (file : ℕ) → has_hint_at opens file ≡ false → has_hint_at (joined_in opens r o) file ≡ false
  hints_joined = grind (arith, has_joined, by_number, set_elsewhere, set_there)

  -- where the others are
  pub gates_joined : (drops : ℕ → Drops) → (o.holder ≡ None → o.waiting ≡ []) → ((j l : ℕ) → (drops j).joins ≡ Some l → j ≢ r.shown.worker) → HaveGates drops opens rs → HaveGates drops (joined_in opens r o) rs
  gates_joined drops first others have =
      let has = has_joined (key_for r) o first in
      record {
        passes = λ j file is.
            let p = have.passes j file is in
            by_number file r.shown.operation.target
            (λ other. record { o = p.o; open_there = set_elsewhere opens r.shown.operation.target file (joined (key_for r) o) other ∙ p.open_there; k = p.k; r = p.r; there = p.there; mine = p.mine; over = p.over; holds = p.holds })
            (λ same.
            record {
              o = joined (key_for r) o;
              open_there = ap (slice_get (joined_in opens r o)) same ∙ set_there opens r.shown.operation.target (joined (key_for r) o) o may.open_there;
              k = p.k;
              r = p.r;
              there = p.there;
              mine = p.mine;
              over = p.over;
              holds = has.holds (key_for p.r) (ap (λ (y : OpenState). y.holder) (sym (same_Some p.o o (sym p.open_there ∙ ap (slice_get opens) same ∙ may.open_there))) ∙ p.holds);
            });
        joins = λ j l is.
            let p = have.joins j l is in
            record {
              r = p.r;
              there = p.there;
              mine = p.mine;
              gated = p.gated;
              apart = λ x n at found.
                  which_open opens r o p.r.shown.operation.target x may.open_there at
                  (λ other before. p.apart x n before found)
                  (λ same now.
                  elim (snoc_get (line_at o) (key_for r) (key_for p.r) n (ap (λ y. slice_get y n) (sym has.line) ∙ ap (λ (y : OpenState). slice_get (line_at y) n) now ∙ found)) [
                    | inl before ↦ p.apart o n (ap (slice_get opens) same ∙ may.open_there) before
                    | inr last ↦ others j l is (sym p.mine ∙ ap (λ (y : WaiterKey). y.worker) (sym last.1))
                  ]);
            };
      }

  -- WHAT IS SEEN

  pub gate_then : AreLinedUp opens rs → gate_seen rs (joined (key_for r) o) ≡ gate_seen rs o ++ k ∷ []
  gate_then lined =
      let has = has_joined (key_for r) o (lined.lines r.shown.operation.target o may.open_there).first in
      let number : number_of_key 0 rs (key_for r) ≡ k = key_number rs 0 k r (key_for r) may.there refl (λ l x at is. lined.unique k l r x may.there at (sym is)) ∙ omega arith in
      ap (map (number_of_key 0 rs)) has.line ∙ map-append (number_of_key 0 rs) (line_at o) (key_for r ∷ []) ∙ ap (λ n. gate_seen rs o ++ n ∷ []) number

  line_then : (ns : List ℕ) → line_of rs (ns ++ k ∷ []) ≡ line_of rs ns ++ k ∷ []
  line_then = grind arith

  abbrev shows : Account → List ℕ → Open
  shows account line = record { account = account; holder = slice_get line 0; waiting = drop 1 line }

  behind_all : (account : Account) (line : List ℕ) → shows account (line ++ k ∷ []) ≡ open_joined_by k (shows account line)
  behind_all account [] = refl
  behind_all account (n ∷ later) = refl

  pub open_then : AreLinedUp opens rs → open_seen rs (joined (key_for r) o) ≡ open_joined_by k (open_seen rs o)
  open_then = grind (arith, has_joined, gate_then, line_then, behind_all)
