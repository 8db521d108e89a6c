-- The opens once a request was registered: a durable one has a place at the gate of its open, and a plain write counts there.
use Rattle.std.proofs.{Common.{◌≡◌, ◌≢◌, ℕ, suc, zero, ◌+◌, ◌<◌, ◌≤◌, ◌==◌, ◌&&◌, Bool, true, false, List, [], ◌∷◌, ◌++◌, count_by, drop, length, map, Some, None, is_some, refl, sym, ap, subst, ◌∙◌, arith, slice_get, slice_index_or, slice_set, option_map, if◌then◌else◌}, lemmas.{Bool.{false≢true, eq-eqb, Decides.nat_tests}, List.length-set, Option.{get_or_from_slice_get, slice_get-map, slice_get_within}}}
use Rattle.exec_outcomes.specs.{Accounts.{Account, changed, is_durable}, declared.outcome.Kind.Kind}
use Rattle.exec_request.specs.{Requests.{asked_of, gate_of, target_of}, declared.request.Request.Request as Asking}
use Rattle.exec_opens.specs.{Opens.{OpenState, account_by, account_in, placed, with_named, writing}, declared.opens.WaiterKey.WaiterKey}
use Rattle.exec_driver.specs.Steps.{plainly_written}
use Rattle.exec_machine.specs.{Requests.account_after_admit, Same.same_kind, Tests.{is_gated, is_of_file}, World.{Open, no_open}}
use Rattle.exec_parts.{specs.{declared.parts.record.Record.Record, Records.file_named, View.{account_seen, gate_seen, has_given_up, line_of, number_of_key, open_seen}}, proofs.Facts.{and_parts, by_number, same_number, same_Some, set_there, set_elsewhere}}
use Rattle.exec_invariants.{specs.{Admitting.has_open, Gates.{AreLinedUp, HaveGates, JoinsGate, at_gate, has_hint_at, is_coming, key_for, line_at}, Places.Drops}, proofs.{Accounted.{account_shown, lines_account, with_its}, Gated.durable_of_file, Lined.{SameLines, gates_opens, lined_opens}}}
use Rattle.exec_polling.proofs.{GateGrown.{IsNew, gates_grown, gates_placed, joins_new, lined_grown, lined_placed}, Unbegun.IsUnbegun}

-- a record of this request, which nobody has a name for
pub record IsRegistered (q : Asking) (r : Record) (rs : List Record) : Type 0 where
  pub fresh : (k : ℕ) (x : Record) → slice_get rs k ≡ Some x → key_for x ≢ key_for r
  pub kind : r.shown.operation.kind ≡ (asked_of q).kind
  pub target : r.shown.operation.target ≡ target_of q
  pub gated : is_gated r.shown.phase ≡ is_durable (asked_of q).kind

-- ITS OPEN is there, where it is of a file

account_there : (opens : List OpenState) (file : ℕ) → is_some (account_in opens (Some file)) ≡ true → (o : OpenState) × (slice_get opens file ≡ Some o)
account_there = grind arith

socket_kind : (b : Bool) → is_of_file (if b then Kind.Fill else Kind.Recv) ≡ false
socket_kind true = refl
socket_kind false = refl

pub open_there : (q : Asking) (opens : List OpenState) → has_open q opens ≡ true → is_of_file (asked_of q).kind ≡ true → (o : OpenState) × (slice_get opens (target_of q) ≡ Some o)
open_there = grind (arith, account_there, false≢true, socket_kind)

-- WHO STANDS AT GATES, whatever records come behind theirs

same_keys : (a b : WaiterKey) → a ≡ b → ((a.worker == b.worker) && ((a.id.0.index == b.id.0.index) && (a.id.0.generation == b.id.0.generation))) ≡ true
same_keys a b is = rw (eq-eqb a.worker b.worker (ap (λ x. x.worker) is), eq-eqb a.id.0.index b.id.0.index (ap (λ x. x.id.0.index) is), eq-eqb a.id.0.generation b.id.0.generation (ap (λ x. x.id.0.generation) is)) refl

-- the number of a key that is there
record IsFound (n : ℕ) (rs : List Record) (r : Record) (key : WaiterKey) : Type 0 where
  m : ℕ
  before : number_of_key n rs key ≡ n + m
  after : number_of_key n (rs ++ r ∷ []) key ≡ n + m
  within : m < length rs

found_key : (n : ℕ) (rs : List Record) (r : Record) (key : WaiterKey) (k : ℕ) (x : Record) → slice_get rs k ≡ Some x → key_for x ≡ key → IsFound n rs r key
found_key n [] r key k x at is = absurd (let no : None ≡ Some x = at in cc)
found_key n (y ∷ ys) r key k x at is = by (λ j. found_key (suc n) ys r key j x) k at ((y.shown.worker == key.worker) && ((y.id.0.index == key.id.0.index) && (y.id.0.generation == key.id.0.generation))) refl
  where
    here : ((y.shown.worker == key.worker) && ((y.id.0.index == key.id.0.index) && (y.id.0.generation == key.id.0.generation))) ≡ true → IsFound n (y ∷ ys) r key
    here same =
        let first : n ≡ n + 0 = omega arith in
        record {
          m = 0;
          before = ap (λ b. if b then n else number_of_key (suc n) ys key) same ∙ first;
          after = ap (λ b. if b then n else number_of_key (suc n) (ys ++ r ∷ []) key) same ∙ first;
          within = omega arith;
        }

    by : ((j : ℕ) → slice_get ys j ≡ Some x → key_for x ≡ key → IsFound (suc n) ys r key) → (k : ℕ) → slice_get (y ∷ ys) k ≡ Some x → (b : Bool) → ((y.shown.worker == key.worker) && ((y.id.0.index == key.id.0.index) && (y.id.0.generation == key.id.0.generation))) ≡ b → IsFound n (y ∷ ys) r key
    by rest k at true same = here same
    by rest zero at false same = absurd (false≢true (sym same ∙ same_keys (key_for y) key (ap key_for (same_Some y x at) ∙ is)))
    by rest (suc k) at false same =
        let it = rest k at is in
        let on : suc n + it.m ≡ n + suc it.m = omega arith in
        let few = it.within in
        record {
          m = suc it.m;
          before = ap (λ b. if b then n else number_of_key (suc n) ys key) same ∙ it.before ∙ on;
          after = ap (λ b. if b then n else number_of_key (suc n) (ys ++ r ∷ []) key) same ∙ it.after ∙ on;
          within = omega (arith, few);
        }

keys_on : (rs : List Record) (r : Record) (keys : List WaiterKey) → ((n : ℕ) (key : WaiterKey) → slice_get keys n ≡ Some key → (k : ℕ) × (x : Record) × (slice_get rs k ≡ Some x) × (key_for x ≡ key)) → map (number_of_key 0 (rs ++ r ∷ [])) keys ≡ map (number_of_key 0 rs) keys
keys_on rs r [] found = refl
keys_on rs r (key ∷ keys) found =
    let it = found 0 key refl in
    let one = found_key 0 rs r key it.0 it.1 it.2 it.3 in
    let same : number_of_key 0 (rs ++ r ∷ []) key ≡ number_of_key 0 rs key = one.after ∙ sym one.before in
    rw (same, keys_on rs r keys (λ n x at. found (suc n) x at)) refl

got_still : {A : Type 0} (xs : List A) (y : A) (k : ℕ) → k < length xs → slice_get (xs ++ y ∷ []) k ≡ slice_get xs k
got_still [] y k few = absurd (omega (arith, few))
got_still (x ∷ xs) y zero few = refl
got_still (x ∷ xs) y (suc k) few = got_still xs y k (omega (arith, few))

line_on : (rs : List Record) (r : Record) (keys : List WaiterKey) → ((n : ℕ) (key : WaiterKey) → slice_get keys n ≡ Some key → (k : ℕ) × (x : Record) × (slice_get rs k ≡ Some x) × (key_for x ≡ key)) → line_of (rs ++ r ∷ []) (map (number_of_key 0 rs) keys) ≡ line_of rs (map (number_of_key 0 rs) keys)
line_on rs r [] found = refl
line_on rs r (key ∷ keys) found =
    let it = found 0 key refl in
    let one = found_key 0 rs r key it.0 it.1 it.2 it.3 in
    let within : number_of_key 0 rs key < length rs = let few = one.within in omega (arith, few, one.before) in
    let later = map (number_of_key 0 rs) keys in
    ap (λ o. if has_given_up o then later else number_of_key 0 rs key ∷ later) (got_still rs r (number_of_key 0 rs key) within)

module _ (opens : List OpenState) (rs : List Record) (r : Record) (lined : AreLinedUp opens rs) where
  gate_on : (file : ℕ) (o : OpenState) → slice_get opens file ≡ Some o → gate_seen (rs ++ r ∷ []) o ≡ gate_seen rs o
  gate_on file o there = keys_on rs r (line_at o) (lined.lines file o there).named

  open_on : (file : ℕ) (o : OpenState) → slice_get opens file ≡ Some o → open_seen (rs ++ r ∷ []) o ≡ open_seen rs o
  open_on file o there =
      let named = (lined.lines file o there).named in
      ap (λ ns. record { account = account_seen o.account; holder = slice_get (line_of (rs ++ r ∷ []) ns) 0; waiting = drop 1 (line_of (rs ++ r ∷ []) ns) }) (keys_on rs r (line_at o) named)
      ∙ ap (λ ns. record { account = account_seen o.account; holder = slice_get ns 0; waiting = drop 1 ns }) (line_on rs r (line_at o) named)

-- what is seen of each
each_same : {A C : Type 0} (f g : A → C) (xs : List A) → ((k : ℕ) (x : A) → slice_get xs k ≡ Some x → f x ≡ g x) → map f xs ≡ map g xs
each_same f g [] same = refl
each_same f g (x ∷ xs) same = rw (same 0 x refl, each_same f g xs (λ k y at. same (suc k) y at)) refl

set_back : {A C : Type 0} (f : A → C) (xs : List A) (k : ℕ) (x y : A) → slice_get xs k ≡ Some x → f y ≡ f x → map f (slice_set xs k y) ≡ map f xs
set_back f [] k x y at same = refl
set_back f (z ∷ xs) zero x y at same = ap (λ c. c ∷ map f xs) (same ∙ ap f (sym (same_Some z x at)))
set_back f (z ∷ xs) (suc k) x y at same = ap (λ cs. f z ∷ cs) (set_back f xs k x y at same)

-- HOW THE OPENS CHANGED

pub record IsPlaced (opens opens' : List OpenState) (file : ℕ) : Type 0 where
  pub o : OpenState
  pub there : slice_get opens file ≡ Some o
  pub set : opens' ≡ slice_set opens file (placed o)

pub record IsWritten (opens opens' : List OpenState) (file : ℕ) : Type 0 where
  pub o : OpenState
  pub a : Account
  pub there : slice_get opens file ≡ Some o
  pub account : o.account ≡ Some a
  pub set : opens' ≡ slice_set opens file (with_its (changed a) o)

pub data Opened (k : Kind) (opens opens' : List OpenState) (file : ℕ) : Type 0 where
  Joins : is_durable k ≡ true → IsPlaced opens opens' file → Opened k opens opens' file
  Writes : k ≡ Kind.Write → IsWritten opens opens' file → Opened k opens opens' file
  Stays : is_durable k ≡ false → same_kind k Kind.Write ≡ false → opens' ≡ opens → Opened k opens opens' file

pub opened_so : (q : Asking) (opens opens' : List OpenState) (rs : List Record) → AreLinedUp opens rs → IsUnbegun q → has_open q opens ≡ true → opens' ≡ with_named (with_named opens (gate_of q) placed) (plainly_written q) writing
    → Opened (asked_of q).kind opens opens' (target_of q)
opened_so = grind arith

-- WHAT HOLDS THEN

module _ (q : Asking) (opens opens' : List OpenState) (rs : List Record) (r : Record) (lined : AreLinedUp opens rs) (opened : has_open q opens ≡ true) (new : IsRegistered q r rs) where
  lines_of_write : (it : IsWritten opens opens' (target_of q)) → SameLines opens opens'
  lines_of_write it =
      subst (SameLines opens) (sym it.set) (lines_account opens rs (target_of q) it.o (changed it.a) lined it.there (λ none. hint_is it none))
    where
      hint_is : (it : IsWritten opens opens' (target_of q)) → has_hint_at opens (target_of q) ≡ false → it.a.hinted ≡ false
      hint_is = grind arith

  still_lined : Opened (asked_of q).kind opens opens' (target_of q) → AreLinedUp opens' rs
  still_lined (Joins durable it) = subst (λ os. AreLinedUp os rs) (sym it.set) (lined_placed opens rs (target_of q) it.o it.there lined)
  still_lined (Writes kind it) = lined_opens opens opens' (lines_of_write it) rs lined
  still_lined (Stays undurable plain is) = subst (λ os. AreLinedUp os rs) (sym is) lined

  still_many : Opened (asked_of q).kind opens opens' (target_of q) → length opens' ≡ length opens
  still_many = grind (arith, length-set, with_its)

  -- it has room at its gate
  room_for_it : Opened (asked_of q).kind opens opens' (target_of q) → (file : ℕ) (o : OpenState) → slice_get opens' file ≡ Some o → is_coming file o (at_gate r) ≡ true → count_by (λ x. is_coming file o (at_gate x)) rs + 1 ≤ o.coming
  room_for_it = grind (arith, and_parts, same_number, same_Some, set_there, false≢true)

  pub is_new : Opened (asked_of q).kind opens opens' (target_of q) → IsNew r opens' rs
  is_new = grind (arith, open_there, slice_get_within, still_many, false≢true, room_for_it)

  pub lined_then : Opened (asked_of q).kind opens opens' (target_of q) → AreLinedUp opens' (rs ++ r ∷ [])
  lined_then how = lined_grown opens' rs r (is_new how) (still_lined how)

  -- what others know of hints stays so
  pub hints_then : Opened (asked_of q).kind opens opens' (target_of q) → (file : ℕ) → has_hint_at opens file ≡ false → has_hint_at opens' file ≡ false
  hints_then = grind (arith, by_number, set_elsewhere, set_there, lines_of_write)

  still_gates : Opened (asked_of q).kind opens opens' (target_of q) → (drops : ℕ → Drops) → HaveGates drops opens rs → HaveGates drops opens' rs
  still_gates = grind (arith, gates_placed, gates_opens, lines_of_write)

  -- nobody joins yet
  pub gates_then : Opened (asked_of q).kind opens opens' (target_of q) → (drops : ℕ → Drops) (i : ℕ) → (drops i).passes ≡ None → (drops i).joins ≡ None → HaveGates drops opens rs → HaveGates drops opens' (rs ++ r ∷ [])
  gates_then how drops i passes joins have = gates_grown i drops drops opens' rs r (λ j other. refl) passes (λ k is. absurd (let no : None ≡ Some k = sym joins ∙ is in cc)) (still_gates how drops have)

  -- it may join
  pub joins_then : Opened (asked_of q).kind opens opens' (target_of q) → (i : ℕ) → r.shown.worker ≡ i → is_gated r.shown.phase ≡ true → JoinsGate i (length rs) opens' (rs ++ r ∷ [])
  joins_then how i mine gated = joins_new i opens' rs r (is_new how) (still_lined how) mine gated

  -- WHAT IS SEEN
  pub gates_seen_then : Opened (asked_of q).kind opens opens' (target_of q) → map (gate_seen (rs ++ r ∷ [])) opens' ≡ map (gate_seen rs) opens
  gates_seen_then how = each_same (gate_seen (rs ++ r ∷ [])) (gate_seen rs) opens' (gate_on opens' rs r (still_lined how)) ∙ before how
    where
      before : Opened (asked_of q).kind opens opens' (target_of q) → map (gate_seen rs) opens' ≡ map (gate_seen rs) opens
      before = grind (arith, set_back, with_its)

  durable_no_write : (k : Kind) → is_durable k ≡ true → same_kind k Kind.Write ≡ false
  durable_no_write Kind.Write h = absurd (false≢true h)
  durable_no_write _ h = refl

  no_write_account : (k : Kind) (a : Account) → same_kind k Kind.Write ≡ false → account_after_admit k a ≡ a
  no_write_account Kind.Write a h = absurd (false≢true (sym h))
  no_write_account _ a h = refl

  shown_there : (o : OpenState) → slice_get opens (target_of q) ≡ Some o → slice_index_or (map (open_seen rs) opens) (target_of q) no_open ≡ open_seen rs o
  shown_there o there = get_or_from_slice_get (map (open_seen rs) opens) (target_of q) (open_seen rs o) no_open (slice_get-map (open_seen rs) opens (target_of q) ∙ ap (option_map (open_seen rs)) there)

  abbrev pub opens_with : Bool → List Open
  opens_with b = if b then slice_set (map (open_seen rs) opens) (target_of q) (record (slice_index_or (map (open_seen rs) opens) (target_of q) no_open) { account = changed (slice_index_or (map (open_seen rs) opens) (target_of q) no_open).account }) else map (open_seen rs) opens

  pub opens_seen_then : Opened (asked_of q).kind opens opens' (target_of q) → map (open_seen (rs ++ r ∷ [])) opens' ≡ opens_with (same_kind (asked_of q).kind Kind.Write)
  opens_seen_then how = each_same (open_seen (rs ++ r ∷ [])) (open_seen rs) opens' (open_on opens' rs r (still_lined how)) ∙ before how
    where
      before : Opened (asked_of q).kind opens opens' (target_of q) → map (open_seen rs) opens' ≡ opens_with (same_kind (asked_of q).kind Kind.Write)
      before = grind (arith, set_back, durable_no_write, shown_there, account_shown)

  -- what its record says of the changes
  named_file : is_of_file (asked_of q).kind ≡ true → file_named (target_of q) ≡ Some (target_of q)
  named_file = grind (arith, open_there, slice_get_within, nat_tests)

  pub seen_then : Opened (asked_of q).kind opens opens' (target_of q) → is_of_file (asked_of q).kind ≡ true
      → (account_seen (account_in opens' (file_named (target_of q)))).mutations ≡ (account_after_admit (asked_of q).kind (slice_index_or (map (open_seen rs) opens) (target_of q) no_open).account).mutations
  seen_then how file = ap (λ f. (account_seen (account_in opens' f)).mutations) (named_file file) ∙ by how
    where
      by : Opened (asked_of q).kind opens opens' (target_of q) → (account_seen (account_in opens' (Some (target_of q)))).mutations ≡ (account_after_admit (asked_of q).kind (slice_index_or (map (open_seen rs) opens) (target_of q) no_open).account).mutations
      by (Joins durable it) = grind (arith, it.set, set_there, shown_there, no_write_account)
      by (Writes kind it) = grind (arith, it.set, set_there opens (target_of q) (with_its (changed it.a) it.o) it.o it.there, it.account, shown_there it.o it.there, kind)
      by (Stays undurable plain is) =
          let o = open_there q opens opened file in
          ap (λ x. (account_seen (account_by x)).mutations) (ap (λ os. slice_get os (target_of q)) is ∙ o.1)
          ∙ ap (λ (x : Open). x.account.mutations) (sym (shown_there o.0 o.1)) ∙ ap (λ (a : Account). a.mutations) (sym (no_write_account (asked_of q).kind _ plain))

  -- a durable one covers what its open had
  pub covers_then : Opened (asked_of q).kind opens opens' (target_of q) → is_durable (asked_of q).kind ≡ true
      → (account_seen (account_in opens' (file_named (target_of q)))).mutations ≡ (slice_index_or (map (open_seen rs) opens) (target_of q) no_open).account.mutations
  covers_then how durable = seen_then how (durable_of_file (asked_of q).kind durable) ∙ ap (λ (a : Account). a.mutations) (no_write_account (asked_of q).kind _ (durable_no_write (asked_of q).kind durable))
