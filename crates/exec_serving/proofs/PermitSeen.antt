-- What all see of opens once a request is over: what is kept of its open, whose permit has gone on, though it stands at the gate
-- still.
use Rattle.std.proofs.{Common.{◌≡◌, ◌≢◌, ℕ, zero, suc, ◌==◌, ◌&&◌, ◌++◌, Bool, true, false, List, [], ◌∷◌, drop, map, Some, None, option_to_list, if◌then◌else◌, refl, sym, ap, ◌∙◌, arith, slice_get, slice_index_or, slice_set}, lemmas.Bool.{eq-eqb, false≢true}}
use Rattle.exec_outcomes.specs.{Accounts.{Account, is_durable}, declared.outcome.Outcome.Outcome}
use Rattle.exec_opens.specs.{Opens.OpenState, declared.opens.WaiterKey.WaiterKey}
use Rattle.exec_machine.specs.{declared.state.Operation.Operation, Requests.{open_after_end, passed_on}, Tests.{is_of_file, is_resolved}, World.{Open, no_open}}
use Rattle.exec_parts.{specs.{declared.parts.record.Record.Record, Serving.changed_at, View.{account_seen, gate_seen, gives_up, has_given_up, line_of, number_of_key, open_seen}}, proofs.Facts.{not_same, same_Some}}
use Rattle.exec_invariants.{proofs.{Showing.map_set, Accounted.with_its, Gated.durable_of_file, GateLines.key_number, Hinting.open_there, Keys.{name_in, names_changed, same_open, same_opens}, Marking.{mark_if, marked}, Raising.set_twice}, specs.Gates.{AreLinedUp, key_for, line_at}}
use Rattle.exec_serving.proofs.ReapAccounts.{IsCounted, account_told}

-- LISTS

map_alike : {A X : Type 0} (g h : A → X) (xs : List A) → ((n : ℕ) (x : A) → slice_get xs n ≡ Some x → h x ≡ g x) → map h xs ≡ map g xs
map_alike g h [] same = refl
map_alike g h (x ∷ xs) same = rw (same zero x refl, map_alike g h xs (λ n y at. same (suc n) y at)) refl

-- all but one show the same
map_but : {A X : Type 0} (g h : A → X) (xs : List A) (k : ℕ) (x : A) → slice_get xs k ≡ Some x → ((n : ℕ) (y : A) → slice_get xs n ≡ Some y → n ≢ k → h y ≡ g y) → map h xs ≡ slice_set (map g xs) k (h x)
map_but g h [] k x there same = absurd (let no : None ≡ Some x = there in cc)
map_but g h (y ∷ ys) zero x there same =
    rw (ap h (same_Some y x there), map_alike g h ys (λ n z at. same (suc n) z at (λ e. let no : suc n ≡ zero = e in omega (arith, no)))) refl
map_but g h (y ∷ ys) (suc k) x there same =
    rw (same zero y refl (λ e. let no : zero ≡ suc k = e in omega (arith, no)), map_but g h ys k x there (λ n z at other. same (suc n) z at (λ e. other (let is : suc n ≡ suc k = e in omega (arith, is))))) refl

-- NUMBERS of keys

first_by : ℕ → List WaiterKey → WaiterKey → ℕ
first_by n [] key = n
first_by n (x ∷ xs) key =
    if (x.worker == key.worker) && ((x.id.0.index == key.id.0.index) && (x.id.0.generation == key.id.0.generation))
    then n else first_by (suc n) xs key

number_by_keys : (n : ℕ) (rs : List Record) (key : WaiterKey) → number_of_key n rs key ≡ first_by n (map key_for rs) key
unfolding first_by
number_by_keys n [] key = refl
number_by_keys n (r ∷ rs) key =
    ap (λ m. if (r.shown.worker == key.worker) && ((r.id.0.index == key.id.0.index) && (r.id.0.generation == key.id.0.generation)) then n else m) (number_by_keys (suc n) rs key)

module _ (rs rs' : List Record) (keys : map key_for rs' ≡ map key_for rs) where
  keys_number : (key : WaiterKey) → number_of_key 0 rs' key ≡ number_of_key 0 rs key
  keys_number key = number_by_keys 0 rs' key ∙ ap (λ ks. first_by 0 ks key) keys ∙ sym (number_by_keys 0 rs key)

  keys_numbers : (ks : List WaiterKey) → map (number_of_key 0 rs') ks ≡ map (number_of_key 0 rs) ks
  keys_numbers [] = refl
  keys_numbers (key ∷ ks) = rw (keys_number key, keys_numbers ks) refl

  pub keys_gate : (o : OpenState) → gate_seen rs' o ≡ gate_seen rs o
  keys_gate o = keys_numbers (option_to_list o.holder ++ o.waiting)

  pub keys_gates : (opens : List OpenState) → map (gate_seen rs') opens ≡ map (gate_seen rs) opens
  keys_gates [] = refl
  keys_gates (o ∷ opens) = rw (keys_gate o, keys_gates opens) refl

-- the number of who is named
pub number_named : (opens : List OpenState) (rs : List Record) → AreLinedUp opens rs → (k : ℕ) (r : Record) (key : WaiterKey) → slice_get rs k ≡ Some r → key_for r ≡ key → number_of_key 0 rs key ≡ k
number_named opens rs lined k r key there is = key_number rs 0 k r key there is (λ l x at same. lined.unique k l r x there at (is ∙ sym same)) ∙ omega arith

abbrev pub shows : Account → List ℕ → Open
shows account line = record { account = account; holder = slice_get line 0; waiting = drop 1 line }

-- A DURABLE REQUEST that was the first of its gate is over

module _ (rs : List Record) (k : ℕ) (r : Record) (f : Record → Record) (there : slice_get rs k ≡ Some r) (opens : List OpenState) (lined : AreLinedUp opens rs) (keys : map key_for (changed_at rs k f) ≡ map key_for rs) (open_still : is_resolved r.shown.phase ≡ false)
    (over : gives_up (f r) ≡ true) (durable : is_durable r.shown.operation.kind ≡ true) (holds : (o : OpenState) → slice_get opens r.shown.operation.target ≡ Some o → o.holder ≡ Some (key_for r)) where
  now_there : slice_get (changed_at rs k f) k ≡ Some (f r)
  now_there = marked f rs k k r there ∙ ap (λ b. Some (mark_if f b r)) (eq-eqb k k refl)

  was_open : has_given_up (slice_get rs k) ≡ false
  was_open = ap has_given_up there ∙ ap (λ b. b && is_durable r.shown.operation.kind) open_still

  is_over : has_given_up (slice_get (changed_at rs k f) k) ≡ true
  is_over = ap has_given_up now_there ∙ over

  abbrev later_in : OpenState → List ℕ
  later_in o = map (number_of_key 0 rs) o.waiting

  gate_first : (o : OpenState) → slice_get opens r.shown.operation.target ≡ Some o → gate_seen rs o ≡ k ∷ later_in o
  gate_first o at =
      ap (λ h. map (number_of_key 0 rs) (option_to_list h ++ o.waiting)) (holds o at) ∙ ap (λ n. n ∷ later_in o) (number_named opens rs lined k r (key_for r) there refl)

  pub at_its : (o : OpenState) → slice_get opens r.shown.operation.target ≡ Some o → open_seen (changed_at rs k f) o ≡ passed_on (open_seen rs o)
  at_its = grind (arith, gate_first, was_open, keys_gate, is_over)

  pub elsewhere : (file : ℕ) (x : OpenState) → slice_get opens file ≡ Some x → file ≢ r.shown.operation.target → open_seen (changed_at rs k f) x ≡ open_seen rs x
  elsewhere file x at other =
      let rs' = changed_at rs k f in
      let account = account_seen x.account in
      ap (λ ns. shows account (line_of rs' ns)) (keys_gate rs rs' keys x) ∙ ap (shows account) (line_same (line_at x) refl)
    where
      line_same : (ks : List WaiterKey) → line_at x ≡ ks → line_of (changed_at rs k f) (map (number_of_key 0 rs) ks) ≡ line_of rs (map (number_of_key 0 rs) ks)
      line_same [] is = refl
      line_same (key ∷ ks) is =
          let rs' = changed_at rs k f in
          let line = lined.lines file x at in
          let first : slice_get (line_at x) 0 ≡ Some key = ap (λ l. slice_get l 0) is in
          let named = line.named 0 key first in
          let number = number_named opens rs lined named.0 named.1 key named.2 named.3 in
          let apart : named.0 ≢ k = λ same.
          let it : named.1 ≡ r = same_Some named.1 r (sym named.2 ∙ ap (slice_get rs) same ∙ there) in
          other (sym (line.durable 0 key named.0 named.1 first named.2 named.3).1 ∙ ap (λ y. y.shown.operation.target) it) in
          let now : slice_get rs' named.0 ≡ Some named.1 = marked f rs k named.0 named.1 named.2 ∙ ap (λ b. Some (mark_if f b named.1)) (not_same k named.0 (λ e. apart (sym e))) in
          let given : has_given_up (slice_get rs' (number_of_key 0 rs key)) ≡ has_given_up (slice_get rs (number_of_key 0 rs key)) =
          ap (λ n. has_given_up (slice_get rs' n)) number ∙ ap has_given_up (now ∙ sym named.2) ∙ sym (ap (λ n. has_given_up (slice_get rs n)) number) in
          ap (λ b. if b then map (number_of_key 0 rs) ks else number_of_key 0 rs key ∷ map (number_of_key 0 rs) ks) given

  pub permit_gone : (o : OpenState) → slice_get opens r.shown.operation.target ≡ Some o
      → map (open_seen (changed_at rs k f)) opens ≡ slice_set (map (open_seen rs) opens) r.shown.operation.target (passed_on (open_seen rs o))
  permit_gone o at =
      map_but (open_seen rs) (open_seen (changed_at rs k f)) opens r.shown.operation.target o at elsewhere ∙ ap (slice_set (map (open_seen rs) opens) r.shown.operation.target) (at_its o at)

-- ANY REQUEST is over

-- what the machine makes of the opens then
abbrev pub opens_after : List Open → Operation → Outcome → List Open
opens_after os o outcome = if is_of_file o.kind then slice_set os o.target (open_after_end o.target o outcome (slice_index_or os o.target no_open)) else os

module _ (rs : List Record) (k : ℕ) (r : Record) (f : Record → Record) (there : slice_get rs k ≡ Some r) (opens opens' : List OpenState) (outcome : Outcome) (lined : AreLinedUp opens rs) (keys : map key_for (changed_at rs k f) ≡ map key_for rs) (open_still : is_resolved r.shown.phase ≡ false)
    (over : is_durable r.shown.operation.kind ≡ true → gives_up (f r) ≡ true) (name : is_durable r.shown.operation.kind ≡ false → name_in (f r) ≡ name_in r)
    (holds : is_durable r.shown.operation.kind ≡ true → (o : OpenState) → slice_get opens r.shown.operation.target ≡ Some o → o.holder ≡ Some (key_for r))
    (uncounted : is_of_file r.shown.operation.kind ≡ false → opens' ≡ opens) (counted : is_of_file r.shown.operation.kind ≡ true → IsCounted opens opens' r.shown.operation outcome) where
  names_same : is_durable r.shown.operation.kind ≡ false → map name_in (changed_at rs k f) ≡ map name_in rs
  names_same free = names_changed rs k r f there (name free)

  seen_of_file : (b : Bool) → is_durable r.shown.operation.kind ≡ b → is_of_file r.shown.operation.kind ≡ true
      → map (open_seen (changed_at rs k f)) opens' ≡ slice_set (map (open_seen rs) opens) r.shown.operation.target (open_after_end r.shown.operation.target r.shown.operation outcome (slice_index_or (map (open_seen rs) opens) r.shown.operation.target no_open))
  seen_of_file b is of =
      let o = r.shown.operation in
      let t = o.target in
      let rs' = changed_at rs k f in
      let os = map (open_seen rs) opens in
      let it = counted of in
      let a2 = account_told o outcome it.has.a in
      let o2 = with_its a2 it.has.o in
      let x = open_seen rs it.has.o in
      let found : slice_index_or os t no_open ≡ x = open_there rs opens t it.has.o it.has.there in
      let told : record x { account = a2 } ≡ record (slice_index_or os t no_open) { account = account_told o outcome (slice_index_or os t no_open).account } =
      sym (ap (λ (y : Open). record y { account = account_told o outcome y.account }) found ∙ ap (λ a. record x { account = account_told o outcome a }) (ap account_seen it.has.account)) in
      by b is it.has.o it.has.there a2 (ap (map (open_seen rs')) it.set ∙ map_set (open_seen rs') opens t o2) told
    where
      by : (b : Bool) → is_durable r.shown.operation.kind ≡ b → (ox : OpenState) → slice_get opens r.shown.operation.target ≡ Some ox → (a2 : Account)
          → map (open_seen (changed_at rs k f)) opens' ≡ slice_set (map (open_seen (changed_at rs k f)) opens) r.shown.operation.target (open_seen (changed_at rs k f) (with_its a2 ox))
          → record (open_seen rs ox) { account = a2 } ≡ record (slice_index_or (map (open_seen rs) opens) r.shown.operation.target no_open) { account = account_told r.shown.operation outcome (slice_index_or (map (open_seen rs) opens) r.shown.operation.target no_open).account }
          → map (open_seen (changed_at rs k f)) opens' ≡ slice_set (map (open_seen rs) opens) r.shown.operation.target (open_after_end r.shown.operation.target r.shown.operation outcome (slice_index_or (map (open_seen rs) opens) r.shown.operation.target no_open))
      by false free ox at a2 shape told =
          let o = r.shown.operation in
          let t = o.target in
          let rs' = changed_at rs k f in
          let os = map (open_seen rs) opens in
          let then_counted : Open = record (slice_index_or os t no_open) { account = account_told o outcome (slice_index_or os t no_open).account } in
          shape
          ∙ ap (λ xs. slice_set xs t (open_seen rs' (with_its a2 ox))) (same_opens rs rs' (names_same free) opens)
          ∙ ap (slice_set os t) (same_open rs rs' (names_same free) (with_its a2 ox))
          ∙ ap (slice_set os t) told
          ∙ ap (λ b. slice_set os t (if b then passed_on then_counted else then_counted)) (sym free)
      by true durable ox at a2 shape told =
          let o = r.shown.operation in
          let t = o.target in
          let rs' = changed_at rs k f in
          let os = map (open_seen rs) opens in
          let then_counted : Open = record (slice_index_or os t no_open) { account = account_told o outcome (slice_index_or os t no_open).account } in
          let gone = permit_gone rs k r f there opens lined keys open_still (over durable) durable (holds durable) ox at in
          let its : open_seen rs' (with_its a2 ox) ≡ passed_on (record (open_seen rs ox) { account = a2 }) =
          ap (λ (y : Open). record y { account = a2 }) (at_its rs k r f there opens lined keys open_still (over durable) durable (holds durable) ox at) in
          shape
          ∙ ap (λ xs. slice_set xs t (open_seen rs' (with_its a2 ox))) gone
          ∙ set_twice os t (passed_on (open_seen rs ox)) (open_seen rs' (with_its a2 ox))
          ∙ ap (slice_set os t) (its ∙ ap passed_on told)
          ∙ ap (λ b. slice_set os t (if b then passed_on then_counted else then_counted)) (sym durable)

  pub opens_ended : map (open_seen (changed_at rs k f)) opens' ≡ opens_after (map (open_seen rs) opens) r.shown.operation outcome
  opens_ended = grind (arith, false≢true, durable_of_file, same_opens, names_same, seen_of_file)
