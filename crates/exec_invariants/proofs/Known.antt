-- What a worker's records say that its driver has forgotten stays so, as requests go on and end.
use Rattle.exec_invariants.{proofs.{Names.{◌≡◌, ℕ, ◌+◌, ◌<◌, ◌≤◌, ◌^◌, length, arith, Bool, true, false, List, Some, IsSome, refl, sym, ap, subst, ◌∙◌, slice_get, ◌⊎◌, inl, inr, eq-eqb, Slab, IsPast, value_at, written, Id, past-write, cursor_of, waiter_at, Entry, Pending, Waiter, entry_of, OpenState, OneChanged, one_written, Reply, Record, number_in, changed_at, by_name}, Marking.{mark_if, marked, marked_length, was_marked}}, specs.Gates.{IsKnown, has_hint_at, may_ask_hint}}

-- A request asks for its hint as before: its driver knows of it, and the record.
pub record AsksAsBefore (it it' : Waiter Reply Reply) (r r' : Record) : Type 0 where
  pub driver : (cursor_of it'.request).hinted ≡ false → ((cursor_of it.request).hinted ≡ false) ⊎ (r'.shown.operation.unrefused ≡ false)
  pub kind : r'.shown.operation.kind ≡ r.shown.operation.kind
  pub target : r'.shown.operation.target ≡ r.shown.operation.target
  pub unrefused : r'.shown.operation.unrefused ≡ true → r.shown.operation.unrefused ≡ true

-- who is there then was there
pub record WasThere (numbers : List ℕ) (requests : Slab (Entry Reply Reply)) (rs : List Record) (id : Id) (it' : Waiter Reply Reply) (r' : Record) : Type 0 where
  pub it : Waiter Reply Reply
  pub r : Record
  pub live : waiter_at requests id ≡ Some it
  pub there : slice_get rs (number_in numbers id) ≡ Some r
  pub asks : AsksAsBefore it it' r r'

-- Names that are past stay so, and each request asks as before, or its open has no hint.
pub known_on : (i : ℕ) (numbers numbers' : List ℕ) (requests requests' : Slab (Entry Reply Reply)) (opens opens' : List OpenState) (rs rs' : List Record)
    → ((id : Id) → id.generation < 2 ^ 64 → IsPast requests id → IsPast requests' id) → ((id : Id) → IsPast requests' id → IsPast requests id) → length rs' ≡ length rs
    → ((k : ℕ) (r' : Record) → slice_get rs' k ≡ Some r' → r'.shown.worker ≡ i → (r : Record) × (slice_get rs k ≡ Some r) × (r.shown.worker ≡ i) × (r'.id ≡ r.id))
    → ((file : ℕ) → has_hint_at opens file ≡ false → has_hint_at opens' file ≡ false)
    → ((id : Id) (it' : Waiter Reply Reply) (r' : Record) → waiter_at requests' id ≡ Some it' → slice_get rs' (number_in numbers' id) ≡ Some r' → WasThere numbers requests rs id it' r' ⊎ (has_hint_at opens' r'.shown.operation.target ≡ false))
    → IsKnown i numbers requests opens rs → IsKnown i numbers' requests' opens' rs'
known_on i numbers numbers' requests requests' opens opens' rs rs' past back many was hints asks known =
    record {
      past = grind arith;
      counted = λ id past. subst (λ n. id.generation < n) (sym many) (known.counted id (back id past));
      few = subst (λ n. n ≤ 2 ^ 32) (sym many) known.few;
      hints = λ id it' r' live there may unrefused none. by id it' r' may unrefused none (asks id it' r' live there);
    }
  where
    lost : (id : Id) (it' : Waiter Reply Reply) (r' : Record) (old : WasThere numbers requests rs id it' r') → may_ask_hint r'.shown.operation.kind ≡ true → r'.shown.operation.unrefused ≡ true
        → ((cursor_of old.it.request).hinted ≡ false) ⊎ (r'.shown.operation.unrefused ≡ false) → has_hint_at opens' r'.shown.operation.target ≡ false
    lost = grind arith

    by : (id : Id) (it' : Waiter Reply Reply) (r' : Record) → may_ask_hint r'.shown.operation.kind ≡ true → r'.shown.operation.unrefused ≡ true → (cursor_of it'.request).hinted ≡ false
        → WasThere numbers requests rs id it' r' ⊎ (has_hint_at opens' r'.shown.operation.target ≡ false) → has_hint_at opens' r'.shown.operation.target ≡ false
    by id it' r' may unrefused none (inl old) = lost id it' r' old may unrefused (old.asks.driver none)
    by id it' r' may unrefused none (inr gone) = gone

-- a name that is given has room for one more generation
pub low_there : (i : ℕ) (numbers : List ℕ) (requests : Slab (Entry Reply Reply)) (opens : List OpenState) (rs : List Record) → IsKnown i numbers requests opens rs → (id : Id) → IsSome (value_at requests id) → id.generation + 1 < 2 ^ 64
low_there = grind arith

-- ONE REQUEST GOES ON

-- what its record says of its hint stays, or is given up
pub record KeepsAsk (r r' : Record) : Type 0 where
  pub id : r'.id ≡ r.id
  pub worker : r'.shown.worker ≡ r.shown.worker
  pub kind : r'.shown.operation.kind ≡ r.shown.operation.kind
  pub target : r'.shown.operation.target ≡ r.shown.operation.target
  pub unrefused : r'.shown.operation.unrefused ≡ true → r.shown.operation.unrefused ≡ true

keeps_if : (f : Record → Record) → ((y : Record) → KeepsAsk y (f y)) → (b : Bool) (y : Record) → KeepsAsk y (mark_if f b y)
keeps_if f keeps true y = keeps y
keeps_if f keeps false y = record { id = refl; worker = refl; kind = refl; target = refl; unrefused = λ h. h }

module _ (i : ℕ) (numbers : List ℕ) (requests : Slab (Entry Reply Reply)) (opens opens' : List OpenState) (rs : List Record) (k : ℕ) (f : Record → Record) (keeps : (y : Record) → KeepsAsk y (f y)) (hints : (file : ℕ) → has_hint_at opens file ≡ false → has_hint_at opens' file ≡ false) where
  was_there : (j : ℕ) (r' : Record) → slice_get (changed_at rs k f) j ≡ Some r' → (r : Record) × (slice_get rs j ≡ Some r) × KeepsAsk r r'
  was_there = grind (arith, was_marked, keeps_if)

  mine_there : (j : ℕ) (r' : Record) → slice_get (changed_at rs k f) j ≡ Some r' → r'.shown.worker ≡ i → (r : Record) × (slice_get rs j ≡ Some r) × (r.shown.worker ≡ i) × (r'.id ≡ r.id)
  mine_there j r' there mine = let old = was_there j r' there in (old.0, old.1, sym old.2.worker ∙ mine, old.2.id)

  pub known_marked : IsKnown i numbers requests opens rs → IsKnown i numbers requests opens' (changed_at rs k f)
  known_marked known =
      known_on i numbers numbers requests requests opens opens' rs (changed_at rs k f) (λ id small past. past) (λ id past. past) (marked_length f rs k) mine_there hints
      (λ id it r' live there.
      let old = was_there (number_in numbers id) r' there in
      inl (record { it = it; r = old.0; live = live; there = old.1; asks = record { driver = λ h. inl h; kind = old.2.kind; target = old.2.target; unrefused = old.2.unrefused } }))
      known

  -- and what its driver has of it
  pub known_written : (id : Id) (it it' : Waiter Reply Reply) (r : Record) → k ≡ number_in numbers id → waiter_at requests id ≡ Some it → slice_get rs k ≡ Some r
      → ((cursor_of it'.request).hinted ≡ false → ((cursor_of it.request).hinted ≡ false) ⊎ ((f r).shown.operation.unrefused ≡ false)) ⊎ (has_hint_at opens' (f r).shown.operation.target ≡ false)
      → IsKnown i numbers requests opens rs → IsKnown i numbers (written requests id (Pending it')) opens' (changed_at rs k f)
  known_written id it it' r number live there asks known =
      let some : IsSome (value_at requests id) = rw (entry_of (value_at requests id) it live) refl in
      let changed : OneChanged requests (written requests id (Pending it')) id (Some it) (Some it') = one_written requests id (Pending it) (Pending it') (entry_of (value_at requests id) it live) in
      known_on i numbers numbers requests (written requests id (Pending it')) opens opens' rs (changed_at rs k f)
      (λ other small past. (past-write requests id (Pending it') some other).1 past) (λ other past. (past-write requests id (Pending it') some other).0 past) (marked_length f rs k) mine_there hints
      (λ other x r' at found.
      let old = was_there (number_in numbers other) r' found in
      by_name other id
      (λ apart.
      let was : waiter_at requests other ≡ Some x = sym (changed.others other apart) ∙ at in
      inl (record { it = x; r = old.0; live = was; there = old.1; asks = record { driver = λ h. inl h; kind = old.2.kind; target = old.2.target; unrefused = old.2.unrefused } }))
      (λ same.
      let is : x ≡ it' = cc (at, same, changed.is_at) in
      let here : f r ≡ r' = cc (subst (λ j. slice_get (changed_at rs k f) j ≡ Some r') (ap (number_in numbers) same ∙ sym number) found, now_there rs k f r there) in
      let was : r ≡ old.0 = cc (there, old.1, number, ap (number_in numbers) same) in
      grind arith))
      known
    where
      now_there : (xs : List Record) (n : ℕ) (g : Record → Record) (y : Record) → slice_get xs n ≡ Some y → slice_get (changed_at xs n g) n ≡ Some (g y)
      now_there xs n g y at = marked g xs n n y at ∙ ap (λ b. Some (mark_if g b y)) (eq-eqb n n refl)
