-- A slot that takes a value, a list with one more at its end, and the number of what took the slot.
use Rattle.exec_invariants.proofs.Words.{◌≡◌, ◌≢◌, ◌⊎◌, ℕ, zero, suc, ◌+◌, ◌<◌, ◌≤◌, Bool, true, false, cond, count_by, List, [], ◌∷◌, ◌++◌, length, Option, Some, None, IsSome, refl, sym, ap, subst, ◌∙◌, arith, inl, inr, is_some, slice_get, slice_index_or, slice_set, false≢true, eq-eqb, eqb_tells, get_or_past, length-append, length-set, set_past, list_any-append, sum_by-set, sum_by_push, get_or_from_slice_get, unwrap_or-slice_get, AllByRecursion, unwrap_or, Slab, slot_at, value_at, value_in, generation_of, next_generation, filled, inserted, next_id, IsPast, TakesId, Id, Slot, Live, Vacant, Retired, Changed, Changed-push, Changed-set, NextIs, id_cases, ltb_tells, some_of_if, WaiterId, Driving, is_among, is_same, Reply, Record, number_in, AreKnown, same_self, or_right, or_left}

-- LISTS

module _ {A : Type 0} where
  pub got_old : (xs : List A) (y x : A) (k : ℕ) → slice_get xs k ≡ Some x → slice_get (xs ++ y ∷ []) k ≡ Some x
  got_old [] y x k there = absurd (cc)
  got_old (z ∷ xs) y x zero there = there
  got_old (z ∷ xs) y x (suc k) there = got_old xs y x k there

  pub got_new : (xs : List A) (y : A) → slice_get (xs ++ y ∷ []) (length xs) ≡ Some y
  got_new [] y = refl
  got_new (z ∷ xs) y = got_new xs y

  pub was_got : (xs : List A) (y x : A) (k : ℕ) → slice_get (xs ++ y ∷ []) k ≡ Some x → (slice_get xs k ≡ Some x) ⊎ ((k ≡ length xs) × (y ≡ x))
  was_got [] y x zero there = inr (refl, cc)
  was_got [] y x (suc k) there = absurd (cc)
  was_got (z ∷ xs) y x zero there = inl there
  was_got (z ∷ xs) y x (suc k) there = elim (was_got xs y x k there) [ inl old ↦ inl old | inr last ↦ inr (ap suc last.0, last.1) ]

-- the enrolments, with one more where that has a deadline
abbrev pub enrolled_if : Option ℕ → WaiterId → List WaiterId → List WaiterId
enrolled_if None id ids = ids
enrolled_if (Some deadline) id ids = ids ++ id ∷ []

-- one that comes is among them, and those that were are still
pub among_before : (x id : WaiterId) (o : Option ℕ) (ids : List WaiterId) → is_among x ids ≡ true → is_among x (enrolled_if o id ids) ≡ true
among_before x id None ids h = h
among_before x id (Some m) ids h = list_any-append (λ other. is_same other x) ids (id ∷ []) ∙ or_left (is_among x ids) (is_among x (id ∷ [])) h

pub among_now : (id : WaiterId) (o : Option ℕ) (ids : List WaiterId) → is_some o ≡ true → is_among id (enrolled_if o id ids) ≡ true
among_now id None ids h = absurd (false≢true h)
among_now id (Some m) ids h =
    list_any-append (λ other. is_same other id) ids (id ∷ [])
    ∙ or_right (is_among id ids) (is_among id (id ∷ [])) (or_left (is_same id id) false (same_self id))

pub all_listed : (d : Driving Reply Reply) (ids : List WaiterId) → ((x : WaiterId) → is_among x ids ≡ true → IsSome (value_at d.requests x.0)) → AllByRecursion (λ e. IsSome (value_at d.requests e.0)) ids
all_listed d [] h = tt
all_listed d (x ∷ ids) h = (h x (or_left (is_same x x) (is_among x ids) (same_self x)), all_listed d ids (λ y among. h y (or_right (is_same x y) (is_among y ids) among)))

pub known_more : (ks : List ℕ) (rs : List Record) (r : Record) → AreKnown ks rs → AreKnown ks (rs ++ r ∷ [])
known_more [] rs r known = tt
known_more (k ∷ ks) rs r known = (omega (arith, known.0, length-append rs (r ∷ [])), known_more ks rs r known.1)

-- NUMBERS

module _ (numbers numbers' : List ℕ) (id : Id) (k : ℕ) (here : slice_get numbers' id.index ≡ Some k) (others : (j : ℕ) → j ≢ id.index → slice_get numbers' j ≡ slice_get numbers j) where
  pub number_new : number_in numbers' id ≡ k
  number_new = get_or_from_slice_get numbers' id.index k 0 here

  pub number_old : (other : Id) → other.index ≢ id.index → number_in numbers' other ≡ number_in numbers other
  number_old other apart =
      sym (unwrap_or-slice_get numbers' other.index 0) ∙ ap (λ o. unwrap_or o 0) (others other.index apart) ∙ unwrap_or-slice_get numbers other.index 0

nothing_if : (b : Bool) (m : ℕ) → b ≡ false → m + cond b 1 0 ≡ m
nothing_if true m h = absurd (false≢true (sym h))
nothing_if false m h = omega arith

-- SLABS

module _ {T : Type 0} where
  -- the slot had nothing, and has the value of this name now
  pub record Takes (s s' : Slab T) (id : Id) (v : T) : Type 0 where
    pub empty : (g : ℕ) → value_in (slot_at s id.index) g ≡ None
    pub unused : next_generation (slot_at s id.index) ≤ id.generation
    pub changed : Changed s s' id.index (Live id.generation v)
    pub within : id.index ≤ length s.slots
    pub longer : (length s'.slots ≡ length s.slots) ⊎ (length s'.slots ≡ id.index + 1)
    pub counts : (q : Slot T → Bool) → ((g : ℕ) → q (Vacant g) ≡ false) → q Retired ≡ false → count_by q s'.slots ≡ count_by q s.slots + cond (q (Live id.generation v)) 1 0

  empty_in : (slot : Slot T) → (generation_of slot < next_generation slot → ⊥) → (g : ℕ) → value_in slot g ≡ None
  empty_in (Live h v) new g = absurd (new (omega arith))
  empty_in (Vacant h) new g = refl
  empty_in Retired new g = refl

  unused_in : (slot : Slot T) → (generation_of slot < next_generation slot → ⊥) → next_generation slot ≤ generation_of slot
  unused_in (Live h v) new = absurd (new (omega arith))
  unused_in (Vacant h) new = omega arith
  unused_in Retired new = omega arith

  uncounted : (q : Slot T → Bool) → ((g : ℕ) → q (Vacant g) ≡ false) → q Retired ≡ false → (slot : Slot T) → (generation_of slot < next_generation slot → ⊥) → q slot ≡ false
  uncounted q vacant retired (Live h v) new = absurd (new (omega arith))
  uncounted q vacant retired (Vacant h) new = vacant h
  uncounted q vacant retired Retired new = retired

  -- a name that became past is of a slot that is there
  pub slot_there : (s s' : Slab T) (id : Id) → s'.first ≡ s.first → (length s.slots ≤ id.index → s'.slots ≡ s.slots) → (IsPast s id → ⊥) → IsPast s' id → id.index < length s.slots
  slot_there s s' id first same new past =
      elim (ltb_tells id.index (length s.slots)) [
        | inl within ↦ within.1
        | inr beyond ↦
            let slot : slot_at s' id.index ≡ slot_at s id.index =
            ap (λ xs. slice_index_or xs id.index (Vacant s'.first)) (same beyond.1) ∙ ap (λ n. slice_index_or s.slots id.index (Vacant n)) first in
            absurd (new (subst (λ o. id.generation < next_generation o) slot past))
      ]

  pub takes : (s : Slab T) (vacant : List ℕ) (v : T) (id : Id) → NextIs s vacant id → (IsPast s id → ⊥) → ((i : ℕ) (rest : List ℕ) → vacant ≡ i ∷ rest → i < length s.slots) → Takes s (filled s vacant v) id v
  takes s [] v id next new reach =
      let past = get_or_past s.slots (length s.slots) (Vacant s.first) (omega arith) in
      let named = rw past at (some_of_if _ _ _ next) in
      rw (← named) (record {
        empty = λ g. ap (λ o. value_in o g) past;
        unused = let is : next_generation (slot_at s (length s.slots)) ≡ s.first = ap next_generation past in omega (arith, is);
        changed = Changed-push s (filled s [] v) (Live s.first v) refl refl;
        within = omega arith;
        longer = inr (length-append s.slots (Live s.first v ∷ []));
        counts = λ q vacant retired. sum_by_push (λ o. cond (q o) 1 0) s.slots (Live s.first v);
      })
  takes s (i ∷ rest) v id next new reach =
      let within = reach i rest refl in
      let named = some_of_if _ _ _ next in
      let unused : generation_of (slot_at s i) < next_generation (slot_at s i) → ⊥ = rw (← named) at new in
      rw (← named) (record {
        empty = empty_in (slot_at s i) unused;
        unused = unused_in (slot_at s i) unused;
        changed = Changed-set s (filled s (i ∷ rest) v) i (Live (generation_of (slot_at s i)) v) refl refl within;
        within = omega (arith, within);
        longer = inl (length-set s.slots i (Live (generation_of (slot_at s i)) v));
        counts = λ q vacant retired.
            let moved : count_by q (slice_set s.slots i (Live (generation_of (slot_at s i)) v)) + cond (q (slot_at s i)) 1 0 ≡ count_by q s.slots + cond (q (Live (generation_of (slot_at s i)) v)) 1 0 =
            sum_by-set (λ o. cond (q o) 1 0) s.slots i (Live (generation_of (slot_at s i)) v) (Vacant s.first) within in
            omega (arith, moved, nothing_if (q (slot_at s i)) (count_by q (slice_set s.slots i (Live (generation_of (slot_at s i)) v))) (uncounted q vacant retired (slot_at s i) unused));
      })

  filled_first : (s : Slab T) (vacant : List ℕ) (v : T) → (filled s vacant v).first ≡ s.first
  filled_first s [] v = refl
  filled_first s (i ∷ rest) v = refl

  -- by what became past in the end, where the slot may have changed since
  pub takes_by : (s s' : Slab T) (v : T) (id : Id) → NextIs s s.vacant id → (IsPast s id → ⊥) → s'.first ≡ s.first → ((i : ℕ) (rest : List ℕ) → s.vacant ≡ i ∷ rest → length s.slots ≤ i → s'.slots ≡ s.slots) → IsPast s' id → Takes s (filled s s.vacant v) id v
  takes_by s s' v id next new first same past =
      takes s s.vacant v id next new (λ i rest lists.
      let at : i ≡ id.index = ap (λ (x : Id). x.index) (some_of_if _ _ _ (subst (λ l. NextIs s l id) lists next)) in
      omega (arith, slot_there s s' id first (λ beyond. same i rest lists (omega (arith, beyond, at))) new past, at))

  pub takes_room : (s s' : Slab T) (id : Id) (v : T) (room : ℕ) → Takes s s' id v → Takes s (record s' { room = room }) id v
  takes_room s s' id v room t = record { empty = t.empty; unused = t.unused; changed = record { here = t.changed.here; there = t.changed.there }; within = t.within; longer = t.longer; counts = t.counts }

  pub takes_inserted : (s s' : Slab T) (v : T) (id : Id) → next_id s ≡ Some id → s' ≡ record (inserted s v) { room = s'.room } → (IsPast s id → ⊥) → TakesId s s' id → Takes s s' id v
  takes_inserted s s' v id next is new past =
      let first : s'.first ≡ s.first = ap (λ (x : Slab T). x.first) is ∙ filled_first s s.vacant v in
      let same : (i : ℕ) (rest : List ℕ) → s.vacant ≡ i ∷ rest → length s.slots ≤ i → s'.slots ≡ s.slots = λ i rest lists beyond.
      ap (λ (x : Slab T). x.slots) is ∙ ap (λ l. (filled s l v).slots) lists ∙ set_past s.slots i (Live (generation_of (slot_at s i)) v) beyond in
      subst (λ x. Takes s x id v) (sym is) (takes_room s (inserted s v) id v s'.room (takes_by s s' v id next new first same ((past.past id).1 (inr refl))))

  module _ (s s' : Slab T) (id : Id) (v : T) (t : Takes s s' id v) where
    pub value_new : value_at s' id ≡ Some v
    value_new = ap (λ o. value_in o id.generation) t.changed.here ∙ rw (eq-eqb id.generation id.generation refl) refl

    pub value_before : value_at s id ≡ None
    value_before = t.empty id.generation

    pub value_old : (other : Id) → other ≢ id → value_at s' other ≡ value_at s other
    value_old other apart =
        elim (id_cases other id) [
          | inl i ↦ ap (λ o. value_in o other.generation) (t.changed.there other.index i)
          | inr (inl e) ↦
              let now : value_in (Live id.generation v) other.generation ≡ None =
              elim (eqb_tells id.generation other.generation) [ inl same ↦ absurd (e.1 (sym same.1)) | inr differs ↦ rw differs.0 refl ] in
              ap (λ n. value_in (slot_at s' n) other.generation) e.0 ∙ ap (λ o. value_in o other.generation) t.changed.here ∙ now
              ∙ sym (ap (λ n. value_in (slot_at s n) other.generation) e.0 ∙ t.empty other.generation)
          | inr (inr same) ↦ absurd (apart same)
        ]

    -- what was there has another slot
    pub slot_apart : (other : Id) → IsSome (value_at s other) → other.index ≢ id.index
    slot_apart other some same = false≢true (ap (λ o. is_some o) (sym (ap (λ n. value_in (slot_at s n) other.generation) same ∙ t.empty other.generation)) ∙ some)

    pub name_apart : (other : Id) → IsSome (value_at s other) → other ≢ id
    name_apart other some same = slot_apart other some (ap (λ (x : Id). x.index) same)

    pub some_still : (other : Id) → IsSome (value_at s other) → IsSome (value_at s' other)
    some_still other some = rw (value_old other (name_apart other some)) some

    -- and what was past is so still
    pub past_still : (other : Id) → IsPast s other → IsPast s' other
    past_still other past =
        elim (eqb_tells other.index id.index) [
          | inr i ↦ subst (λ o. other.generation < next_generation o) (sym (t.changed.there other.index i.1)) past
          | inl i ↦
              let before : other.generation < next_generation (slot_at s id.index) = subst (λ n. other.generation < next_generation (slot_at s n)) i.1 past in
              let now : other.generation < next_generation (Live id.generation v) = omega (arith, before, t.unused) in
              subst (λ n. other.generation < next_generation (slot_at s' n)) (sym i.1) (subst (λ o. other.generation < next_generation o) (sym t.changed.here) now)
        ]
