-- How a change of one slot keeps a slab's layout, and what it does to the map and to the past ids.
use Rattle.std.proofs.{Common.{◌≡◌, ◌≢◌, ◌⊎◌, ◌↔◌, ℕ, ◌+◌, ◌-◌, ◌^◌, ◌<◌, ◌≤◌, zero, suc, List, [], ◌∷◌, ◌++◌, length, get_or, set, slice_get, All, Some, None, IsSome, Bool, true, false, ltb, count_by, cond, reverse, refl, sym, ap, subst, ◌∙◌, inl, inr, arith, length-set}, lemmas.{List.{get_or_default, get_or_past, get_or_push, get_or_append_left, get_or-set_same, get_or-set_other, reverse-append, Sums.sum_by-set}, Option.slice_get_cases, Bool.{false≢true, lt-ltb, le-ltb, cases_Bool, Decides.eqb_tells}}}
use Rattle.exec_base.specs.{declared.slab.{Id.Id, Slot.{Slot, TheVariants.{Live, Vacant, Retired}}}, Slab.{Slab, is_live, is_vacant, slot_at, value_at, value_in, generation_of, next_generation, next_index, freed, IsPast, TakesId, Updates, written}, SlabLayout.{Lacks, IsVacantAt, AreVacant, ListsAll, IsLaidOut}}

-- a comparison, with what it says
pub ltb_tells : (a b : ℕ) → ((ltb a b ≡ true) × (a < b)) ⊎ ((ltb a b ≡ false) × (b ≤ a))
ltb_tells = grind arith

-- an id is its slot and its generation
pub same_id : (a b : Id) → a.index ≡ b.index → a.generation ≡ b.generation → a ≡ b
same_id = grind arith

-- two ids name different slots, or different generations, or are one
pub id_cases : (a b : Id) → (a.index ≢ b.index) ⊎ (((a.index ≡ b.index) × (a.generation ≢ b.generation)) ⊎ (a ≡ b))
id_cases = grind arith

-- where a choice gives Some, it's what the choice holds
pub some_of_if : {A : Type 0} (b : Bool) (x y : A) → (cond b (Some x) None) ≡ Some y → x ≡ y
some_of_if true x y is = cc
some_of_if false x y is = absurd (cc)

-- the vacant slots before one is taken from the end
pub reverse_last : (xs ys : List ℕ) (x : ℕ) → xs ≡ ys ++ x ∷ [] → reverse xs ≡ x ∷ reverse ys
reverse_last xs ys x is = ap reverse is ∙ reverse-append ys (x ∷ [])

-- the last of the vacant slots, as it is read
pub split_last : (xs : List ℕ) (x j : ℕ) → j + 1 ≡ length xs → Some x ≡ slice_get xs j → (ys : List ℕ) × (xs ≡ ys ++ x ∷ [])
split_last [] x j count read = absurd (omega arith)
split_last (y ∷ []) x zero count read = let same : y ≡ x = cc in ([], ap (λ (n : ℕ). n ∷ []) same)
split_last (y ∷ z ∷ zs) x zero count read = absurd (omega arith)
split_last (y ∷ []) x (suc j) count read = absurd (omega arith)
split_last (y ∷ z ∷ zs) x (suc j) count read =
    let later = split_last (z ∷ zs) x j (omega arith) read in (y ∷ later.0, ap (λ ys. y ∷ ys) later.1)

-- a list without a last number is empty
pub no_last : (xs : List ℕ) → slice_get xs (length xs - 1) ≡ None → xs ≡ []
no_last [] is = refl
no_last (x ∷ xs) is =
    elim (slice_get_cases (x ∷ xs) (length (x ∷ xs) - 1)).1 [ inl found ↦ absurd (cc (is, found.2)) | inr past ↦ absurd (omega (arith, past.0)) ]

module _ {T : Type 0} where
  -- a vacant slot is there
  pub vacant_within : (slots : List (Slot T)) (i g : ℕ) → get_or slots i Retired ≡ Vacant g → i < length slots
  vacant_within [] i g is = absurd (cc)
  vacant_within (slot ∷ rest) zero g is = omega arith
  vacant_within (slot ∷ rest) (suc i) g is = omega (arith, vacant_within rest i g is)

  -- and so is a live one
  pub live_within : (slots : List (Slot T)) (i g : ℕ) (v : T) → get_or slots i Retired ≡ Live g v → i < length slots
  live_within [] i g v is = absurd (cc)
  live_within (slot ∷ rest) zero g v is = omega arith
  live_within (slot ∷ rest) (suc i) g v is = omega (arith, live_within rest i g v is)

  -- a slot that is set to another value leaves the other vacant ones
  pub AreVacant-set : (slots : List (Slot T)) (vacant : List ℕ) (i : ℕ) (slot : Slot T) → Lacks vacant i → AreVacant slots vacant → AreVacant (set slots i slot) vacant
  AreVacant-set slots [] i slot lacks are = tt
  AreVacant-set slots (j ∷ rest) i slot lacks are = grind (arith, get_or-set_other, AreVacant-set slots rest i slot lacks.1 are.2)

  -- and so does one more slot
  pub AreVacant-push : (slots : List (Slot T)) (vacant : List ℕ) (slot : Slot T) → AreVacant slots vacant → AreVacant (slots ++ slot ∷ []) vacant
  AreVacant-push slots [] slot are = tt
  AreVacant-push slots (j ∷ rest) slot are = grind (arith, get_or_append_left, vacant_within, AreVacant-push slots rest slot are.2)

  pub get_or-push_other : (slots : List (Slot T)) (slot d : Slot T) (j : ℕ) → j ≢ length slots → get_or (slots ++ slot ∷ []) j d ≡ get_or slots j d
  get_or-push_other [] slot d zero other = absurd (other refl)
  get_or-push_other [] slot d (suc j) other = refl
  get_or-push_other (s ∷ slots) slot d zero other = refl
  get_or-push_other (s ∷ slots) slot d (suc j) other = get_or-push_other slots slot d j (λ same. other (ap suc same))

  -- a slot that gets a value is vacant no more
  pub ListsAll-fill : (slots : List (Slot T)) (rest : List ℕ) (i : ℕ) (slot : Slot T) → i < length slots → is_vacant slot ≡ false → ListsAll slots (i ∷ rest) → ListsAll (set slots i slot) rest
  ListsAll-fill = grind (arith, eqb_tells, false≢true, get_or-set_same, get_or-set_other)

  -- one that holds or takes no value stays so
  pub ListsAll-keep : (slots : List (Slot T)) (vacant : List ℕ) (i : ℕ) (slot : Slot T) → i < length slots → is_vacant slot ≡ false → ListsAll slots vacant → ListsAll (set slots i slot) vacant
  ListsAll-keep = grind (arith, eqb_tells, false≢true, get_or-set_same, get_or-set_other)

  -- one that loses its value is listed
  pub ListsAll-free : (slots : List (Slot T)) (vacant : List ℕ) (i : ℕ) (slot : Slot T) → ListsAll slots vacant → ListsAll (set slots i slot) (i ∷ vacant)
  ListsAll-free slots vacant i slot all = λ j is.
      elim (eqb_tells j i) [ inl e ↦ inl (sym e.1) | inr e ↦ inr (all j (rw (get_or-set_other slots i j slot Retired e.1) at is)) ]

  -- a new slot has a value
  pub ListsAll-push : (slots : List (Slot T)) (vacant : List ℕ) (slot : Slot T) → is_vacant slot ≡ false → ListsAll slots vacant → ListsAll (slots ++ slot ∷ []) vacant
  ListsAll-push = grind (arith, eqb_tells, false≢true, get_or_push, get_or-push_other)

  -- where no slot is listed none is vacant, and the other way round
  pub none-vacant : (slots : List (Slot T)) → ListsAll slots [] → All (λ slot. is_vacant slot ≡ false) slots
  none-vacant = grind (arith, cases_Bool, get_or_default)

  -- a live slot isn't among the vacant ones
  pub Lacks-live : (slots : List (Slot T)) (vacant : List ℕ) (i g : ℕ) (v : T) → get_or slots i Retired ≡ Live g v → AreVacant slots vacant → Lacks vacant i
  Lacks-live slots [] i g v live are = tt
  Lacks-live slots (j ∷ rest) i g v live are = grind (arith, Lacks-live slots rest i g v live are.2)

  -- how a write changes the count of values
  pub count-set : (slots : List (Slot T)) (i : ℕ) (slot : Slot T) → i < length slots → count_by is_live (set slots i slot) + cond (is_live (get_or slots i Retired)) 1 0 ≡ count_by is_live slots + cond (is_live slot) 1 0
  count-set slots i slot within = sum_by-set (λ o. cond (is_live o) 1 0) slots i slot Retired within

  -- the slot of a live id
  pub record IsLiveAt (slots : List (Slot T)) (i g : ℕ) : Type 0 where
    pub value : T
    pub is : get_or slots i Retired ≡ Live g value

  pub IsLiveAt-from_value : (slots : List (Slot T)) (i g first : ℕ) → IsSome (value_in (get_or slots i (Vacant first)) g) → IsLiveAt slots i g
  IsLiveAt-from_value [] i g first some = absurd (false≢true some)
  IsLiveAt-from_value (Live h v ∷ rest) zero g first some =
      elim (eqb_tells h g) [ inl e ↦ record { value = v; is = ap (λ (n : ℕ). Live n v) e.1 } | inr e ↦ absurd (false≢true (rw e.0 at some)) ]
  IsLiveAt-from_value (Vacant h ∷ rest) zero g first some = absurd (false≢true some)
  IsLiveAt-from_value (Retired ∷ rest) zero g first some = absurd (false≢true some)
  IsLiveAt-from_value (slot ∷ rest) (suc i) g first some =
      let later = IsLiveAt-from_value rest i g first some in record { value = later.value; is = later.is }

  -- a live slot gets another value
  pub IsLaidOut-write : (slots : List (Slot T)) (vacant : List ℕ) (len memory i g h : ℕ) (w : T) → IsLiveAt slots i g → IsLaidOut slots vacant len memory → IsLaidOut (set slots i (Live h w)) vacant len memory
  IsLaidOut-write = grind (arith, live_within, count-set, AreVacant-set, Lacks-live, ListsAll-keep, length-set)

  -- what is read at a live slot
  pub read_live : (slots : List (Slot T)) (i g : ℕ) (x : Slot T) → (live : IsLiveAt slots i g) → x ≡ get_or slots i x → x ≡ Live g live.value
  read_live slots i g x live read = read ∙ get_or_default slots i x Retired (live_within slots i g live.value live.is) ∙ live.is

  pub read_vacant : (slots : List (Slot T)) (i : ℕ) (x : Slot T) → (vacant : IsVacantAt slots i) → x ≡ get_or slots i x → x ≡ Vacant vacant.generation
  read_vacant slots i x vacant read = read ∙ get_or_default slots i x Retired (vacant_within slots i vacant.generation vacant.is) ∙ vacant.is

  -- a live slot is freed, and is vacant or retired then
  pub IsLaidOut-free : (slots : List (Slot T)) (vacant : List ℕ) (len memory i g : ℕ) → g + 1 < 2 ^ 64 → IsLiveAt slots i g → IsLaidOut slots vacant len memory → IsLaidOut (set slots i (freed g)) (i ∷ vacant) (len - 1) memory
  IsLaidOut-free slots vacant len memory i g fits live laid =
      let within = live_within slots i g live.value live.is in
      let count = rw live.is at (count-set slots i (Vacant (g + 1)) within) in
      let lacks = Lacks-live slots vacant i g live.value live.is laid.vacant_ones in
      rw (lt-ltb (g + 1) (2 ^ 64) fits) (record {
        counted = omega (arith, laid.counted);
        vacant_ones = (
          record { generation = g + 1; is = get_or-set_same slots i (Vacant (g + 1)) Retired within },
          lacks,
          AreVacant-set slots vacant i (Vacant (g + 1)) lacks laid.vacant_ones,
        );
        all_listed = ListsAll-free slots vacant i (Vacant (g + 1)) laid.all_listed;
        few = rw length-set laid.few;
        enough = rw length-set laid.enough;
        within = rw length-set (omega (arith, laid.within, laid.counted));
      })

  pub IsLaidOut-retire : (slots : List (Slot T)) (vacant : List ℕ) (len memory i g : ℕ) → 2 ^ 64 ≤ g + 1 → IsLiveAt slots i g → IsLaidOut slots vacant len memory → IsLaidOut (set slots i (freed g)) vacant (len - 1) memory
  IsLaidOut-retire = grind (arith, live_within, count-set, le-ltb, AreVacant-set, Lacks-live, ListsAll-keep, length-set)

  -- the first vacant slot gets a value
  pub IsLaidOut-fill : (slots : List (Slot T)) (vacant : List ℕ) (len memory i g : ℕ) (v : T) → IsLaidOut slots (i ∷ vacant) len memory → IsLaidOut (set slots i (Live g v)) vacant (len + 1) memory
  IsLaidOut-fill = grind (arith, vacant_within, count-set, AreVacant-set, ListsAll-fill, length-set)

  -- one slot became another, and the others stayed
  pub record Changed (old new : Slab T) (i : ℕ) (slot : Slot T) : Type 0 where
    pub here : slot_at new i ≡ slot
    pub there : (j : ℕ) → j ≢ i → slot_at new j ≡ slot_at old j

  pub Changed-set : (old new : Slab T) (i : ℕ) (slot : Slot T) → new.first ≡ old.first → new.slots ≡ set old.slots i slot → i < length old.slots → Changed old new i slot
  Changed-set old new i slot first slots within =
      rw (first, slots) (record { here = get_or-set_same old.slots i slot (Vacant old.first) within; there = λ j other. get_or-set_other old.slots i j slot (Vacant old.first) other })

  pub Changed-push : (old new : Slab T) (slot : Slot T) → new.first ≡ old.first → new.slots ≡ old.slots ++ slot ∷ [] → Changed old new (length old.slots) slot
  Changed-push = grind (arith, get_or_push, get_or-push_other)

  -- an insert changes the slot of the next id, which was vacant or not there
  pub record Fills (old new : Slab T) (id : Id) (v : T) : Type 0 where
    pub was : slot_at old id.index ≡ Vacant id.generation
    pub changed : Changed old new id.index (Live id.generation v)

  -- a vacant slot takes a value
  pub Updates-fill : (old new : Slab T) (id : Id) (v : T) → Fills old new id v → Updates old new id (Some v)
  Updates-fill = grind arith

  pub TakesId-fill : (old new : Slab T) (id : Id) (v : T) → Fills old new id v → TakesId old new id
  TakesId-fill = grind arith

  pub new-from_fill : (old new : Slab T) (id : Id) (v : T) → Fills old new id v → IsPast old id → ⊥
  new-from_fill old new id v fills past = let p = rw fills.was at past in omega arith

  -- a live slot loses its value
  pub Updates-free : (old new : Slab T) (id : Id) (v : T) → Changed old new id.index (freed id.generation) → slot_at old id.index ≡ Live id.generation v → Updates old new id None
  Updates-free = grind arith

  -- and as many ids are past
  pub past-free : (old new : Slab T) (id : Id) (v : T) → id.generation < 2 ^ 64 → Changed old new id.index (freed id.generation) → slot_at old id.index ≡ Live id.generation v → (other : Id) → IsPast new other ↔ IsPast old other
  past-free = grind arith

  -- the next id, where these slots are vacant
  abbrev pub NextIs : Slab T → List ℕ → Id → Type 0
  NextIs old vacant id =
      let index = next_index vacant (length old.slots) in
      cond (ltb index (2 ^ 32)) (Some (record { index = index; generation = generation_of (slot_at old index) })) None ≡ Some id

  pub Fills-push : (old new : Slab T) (id : Id) (v : T) → NextIs old [] id → new.first ≡ old.first → new.slots ≡ old.slots ++ Live id.generation v ∷ [] → Fills old new id v
  Fills-push old new id v next first slots =
      let past = get_or_past old.slots (length old.slots) (Vacant old.first) (omega arith) in
      let is = rw past at (some_of_if _ _ _ next) in
      let to = rw (← is) at slots in
      rw (← is) (record { was = past; changed = Changed-push old new (Live old.first v) first to })

  pub Fills-set : (old new : Slab T) (i : ℕ) (rest : List ℕ) (id : Id) (v : T) → NextIs old (i ∷ rest) id → IsVacantAt old.slots i → new.first ≡ old.first → new.slots ≡ set old.slots i (Live id.generation v) → Fills old new id v
  Fills-set old new i rest id v next vacant first slots =
      let within = vacant_within old.slots i vacant.generation vacant.is in
      let here = get_or_default old.slots i (Vacant old.first) Retired within ∙ vacant.is in
      let is = rw here at (some_of_if _ _ _ next) in
      let to = rw (← is) at slots in
      rw (← is) (record { was = here; changed = Changed-set old new i (Live vacant.generation v) first to within })

  -- a write changes the slot of a live id
  pub Changed-write : (s : Slab T) (id : Id) (v : T) → IsSome (value_at s id) → Changed s (written s id v) id.index (Live id.generation v)
  Changed-write s id v some =
      let live = IsLiveAt-from_value s.slots id.index id.generation s.first some in
      Changed-set s (written s id v) id.index (Live id.generation v) refl refl (live_within s.slots id.index id.generation live.value live.is)

  pub was_live : (s : Slab T) (id : Id) → IsSome (value_at s id) → (v : T) × (slot_at s id.index ≡ Live id.generation v)
  was_live = grind arith

  pub Updates-write : (s : Slab T) (id : Id) (v : T) → IsSome (value_at s id) → Updates s (written s id v) id (Some v)
  Updates-write s id v some =
      let changed = Changed-write s id v some in
      let was = (was_live s id some).1 in
      grind arith

  pub past-write : (s : Slab T) (id : Id) (v : T) → IsSome (value_at s id) → (other : Id) → IsPast (written s id v) other ↔ IsPast s other
  past-write s id v some other =
      let P : ℕ → Type 0 = λ n. other.generation < n in
      let same = next-write s id v (Changed-write s id v some) (was_live s id some).0 (was_live s id some).1 other in
      (subst P same, subst P (sym same))
    where
      next-write : (s : Slab T) (id : Id) (v : T) → Changed s (written s id v) id.index (Live id.generation v) → (old : T) → slot_at s id.index ≡ Live id.generation old → (other : Id) → next_generation (slot_at (written s id v) other.index) ≡ next_generation (slot_at s other.index)
      next-write = grind arith
