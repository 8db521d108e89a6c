-- No id is given twice, over any calls on a slab.
use Rattle.std.proofs.{Common.{◌≡◌, ℕ, ◌+◌, ◌^◌, ◌<◌, List, [], ◌∷◌, length, set, if◌then◌else◌, Option, Some, None, is_some, Bool, true, false, ltb, refl, ap, subst, ◌∙◌, inl, inr, arith}, lemmas.List.{get_or_default, get_or_past, get_or-set_same}}
use Rattle.exec_base.{specs.{declared.slab.{Id.Id, Slot.{Slot, TheVariants.{Live, Vacant, Retired}}}, Slab.{Slab, slot_at, value_at, generation_of, next_id, inserted, filled, removed, freed, written, IsPast}, SlabLayout.{Lacks, AreVacant}, SlabRuns.{Change, Insert, Remove, Write, IsNew, NoneTwice, empty_from, insert_at, after, given_then, ids_given}}, proofs.Slots.{some_of_if, ltb_tells, vacant_within, AreVacant-set, Lacks-live, IsLiveAt-from_value, live_within, was_live, Changed, Changed-set, Changed-push, Changed-write, Fills, NextIs, TakesId-fill, new-from_fill, past-free, past-write}}

module _ {T : Type 0} where
  -- the generation of a slot is one of 64 bits
  abbrev pub HasGeneration : Slot T → Type 0
  HasGeneration (Live generation _) = generation < 2 ^ 64
  HasGeneration (Vacant generation) = generation < 2 ^ 64
  HasGeneration Retired = Unit {0}

  pub record IsSound (s : Slab T) : Type 0 where
    pub vacant_ones : AreVacant s.slots s.vacant
    pub generations : (j : ℕ) → HasGeneration (slot_at s j)

  generations-changed : (old new : Slab T) (i : ℕ) (slot : Slot T) → Changed old new i slot → HasGeneration slot → ((j : ℕ) → HasGeneration (slot_at old j)) → (j : ℕ) → HasGeneration (slot_at new j)
  generations-changed = grind arith

  -- an insert
  pub record Inserts (s new : Slab T) (id : Id) (v : T) : Type 0 where
    pub fills : Fills s new id v
    pub sound : IsSound new

  inserts : (s : Slab T) (vacant : List ℕ) (v : T) (id : Id) → s.vacant ≡ vacant → IsSound s → NextIs s vacant id → Inserts s (filled s vacant v) id v
  inserts s [] v id is sound next =
      let past = get_or_past s.slots (length s.slots) (Vacant s.first) (omega arith) in
      let named = rw past at (some_of_if _ _ _ next) in
      let changed = Changed-push s (filled s [] v) (Live s.first v) refl refl in
      let has : s.first < 2 ^ 64 = subst HasGeneration past (sound.generations (length s.slots)) in
      grind arith
  inserts s (i ∷ rest) v id is sound next =
      let are = rw is at sound.vacant_ones in
      let within = vacant_within s.slots i are.0.generation are.0.is in
      let here = get_or_default s.slots i (Vacant s.first) Retired within ∙ are.0.is in
      let named = rw here at (some_of_if _ _ _ next) in
      let live : Slot T = Live (generation_of (slot_at s i)) v in
      let same : live ≡ Live are.0.generation v = ap (λ (slot : Slot T). Live (generation_of slot) v) here in
      let changed = subst (λ (slot : Slot T). Changed s (filled s (i ∷ rest) v) i slot) same (Changed-set s (filled s (i ∷ rest) v) i live refl refl within) in
      let has : are.0.generation < 2 ^ 64 = subst HasGeneration here (sound.generations i) in
      rw (← named) (record {
        fills = record { was = here; changed = changed };
        sound = record {
          vacant_ones = AreVacant-set s.slots rest i live are.1 are.2;
          generations = generations-changed s (filled s (i ∷ rest) v) i (Live are.0.generation v) changed has sound.generations;
        };
      })

  -- what a call keeps: the slab is sound, and what is past stays so
  pub record Keeps (s new : Slab T) : Type 0 where
    pub sound : IsSound new
    pub past : (other : Id) → IsPast s other → IsPast new other

  keeps-same : (s : Slab T) → IsSound s → Keeps s s
  keeps-same s sound = record { sound = sound; past = λ other past. past }

  keeps-insert : (s : Slab T) (v : T) (o : Option Id) → next_id s ≡ o → IsSound s → Keeps s (insert_at s v o)
  keeps-insert s v None is sound = keeps-same s sound
  keeps-insert s v (Some id) is sound =
      let does = inserts s s.vacant v id refl sound is in
      record { sound = does.sound; past = λ other past. ((TakesId-fill s (inserted s v) id v does.fills).past other).1 (inl past) }

  has-freed : (_ : Option T) (g : ℕ) → HasGeneration (freed {T = T} g)
  has-freed _ g = elim (ltb_tells (g + 1) (2 ^ 64)) [ inl e ↦ rw e.0 e.1 | inr e ↦ rw e.0 tt ]

  vacant-freed : (slots : List (Slot T)) (vacant : List ℕ) (i g : ℕ) → i < length slots → Lacks vacant i → AreVacant slots vacant → AreVacant (set slots i (freed g)) (if ltb (g + 1) (2 ^ 64) then i ∷ vacant else vacant)
  vacant-freed slots vacant i g within lacks are =
      elim (ltb_tells (g + 1) (2 ^ 64)) [
        | inl e ↦ rw e.0 (
          record { generation = g + 1; is = get_or-set_same slots i (Vacant (g + 1)) Retired within },
          lacks,
          AreVacant-set slots vacant i (Vacant (g + 1)) lacks are,
        )
        | inr e ↦ rw e.0 (AreVacant-set slots vacant i Retired lacks are)
      ]

  keeps-remove : (s : Slab T) (id : Id) (b : Bool) → is_some (value_at s id) ≡ b → IsSound s → Keeps s (if b then removed s id else s)
  keeps-remove s id false is sound = keeps-same s sound
  keeps-remove s id true is sound =
      let live = IsLiveAt-from_value s.slots id.index id.generation s.first is in
      let within = live_within s.slots id.index id.generation live.value live.is in
      let was = was_live s id is in
      let fits : id.generation < 2 ^ 64 = subst HasGeneration was.1 (sound.generations id.index) in
      let changed = Changed-set s (removed s id) id.index (freed id.generation) refl refl within in
      let lacks = Lacks-live s.slots s.vacant id.index id.generation live.value live.is sound.vacant_ones in
      grind (arith, vacant-freed, generations-changed, has-freed, past-free)

  keeps-write : (s : Slab T) (id : Id) (v : T) (b : Bool) → is_some (value_at s id) ≡ b → IsSound s → Keeps s (if b then written s id v else s)
  keeps-write s id v false is sound = keeps-same s sound
  keeps-write s id v true is sound =
      let live = IsLiveAt-from_value s.slots id.index id.generation s.first is in
      let was = was_live s id is in
      let has : id.generation < 2 ^ 64 = subst HasGeneration was.1 (sound.generations id.index) in
      record {
        sound = record {
          vacant_ones = AreVacant-set s.slots s.vacant id.index (Live id.generation v) (Lacks-live s.slots s.vacant id.index id.generation live.value live.is sound.vacant_ones) sound.vacant_ones;
          generations = generations-changed s (written s id v) id.index (Live id.generation v) (Changed-write s id v is) has sound.generations;
        };
        past = λ other past. (past-write s id v is other).1 past;
      }

  keeps : (s : Slab T) (c : Change T) → IsSound s → Keeps s (after s c)
  keeps = grind (arith, keeps-insert, keeps-remove, keeps-write)

  -- the ids of later calls are new, and an insert gives one that isn't past
  abbrev pub AreNew : Slab T → List Id → Type 0
  AreNew s ids = NoneTwice ids × ((other : Id) → IsPast s other → IsNew other ids)

  new-insert : (s : Slab T) (v : T) (o : Option Id) (later : List Id) → next_id s ≡ o → IsSound s → AreNew (insert_at s v o) later → AreNew s (given_then o later)
  new-insert s v None later is sound new = new
  new-insert s v (Some id) later is sound new =
      let does = inserts s s.vacant v id refl sound is in
      let takes = (TakesId-fill s (inserted s v) id v does.fills).past in (
        (new.1 id ((takes id).1 (inr refl)), new.0),
        λ other past. (
          λ same. new-from_fill s (inserted s v) id v does.fills (subst (λ (x : Id). IsPast s x) same past),
          new.1 other ((takes other).1 (inl past)),
        ),
      )

  pub ids_given-new : (s : Slab T) (changes : List (Change T)) → IsSound s → AreNew s (ids_given s changes)
  ids_given-new s [] sound = (tt, λ other past. tt)
  ids_given-new s (Insert v ∷ rest) sound =
      new-insert s v (next_id s) (ids_given (after s (Insert v)) rest) refl sound (ids_given-new (after s (Insert v)) rest (keeps s (Insert v) sound).sound)
  ids_given-new s (Remove id ∷ rest) sound =
      let keeps = keeps s (Remove id) sound in
      let new = ids_given-new (after s (Remove id)) rest keeps.sound in
      (new.0, λ other past. new.1 other (keeps.past other past))
  ids_given-new s (Write id v ∷ rest) sound =
      let keeps = keeps s (Write id v) sound in
      let new = ids_given-new (after s (Write id v)) rest keeps.sound in
      (new.0, λ other past. new.1 other (keeps.past other past))

  pub none_twice : (first : ℕ) (changes : List (Change T)) → first < 2 ^ 64 → NoneTwice (ids_given (empty_from first) changes)
  none_twice first changes fits =
      (ids_given-new (empty_from first) changes (record { vacant_ones = tt; generations = λ j. fits })).0
