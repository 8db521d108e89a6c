-- What a contract sees of a slab: a map from live ids to values, the vacant slots, and the number of slots.
use Rattle.std.specs.Prelude.{◌≡◌, ◌≢◌, ℕ, ◌+◌, ◌^◌, ◌<◌, ◌==◌, List, [], ◌∷◌, ◌++◌, ◌↔◌, ◌⊎◌, length, Option, Some, None, Bool, true, false, nat_lt, count_by, slice_index_or, slice_set, All, if◌then◌else◌}
use Rattle.exec_base.specs.declared.slab.{Id.Id, Slot.{Slot, TheVariants.{Live, Vacant, Retired}}, InsertError.{InsertError, TheVariants.{Full, NoMemory}}}

-- the slots by index, the vacant ones in the order in which they are taken (the one freed last is the first),
-- the generation at which a slot begins, and for how many slots there is memory
pub record Slab (T : Type 0) : Type 0 where
  pub slots : List (Slot T)
  pub vacant : List ℕ
  pub first : ℕ
  pub room : ℕ

-- the slot that takes the next value: the vacant one that was freed last, else a new one
abbrev pub next_index : List ℕ → ℕ → ℕ
next_index [] count = count
next_index (index ∷ _) count = index

-- the id has a lower index, or the same index and a lower generation
abbrev pub IsBefore : Id → Id → Type 0
IsBefore a b = (a.index < b.index) ⊎ ((a.index ≡ b.index) × (a.generation < b.generation))

module _ {T : Type 0} where
  abbrev pub is_live : Slot T → Bool
  is_live (Live _ _) = true
  is_live (Vacant _) = false
  is_live Retired = false

  abbrev pub is_vacant : Slot T → Bool
  is_vacant (Live _ _) = false
  is_vacant (Vacant _) = true
  is_vacant Retired = false

  abbrev pub value_of : Slot T → Option T
  value_of (Live _ value) = Some value
  value_of (Vacant _) = None
  value_of Retired = None

  -- the generation of its value, or of the value that it takes next
  abbrev pub generation_of : Slot T → ℕ
  generation_of (Live generation _) = generation
  generation_of (Vacant generation) = generation
  generation_of Retired = 2 ^ 64

  -- the least generation that the slot hasn't given to a value
  abbrev pub next_generation : Slot T → ℕ
  next_generation (Live generation _) = generation + 1
  next_generation (Vacant generation) = generation
  next_generation Retired = 2 ^ 64

  -- the value of this generation, where the slot holds it
  abbrev pub value_in : Slot T → ℕ → Option T
  value_in (Live generation value) wanted = if generation == wanted then Some value else None
  value_in (Vacant _) wanted = None
  value_in Retired wanted = None

  -- the slot of this index; one that isn't there yet is one that takes its first value
  abbrev pub slot_at : Slab T → ℕ → Slot T
  slot_at s index = slice_index_or s.slots index (Vacant s.first)

  -- the map: the value at a live id
  abbrev pub value_at : Slab T → Id → Option T
  value_at s id = value_in (slot_at s id.index) id.generation

  -- no insert gives this id any more
  abbrev pub IsPast : Slab T → Id → Type 0
  IsPast s id = id.generation < next_generation (slot_at s id.index)

  -- how many values there are
  abbrev pub live_count : Slab T → ℕ
  live_count s = count_by is_live s.slots

  -- the id of the value in this slot
  abbrev pub id_in : ℕ → Slot T → Option Id
  id_in index (Live generation _) = Some (record { index = index; generation = generation })
  id_in index (Vacant _) = None
  id_in index Retired = None

  -- the id of the next value; there is none where there are 2^32 slots and none is vacant
  abbrev pub next_id : Slab T → Option Id
  next_id s =
      let index = next_index s.vacant (length s.slots) in
      if nat_lt index (2 ^ 32) then Some (record { index = index; generation = generation_of (slot_at s index) }) else None

  -- the next value has a slot without more memory
  abbrev pub HasRoom : Slab T → Type 0
  HasRoom s = (0 < length s.vacant) ⊎ (length s.slots < s.room)

  -- no value can come into the slab: it has as many slots as there can be, and none is vacant
  abbrev pub IsFull : Slab T → Type 0
  IsFull s = (length s.slots ≡ 2 ^ 32) × All (λ slot. is_vacant slot ≡ false) s.slots

  -- an insert is refused for this reason, and hands this back
  abbrev pub IsRefused : {V : Type 0} → Slab T → V → InsertError V → Type 0
  IsRefused s back (Full v) = (v ≡ back) × IsFull s
  IsRefused s back (NoMemory v) = (v ≡ back) × (HasRoom s → ⊥) × (IsFull s → ⊥)

  -- the slots with a value in the vacant slot that was freed last, or in a new one
  abbrev pub filled : Slab T → List ℕ → T → Slab T
  filled s [] value = record s { slots = s.slots ++ Live s.first value ∷ [] }
  filled s (index ∷ rest) value =
      record s { slots = slice_set s.slots index (Live (generation_of (slot_at s index)) value); vacant = rest }

  -- the slab with one more value
  abbrev pub inserted : Slab T → T → Slab T
  inserted s value = filled s s.vacant value

  -- a slot whose value of this generation is gone: vacant with the next generation, or retired after the last
  abbrev pub freed : ℕ → Slot T
  freed generation = if nat_lt (generation + 1) (2 ^ 64) then Vacant (generation + 1) else Retired

  -- the slab without the value of a live id. Its slot is taken next, unless it is retired
  abbrev pub removed : Slab T → Id → Slab T
  removed s id = record s {
    slots = slice_set s.slots id.index (freed id.generation);
    vacant = if nat_lt (id.generation + 1) (2 ^ 64) then id.index ∷ s.vacant else s.vacant;
  }

  -- the slab with another value at a live id
  abbrev pub written : Slab T → Id → T → Slab T
  written s id value = record s { slots = slice_set s.slots id.index (Live id.generation value) }

  -- the new map has this at the id, and at every other what the old one has
  pub record Updates (old new : Slab T) (id : Id) (value : Option T) : Type 0 where
    pub changed : value_at new id ≡ value
    pub others : (other : Id) → other ≢ id → value_at new other ≡ value_at old other

  -- from the old slab to the new one, this id and no other became one that no insert gives any more
  pub record TakesId (old new : Slab T) (id : Id) : Type 0 where
    pub past : (other : Id) → IsPast new other ↔ (IsPast old other ⊎ (other ≡ id))
