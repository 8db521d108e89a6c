-- How a slab lies in memory. No public clause cites this module.
use Rattle.std.specs.Prelude.{◌≡◌, ◌≢◌, ℕ, ◌+◌, ◌^◌, ◌≤◌, List, [], ◌∷◌, length, count_by, slice_index_or, true, ◌⊎◌}
use Rattle.exec_base.specs.{declared.slab.Slot.{Slot, TheVariants.{Vacant, Retired}}, Slab.{is_live, is_vacant}}

-- the number isn't in the list
abbrev pub Lacks : List ℕ → ℕ → Type 0
Lacks [] i = Unit {0}
Lacks (j ∷ rest) i = (j ≢ i) × Lacks rest i

-- the number is in the list
abbrev pub Has : List ℕ → ℕ → Type 0
Has [] i = ⊥
Has (j ∷ rest) i = (j ≡ i) ⊎ Has rest i

module _ {T : Type 0} where
  -- this slot is there, and vacant
  pub record IsVacantAt (slots : List (Slot T)) (i : ℕ) : Type 0 where
    pub generation : ℕ
    pub is : slice_index_or slots i Retired ≡ Vacant generation

  -- each of these slots is vacant, and none comes twice
  abbrev pub AreVacant : List (Slot T) → List ℕ → Type 0
  AreVacant slots [] = Unit {0}
  AreVacant slots (i ∷ rest) = IsVacantAt slots i × Lacks rest i × AreVacant slots rest

  -- each vacant slot is in the list
  abbrev pub ListsAll : List (Slot T) → List ℕ → Type 0
  ListsAll slots vacant = (i : ℕ) → is_vacant (slice_index_or slots i Retired) ≡ true → Has vacant i

  -- `len` counts the values, the list has the vacant slots, each once, and there is memory for freeing every slot
  pub record IsLaidOut (slots : List (Slot T)) (vacant : List ℕ) (len memory : ℕ) : Type 0 where
    pub counted : len ≡ count_by is_live slots
    pub vacant_ones : AreVacant slots vacant
    pub all_listed : ListsAll slots vacant
    pub few : length slots ≤ 2 ^ 32
    pub enough : length slots ≤ memory
    pub within : len + length vacant ≤ length slots
