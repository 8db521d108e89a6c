-- Ids are the same or not, and no sleeper lies past the slots.
use Rattle.std.proofs.{Common.{◌≡◌, ◌≢◌, ◌≤◌, ◌⊎◌, length, None, refl, ap, inl, inr}, lemmas.{Bool.cases_eq, List.get_or_past}}
use Rattle.exec_base.{specs.{Slab.{Slab, value_at}, declared.slab.{Id.Id, Slot.TheVariants.Vacant}}, proofs.Slots.same_id}

pub same_or_not : (a b : Id) → (a ≡ b) ⊎ (a ≢ b)
same_or_not a b =
    elim (cases_eq a.index b.index) [
      | inl index ↦ elim (cases_eq a.generation b.generation) [
        | inl generation ↦ inl (same_id a b index generation)
        | inr differs ↦ inr (λ same. differs (ap (λ (x : Id). x.generation) same))
      ]
      | inr differs ↦ inr (λ same. differs (ap (λ (x : Id). x.index) same))
    ]

module _ {T : Type 0} where
  pub none_past : (s : Slab T) (id : Id) → length s.slots ≤ id.index → value_at s id ≡ None
  none_past s id past = rw (get_or_past s.slots id.index (Vacant s.first) past) refl
