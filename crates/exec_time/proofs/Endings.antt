-- What an ended sleeper leaves.
use Rattle.std.proofs.{Common.{◌≡◌, ℕ, ◌+◌, ◌≤◌, Bool, cond, length, Option, Some, None, Result, refl, ap, arith, inl, inr, length-append, unwrap_or}, lemmas.{Grind.common_steps, Bool.{cases_lt, le-leb, lt-leb}, List.Sums.sum_by-set}}
use Rattle.exec_base.specs.{Slab.{Slab, value_at, value_in, slot_at, is_live, live_count, removed, freed}, declared.{error.Error.Error, slab.{Id.Id, Slot.{Slot, TheVariants.{Live, Vacant, Retired}}}}}
use Rattle.exec_time.{specs.{declared.{notes.Notes.Notes, timers.{Sleeper.Sleeper, Observer.{Observer, TheVariants.{Local, Forwarded}}}}, Notes.HasRoom, Sleepers.{Ends, IsDue, IsFirst, left_at, wakes_of, completions_of}}, proofs.Sleepers.{same_or_not, none_past}}

abbrev one_if : Bool → ℕ
one_if b = cond b 1 0

freed_in : (T : Type 0) (g : ℕ) → one_if (is_live {T = T} (freed g)) ≡ 0
freed_in T g = grind (arith, common_steps)

module _ {T : Type 0} where
  live_in : (slot : Slot T) (g : ℕ) (v : T) → value_in slot g ≡ Some v → one_if (is_live slot) ≡ 1
  live_in (Live _ _) g v at = refl
  live_in (Vacant _) g v at = absurd (cc)
  live_in Retired g v at = absurd (cc)

  -- one value less
  pub count_removed : (s : Slab T) (id : Id) (v : T) → value_at s id ≡ Some v → live_count (removed s id) + 1 ≡ live_count s
  count_removed s id v at =
      elim (cases_lt id.index (length s.slots)) [
        | inl inside ↦ omega (arith, sum_by-set (λ slot. cond (is_live slot) 1 0) s.slots id.index (freed id.generation) (Vacant s.first) inside, live_in (slot_at s id.index) id.generation v at, freed_in T id.generation)
        | inr past ↦ let none : value_at s id ≡ None = none_past s id past in absurd (cc)
      ]

module _ {S : Type 0} where
  few_wakes : (o : Observer S) → length (wakes_of o) ≤ 1
  few_wakes (Local _) = omega arith
  few_wakes (Forwarded _) = omega arith

  few_completions : (r : Result (Unit {0}) Error) (o : Observer S) → length (completions_of r o) ≤ 1
  few_completions r (Local _) = omega arith
  few_completions r (Forwarded _) = omega arith

  pub ends_count : (old new : Slab (Sleeper S)) (after before : Notes S) (id : Id) (r : Result (Unit {0}) Error) → Ends old new after before id r → live_count new + 1 ≡ live_count old
  ends_count old new after before id r e = rw e.is (count_removed old id e.sleeper e.was)

  pub ends_room : (old new : Slab (Sleeper S)) (after before : Notes S) (id : Id) (r : Result (Unit {0}) Error) → Ends old new after before id r → HasRoom before (live_count old) → HasRoom after (live_count new)
  ends_room old new after before id r e room = record {
    wakes = omega (arith, ends_count old new after before id r e, ap length e.notes.wakes_added, length-append before.wakes.items (wakes_of e.sleeper.observer), few_wakes e.sleeper.observer, after.wakes.ok, before.wakes.ok, e.notes.wakes_memory, room.wakes);
    completions = omega (arith, ends_count old new after before id r e, ap length e.notes.completions_added, length-append before.completions.items (completions_of r e.sleeper.observer), few_completions r e.sleeper.observer, after.completions.ok, before.completions.ok, e.notes.completions_memory, room.completions);
  }

  -- where it was due, as much is left at that moment as was before
  pub left_same : (now : ℕ) (old new : Slab (Sleeper S)) (after before : Notes S) (id : Id) (r : Result (Unit {0}) Error) → Ends old new after before id r → ((s : Sleeper S) → value_at old id ≡ Some s → s.deadline ≤ now) → (other : Id) → left_at now (value_at new other) ≡ left_at now (value_at old other)
  left_same now old new after before id r e due other =
      elim (same_or_not other id) [
        | inl same ↦ rw (same, e.gone.changed, e.was, le-leb _ _ (due e.sleeper e.was)) refl
        | inr differs ↦ rw (e.gone.others other differs) refl
      ]

  -- the first is due where its deadline is
  pub first_due : (now deadline : ℕ) (t : Slab (Sleeper S)) (id : Id) → IsFirst t deadline id → deadline ≤ now → (s : Sleeper S) → value_at t id ≡ Some s → s.deadline ≤ now
  first_due now deadline t id first due s there =
      let at = rw there at first.at in
      let same : s.deadline ≡ deadline = ap (λ (o : Option ℕ). unwrap_or o 0) at in
      omega arith

  -- where none is due, all are left
  pub left_all : (now : ℕ) (t : Slab (Sleeper S)) → ((id : Id) → IsDue t now id → ⊥) → (id : Id) → left_at now (value_at t id) ≡ value_at t id
  left_all now t none id = each (value_at t id) refl
    where
      each : (o : Option (Sleeper S)) → value_at t id ≡ o → left_at now o ≡ o
      each None is = refl
      each (Some s) is =
          elim (cases_lt now s.deadline) [
            | inl later ↦ rw (lt-leb _ _ later) refl
            | inr due ↦ absurd (none id (record { sleeper = s; there = is; due = due }))
          ]
