-- How a change of one sleeper keeps the index.
use Rattle.std.{proofs.{Common.{◌≡◌, ◌≢◌, ℕ, ◌<◌, ◌≤◌, ◌==◌, ◌⊎◌, Bool, true, false, cond, List, [], ◌∷◌, length, Option, Some, None, refl, sym, ap, ◌∙◌, arith, inl, inr}, lemmas.{Grind.common_steps, Bool.false≢true}}, specs.{List.list_any, Option.option_map, Ordering.{is_eq, is_gt}}}
use Rattle.exec_base.specs.{Slab.{Slab, value_at, next_id, IsPast, IsFull, IsRefused, Updates}, declared.slab.{Id.Id, InsertError.{InsertError, TheVariants.{Full, NoMemory}}}}
use Rattle.exec_time.{proofs.Sleepers.{same_or_not, none_past}, specs.{declared.timers.{Sleeper.Sleeper, TimerId.TimerId}, Sleepers.{IsFirst, IsEmpty}, Index.{by_deadline, sleeps_until, IsIndexed}}}
use Rattle.std.specs.BTreeSet as set

-- one that isn't after another has no later deadline, and where that is the same no higher index
not_after : (a b : ℕ × TimerId) → is_gt (by_deadline a b) ≡ false → (a.0 ≤ b.0) × (a.0 ≡ b.0 → a.1.0.index ≤ b.1.0.index)
not_after = grind (arith, common_steps)

same_deadline : (a b : ℕ × TimerId) → b.1.0 ≡ a.1.0 → is_eq (by_deadline a b) ≡ (a.0 == b.0)
same_deadline = grind (arith, common_steps)

another : (a b : ℕ × TimerId) → b.1.0 ≢ a.1.0 → is_eq (by_deadline a b) ≡ false
another = grind (arith, common_steps)

-- the order has this place, or lacks it, and is the same elsewhere
abbrev Places : set.BTreeSet (ℕ × TimerId) → set.BTreeSet (ℕ × TimerId) → ℕ × TimerId → Bool → Type 0
Places o o' place b = (q : ℕ × TimerId) → set.contains by_deadline o' q ≡ cond (is_eq (by_deadline place q)) b (set.contains by_deadline o q)

held : (test : ℕ × TimerId → Bool) (keys : List (ℕ × TimerId)) → list_any test keys ≡ true → 0 < length keys
held test [] is = absurd (false≢true is)
held test (k ∷ keys) is = omega arith

module _ {S : Type 0} where
  until_tells : (deadline : ℕ) (o : Option (Sleeper S)) → sleeps_until deadline o ≡ true → option_map (λ s. s.deadline) o ≡ Some deadline
  until_tells = grind (arith, common_steps)

  until_itself : (s : Sleeper S) → sleeps_until s.deadline (Some s) ≡ true
  until_itself = grind (arith, common_steps)

  -- one sleeper came, went or stayed away, and its place in the order with it
  indexed_changed : (t t' : Slab (Sleeper S)) (o o' : set.BTreeSet (ℕ × TimerId)) (n n' : ℕ) (place : ℕ × TimerId) (was is : Option (Sleeper S)) (b : Bool) → value_at t place.1.0 ≡ was → Updates t t' place.1.0 is → Places o o' place b → ((d : ℕ) → sleeps_until d is ≡ cond (place.0 == d) b (sleeps_until d was)) → n' ≤ n → (is ≡ None) ⊎ (n' ≤ place.1.0.index) → IsIndexed t o n → IsIndexed t' o' n'
  indexed_changed t t' o o' n n' place was is b at up places until low within indexed = record {
    places = λ d other. elim (same_or_not other.0 place.1.0) [
      | inl same ↦ rw (places (d, other), same_deadline place (d, other) same, indexed.places d other, same, at, up.changed) (sym (until d))
      | inr differs ↦ rw (up.others other.0 differs) (places (d, other) ∙ rw (another place (d, other) differs) (indexed.places d other))
    ];
    none_below = λ other below. elim (same_or_not other place.1.0) [
      | inl same ↦ elim within [ inl none ↦ rw same (up.changed ∙ none) | inr past ↦ absurd (omega (arith, ap (λ (x : Id). x.index) same)) ]
      | inr differs ↦ up.others other differs ∙ indexed.none_below other (omega arith)
    ];
  }

  -- a sleeper was taken out
  pub indexed_taken : (t t' : Slab (Sleeper S)) (o o' : set.BTreeSet (ℕ × TimerId)) (n : ℕ) (id : TimerId) (s : Sleeper S) → Some s ≡ value_at t id.0 → Updates t t' id.0 None → set.Updates by_deadline o o' (s.deadline, id) false → IsIndexed t o n → IsIndexed t' o' n
  indexed_taken t t' o o' n id s was gone out = indexed_changed t t' o o' n n (s.deadline, id) (Some s) None false (sym was) gone out.0 (grind (arith, common_steps)) (omega arith) (inl refl)

  -- the first in the order fires first
  pub first_in : (t : Slab (Sleeper S)) (o : set.BTreeSet (ℕ × TimerId)) (n : ℕ) (place : ℕ × TimerId) → IsIndexed t o n → set.contains by_deadline o place ≡ true → set.IsLowerBound by_deadline o place → IsFirst t place.0 place.1.0
  first_in t o n place indexed there lower = record {
    at = until_tells place.0 _ (sym (indexed.places place.0 place.1) ∙ there);
    least = λ other sleeper is. (follows other sleeper is).0;
    ties = λ other sleeper is. (follows other sleeper is).1;
  }
    where
      follows : (other : Id) (sleeper : Sleeper S) → value_at t other ≡ Some sleeper → (place.0 ≤ sleeper.deadline) × (place.0 ≡ sleeper.deadline → place.1.0.index ≤ other.index)
      follows other sleeper is = not_after place (sleeper.deadline, record { 0 = other }) (lower _ (indexed.places sleeper.deadline (record { 0 = other }) ∙ rw is (until_itself sleeper)))

  -- where nothing is in the order nobody sleeps
  pub none_in : (t : Slab (Sleeper S)) (o : set.BTreeSet (ℕ × TimerId)) (n : ℕ) → IsIndexed t o n → (0 < set.btree_set_len o → ⊥) → IsEmpty t
  none_in t o n indexed empty id = each (value_at t id) refl
    where
      each : (v : Option (Sleeper S)) → value_at t id ≡ v → value_at t id ≡ None
      each None is = is
      each (Some s) is = absurd (empty (held _ o.keys (indexed.places s.deadline (record { 0 = id }) ∙ rw is (until_itself s))))

  -- the next id is free, where an insert was refused
  pub refused_free : (t : Slab (Sleeper S)) (id : Id) (s : Sleeper S) (e : InsertError (Sleeper S)) → Some id ≡ next_id t → (IsFull t → ⊥) → IsRefused t s e → value_at t id ≡ None
  refused_free t id s (Full v) is spare why = absurd (spare why.1)
  refused_free t id s (NoMemory v) is spare why = none_past t id (new_slot t.vacant refl)
    where
      new_slot : (vacant : List ℕ) → t.vacant ≡ vacant → length t.slots ≤ id.index
      new_slot [] none = grind (arith, is, none)
      new_slot (i ∷ rest) some = absurd (why.1 (inl (rw some (omega arith))))

  -- a place was put into the order and taken out again
  pub indexed_still : (t : Slab (Sleeper S)) (o o' o'' : set.BTreeSet (ℕ × TimerId)) (n : ℕ) (place : ℕ × TimerId) → value_at t place.1.0 ≡ None → set.Updates by_deadline o o' place true → set.Updates by_deadline o' o'' place false → IsIndexed t o n → IsIndexed t o'' n
  indexed_still t o o' o'' n place none put out = indexed_changed t t o o'' n n place None None false none (record { changed = none; others = λ other differs. refl }) (λ q. grind (arith, common_steps, out.0 q, put.0 q)) (grind (arith, common_steps)) (omega arith) (inl refl)

  -- a sleeper came
  pub indexed_put : (t t' : Slab (Sleeper S)) (o o' : set.BTreeSet (ℕ × TimerId)) (n n' : ℕ) (id : TimerId) (s : Sleeper S) → (IsPast t id.0 → ⊥) → Updates t t' id.0 (Some s) → set.Updates by_deadline o o' (s.deadline, id) true → n' ≤ n → n' ≤ id.0.index → IsIndexed t o n → IsIndexed t' o' n'
  indexed_put t t' o o' n n' id s free is put low within = indexed_changed t t' o o' n n' (s.deadline, id) None (Some s) true (grind (arith, common_steps, free)) is put.0 (grind (arith, common_steps)) low (inr within)
