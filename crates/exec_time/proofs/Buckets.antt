-- Buckets and active entries, as lists grow and shrink.
use Rattle.std.{proofs.{Common.{◌≡◌, ℕ, ◌+◌, ◌-◌, ◌<◌, ◌≤◌, true, not, cond, if◌then◌else◌, ◌==◌, List, [], ◌∷◌, ◌++◌, length, get_or, filter, remove, refl, arith, inl, inr, zero, suc, nat_lt, ◌%◌, Result, Ok, Err, IfOk, IfErr, MatchResult, Option, Some, None, IfSome, slice_get, subst}, lemmas.{Bool.{cases_lt, cases_eq, lt-ltb}, Grind.common_steps, List.{Sums.{sum_by-insert, sum_by-remove, sum_by-le}, get_or_default, Edits.{get_or-remove_below, get_or-remove_above, length-remove}}}}, specs.{List.{insert, remove_range}, Prelude.slice_range}}
use Rattle.exec_time.{specs.{Entries.{is_in_slot, bucket_in, active_in, IsBySlot, IsRising, IsPlaceOf}, declared.entries.Entry.Entry}, proofs.Ranges.active_among}

-- the entries of one slot discarded
pub bucket_in_discard : (entries : List Entry) (slots gone slot : ℕ) → bucket_in (filter (λ e. not (is_in_slot slots gone e)) entries) slots slot ≡ (if gone == slot then [] else bucket_in entries slots slot)
unfolding bucket_in
bucket_in_discard [] slots gone slot = grind (arith, common_steps)
bucket_in_discard (e ∷ es) slots gone slot = grind (arith, common_steps, bucket_in_discard es slots gone slot)

-- they and those that stay are all
pub length_bucket_in_discard : (entries : List Entry) (slots gone : ℕ) → length (bucket_in entries slots gone) + length (filter (λ e. not (is_in_slot slots gone e)) entries) ≡ length entries
unfolding bucket_in
length_bucket_in_discard [] slots gone = refl
length_bucket_in_discard (e ∷ es) slots gone = grind (arith, common_steps, length_bucket_in_discard es slots gone)

-- nothing is in a slot below those of all entries
none_past : (entries : List Entry) (slots slot : ℕ) → ((k : ℕ) (d : Entry) → k < length entries → slot < ((get_or entries k d).tick % slots)) → bucket_in entries slots slot ≡ []
unfolding bucket_in
none_past [] slots slot past = refl
none_past (e ∷ es) slots slot past =
    let here : slot < (e.tick % slots) = past 0 e (omega arith) in
    grind (arith, common_steps, here, none_past es slots slot (λ k d inside. past (suc k) d (omega arith)))

-- nothing is in a slot below that of the first entry, nor where there is no entry
pub none_without : (entries : List Entry) (slots slot : ℕ) → None ≡ slice_get entries 0 → bucket_in entries slots slot ≡ []
unfolding bucket_in
none_without [] slots slot none = refl
none_without (e ∷ es) slots slot none = absurd (cc none)

pub none_before : (entries : List Entry) (slots slot : ℕ) (first : Entry) → IsBySlot slots entries → Some first ≡ slice_get entries 0 → slot < (first.tick % slots) → bucket_in entries slots slot ≡ []
none_before [] slots slot first by_slot is less = absurd (cc is)
none_before (e ∷ es) slots slot first by_slot is less =
    let low : slot < (e.tick % slots) = subst (λ (o : Option Entry). IfSome o (λ x. slot < (x.tick % slots))) is less in
    none_past (e ∷ es) slots slot (λ k d inside. let up : (e.tick % slots) ≤ (get_or (e ∷ es) k d).tick % slots = by_slot 0 k d (omega arith) inside in omega (arith, up, low))

-- one more entry, before those of later slots
pub bucket_in_put : (entries : List Entry) (slots at : ℕ) (e : Entry) → ((k : ℕ) (d : Entry) → at ≤ k → k < length entries → (e.tick % slots) < ((get_or entries k d).tick % slots)) → (s : ℕ) → bucket_in (insert entries at e) slots s ≡ bucket_in entries slots s ++ (if is_in_slot slots s e then e.id ∷ [] else [])
unfolding bucket_in
bucket_in_put es slots zero e past s =
    elim (cases_eq (e.tick % slots) s) [
      | inl same ↦
          let none : bucket_in es slots s ≡ [] = none_past es slots s (λ k d inside. rw (← same) (past k d (omega arith) inside)) in
          grind (arith, common_steps, none, same)
      | inr other ↦ grind (arith, common_steps, other)
    ]
bucket_in_put [] slots (suc at) e past s = grind (arith, common_steps)
bucket_in_put (x ∷ xs) slots (suc at) e past s = grind (arith, common_steps, bucket_in_put xs slots at e (λ k d low inside. past (suc k) d (omega arith) (omega arith)) s)

-- nothing is in a slot between those of two neighbours, or of the last one and the end
pub none_there : (entries : List Entry) (slots slot i : ℕ) → ((k : ℕ) (d : Entry) → k < i → ((get_or entries k d).tick % slots) < slot) → ((k : ℕ) (d : Entry) → i ≤ k → k < length entries → slot < ((get_or entries k d).tick % slots)) → bucket_in entries slots slot ≡ []
unfolding bucket_in
none_there es slots slot zero below past = none_past es slots slot (λ k d inside. past k d (omega arith) inside)
none_there [] slots slot (suc i) below past = refl
none_there (e ∷ es) slots slot (suc i) below past =
    let here : (e.tick % slots) < slot = below 0 e (omega arith) in
    grind (arith, common_steps, here, none_there es slots slot i (λ k d less. below (suc k) d (omega arith)) (λ k d low inside. past (suc k) d (omega arith) (omega arith)))

-- where the entries of a slot stand: from i up to j, after those below and before those above
pub record StandsIn (entries : List Entry) (slots slot i j : ℕ) : Type 0 where
  pub ordered : i ≤ j
  pub inside : slice_range entries i j ≡ filter (is_in_slot slots slot) entries
  pub outside : remove_range entries i j ≡ filter (λ e. not (is_in_slot slots slot e)) entries

stands_in : (entries : List Entry) (slots slot i j : ℕ) → i ≤ j → ((k : ℕ) (d : Entry) → k < i → ((get_or entries k d).tick % slots) < slot) → ((k : ℕ) (d : Entry) → i ≤ k → k < length entries → slot ≤ (get_or entries k d).tick % slots) → ((k : ℕ) (d : Entry) → k < j → (get_or entries k d).tick % slots ≤ slot) → ((k : ℕ) (d : Entry) → j ≤ k → k < length entries → slot < ((get_or entries k d).tick % slots)) → StandsIn entries slots slot i j
stands_in [] slots slot i j le below from upto past =
    record { ordered = le; inside = grind (arith, common_steps); outside = grind (arith, common_steps) }
stands_in (e ∷ es) slots slot zero zero le below from upto past =
    let above : slot < (e.tick % slots) = past 0 e (omega arith) (omega arith) in
    let rest = stands_in es slots slot 0 0 le (λ k d less. absurd (omega arith)) (λ k d low inside. from (suc k) d (omega arith) (omega arith)) (λ k d less. absurd (omega arith)) (λ k d low inside. past (suc k) d (omega arith) (omega arith)) in
    record { ordered = le; inside = grind (arith, common_steps, above, rest.inside); outside = grind (arith, common_steps, above, rest.outside) }
stands_in (e ∷ es) slots slot zero (suc j) le below from upto past =
    let low : slot ≤ e.tick % slots = from 0 e (omega arith) (omega arith) in
    let high : e.tick % slots ≤ slot = upto 0 e (omega arith) in
    let here : (e.tick % slots) ≡ slot = omega arith in
    let rest = stands_in es slots slot 0 j (omega arith) (λ k d less. absurd (omega arith)) (λ k d low inside. from (suc k) d (omega arith) (omega arith)) (λ k d less. upto (suc k) d (omega arith)) (λ k d low inside. past (suc k) d (omega arith) (omega arith)) in
    record { ordered = le; inside = grind (arith, common_steps, here, rest.inside); outside = grind (arith, common_steps, here, rest.outside) }
stands_in (e ∷ es) slots slot (suc i) zero le below from upto past = absurd (omega arith)
stands_in (e ∷ es) slots slot (suc i) (suc j) le below from upto past =
    let under : (e.tick % slots) < slot = below 0 e (omega arith) in
    let rest = stands_in es slots slot i j (omega arith) (λ k d less. below (suc k) d (omega arith)) (λ k d low inside. from (suc k) d (omega arith) (omega arith)) (λ k d less. upto (suc k) d (omega arith)) (λ k d low inside. past (suc k) d (omega arith) (omega arith)) in
    record { ordered = le; inside = grind (arith, common_steps, under, rest.inside); outside = grind (arith, common_steps, under, rest.outside) }

-- they stand between where those below end and where those up to the slot end
pub stands_between : (entries : List Entry) (slots slot i j : ℕ) → i ≤ length entries → ((k : ℕ) (d : Entry) → k < i → ((get_or entries k d).tick % slots) < slot) → ((k : ℕ) (d : Entry) → i ≤ k → k < length entries → slot ≤ (get_or entries k d).tick % slots) → ((k : ℕ) (d : Entry) → k < j → (get_or entries k d).tick % slots ≤ slot) → ((k : ℕ) (d : Entry) → j ≤ k → k < length entries → slot < ((get_or entries k d).tick % slots)) → StandsIn entries slots slot i j
stands_between entries slots slot i j within below from upto past =
    elim (cases_lt j i) [
      | inl back ↦ absurd (let under = below j none back in let over = past j none (omega arith) (omega arith) in omega (arith, under, over))
      | inr le ↦ stands_in entries slots slot i j le below from upto past
    ]
  where
    none : Entry
    none = record { tick = 0; id = record { index = 0; generation = 0 } }

-- one more active tick
pub active_in_insert : (ticks : List ℕ) (i tick t : ℕ) → active_in (insert ticks i tick) t ≡ (if t == tick then active_in ticks t + 1 else active_in ticks t)
unfolding active_in
active_in_insert ticks i tick t = grind (arith, common_steps, sum_by-insert (λ x. cond (x == t) 1 0) ticks i tick)

-- one less
pub active_in_remove : (ticks : List ℕ) (i tick t : ℕ) → i < length ticks → get_or ticks i tick ≡ tick → active_in (remove ticks i) t ≡ (if t == tick then active_in ticks t - 1 else active_in ticks t)
unfolding active_in
active_in_remove ticks i tick t h e = grind (arith, common_steps, sum_by-remove (λ x. cond (x == t) 1 0) ticks i tick h)

-- a tick between smaller and larger ones is not among them
pub active_between : (ticks : List ℕ) (tick i : ℕ) → ((k : ℕ) → k < i → get_or ticks k 0 < tick) → ((k : ℕ) → i ≤ k → k < length ticks → tick < get_or ticks k 0) → active_in ticks tick ≤ 0
unfolding active_in
active_between ticks tick i below above = omega (arith, sum_by-le (λ t. cond (t == tick) 1 0) 0 ticks (λ k d inside. other k d inside))
  where
    other : (k d : ℕ) → k < length ticks → cond (get_or ticks k d == tick) 1 0 ≤ 0
    other k d inside =
        elim (cases_lt k i) [
          | inl low ↦ let less : get_or ticks k d < tick = rw (get_or_default ticks k d 0 inside) (below k low) in grind (arith, common_steps, less)
          | inr high ↦ let more : tick < get_or ticks k d = rw (get_or_default ticks k d 0 inside) (above k high inside) in grind (arith, common_steps, more)
        ]

-- ticks stay ascending with one less
pub rising_remove : (ticks : List ℕ) (i : ℕ) → i < length ticks → IsRising ticks → IsRising (remove ticks i)
rising_remove ticks i inside rising =
    λ a b d le within.
    elim (cases_lt b i) [
      | inl low ↦ rw (get_or-remove_below ticks i d a (omega arith) inside, get_or-remove_below ticks i d b low inside) (rising a b d le (omega arith))
      | inr high ↦
          elim (cases_lt a i) [
            | inl before ↦ rw (get_or-remove_below ticks i d a before inside, get_or-remove_above ticks i d b high inside) (rising a (b + 1) d (omega arith) (omega (arith, length-remove ticks i inside)))
            | inr after ↦ rw (get_or-remove_above ticks i d a after inside, get_or-remove_above ticks i d b high inside) (rising (a + 1) (b + 1) d (omega arith) (omega (arith, length-remove ticks i inside)))
          ]
    ]

-- what a search says of ascending ticks
abbrev Searched : List ℕ → ℕ → Result ℕ ℕ → Type 0
Searched ticks tick r = MatchResult r (λ i. (i < length ticks) × (get_or ticks i 0 ≡ tick)) (λ i. (i ≤ length ticks) × ((k : ℕ) → k < i → get_or ticks k 0 < tick) × ((k : ℕ) → i ≤ k → k < length ticks → tick < get_or ticks k 0))

pub placed : (ticks : List ℕ) (tick : ℕ) (r : Result ℕ ℕ) → IsRising ticks → Searched ticks tick r → MatchResult r (IsPlaceOf tick ticks) (IsPlaceOf tick ticks)
placed ticks tick (Ok i) rising (inside, at) =
    record {
      within = omega arith;
      low = λ k d less. let lower : get_or ticks k 0 ≤ get_or ticks i 0 = rising k i 0 (omega arith) inside in rw (get_or_default ticks k d 0 (omega arith)) (omega (arith, at));
      high = λ k d more within. let higher : get_or ticks i 0 ≤ get_or ticks k 0 = rising i k 0 more within in rw (get_or_default ticks k d 0 within) (omega (arith, at));
    }
placed ticks tick (Err i) rising (inside, below, above) =
    record {
      within = inside;
      low = λ k d less. rw (get_or_default ticks k d 0 (omega arith)) (omega (arith, below k less));
      high = λ k d more within. rw (get_or_default ticks k d 0 within) (omega (arith, above k more within));
    }

pub there_at : (ticks : List ℕ) (tick : ℕ) (r : Result ℕ ℕ) → Searched ticks tick r → IfOk r (λ i. nat_lt 0 (active_in ticks tick) ≡ true)
there_at ticks tick (Ok i) (inside, at) = lt-ltb _ _ (active_among ticks tick (i, inside, rw (get_or_default ticks i tick 0 inside) at))
there_at ticks tick (Err i) missed = tt

pub missed_at : (ticks : List ℕ) (tick : ℕ) (r : Result ℕ ℕ) → Searched ticks tick r → IfErr r (λ i. active_in ticks tick ≡ 0)
missed_at ticks tick (Ok i) found = tt
missed_at ticks tick (Err i) (inside, below, above) = omega (arith, active_between ticks tick i below above)
