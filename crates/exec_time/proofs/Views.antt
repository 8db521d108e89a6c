-- What a wheel shows, as its lists grow and shrink.
use Rattle.std.{proofs.{Common.{◌≡◌, ℕ, ◌+◌, ◌<◌, ◌%◌, false, not, if◌then◌else◌, ◌==◌, List, [], ◌∷◌, ◌++◌, map, filter, refl, sym, ◌∙◌, ap, arith, inl, inr, nat_lt, ◌-◌}, lemmas.{Bool.{cases_eq, Decides.nat_tests}, Grind.{common_steps, flat_map-append}, List.{append-nil, FromFn.map-range_with_len_more, Folds.list_any-append}}}, specs.List.{flat_map, range_with_len, list_any}}
use Rattle.exec_time.{proofs.{Ranges.slot_of_next, Buckets.bucket_in_discard}, specs.{Entries.{is_in_slot, bucket_in, active_in}, Wheel.{Wheel, slot_of, scheduled, removed}, Turning.emptied, declared.entries.Entry.Entry}}
use Rattle.exec_base.specs.declared.slab.Id.{Id}

-- a wheel of lists
abbrev pub shown : ℕ → ℕ → ℕ → ℕ → ℕ → List Entry → List ℕ → List Id → Wheel
shown start tick horizon slots current entries ticks ready =
    record {
      start = start;
      tick = tick;
      horizon = horizon;
      slots = slots;
      current = current;
      bucket = bucket_in entries slots;
      active = active_in ticks;
      ready = ready;
    }

-- two wheels that differ at most in what is scheduled
pub same_but : (w : Wheel) (b b' : ℕ → List Id) (a a' : ℕ → ℕ) (r r' : List Id) → ((s : ℕ) → b s ≡ b' s) → ((t : ℕ) → a t ≡ a' t) → r ≡ r' → (let v : Wheel = record w { bucket = b; active = a; ready = r } in v) ≡ record w { bucket = b'; active = a'; ready = r' }
same_but w b b' a a' r r' buckets actives readies = λ i. record w { bucket = λ s. buckets s i; active = λ t. actives t i; ready = readies i }

-- one more entry, where the stale ones of its slot were discarded
pub scheduled_is : (start len horizon slots current : ℕ) (entries left after : List Entry) (ticks ticks' : List ℕ) (ready : List Id) (tick : ℕ) (id : Id) → ((s : ℕ) → bucket_in left slots s ≡ (if nat_lt 0 (active_in ticks tick) then bucket_in entries slots s else (if (tick % slots) == s then [] else bucket_in entries slots s)))
    → ((s : ℕ) → bucket_in after slots s ≡ bucket_in left slots s ++ (if (tick % slots) == s then id ∷ [] else []))
    → ((t : ℕ) → active_in ticks' t ≡ (if t == tick then active_in ticks t + 1 else active_in ticks t))
    → shown start len horizon slots current after ticks' ready ≡ scheduled (shown start len horizon slots current entries ticks ready) id tick
unfolding scheduled
scheduled_is start len horizon slots current entries left after ticks ticks' ready tick id left_is put_is counts =
    same_but (shown start len horizon slots current entries ticks ready) _ _ _ _ ready ready (λ s. grind (arith, common_steps, nat_tests, put_is s, left_is s)) counts refl

-- one entry less that is active
pub removed_is : (start len horizon slots current : ℕ) (entries : List Entry) (ticks ticks' : List ℕ) (ready : List Id) (tick : ℕ) → ((t : ℕ) → active_in ticks' t ≡ (if t == tick then active_in ticks t - 1 else active_in ticks t)) → shown start len horizon slots current entries ticks' ready ≡ removed (shown start len horizon slots current entries ticks ready) tick
unfolding removed
removed_is start len horizon slots current entries ticks ticks' ready tick counts =
    same_but (shown start len horizon slots current entries ticks ready) (bucket_in entries slots) (bucket_in entries slots) _ _ ready ready (λ s. refl) counts refl

-- an empty bucket emptied
pub emptied_same : (w : Wheel) (slot : ℕ) → w.bucket slot ≡ [] → w ≡ emptied w (slot ∷ [])
emptied_same w slot none = same_but w _ _ w.active w.active _ _ (λ s. bucket_of s) (λ t. refl) (rw none (sym (append-nil w.ready)))
  where
    bucket_of : (s : ℕ) → w.bucket s ≡ (if list_any (λ x. x == s) (slot ∷ []) then [] else w.bucket s)
    bucket_of s =
        elim (cases_eq slot s) [
          | inl same ↦ grind (arith, common_steps, same, none)
          | inr other ↦ grind (arith, common_steps, other)
        ]

-- a bucket emptied
pub emptied_is : (start len horizon slots current : ℕ) (entries : List Entry) (ticks : List ℕ) (ready : List Id) (slot : ℕ) → shown start len horizon slots current (filter (λ e. not (is_in_slot slots slot e)) entries) ticks (ready ++ bucket_in entries slots slot) ≡ emptied (shown start len horizon slots current entries ticks ready) (slot ∷ [])
emptied_is start len horizon slots current entries ticks ready slot =
    same_but (shown start len horizon slots current entries ticks ready) _ _ (active_in ticks) (active_in ticks) _ _ (λ s. grind (arith, common_steps, bucket_in_discard entries slots slot s)) (λ t. refl) (grind (arith, common_steps))

-- buckets emptied one after another, each slot once
pub emptied_more : (w : Wheel) (slots : List ℕ) (slot : ℕ) → list_any (λ s. s == slot) slots ≡ false → emptied (emptied w slots) (slot ∷ []) ≡ emptied w (slots ++ slot ∷ [])
emptied_more w slots slot apart =
    same_but w _ _ w.active w.active _ _ (λ s. bucket_of s) (λ t. refl) ready_is
  where
    bucket_of : (s : ℕ) → (if list_any (λ x. x == s) (slot ∷ []) then [] else (emptied w slots).bucket s) ≡ (if list_any (λ x. x == s) (slots ++ slot ∷ []) then [] else w.bucket s)
    bucket_of s = rw (list_any-append (λ x. x == s) slots (slot ∷ [])) (grind (arith, common_steps))

    ready_is : (w.ready ++ flat_map w.bucket slots) ++ flat_map (emptied w slots).bucket (slot ∷ []) ≡ w.ready ++ flat_map w.bucket (slots ++ slot ∷ [])
    ready_is = rw (flat_map-append w.bucket slots (slot ∷ []), apart) (grind (arith, common_steps))

-- the bucket of the next tick emptied, within a revolution
pub emptied_step : (u v w : Wheel) (first step slot : ℕ) → v ≡ emptied w (map (slot_of w) (range_with_len first step)) → u ≡ emptied v (slot ∷ []) → slot ≡ (first + step) % w.slots → 0 < w.slots → step < w.slots → u ≡ emptied w (map (slot_of w) (range_with_len first (step + 1)))
emptied_step u v w first step slot so_far next at some less =
    next ∙ ap (λ x. emptied x (slot ∷ [])) so_far ∙ emptied_more w (map (slot_of w) (range_with_len first step)) slot (rw at (slot_of_next w.slots first step some less)) ∙ ap (emptied w) (ap (λ s. map (slot_of w) (range_with_len first step) ++ s ∷ []) at ∙ sym (map-range_with_len_more (slot_of w) first step (first + step) refl))
