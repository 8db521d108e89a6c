-- What keeps the order of deadlines: that ticks go, that one comes, that a new request waits for one.
use Rattle.exec_invariants.{specs.Ordered.{HasCome, IsOlder, IsOrdered, IsToldBefore, Pairwise, StandsBefore, StandsIn, tick_at}, proofs.{Words.{◌≡◌, ◌≢◌, ◌⊎◌, ℕ, ◌+◌, ◌%◌, ◌^◌, ◌<◌, Bool, true, false, List, [], ◌∷◌, ◌++◌, Option, Some, None, IsSome, refl, sym, ap, subst, ◌∙◌, arith, inl, inr, false≢true, eqb_tells, AllByRecursion, Slab, IsPast, freed, next_id, removed, value_at, written, Id, Changed-set, IsLiveAt-from_value, live_within, past-write, was_live, Wheel, fresh, scheduled, unticked, with_tick, awaits_tick, takes_tick, tick_in, tick_of, waiter_at, Entry, Pending, Waiter, WaiterId, entry_of, rest_of, without, OneChanged, one_written, same_tells, unscheduled, Reply, number_in, by_name}, SparedRecord.live_of}}

-- PARTS OF A LIST

-- these stand in that list, in its order
abbrev pub IsPartOf : {X : Type 0} → List X → List X → Type 0
IsPartOf ys [] = ys ≡ []
IsPartOf {X} ys (x ∷ xs) = IsPartOf ys xs ⊎ ((zs : List X) × (ys ≡ x ∷ zs) × IsPartOf zs xs)

module _ {X : Type 0} where
  pub part_self : (xs : List X) → IsPartOf xs xs
  part_self [] = refl
  part_self (x ∷ xs) = inr (xs, refl, part_self xs)

  pub part_none : (xs : List X) → IsPartOf [] xs
  part_none [] = refl
  part_none (x ∷ xs) = inl (part_none xs)

  pub all_part : {P Q : X → Type 0} → ((x : X) → P x → Q x) → (xs ys : List X) → IsPartOf ys xs → AllByRecursion P xs → AllByRecursion Q ys
  all_part {P} {Q} f [] ys is all = subst (AllByRecursion Q) (sym is) tt
  all_part f (x ∷ xs) ys (inl part) all = all_part f xs ys part all.1
  all_part {P} {Q} f (x ∷ xs) ys (inr part) all = subst (AllByRecursion Q) (sym part.1) (f x all.0, all_part f xs part.0 part.2 all.1)

  pub pairs_part : {R S : X → X → Type 0} → ((x y : X) → R x y → S x y) → (xs ys : List X) → IsPartOf ys xs → Pairwise R xs → Pairwise S ys
  pairs_part {R} {S} f [] ys is all = subst (Pairwise S) (sym is) tt
  pairs_part f (x ∷ xs) ys (inl part) all = pairs_part f xs ys part all.1
  pairs_part {R} {S} f (x ∷ xs) ys (inr part) all = subst (Pairwise S) (sym part.1) (all_part (f x) xs part.0 part.2 all.0, pairs_part f xs part.0 part.2 all.1)

  pub all_append : (P : X → Type 0) (xs ys : List X) → AllByRecursion P xs → AllByRecursion P ys → AllByRecursion P (xs ++ ys)
  all_append P [] ys a b = b
  all_append P (x ∷ xs) ys a b = (a.0, all_append P xs ys a.1 b)

  pub pairs_append : (R : X → X → Type 0) (xs ys : List X) → Pairwise R xs → Pairwise R ys → AllByRecursion (λ x. AllByRecursion (R x) ys) xs → Pairwise R (xs ++ ys)
  pairs_append R [] ys a b across = b
  pairs_append R (x ∷ xs) ys a b across = (all_append (R x) xs ys a.0 across.0, pairs_append R xs ys a.1 b across.1)

  pub all_where : {P Q R : X → Type 0} → ((x : X) → P x → Q x → R x) → (xs : List X) → AllByRecursion P xs → AllByRecursion Q xs → AllByRecursion R xs
  all_where f [] a b = tt
  all_where f (x ∷ xs) a b = (f x a.0 b.0, all_where f xs a.1 b.1)

  pub pairs_where : {P : X → Type 0} {R S : X → X → Type 0} → ((x y : X) → P x → P y → R x y → S x y) → (xs : List X) → AllByRecursion P xs → Pairwise R xs → Pairwise S xs
  pairs_where f [] a b = tt
  pairs_where f (x ∷ xs) a b = (all_where (λ y p r. f x y a.0 p r) xs a.1 b.0, pairs_where f xs a.1 b.1)

pub part_without : (id : WaiterId) (ids : List WaiterId) → IsPartOf (without id ids) ids
part_without id [] = refl
part_without id (x ∷ ids) =
    elim (same_tells x id) [
      | inl same ↦ rw same.0 (inl (part_without id ids))
      | inr apart ↦ rw apart.0 (inr (without id ids, refl, part_without id ids))
    ]

pub part_after : (id : WaiterId) (ids : List WaiterId) → IsPartOf (without id (rest_of ids)) ids
part_after id [] = refl
part_after id (x ∷ ids) = inl (part_without id ids)

-- TICKS GO

-- no tick is new, and who took one takes none again
pub record Eases (s s' : Slab (Entry Reply Reply)) : Type 0 where
  pub ticks : (id : Id) (t : ℕ) → tick_at s' id ≡ Some t → tick_at s id ≡ Some t
  pub taken : (id : Id) → IsPast s id → awaits_tick (waiter_at s id) ≡ false → awaits_tick (waiter_at s' id) ≡ false
  pub past : (id : Id) → id.generation < 2 ^ 64 → IsPast s id → IsPast s' id

-- the wheel has the same in its buckets
pub record TurnsAlike (w w' : Wheel) : Type 0 where
  pub ready : w'.ready ≡ w.ready
  pub current : w'.current ≡ w.current
  pub slots : w'.slots ≡ w.slots
  pub bucket : (slot : ℕ) → w'.bucket slot ≡ w.bucket slot

pub alike_self : (w : Wheel) → TurnsAlike w w
alike_self w = record { ready = refl; current = refl; slots = refl; bucket = λ slot. refl }

one_unticked : (w : Wheel) (t : ℕ) → TurnsAlike w (unticked w t)
unfolding unticked
one_unticked w t = record { ready = refl; current = refl; slots = refl; bucket = λ slot. refl }

pub alike_unticked : (w : Wheel) (o : Option ℕ) → TurnsAlike w (unscheduled w o)
alike_unticked w None = alike_self w
alike_unticked w (Some t) = one_unticked w t

stands_on : (s s' : Slab (Entry Reply Reply)) (slots slot : ℕ) (id : Id) → Eases s s' → StandsIn s slots slot id → StandsIn s' slots slot id
stands_on s s' slots slot id eases it =
    record { bounded = it.bounded; past = eases.past id it.bounded it.past; taken = eases.taken id it.past it.taken; slot_is = λ t at. it.slot_is t (eases.ticks id t at) }

pub eased : {round : Bool} {numbers : List ℕ} {s s' : Slab (Entry Reply Reply)} {w w' : Wheel} {es es' ds ds' : List WaiterId} → Eases s s' → TurnsAlike w w' → IsPartOf es' es → IsPartOf ds' ds
    → IsOrdered round numbers s w es ds → IsOrdered round numbers s' w' es' ds'
eased {round} {numbers} {s} {s'} {w} {w'} {es} {es'} {ds} {ds'} eases turns new due it =
    record {
      drained = turns.ready ∙ it.drained;
      reach = λ id t at. rw (turns.current, turns.slots) (it.reach id t (eases.ticks id t at));
      rise = pairs_part (λ a b h. h) es es' new it.rise;
      newer = λ id t at. all_part (λ e h. h) es es' new (it.newer id t (eases.ticks id t at));
      stands = λ slot. rw (turns.bucket slot, turns.slots) (all_part (λ id h. stands_on s s' w.slots slot id eases h) (w.bucket slot) (w.bucket slot) (part_self (w.bucket slot)) (it.stands slot));
      buckets = λ slot. rw (turns.bucket slot)
          (pairs_part (λ a b h t u at bt. h t u (eases.ticks a t at) (eases.ticks b u bt)) (w.bucket slot) (w.bucket slot) (part_self (w.bucket slot)) (it.buckets slot));
      come = subst (λ n. AllByRecursion (λ id. HasCome s' n id.0) ds') (sym turns.current) (all_part (λ id h t at. h t (eases.ticks id.0 t at)) ds ds' due it.come);
      told = subst (λ n. Pairwise (λ a b. IsToldBefore round n numbers s' a.0 b.0) ds') (sym turns.slots)
          (pairs_part (λ a b h t u at bt. h t u (eases.ticks a.0 t at) (eases.ticks b.0 u bt)) ds ds' due it.told);
    }

-- of a worker that samples the clock, with nothing due
pub unordered : {round round' : Bool} {numbers : List ℕ} {s : Slab (Entry Reply Reply)} {w : Wheel} {es ds : List WaiterId} → ds ≡ [] → IsOrdered round numbers s w es ds → IsOrdered round' numbers s w es ds
unordered = grind arith

-- ONE REQUEST

-- of one request that changes its tick goes, or stays
module _ (s s' : Slab (Entry Reply Reply)) (id : Id) (was is : Option (Waiter Reply Reply)) (here : waiter_at s id ≡ was) (after : waiter_at s' id ≡ is)
    (others : (other : Id) → other ≢ id → waiter_at s' other ≡ waiter_at s other) where
  pub eases_one : ((t : ℕ) → tick_of is ≡ Some t → tick_of was ≡ Some t) → (awaits_tick was ≡ false → awaits_tick is ≡ false)
      → ((other : Id) → other.generation < 2 ^ 64 → IsPast s other → IsPast s' other) → Eases s s'
  eases_one = grind arith

-- an id that is there is past, and one that is given next was not there
pub live_past : (s : Slab (Entry Reply Reply)) (id : Id) → IsSome (value_at s id) → IsPast s id
live_past s id some = let was = was_live s id some in rw was.1 (omega arith)

pub vacant_next : (s : Slab (Entry Reply Reply)) (id : Id) → next_id s ≡ Some id → (IsPast s id → ⊥) → (other : Id) → IsSome (value_at s other) → other.index ≢ id.index
vacant_next = grind arith

pub past_written : (s : Slab (Entry Reply Reply)) (id : Id) (e : Entry Reply Reply) → IsSome (value_at s id) → (other : Id) → other.generation < 2 ^ 64 → IsPast s other → IsPast (written s id e) other
past_written s id e some other bounded past = (past-write s id e some other).1 past

pub past_removed : (s : Slab (Entry Reply Reply)) (id : Id) → IsSome (value_at s id) → (other : Id) → other.generation < 2 ^ 64 → IsPast s other → IsPast (removed s id) other
past_removed s id some other bounded past =
    let live = IsLiveAt-from_value s.slots id.index id.generation s.first some in
    let changed = Changed-set s (removed s id) id.index (freed id.generation) refl refl (live_within s.slots id.index id.generation live.value live.is) in
    grind arith

pub ticked_live : (s : Slab (Entry Reply Reply)) (id : Id) (t : ℕ) → tick_at s id ≡ Some t → IsSome (value_at s id)
ticked_live = grind arith

pub eases_written : (s : Slab (Entry Reply Reply)) (id : Id) (it it' : Waiter Reply Reply) → waiter_at s id ≡ Some it → ((t : ℕ) → tick_in it'.state ≡ Some t → tick_in it.state ≡ Some t)
    → (takes_tick it.state ≡ false → takes_tick it'.state ≡ false) → Eases s (written s id (Pending it'))
eases_written s id it it' at tick taken =
    let one = one_written s id (Pending it) (Pending it') (entry_of (value_at s id) it at) in
    eases_one s (written s id (Pending it')) id (Some it) (Some it') at one.is_at one.others tick taken (past_written s id (Pending it') (live_of s id it at))

-- A TICK COMES: the first of those to be enrolled goes to the end of a bucket
module _ (round : Bool) (numbers : List ℕ) (s : Slab (Entry Reply Reply)) (w : Wheel) (e : WaiterId) (rest : List WaiterId) (it : Waiter Reply Reply) (t : ℕ)
    (live : waiter_at s e.0 ≡ Some it) (takes : takes_tick it.state ≡ true) (bounded : e.0.generation < 2 ^ 64) (within : t < w.current + w.slots) (o : IsOrdered round numbers s w (e ∷ rest) []) where
  abbrev pub slab_timed : Slab (Entry Reply Reply)
  slab_timed = written s e.0 (Pending (with_tick t it))

  one : OneChanged s slab_timed e.0 (Some it) (Some (with_tick t it))
  one = one_written s e.0 (Pending it) (Pending (with_tick t it)) (entry_of (value_at s e.0) it live)

  ticked : (id : Id) (u : ℕ) → tick_at slab_timed id ≡ Some u → ((id ≡ e.0) × (u ≡ t)) ⊎ (tick_at s id ≡ Some u)
  ticked id u at =
      by_name id e.0
      (λ apart. inr (sym (ap tick_of (one.others id apart)) ∙ at))
      (λ same. inl (same, let now : Some t ≡ Some u = ap tick_of (sym one.is_at) ∙ ap (tick_at slab_timed) (sym same) ∙ at in cc))

  apart : (x : Id) → awaits_tick (waiter_at s x) ≡ false → x ≢ e.0
  apart x none same = false≢true (sym none ∙ ap (λ y. awaits_tick (waiter_at s y)) same ∙ ap awaits_tick live ∙ takes)

  tick_back : (slot u : ℕ) (x : Id) → StandsIn s w.slots slot x → tick_at slab_timed x ≡ Some u → tick_at s x ≡ Some u
  tick_back slot u x h at = sym (ap tick_of (one.others x (apart x h.taken))) ∙ at

  stays : (slot : ℕ) (x : Id) → StandsIn s w.slots slot x → StandsIn slab_timed w.slots slot x
  stays = grind (arith, past_written, live_of, one, apart, tick_back)

  own : StandsIn slab_timed w.slots (t % w.slots) e.0
  own = grind (arith, live_past, live_of, one)

  -- its own bucket, in which what is stale may be gone, and any other
  bucket_so : (F : List Id → Type 0) (slot : ℕ) → F (w.bucket slot) → (slot ≡ t % w.slots → (ids : List Id) → IsPartOf ids (w.bucket slot) → F (ids ++ e.0 ∷ [])) → F ((scheduled w e.0 t).bucket slot)
  unfolding scheduled
  bucket_so = grind (arith, eqb_tells, part_none, part_self)

  like_scheduled : ((scheduled w e.0 t).ready ≡ w.ready) × ((scheduled w e.0 t).current ≡ w.current) × ((scheduled w e.0 t).slots ≡ w.slots)
  unfolding scheduled
  like_scheduled = (refl, refl, refl)

  stands_then : (slot : ℕ) → AllByRecursion (StandsIn slab_timed w.slots slot) ((scheduled w e.0 t).bucket slot)
  stands_then slot =
      bucket_so (AllByRecursion (StandsIn slab_timed w.slots slot)) slot
      (all_part (stays slot) (w.bucket slot) (w.bucket slot) (part_self (w.bucket slot)) (o.stands slot))
      (λ is ids part. all_append (StandsIn slab_timed w.slots slot) ids (e.0 ∷ []) (all_part (stays slot) (w.bucket slot) ids part (o.stands slot)) (subst (λ n. StandsIn slab_timed w.slots n e.0) (sym is) own, tt))

  buckets_then : (slot : ℕ) → Pairwise (StandsBefore numbers slab_timed) ((scheduled w e.0 t).bucket slot)
  buckets_then slot =
      let old : Pairwise (StandsBefore numbers slab_timed) (w.bucket slot) =
      pairs_where (λ a b x y h u v au bv. h u v (tick_back slot u a x au) (tick_back slot v b y bv)) (w.bucket slot) (o.stands slot) (o.buckets slot) in
      bucket_so (Pairwise (StandsBefore numbers slab_timed)) slot old
      (λ is ids part.
      pairs_append (StandsBefore numbers slab_timed) ids (e.0 ∷ []) (pairs_part (λ a b h. h) (w.bucket slot) ids part old) (tt, tt)
      (all_part (λ x h. (λ u v xu ev. (o.newer x u (tick_back slot u x h xu)).0, tt)) (w.bucket slot) ids part (o.stands slot)))

  pub ticks_so : IsOrdered round numbers slab_timed (scheduled w e.0 t) rest []
  ticks_so =
      let reach : (id : Id) (t0 : ℕ) → tick_at slab_timed id ≡ Some t0 → t0 < (scheduled w e.0 t).current + (scheduled w e.0 t).slots =
      λ id u at. rw (like_scheduled.1, like_scheduled.2) (elim (ticked id u at) [ inl same ↦ rw same.1 within | inr was ↦ o.reach id u was ]) in
      let newer : (id : Id) (t0 : ℕ) → tick_at slab_timed id ≡ Some t0 → AllByRecursion (λ e0. IsOlder numbers id e0.0) rest = λ id u at. elim (ticked id u at) [ inl same ↦ rw same.0 o.rise.0 | inr was ↦ (o.newer id u was).1 ] in
      let stands : (slot : ℕ) → AllByRecursion (StandsIn slab_timed (scheduled w e.0 t).slots slot) ((scheduled w e.0 t).bucket slot) = λ slot. rw like_scheduled.2 (stands_then slot) in
      assumption (like_scheduled.0 ∙ o.drained, reach, o.rise.1, newer, stands, buckets_then, tt)

-- A REQUEST COMES IN, with the largest number
module _ (round : Bool) (numbers numbers' : List ℕ) (s s' : Slab (Entry Reply Reply)) (w : Wheel) (es : List WaiterId) (id : WaiterId) (k : ℕ)
    (next : next_id s ≡ Some id.0) (new : IsPast s id.0 → ⊥) (eases : Eases s s') (number : number_in numbers' id.0 ≡ k) (others : (other : Id) → other.index ≢ id.0.index → number_in numbers' other ≡ number_in numbers other)
    (largest : (other : Id) → IsSome (value_at s other) → number_in numbers other < k) (listed : AllByRecursion (λ e. IsSome (value_at s e.0)) es) (o : IsOrdered round numbers s w es []) where
  kept_number : (x : Id) → IsSome (value_at s x) → number_in numbers' x ≡ number_in numbers x
  kept_number x live = others x (vacant_next s id.0 next new x live)

  still_older : (a b : Id) → IsSome (value_at s a) → IsSome (value_at s b) → IsOlder numbers a b → IsOlder numbers' a b
  still_older a b x y h = rw (kept_number a x, kept_number b y) h

  is_older : (x : Id) → IsSome (value_at s x) → IsOlder numbers' x id.0
  is_older x live = rw (kept_number x live, number) (largest x live)

  -- whose deadline, if any, isn't to be enrolled
  pub comes_in : IsOrdered round numbers' s' w es []
  comes_in =
      let reach : (id : Id) (t : ℕ) → tick_at s' id ≡ Some t → t < w.current + w.slots = λ x t at. o.reach x t (eases.ticks x t at) in
      let rise = pairs_where (λ a b x y h. still_older a.0 b.0 x y h) es listed o.rise in
      let newer : (id : Id) (t : ℕ) → tick_at s' id ≡ Some t → AllByRecursion (λ e. IsOlder numbers' id e.0) es =
      λ x t at. let was = eases.ticks x t at in all_where (λ e live h. still_older x e.0 (ticked_live s x t was) live h) es listed (o.newer x t was) in
      let stands : (slot : ℕ) → AllByRecursion (StandsIn s' w.slots slot) (w.bucket slot) = λ slot. all_part (λ x h. stands_on s s' w.slots slot x eases h) (w.bucket slot) (w.bucket slot) (part_self (w.bucket slot)) (o.stands slot) in
      let buckets : (slot : ℕ) → Pairwise (StandsBefore numbers' s') (w.bucket slot) = λ slot.
      pairs_part (λ a b h t u at bt. let a' = eases.ticks a t at in let b' = eases.ticks b u bt in still_older a b (ticked_live s a t a') (ticked_live s b u b') (h t u a' b'))
      (w.bucket slot) (w.bucket slot) (part_self (w.bucket slot)) (o.buckets slot) in
      assumption (reach, rise, newer, stands, buckets, tt, o)

  -- and whose deadline is
  pub joins : IsOrdered round numbers' s' w (es ++ id ∷ []) []
  joins =
      let rise = pairs_append (λ a b. IsOlder numbers' a.0 b.0) es (id ∷ []) comes_in.rise (tt, tt) (all_part (λ e live. (is_older e.0 live, tt)) es es (part_self es) listed) in
      let newer : (id0 : Id) (t : ℕ) → tick_at s' id0 ≡ Some t → AllByRecursion (λ e. IsOlder numbers' id0 e.0) (es ++ id ∷ []) =
      λ x t at. all_append (λ e. IsOlder numbers' x e.0) es (id ∷ []) (comes_in.newer x t at) (is_older x (ticked_live s x t (eases.ticks x t at)), tt) in
      assumption (rise, newer, tt, comes_in)

-- before the first request
pub begins_ordered : {round : Bool} {numbers : List ℕ} {s : Slab (Entry Reply Reply)} {w : Wheel} {es ds : List WaiterId} (horizon tick start slots : ℕ) → s.slots ≡ [] → w ≡ fresh horizon tick start slots → es ≡ [] → ds ≡ [] → IsOrdered round numbers s w es ds
begins_ordered = grind arith
