-- The sleeper that fires first is the one that the machine fires; and what stands on the desk then.
use Rattle.exec_invariants.{proofs.{Names.{◌≡◌, ℕ, ◌^◌, ◌<◌, ◌≤◌, ◌&&◌, ◌||◌, Bool, true, false, not, List, [], ◌∷◌, zero, suc, length, map, nat_le, Option, Some, None, IsSome, Ok, refl, sym, ap, subst, ◌∙◌, arith, slice_get, slice_index_or, false≢true, append-nil, map-append, list_all, option_map, lt-leb, IsPast, Slab, is_live, next_generation, removed, value_at, Id, Slot, Live, Retired, Vacant, was_live, Adds, IsFirst, completions_of, wakes_of, Watching, Sleeping, Deferred, Driving, is_none_earlier, is_asleep, Common, Own, no_sleeper, is_to_fire, Slots, vacated, Desk, told_of_fire, Reply, Names, Record, SleeperRecord, number_in, completions_in, slots_seen, same_Some, slice_get-map}, Fired.{all_by, le-leb}, Firing.slept_there, FiringSlots.{OneBed, bed_vacated, value_of_slot}, Seen.sleeper_at, Unclosed.unclosed}, specs.{Due.AreAsleep, Rooted.Watches, Names.IsNamed}}

-- NAMES

-- one that stands in a slot is past
pub live_past : (zs : Slab (Sleeping Reply)) (id : Id) → IsSome (value_at zs id) → IsPast zs id
live_past zs id some = let was = was_live zs id some in subst (λ x. id.generation < next_generation x) (sym was.1) (omega arith)

-- its slot is its own
module _ (i : ℕ) (n : Names) (d : Driving Reply Reply) (zs : Slab (Sleeping Reply)) (rs : List Record) (ss : List SleeperRecord) (named : IsNamed i n d zs rs ss) where
  -- what stands in a slot has a record of that name
  pub bed_named : (j : ℕ) (x : Slot (Sleeping Reply)) → slice_get zs.slots j ≡ Some x → is_live x ≡ true
      → (id : Id) × (it : Sleeping Reply) × (value_at zs id ≡ Some it) × (id.index ≡ j) × (y : SleeperRecord) × (slice_get ss (slice_index_or n.timers.items j 0) ≡ Some y) × (y.id.0 ≡ id)
  bed_named j (Live g e) at alive =
      let id : Id = record { index = j; generation = g } in
      let value = value_of_slot zs j g e at in
      let found = named.timers id (rw value refl) in
      (id, e, value, refl, found.0, found.1, found.2)
  bed_named j (Vacant g) at alive = absurd (false≢true alive)
  bed_named j Retired at alive = absurd (false≢true alive)

  pub one_bed : (closing : Bool) → AreAsleep closing i n zs ss → length ss < 2 ^ 64 → (id : Id) (it : Sleeping Reply) → value_at zs id ≡ Some it → OneBed n.timers.items zs id
  one_bed = grind (arith, live_past, bed_named, same_Some)

-- WHO IS FIRST

some_fails : {X : Type 0} (test : X → Bool) (xs : List X) (k : ℕ) (x : X) → slice_get xs k ≡ Some x → test x ≡ false → list_all test xs ≡ false
some_fails test [] k x at fails = absurd (let none : None ≡ Some x = at in cc)
some_fails test (y ∷ xs) zero x at fails = let same : y ≡ x = same_Some y x at in ap (λ b. b && list_all test xs) (ap test same ∙ fails)
some_fails test (y ∷ xs) (suc k) x at fails = grind (arith, some_fails test xs k x at fails)

not_first : (a b : Bool) → (a && b && false) ≡ false
not_first = grind arith

module _ (i : ℕ) (closing : Bool) (opens : closing ≡ false) (n : Names) (d : Driving Reply Reply) (zs : Slab (Sleeping Reply)) (rs : List Record) (ss : List SleeperRecord) (named : IsNamed i n d zs rs ss) (asleep : AreAsleep closing i n zs ss)
    (deadline : ℕ) (id : Id) (first : IsFirst zs deadline id) (it : Sleeping Reply) (was : value_at zs id ≡ Some it) (z : SleeperRecord) (there : slice_get ss (number_in n.timers.items id) ≡ Some z) where
  its_deadline : deadline ≡ it.deadline
  its_deadline = same_Some deadline it.deadline (sym first.at ∙ ap (option_map (λ (x : Sleeping Reply). x.deadline)) was)

  pub until : z.shown.until ≡ deadline
  until = (asleep.alike id it z was there).until ∙ sym its_deadline

  -- no sleeper of its worker is earlier
  none_before : (j : ℕ) (y : SleeperRecord) → slice_get ss j ≡ Some y → is_asleep i y.shown ≡ true → z.shown.until ≤ y.shown.until
  none_before j y at sleeps =
      let by : (o : Option (Sleeping Reply)) → value_at zs y.id.0 ≡ o → IsSome o → z.shown.until ≤ y.shown.until = grind arith in
      by (value_at zs y.id.0) refl (asleep.there j y at sleeps (unclosed i n zs ss asleep opens j y at sleeps))

  pub earliest : is_none_earlier i z.shown.until (map (λ y. y.shown) ss) ≡ true
  earliest = grind (arith, all_by, until, slept_there, le-leb, none_before)

  -- none in a slot before it is the first
  pub not_before : (me : Own) (s : Common) → s.sleepers ≡ map (λ y. y.shown) ss → (j : ℕ) (x : Slot (Sleeping Reply)) → j < id.index → slice_get zs.slots j ≡ Some x → is_live x ≡ true → is_to_fire i me s (slice_index_or n.timers.items j 0) ≡ false
  not_before me s shown j x less at alive =
      let apart_less : (a b u v : ℕ) → a ≤ b → u ≡ a → v ≡ b → ((a ≡ b) → ⊥) → u < v = grind arith in
      let a = bed_named i n d zs rs ss named j x at alive in
      let y = a.4 in
      let m = slice_index_or n.timers.items j 0 in
      let later : z.shown.until < y.shown.until =
      let its = (asleep.alike a.0 a.1 y a.2 (ap (slice_get ss) (ap (λ k. slice_index_or n.timers.items k 0) a.3) ∙ a.5)).until in
      let unlike : (deadline ≡ a.1.deadline) → ⊥ = λ same. let tie = first.ties a.0 a.1 a.2 same in let index = a.3 in omega (arith, tie, index, less) in
      apart_less deadline a.1.deadline z.shown.until y.shown.until (first.least a.0 a.1 a.2) until its unlike in
      let fails : is_none_earlier i y.shown.until (map (λ v. v.shown) ss) ≡ false =
      some_fails (λ v. not (is_asleep i v) || nat_le y.shown.until v.until) (map (λ v. v.shown) ss) (number_in n.timers.items id) z.shown (slice_get-map (λ (v : SleeperRecord). v.shown) ss (number_in n.timers.items id) ∙ ap (option_map (λ (v : SleeperRecord). v.shown)) there)
      (ap (λ b. not b || nat_le y.shown.until z.shown.until) (asleep.alike id it z was there).asleep ∙ lt-leb y.shown.until z.shown.until later) in
      ap (λ v. is_asleep i v && nat_le v.until me.sampled && is_none_earlier i v.until s.sleepers) (ap (λ xs. slice_index_or xs m no_sleeper) shown ∙ sleeper_at ss m y a.5)
      ∙ ap (λ b. is_asleep i y.shown && nat_le y.shown.until me.sampled && b) (ap (is_none_earlier i y.shown.until) shown ∙ fails) ∙ not_first (is_asleep i y.shown) (nat_le y.shown.until me.sampled)

  -- and it is
  pub is_first : (me : Own) (s : Common) → s.sleepers ≡ map (λ y. y.shown) ss → deadline ≤ me.sampled → is_to_fire i me s (number_in n.timers.items id) ≡ true
  is_first = grind (arith, until, sleeper_at, le-leb, earliest)

-- THE DESK

module _ (d : Desk) (numbers : List ℕ) (zs : Slab (Sleeping Reply)) (left left' : Deferred Reply Reply) (id : Id) (z : SleeperRecord) (one : OneBed numbers zs id) (wakes : d.wakes ≡ map (λ t. t.0) left.notes.wakes.items) (ends : d.completions ≡ completions_in left.notes.completions.items)
    (timers : d.timers ≡ slots_seen numbers zs) where
  abbrev pub made : List ℕ → List ℕ → Slots → Desk
  made ws cs ts = record d { wakes = ws; completions = cs; timers = ts }

  made_same : {a a' b b' : List ℕ} {c c' : Slots} → a ≡ a' → b ≡ b' → c ≡ c' → made a b c ≡ made a' b' c'
  made_same {a' = a'} {b = b} {b' = b'} {c = c} ha hb hc = ap (λ x. made x b c) ha ∙ ap (λ x. made a' x c) hb ∙ ap (λ x. made a' b' x) hc

  gone : slots_seen numbers (removed zs id) ≡ vacated (number_in numbers id) d.timers
  gone = bed_vacated numbers zs id one ∙ ap (vacated (number_in numbers id)) (sym timers)

  pub desk_fired : (o : Watching Reply) → Watches (number_in numbers id) o z → Adds left.notes left'.notes (wakes_of o) (completions_of (Ok tt) o)
      → made (map (λ t. t.0) left'.notes.wakes.items) (completions_in left'.notes.completions.items) (slots_seen numbers (removed zs id)) ≡ told_of_fire (number_in numbers id) z.shown d
  desk_fired = grind (arith, made_same, map-append, append-nil, gone)
