-- The names of a worker's sleepers: each is of one alone, and none is given again.
use Rattle.exec_invariants.{proofs.{Names.{◌≡◌, inl, inr, ℕ, zero, suc, ◌^◌, ◌<◌, ◌≤◌, List, [], ◌∷◌, ◌++◌, length, Some, IsSome, refl, sym, ap, subst, ◌∙◌, arith, slice_get, slice_set, length-append, IsPast, Slab, TakesId, freed, next_generation, removed, slot_at, value_at, Id, Changed-set, IsLiveAt-from_value, live_within, past-free, was_live, Sleeping, Driving, Reply, Names, Record, SleeperRecord, number_in, by_number, same_Some, set_elsewhere, set_there}, Taken.was_got}, specs.{Due.AreNapsNamed, Names.IsNamed}}

-- a sleeper of the worker stood there under this name
pub record WasNap (i : ℕ) (ss : List SleeperRecord) (k : ℕ) (r' : SleeperRecord) : Type 0 where
  pub r : SleeperRecord
  pub there : slice_get ss k ≡ Some r
  pub mine : r.shown.worker ≡ i
  pub name : r.id.0 ≡ r'.id.0

pub was_same : (i : ℕ) (ss : List SleeperRecord) (k : ℕ) (r : SleeperRecord) → slice_get ss k ≡ Some r → r.shown.worker ≡ i → WasNap i ss k r
was_same i ss k r there mine = record { r = r; there = there; mine = mine; name = refl }

-- those that stand there stood there, and what is past stays so
pub naps_on : (i : ℕ) (zs zs' : Slab (Sleeping Reply)) (ss ss' : List SleeperRecord) → ((k : ℕ) (r' : SleeperRecord) → slice_get ss' k ≡ Some r' → r'.shown.worker ≡ i → WasNap i ss k r') → ((id : Id) → IsPast zs id → IsPast zs' id)
    → AreNapsNamed i zs ss → AreNapsNamed i zs' ss'
naps_on i zs zs' ss ss' was past names =
    record {
      past = λ k r there mine. (let old = was k r there mine in subst (IsPast zs') old.name (past old.r.id.0 (names.past k old.r old.there old.mine)));
      unique = λ j k x y at_j at_k mine mine' same.
          let a = was j x at_j mine in
          let b = was k y at_k mine' in
          names.unique j k a.r b.r a.there b.there a.mine b.mine (a.name ∙ same ∙ sym b.name);
    }

-- one that was set has its name still
pub naps_set : (i : ℕ) (zs zs' : Slab (Sleeping Reply)) (ss : List SleeperRecord) (n : ℕ) (z z' : SleeperRecord) → slice_get ss n ≡ Some z → z'.id.0 ≡ z.id.0 → z'.shown.worker ≡ z.shown.worker → ((id : Id) → IsPast zs id → IsPast zs' id)
    → AreNapsNamed i zs ss → AreNapsNamed i zs' (slice_set ss n z')
naps_set = grind (arith, naps_on, by_number, was_same, set_elsewhere, same_Some, set_there)

-- one more comes under a name that none had
module _ (i : ℕ) (zs zs' : Slab (Sleeping Reply)) (ss : List SleeperRecord) (z : SleeperRecord) (takes : TakesId zs zs' z.id.0) (unused : next_generation (slot_at zs z.id.0.index) ≤ z.id.0.generation) where
  pub naps_joined : AreNapsNamed i zs ss → AreNapsNamed i zs' (ss ++ z ∷ [])
  naps_joined = grind (arith, was_got)

  -- and no slot was taken more often than there are sleepers
  pub counted_joined : ((id : Id) → IsPast zs id → id.generation < length ss) → (id : Id) → IsPast zs' id → id.generation < length (ss ++ z ∷ [])
  counted_joined counted id past =
      elim ((takes.past id).0 past) [
        | inl old ↦ (let below = counted id old in omega (arith, below, length-append ss (z ∷ [])))
        | inr new ↦ by id.generation refl new
      ]
    where
      by : (g : ℕ) → id.generation ≡ g → id ≡ z.id.0 → id.generation < length (ss ++ z ∷ [])
      by zero is new = (let more = length-append ss (z ∷ []) in omega (arith, is, more))
      by (suc g) is new =
          let before : Id = record { index = id.index; generation = g } in
          let lower : IsPast zs' before = (let e : id.generation < next_generation (slot_at zs' id.index) = past in omega (arith, e, is)) in
          elim ((takes.past before).0 lower) [
            | inl old ↦ (let below = counted before old in omega (arith, below, length-append ss (z ∷ []), is))
            | inr same ↦ absurd (let e : g ≡ id.generation = ap (λ (x : Id). x.generation) (same ∙ sym new) in omega (arith, e, is))
          ]

-- as one leaves its slot, the same names are past
pub removed_past : (zs : Slab (Sleeping Reply)) (id : Id) → IsSome (value_at zs id) → id.generation < 2 ^ 64 → (other : Id) → (IsPast (removed zs id) other → IsPast zs other) × (IsPast zs other → IsPast (removed zs id) other)
removed_past zs id some small other =
    let was = was_live zs id some in
    let live = IsLiveAt-from_value zs.slots id.index id.generation zs.first some in
    let both = past-free zs (removed zs id) id was.0 small (Changed-set zs (removed zs id) id.index (freed id.generation) refl refl (live_within zs.slots id.index id.generation live.value live.is)) was.1 other in
    (both.0, both.1)

-- A sleeper whose name is there has the number of that.
pub stands : (i : ℕ) (n : Names) (d : Driving Reply Reply) (zs : Slab (Sleeping Reply)) (rs : List Record) (ss : List SleeperRecord) → IsNamed i n d zs rs ss → AreNapsNamed i zs ss
    → (k : ℕ) (r : SleeperRecord) → slice_get ss k ≡ Some r → r.shown.worker ≡ i → IsSome (value_at zs r.id.0) → number_in n.timers.items r.id.0 ≡ k
stands = grind arith
