-- A task of a number above all others joins the task set: it stands last in its shard.
use Rattle.std.{proofs.{Common.{◌≡◌, ◌≢◌, ℕ, zero, suc, ◌+◌, ◌%◌, ◌<◌, ◌==◌, arith, true, false, cond, List, [], ◌∷◌, ◌++◌, length, map, count_by, sum_by, Some, None, refl, ap, ◌∙◌, slice_index_or, slice_set}, lemmas.{Bool.eq-eqb, List.{map-set, Sums.{get_or-le-sum_by, sum_by-append, sum_by-cons, sum_by-set}}}}, specs.{Ordering.nat_cmp, Map.lookup, BTreeMap.{insert_entry, is_at}, declared.cmp.Ordering.Ordering}}
use Rattle.exec_task.specs.TaskSet.{Set, held, inserted, shard_at}

greater : (n k : ℕ) → k < n → nat_cmp n k ≡ Ordering.Greater
greater = grind arith

unequal : (k n : ℕ) → k ≢ n → is_at (nat_cmp k) n ≡ false
unequal = grind arith

module _ {T : Type 0} where
  -- how often a number stands in a shard
  abbrev pub count_of : ℕ → List (ℕ × T) → ℕ
  count_of t shard = count_by (λ e. e.0 == t) shard

  -- each number of the shard is below this
  abbrev pub AreBelow : ℕ → List (ℕ × T) → Type 0
  AreBelow n [] = Unit {0}
  AreBelow n (e ∷ es) = (e.0 < n) × AreBelow n es

  pub inserted_last : (n : ℕ) (v : T) (shard : List (ℕ × T)) → AreBelow n shard → insert_entry nat_cmp shard n v ≡ shard ++ (n, v) ∷ []
  inserted_last n v [] below = refl
  inserted_last n v (e ∷ es) below = rw (greater n e.0 below.0) (ap (λ xs. e ∷ xs) (inserted_last n v es below.1))

  pub never_found : (n : ℕ) (shard : List (ℕ × T)) → AreBelow n shard → lookup (is_at (nat_cmp n)) shard ≡ None
  never_found n [] below = refl
  never_found n (e ∷ es) below = rw (greater n e.0 below.0) (never_found n es below.1)

  count_more : (t : ℕ) (e : ℕ × T) (es : List (ℕ × T)) → count_of t (e ∷ es) ≡ cond (e.0 == t) 1 0 + count_of t es
  count_more t e es = sum_by-cons (λ y. cond (y.0 == t) 1 0) e es

  pub all_below : (n : ℕ) (shard : List (ℕ × T)) → ((t : ℕ) → 0 < count_of t shard → t < n) → AreBelow n shard
  all_below n [] below = tt
  all_below n (e ∷ es) below = (
    below e.0 (let one = count_more e.0 e es in let here : (e.0 == e.0) ≡ true = eq-eqb e.0 e.0 refl in let one_then : ℕ = 1 in let is : cond (e.0 == e.0) 1 0 ≡ one_then = ap (λ b. cond b 1 0) here in omega (arith, one, is)),
    all_below n es (λ t some. below t (omega (arith, count_more t e es, some))),
  )

  pub counted_last : (t n : ℕ) (v : T) (shard : List (ℕ × T)) → count_of t (shard ++ (n, v) ∷ []) ≡ count_of t shard + cond (n == t) 1 0
  counted_last t n v shard = sum_by-append (λ y. cond (y.0 == t) 1 0) shard ((n, v) ∷ []) ∙ ap (λ k. count_of t shard + k) (count_more t (n, v) [] ∙ omega arith)

  pub keys_last : (n : ℕ) (v : T) (shard : List (ℕ × T)) → map (λ e. e.0) (shard ++ (n, v) ∷ []) ≡ map (λ e. e.0) shard ++ n ∷ []
  keys_last n v [] = refl
  keys_last n v (e ∷ es) = ap (λ ks. e.0 ∷ ks) (keys_last n v es)

  -- another number isn't found then where it wasn't
  pub last_none : (shard : List (ℕ × T)) (n : ℕ) (v : T) (k : ℕ) → k ≢ n → lookup (is_at (nat_cmp k)) shard ≡ None → lookup (is_at (nat_cmp k)) (shard ++ (n, v) ∷ []) ≡ None
  last_none [] n v k other none = ap (λ b. cond b (Some v) None) (unequal k n other)
  last_none (e ∷ es) n v k other none = grind (arith, last_none es n v k other)

  -- THE SET

  abbrev pub count_in : ℕ → Set T → ℕ
  count_in t s = sum_by (count_of t) s.shards

  pub below_at : (n k : ℕ) (s : Set T) → ((t : ℕ) → 0 < count_in t s → t < n) → k < length s.shards → AreBelow n (shard_at s k)
  below_at n k s below few = all_below n (shard_at s k) (λ t some. below t (omega (arith, some, get_or-le-sum_by (count_of t) s.shards k [] few)))

  pub within : (n : ℕ) (s : Set T) → 0 < length s.shards → n % length s.shards < length s.shards
  within n s some = omega arith

  pub joined_shards : (n : ℕ) (v : T) (s : Set T) → 0 < length s.shards → ((t : ℕ) → 0 < count_in t s → t < n) → (let k = n % length s.shards in (inserted s (record { 0 = n }) v).shards ≡ slice_set s.shards k (shard_at s k ++ (n, v) ∷ []))
  joined_shards n v s some below =
      let k = n % length s.shards in
      ap (slice_set s.shards k) (inserted_last n v (shard_at s k) (below_at n k s below (within n s some)))

  pub joined_count : (t n : ℕ) (v : T) (s : Set T) → 0 < length s.shards → ((u : ℕ) → 0 < count_in u s → u < n) → count_in t (inserted s (record { 0 = n }) v) ≡ count_in t s + cond (n == t) 1 0
  joined_count = grind (arith, sum_by-set, within, joined_shards, counted_last)

  -- what is seen of the shards
  pub joined_seen : (n : ℕ) (v : T) (s : Set T) → 0 < length s.shards → ((t : ℕ) → 0 < count_in t s → t < n)
      → (let k = n % length s.shards in map (map (λ e. e.0)) (inserted s (record { 0 = n }) v).shards ≡ slice_set (map (map (λ e. e.0)) s.shards) k (map (λ e. e.0) (shard_at s k) ++ n ∷ []))
  joined_seen = grind (arith, joined_shards, map-set, keys_last)

  pub shard_shown : (shards : List (List (ℕ × T))) (k : ℕ) → slice_index_or (map (map (λ e. e.0)) shards) k [] ≡ map (λ e. e.0) (slice_index_or shards k [])
  shard_shown [] k = refl
  shard_shown (x ∷ xs) zero = refl
  shard_shown (x ∷ xs) (suc k) = shard_shown xs k

  -- no task has the next number yet
  pub absent : (n : ℕ) (s : Set T) → 0 < length s.shards → ((t : ℕ) → 0 < count_in t s → t < n) → held s (record { 0 = n }) ≡ None
  absent n s some below = never_found n (shard_at s (n % length s.shards)) (below_at n (n % length s.shards) s below (within n s some))
