-- How often a task stands in the task set, each in its own shard, and what a drain has passed of it.
use Rattle.exec_invariants.{specs.{Drained.in_set, Places.one_if}, proofs.Words.{[], ◌≡◌, ◌≢◌, ℕ, zero, suc, ◌+◌, ◌<◌, ◌≤◌, ◌==◌, List, ◌∷◌, ◌++◌, length, sum_by, None, refl, ap, ◌∙◌, arith, cond, slice_index_or, slice_set, ◌%◌, cases_lt, length-set, sum_by-append, sum_by-cons, AreAtHome, IsFor, Set, TakesNewest, at_number, set_passed as passed, shard_at, Drain, HasPassed, by_number}}

-- HOW OFTEN A TASK STANDS IN THE SET

abbrev pub in_shard : ℕ → List (ℕ × Unit {0}) → ℕ
in_shard t shard = sum_by (λ (e : ℕ × Unit {0}). cond (e.0 == t) 1 0) shard

abbrev pub in_shards : ℕ → List (List (ℕ × Unit {0})) → ℕ
in_shards t shards = sum_by (in_shard t) shards

none_in_shards : (t : ℕ) (shards : List (List (ℕ × Unit {0}))) → ((k : ℕ) → slice_index_or shards k [] ≡ []) → in_shards t shards ≡ 0
none_in_shards t [] none = refl
none_in_shards t (x ∷ xs) none =
    omega (arith, sum_by-cons (in_shard t) x xs, ap (in_shard t) (none zero), none_in_shards t xs (λ k. none (suc k)))

pub none_in_set : (t : ℕ) (set : Set (Unit {0})) → ((k : ℕ) → shard_at set k ≡ []) → in_set t set ≡ 0
none_in_set t set none = none_in_shards t set.shards none

pub shards_set : (t : ℕ) (shards : List (List (ℕ × Unit {0}))) (k : ℕ) (shard : List (ℕ × Unit {0})) → k < length shards → in_shards t (slice_set shards k shard) + in_shard t (slice_index_or shards k []) ≡ in_shards t shards + in_shard t shard
shards_set t [] k shard few = absurd (omega (arith, few))
shards_set t (x ∷ xs) zero shard few = omega (arith, sum_by-cons (in_shard t) shard xs, sum_by-cons (in_shard t) x xs)
shards_set t (x ∷ xs) (suc k) shard few =
    omega (arith, sum_by-cons (in_shard t) x (slice_set xs k shard), sum_by-cons (in_shard t) x xs, shards_set t xs k shard (omega (arith, few)))

one_of : (n t : ℕ) → in_shard t ((n, tt) ∷ []) ≡ one_if (n == t)
one_of = grind arith

-- the newest task of a shard is taken out
pub newest_taken : (t u at : ℕ) (old new : Set (Unit {0})) → at < length old.shards → TakesNewest at (record { 0 = record { 0 = t }; 1 = tt }) old new → in_set u old ≡ in_set u new + one_if (t == u)
newest_taken t u at old new inside takes =
    let new_shard = shard_at new at in
    let was : in_shard u (slice_index_or old.shards at []) ≡ in_shard u new_shard + in_shard u ((t, tt) ∷ []) = ap (in_shard u) takes.newest ∙ sum_by-append (λ (e : ℕ × Unit {0}). cond (e.0 == u) 1 0) new_shard ((t, tt) ∷ []) in
    omega (arith, ap (λ z. in_shards u z.shards) takes.others, was, one_of t u, shards_set u old.shards at new_shard inside)

pub shard_elsewhere : (shards : List (List (ℕ × Unit {0}))) (i k : ℕ) (shard : List (ℕ × Unit {0})) → k ≢ i → slice_index_or (slice_set shards i shard) k [] ≡ slice_index_or shards k []
shard_elsewhere [] i k shard other = refl
shard_elsewhere (x ∷ xs) zero zero shard other = absurd (other refl)
shard_elsewhere (x ∷ xs) zero (suc k) shard other = refl
shard_elsewhere (x ∷ xs) (suc i) zero shard other = refl
shard_elsewhere (x ∷ xs) (suc i) (suc k) shard other = shard_elsewhere xs i k shard (λ same. other (ap suc same))

-- EACH TASK STANDS IN THE SHARD OF ITS NUMBER

shard_now : (shards : List (List (ℕ × Unit {0}))) (k : ℕ) (shard : List (ℕ × Unit {0})) → k < length shards → slice_index_or (slice_set shards k shard) k [] ≡ shard
shard_now [] k shard few = absurd (omega (arith, few))
shard_now (x ∷ xs) zero shard few = refl
shard_now (x ∷ xs) (suc k) shard few = shard_now xs k shard (omega (arith, few))

-- of one shard nothing is found but what was, or what belongs there
pub home_set : (shards : List (List (ℕ × Unit {0}))) (k : ℕ) (shard : List (ℕ × Unit {0})) → k < length shards → ((n : ℕ) → n % length shards ≢ k → at_number (slice_index_or shards k []) n ≡ None → at_number shard n ≡ None) → AreAtHome shards → AreAtHome (slice_set shards k shard)
home_set = grind (arith, by_number, shard_elsewhere, shard_now, length-set)

pub front_none : (xs ys : List (ℕ × Unit {0})) (n : ℕ) → at_number (xs ++ ys) n ≡ None → at_number xs n ≡ None
front_none [] ys n none = refl
front_none (x ∷ xs) ys n none = grind (arith, front_none xs ys n)

-- WHAT A DRAIN HAS PASSED

beyond : (shards : List (List (ℕ × Unit {0}))) (k : ℕ) → length shards ≤ k → slice_index_or shards k [] ≡ []
beyond [] k far = refl
beyond (x ∷ xs) zero far = absurd (omega (arith, far))
beyond (x ∷ xs) (suc k) far = beyond xs k (omega (arith, far))

-- one that is over has passed all
pub all_passed : (d : Drain) (set : Set (Unit {0})) → IsFor d set → d.left ≡ 0 → HasPassed d set → (k : ℕ) → shard_at set k ≡ []
all_passed = grind (arith, beyond, cases_lt)

-- the newest task of the shard that it is at was taken
pub passed_still : (d : Drain) (set set' : Set (Unit {0})) (shard : List (ℕ × Unit {0})) → 0 < d.left → set'.shards ≡ slice_set set.shards d.at shard → HasPassed d set → HasPassed d set'
passed_still = grind (arith, length-set, shard_elsewhere)

pub passed_on : (d : Drain) (set : Set (Unit {0})) → IsFor d set → 0 < d.left → HasPassed d set → shard_at set d.at ≡ [] → HasPassed (passed (length set.shards) d) set
passed_on = grind arith
