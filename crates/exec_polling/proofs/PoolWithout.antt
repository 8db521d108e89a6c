-- A shard, and the task set, without a task that leaves it.
use Rattle.std.{proofs.{Common.{[], ◌≡◌, ◌≢◌, ℕ, zero, suc, ◌+◌, ◌%◌, ◌<◌, ◌≤◌, ◌==◌, not, Bool, true, false, cond, List, ◌∷◌, length, map, filter, None, IsSome, refl, sym, ap, subst, ◌∙◌, arith, slice_index_or, is_some}, lemmas.{Bool.{false≢true}, List.Sums.sum_by-cons}}, specs.{Ordering.nat_cmp, BTreeMap.is_at}}
use Rattle.exec_task.specs.TaskSet.{AreAtHome, Set, at_number, held, shard_at, without_task}
use Rattle.exec_parts.proofs.Facts.{not_same, same_number}
use Rattle.exec_invariants.{specs.{Drained.in_set, Places.one_if}, proofs.PoolShards.{in_shard, in_shards}}

-- A SHARD that a task leaves

abbrev pub numbers : List (ℕ × Unit {0}) → List ℕ
numbers shard = map (λ e. e.0) shard

abbrev pub shard_without : ℕ → List (ℕ × Unit {0}) → List (ℕ × Unit {0})
shard_without t shard = without_task shard t

at_its_number : (t n : ℕ) → is_at (nat_cmp t) n ≡ (n == t)
at_its_number = grind arith

taken_here : (t : ℕ) (e : ℕ × Unit {0}) (es : List (ℕ × Unit {0})) → (e.0 == t) ≡ true → shard_without t (e ∷ es) ≡ es
taken_here t e es is = ap (λ b. cond b es (e ∷ shard_without t es)) (at_its_number t e.0 ∙ is)

kept_here : (t : ℕ) (e : ℕ × Unit {0}) (es : List (ℕ × Unit {0})) → (e.0 == t) ≡ false → shard_without t (e ∷ es) ≡ e ∷ shard_without t es
kept_here t e es is = ap (λ b. cond b es (e ∷ shard_without t es)) (at_its_number t e.0 ∙ is)

counted : (t : ℕ) (e : ℕ × Unit {0}) (es : List (ℕ × Unit {0})) → in_shard t (e ∷ es) ≡ one_if (e.0 == t) + in_shard t es
counted t e es = sum_by-cons (λ (y : ℕ × Unit {0}). cond (y.0 == t) 1 0) e es ∙ ap (λ n. n + in_shard t es) (by (e.0 == t))
  where
    by : (b : Bool) → cond b 1 0 ≡ one_if b
    by true = refl
    by false = refl

pub others_stay : (t u : ℕ) (shard : List (ℕ × Unit {0})) → u ≢ t → in_shard u (shard_without t shard) ≡ in_shard u shard
others_stay t u [] other = refl
others_stay t u (e ∷ es) other = grind (arith, in_shard, not_same, same_number, taken_here, counted, kept_here, others_stay t u es other)

pub as_few : (t : ℕ) (shard : List (ℕ × Unit {0})) → in_shard t (shard_without t shard) ≤ in_shard t shard
as_few t [] = omega arith
as_few t (e ∷ es) = grind (arith, in_shard, taken_here, counted, kept_here, as_few t es)

-- what is seen of it: one that stands there once at most is gone
abbrev pub but : ℕ → List ℕ → List ℕ
but t ns = filter (λ n. not (n == t)) ns

none_filtered : (t : ℕ) (shard : List (ℕ × Unit {0})) → in_shard t shard ≡ 0 → but t (numbers shard) ≡ numbers shard
none_filtered t [] none = refl
none_filtered t (e ∷ es) none = grind (arith, in_shard, counted, none_filtered t es)

pub filtered : (t : ℕ) (shard : List (ℕ × Unit {0})) → in_shard t shard ≤ 1 → but t (numbers shard) ≡ numbers (shard_without t shard)
filtered t [] few = refl
filtered t (e ∷ es) few = grind (arith, in_shard, counted, none_filtered, taken_here, kept_here, filtered t es)

-- what isn't found there isn't then
pub without_none : (t : ℕ) (shard : List (ℕ × Unit {0})) (n : ℕ) → at_number shard n ≡ None → at_number (shard_without t shard) n ≡ None
without_none t [] n none = refl
without_none t (e ∷ es) n none = grind (arith, taken_here, kept_here, without_none t es n)

-- THE SET that it leaves

pub at_most_all : (t : ℕ) (shards : List (List (ℕ × Unit {0}))) (k : ℕ) → in_shard t (slice_index_or shards k []) ≤ in_shards t shards
at_most_all t [] k = omega arith
at_most_all t (x ∷ xs) zero = omega (arith, sum_by-cons (in_shard t) x xs)
at_most_all t (x ∷ xs) (suc k) = omega (arith, sum_by-cons (in_shard t) x xs, at_most_all t xs k)

-- where it stands, that is its own shard
found_in : (t : ℕ) (shard : List (ℕ × Unit {0})) → 0 < in_shard t shard → IsSome (at_number shard t)
found_in t [] some = absurd (omega (arith, some))
found_in t (e ∷ es) some = grind (arith, in_shard, at_its_number, counted, found_in t es)

which_shard : (t : ℕ) (shards : List (List (ℕ × Unit {0}))) → 0 < in_shards t shards → (k : ℕ) × (0 < in_shard t (slice_index_or shards k []))
which_shard t [] some = absurd (omega (arith, some))
which_shard t (x ∷ xs) some = by (in_shard t x) refl (which_shard t xs)
  where
    by : (n : ℕ) → in_shard t x ≡ n → (0 < in_shards t xs → (k : ℕ) × (0 < in_shard t (slice_index_or xs k []))) → (k : ℕ) × (0 < in_shard t (slice_index_or (x ∷ xs) k []))
    by zero is rest = let at = rest (omega (arith, some, sum_by-cons (in_shard t) x xs, is)) in (suc at.0, at.1)
    by (suc n) is rest = (zero, omega (arith, is))

pub held_there : (t : ℕ) (set : Set (Unit {0})) → AreAtHome set.shards → in_set t set ≡ 1 → IsSome (held set (record { 0 = t }))
held_there t set home one =
    let at = which_shard t set.shards (omega (arith, one)) in
    let found : IsSome (at_number (shard_at set at.0) t) = found_in t (shard_at set at.0) at.1 in
    let own : t % length set.shards ≡ at.0 = home at.0 t (λ none. false≢true (sym (ap is_some none) ∙ found)) in
    subst (λ k. IsSome (at_number (shard_at set k) t)) (sym own) found
