-- Rounds of the shards of a task set.
use Rattle.std.{proofs.{Common.{◌≡◌, ◌≢◌, ℕ, zero, suc, ◌+◌, ◌<◌, ◌≤◌, ◌⊎◌, inl, inr, Bool, cond, List, [], ◌∷◌, ◌++◌, length, reverse, take, drop, get_or, set, get_or-set_same, count_by, sum_by, refl, ap, arith, rules, length-append, length-drop, append_assoc, add-one}, Math.Seq.{drop-cons, take-suc}, lemmas.List.{Sums.{sum_by-append, sum_by-cons, sum_by-take-drop}, Sorted.{IsPermutation-reverse, sum_by-IsPermutation}, reverse-append, append-nil, length-take, take-append-le, take_all, drop_all, drop-set-lt, take-set, length-set}}, specs.List.flat_map}
use Rattle.exec_base.specs.declared.task_no.TaskNo.{TaskNo}
use Rattle.exec_task.specs.{declared.drain.Drain.Drain, TaskSet.{Set, next_shard, from_shard, to_come, IsFor, TakesNewest}}

-- the next shard is the first, or the one after this
next_cases : (count at : ℕ) → ((at + 1 ≡ count) × (next_shard count at ≡ 0)) ⊎ ((at + 1 ≢ count) × (next_shard count at ≡ at + 1))
next_cases count at = search rules

module _ {T : Type 0} where
  -- the shards of a round but the one where it stands
  abbrev others : List (List (ℕ × T)) → ℕ → List (List (ℕ × T))
  others shards at = drop (suc at) shards ++ take at shards

  here_first : (shards : List (List (ℕ × T))) (at : ℕ) → at < length shards → from_shard shards at ≡ get_or shards at [] ∷ others shards at
  here_first shards at there = ap (λ xs. xs ++ take at shards) (drop-cons shards at [] there)

  -- from the next shard on, this one comes last
  here_last : (shards : List (List (ℕ × T))) (at : ℕ) → at < length shards → from_shard shards (next_shard (length shards) at) ≡ others shards at ++ get_or shards at [] ∷ []
  here_last shards at there =
      elim (next_cases (length shards) at) [
        | inl e ↦ grind (arith, append-nil, take_all (suc at) shards, drop_all (suc at) shards, take-suc shards at [] there)
        | inr e ↦ rw (e.1, add-one at, take-suc shards at [] there, append_assoc) refl
      ]

  -- an empty shard is passed
  pub to_come_passed :
      (shards : List (List (ℕ × T))) (at left rest : ℕ) → at < length shards → left ≡ rest + 1 → left ≤ length shards → get_or shards at [] ≡ []
      → to_come shards at left ≡ to_come shards (next_shard (length shards) at) rest
  to_come_passed shards at left rest there more few empty =
      let short : rest ≤ length (others shards at) =
      omega (arith, length-append (drop (suc at) shards) (take at shards), length-drop (suc at) shards, length-take at shards) in
      rw (here_last shards at there, more, add-one rest, here_first shards at there, empty, take-append-le rest (others shards at) ([] ∷ []) short) refl

  -- the newest task of the shard where a round stands is the first to come
  first_to_come :
      (shards : List (List (ℕ × T))) (shard : List (ℕ × T)) (task : ℕ × T) (at left : ℕ) → at < length shards → 0 < left
      → get_or shards at [] ≡ shard ++ task ∷ [] → to_come shards at left ≡ task ∷ to_come (set shards at shard) at left
  first_to_come shards shard task at zero there more newest = absurd (omega arith)
  first_to_come shards shard task at (suc left) there more newest =
      let there' : at < length (set shards at shard) = rw (length-set shards at shard) there in
      rw (here_first shards at there, here_first (set shards at shard) at there', newest, get_or-set_same shards at shard [] there, drop-set-lt (suc at) shards at shard (omega arith), take-set shards at shard, reverse-append shard (task ∷ [])) refl

  pub to_come_taken :
      (s s' : Set T) (d : Drain) (t : TaskNo × T) → IsFor d s → 0 < d.left → TakesNewest d.at t s s'
      → to_come s.shards d.at d.left ≡ (t.0.0, t.1) ∷ to_come s'.shards d.at d.left
  to_come_taken s s' d t its more taken =
      rw taken.others (first_to_come s.shards (get_or s'.shards d.at []) (t.0.0, t.1) d.at d.left its.there more taken.newest)

module _ {T : Type 0} (kind : ℕ × T → Bool) where
  counted : (shards : List (List (ℕ × T))) → count_by kind (flat_map reverse shards) ≡ sum_by (λ shard. count_by kind shard) shards
  counted [] = refl
  counted (x ∷ xs) =
      omega (arith, sum_by-append (λ t. cond (kind t) 1 0) (reverse x) (flat_map reverse xs), sum_by-IsPermutation (λ t. cond (kind t) 1 0) x (reverse x) (IsPermutation-reverse x), counted xs, sum_by-cons (λ shard. count_by kind shard) x xs)

  -- a whole round meets each shard once
  pub whole_round : (shards : List (List (ℕ × T))) (at : ℕ) → at < length shards → count_by kind (to_come shards at (length shards)) ≡ sum_by (λ shard. count_by kind shard) shards
  whole_round shards at there =
      let f = λ (shard : List (ℕ × T)). count_by kind shard in
      rw (take_all (length shards) (from_shard shards at) (omega (arith, length-append (drop at shards) (take at shards), length-drop at shards, length-take at shards)), counted (from_shard shards at))
      (omega (arith, sum_by-append f (drop at shards) (take at shards), sum_by-take-drop f shards at))
