-- A task set by the numbers of its tasks.
use Rattle.std.{proofs.{Common.{◌≡◌, ℕ, zero, suc, ◌<◌, ◌⊎◌, ◌++◌, ◌∷◌, replicate, ◌%◌, List, [], length, set, get_or, get_or-set_same, get_or-set_other, Option, Some, None, refl, sym, ◌∙◌, arith}, lemmas.{List.length-set, Bool.Decides.nat_tests}}, specs.{Ordering.nat_cmp, BTreeMap.{BTreeMap, UpdatesBy}}}
use Rattle.exec_base.specs.declared.task_no.TaskNo.{TaskNo}
use Rattle.exec_task.specs.TaskSet.{Set, at_number, shard_at, shard_of, AreAtHome, ShardChanges, Changes, TakesNewest}

-- an empty shard holds nothing
nothing : {T : Type 0} (count index : ℕ) (number : ℕ) → at_number {T = T} (get_or (replicate count []) index []) number ≡ None
nothing zero index number = refl
nothing (suc count) zero number = refl
nothing (suc count) (suc index) number = nothing count index number

module _ {T : Type 0} where
  -- what a map's own clause says, by numbers
  pub shard_changes : (old new : BTreeMap ℕ T) (number : ℕ) (task : Option T) → UpdatesBy nat_cmp (nat_cmp number) old new task → ShardChanges old.entries new.entries number task
  shard_changes old new number task updates =
      record { changed = updates.1; others = λ other apart. updates.2 other (grind (arith, nat_tests)) }

  -- a change of the number's shard is a change of the set
  pub changes : (s : Set T) (shard : List (ℕ × T)) (number : TaskNo) (task : Option T) → shard_of s number < length s.shards → ShardChanges (shard_at s (shard_of s number)) shard number.0 task → Changes s (record s { shards = set s.shards (shard_of s number) shard }) number task
  changes s shard number task there change =
      record {
        changed = grind (arith, length-set, get_or-set_same, change.changed);
        others = λ other apart. grind (arith, length-set, get_or-set_same, get_or-set_other, change.others other.0 apart);
      }

  -- nothing is held, and all of it is at home
  pub home_at_first : (shards : List (List (ℕ × T))) (count : ℕ) → shards ≡ replicate count [] → AreAtHome shards
  home_at_first shards count is index number some = absurd (some (rw is (nothing count index number)))

  -- what is held is at home after a change of its shard
  pub home_after : (shards : List (List (ℕ × T))) (shard : List (ℕ × T)) (index number : ℕ) (task : Option T) → AreAtHome shards → index < length shards → ((task ≡ None) ⊎ (number % length shards ≡ index)) → ShardChanges (get_or shards index []) shard number task → AreAtHome (set shards index shard)
  home_after shards shard index number task home there way change i q some =
      grind (arith, length-set, get_or-set_same, get_or-set_other, home i q, change.changed, change.others q, some)

  -- the newest task of a shard is taken from the set
  pub takes_newest : (s : Set T) (shard : List (ℕ × T)) (index : ℕ) (t : TaskNo × T) → AreAtHome s.shards → index < length s.shards → at_number (shard_at s index) t.0.0 ≡ Some t.1 → shard_at s index ≡ shard ++ (t.0.0, t.1) ∷ [] → ShardChanges (shard_at s index) shard t.0.0 None → TakesNewest index t s (record s { shards = set s.shards index shard })
  takes_newest s shard index t home there was newest change =
      let at_home : shard_of s t.0 ≡ index = home index t.0.0 (λ none. (let lost : Some t.1 ≡ None = sym was ∙ none in cc)) in
      record {
        was_held = grind (arith, at_home, was);
        newest = grind (arith, get_or-set_same, newest);
        others = grind (arith, get_or-set_same);
        changes = rw (← at_home) (changes s shard t.0 None (rw at_home there) (rw at_home change));
      }
