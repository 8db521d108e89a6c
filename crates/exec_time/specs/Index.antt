-- How the sleepers of a worker are found. No public clause cites this module.
use Rattle.std.specs.{Prelude.{◌≡◌, ℕ, ◌<◌, Bool, false, Option, Some, None, ◌==◌}, declared.cmp.Ordering.Ordering, Ordering.{nat_cmp, ordering_then}, BTreeSet.{BTreeSet, contains}}
use Rattle.exec_base.specs.{Slab.{Slab, value_at}, declared.slab.Id.Id}
use Rattle.exec_time.specs.declared.timers.{Sleeper.Sleeper, TimerId.TimerId}

-- the order in which sleepers fire: by deadline, and then by id
abbrev pub by_deadline : ℕ × TimerId → ℕ × TimerId → Ordering
by_deadline a b = ordering_then (nat_cmp a.0 b.0) (ordering_then (nat_cmp a.1.0.index b.1.0.index) (nat_cmp a.1.0.generation b.1.0.generation))

module _ {S : Type 0} where
  -- whether a sleeper is there and has this deadline
  abbrev pub sleeps_until : ℕ → Option (Sleeper S) → Bool
  sleeps_until deadline None = false
  sleeps_until deadline (Some sleeper) = sleeper.deadline == deadline

  -- the order has the deadline of each sleeper with its id and nothing else, and no slot below the index has a sleeper
  pub record IsIndexed (sleepers : Slab (Sleeper S)) (order : BTreeSet (ℕ × TimerId)) (empty_below : ℕ) : Type 0 where
    pub places : (deadline : ℕ) (id : TimerId) → contains by_deadline order (deadline, id) ≡ sleeps_until deadline (value_at sleepers id.0)
    pub none_below : (id : Id) → id.index < empty_below → value_at sleepers id ≡ None
