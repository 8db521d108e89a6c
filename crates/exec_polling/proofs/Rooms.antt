-- How much may still be told, and that a worker may make what a task asks for.
use Rattle.std.proofs.{Common.{ℕ, ◌+◌, ◌*◌, ◌≤◌, length, arith}, lemmas.List.Sums.count_by-le-length}
use Rattle.exec_base.specs.Slab.{Slab, live_count}
use Rattle.exec_time.specs.declared.timers.Sleeper.{Sleeper as Sleeping}
use Rattle.exec_waiters.specs.declared.waiter.Entry.{Entry}
use Rattle.exec_moves.specs.declared.place.Place.{Place}
use Rattle.exec_parts.specs.declared.parts.{mail.Reply.Reply, shared.Shared.Shared, worker.Worker.Worker}
use Rattle.exec_invariants.specs.{Admitting.MayMake, Sound.SoundAt, Names.tellers}

-- so many requests and sleepers may tell what there is room for
pub few_tellers : (s : Slab (Entry Reply Reply)) (zs : Slab (Sleeping Reply)) (n m : ℕ) → length s.slots ≤ n → live_count zs ≤ m → tellers s zs ≤ 2 * n + m + 1
few_tellers = grind (arith, count_by-le-length)

module _ {B : Type 0} where
  pub may_make : (q : Place) (w : Worker) (s : Shared B) → SoundAt q w s → MayMake w
  may_make q w s sound = record { slots = sound.named.slots; beds = sound.named.beds; over = omega (arith, sound.over.counted) }
