-- A worker that doesn't close has let go none of its sleepers.
use Rattle.exec_invariants.{specs.Due.AreAsleep, proofs.Words.{◌≡◌, ℕ, Bool, true, false, List, Some, slice_get, arith, Slab, Sleeping, is_asleep, Reply, Names, SleeperRecord}}

pub unclosed : {closing : Bool} (i : ℕ) (n : Names) (zs : Slab (Sleeping Reply)) (ss : List SleeperRecord) → AreAsleep closing i n zs ss → closing ≡ false → (k : ℕ) (r : SleeperRecord) → slice_get ss k ≡ Some r → is_asleep i r.shown ≡ true → r.closed ≡ false
unclosed = grind arith
