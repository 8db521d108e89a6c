-- A request that its driver has is of the driver's worker.
use Rattle.exec_invariants.{proofs.Names.{◌≡◌, ℕ, Bool, true, false, List, Option, None, Some, IsSome, refl, sym, ◌∙◌, slice_get, false≢true, arith, Slab, value_at, Id, Sleeping, waiter_at, Waiter, WaiterId, entry_of, Driving, request_at, Reply, Names, Record, SleeperRecord, number_in}, specs.Names.IsNamed}

pub live_mine : (i : ℕ) (n : Names) (d : Driving Reply Reply) (zs : Slab (Sleeping Reply)) (rs : List Record) (ss : List SleeperRecord) → IsNamed i n d zs rs ss
    → (id : Id) (it : Waiter Reply Reply) (r : Record) → waiter_at d.requests id ≡ Some it → slice_get rs (number_in n.requests.items id) ≡ Some r → r.shown.worker ≡ i
live_mine = grind arith

pub stands : (d : Driving Reply Reply) (x : WaiterId) (test : Option (Waiter Reply Reply) → Bool) (o : Option (Waiter Reply Reply)) → request_at d x ≡ o → test None ≡ false → test o ≡ true → IsSome (value_at d.requests x.0)
stands d x test None at none h = absurd (false≢true (sym none ∙ h))
stands d x test (Some y) at none h = rw (entry_of (value_at d.requests x.0) y at) refl
