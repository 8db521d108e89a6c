-- What a thief's tries do, one after another.
use Rattle.exec_live_queue.{proofs.Words.{◌≡◌, HasKept, HasLooked, Theft}, specs.{Kinds.Does, declared.owner.Owner.Owner}}

module _ {T : Type 0} where
  -- tries that took nothing
  abbrev pub Tried : Owner T → Theft T → Owner T → Theft T → Type 0
  Tried o t o' t' = Does (λ d d'. HasLooked d d' × HasKept t t') (λ q q'. (q' ≡ q) × (t' ≡ t)) o o'
