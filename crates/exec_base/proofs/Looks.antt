-- Calls of a condition, one after another.
use Rattle.std.proofs.Common.{ℕ, zero, suc, Bool, false, refl, subst}
use Rattle.exec_base.specs.Spinner.{Misses}

module _ {C : Type 0} (call : C → Bool → C → Type 0) where
  -- one more call that answers false
  pub Misses-more : (n : ℕ) (first before last : C) → Misses call n first before → call before false last → Misses call (suc n) first last
  Misses-more zero first before last missed miss = (last, (let P : C → Type 0 = λ f. call f false last in subst P missed miss), refl)
  Misses-more (suc n) first before last missed miss = (missed.0, missed.1, Misses-more n missed.0 before last missed.2 miss)
