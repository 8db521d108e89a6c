-- What passes a test of sameness is the same.
use Rattle.std.proofs.{Common.{◌≡◌, ℕ, Bool, true, false, if◌then◌else◌, Option, Some, None, refl, sym, ap, arith}, lemmas.Bool.{true≢false, eqb-true}}
use Rattle.exec_outcomes.specs.declared.outcome.Outcome.{Outcome}
use Rattle.exec_machine.specs.Same.{same_end, is_number}

pub same_end_is : (x y : Option Outcome) → same_end x y ≡ true → x ≡ y
same_end_is = grind arith

pub is_number_is : (n : ℕ) (m : Option ℕ) → is_number n m ≡ true → m ≡ Some n
is_number_is n None h = absurd (true≢false (sym h))
is_number_is n (Some m) h = ap Some (sym (eqb-true n m h))

-- an end that is told only where b holds
pub told_only_where : (o x : Outcome) (b : Bool) → same_end (Some o) (if b then Some x else None) ≡ true → b ≡ true
told_only_where o x true h = refl
told_only_where o x false h = absurd (true≢false (sym h))
