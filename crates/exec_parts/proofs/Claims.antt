-- What comes of an exchange of the idle set, by what was found there.
use Rattle.std.proofs.{Common.{arith, ◌≡◌, Bool, true, List, [], ◌∷◌, None, refl}}
use Rattle.exec_words.specs.{Idle.{Idle, lowest_of}, declared.idle.WorkerSet.WorkerSet}
use Rattle.exec_moves.specs.Claim.{Claimed, claimed, same_bools}

pub same_itself : (xs : List Bool) → same_bools xs xs ≡ true
same_itself [] = refl
same_itself (x ∷ xs) = grind (arith, same_itself xs)

pub same_only : (xs ys : List Bool) → same_bools xs ys ≡ true → xs ≡ ys
same_only [] ys h = grind arith
same_only (x ∷ xs) ys h = grind (arith, same_only xs)

pub claims_nobody : (seen : WorkerSet) (x : Idle) → lowest_of x.published ≡ None → claimed seen x ≡ Claimed.Nobody
claims_nobody seen x none = rw none refl
