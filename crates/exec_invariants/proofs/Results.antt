-- Results and errors are what they are.
use Rattle.exec_invariants.proofs.Words.{◌≡◌, true, arith, Error, same_error}

pub same_error_self : (x : Error) → same_error x x ≡ true
same_error_self = grind arith
