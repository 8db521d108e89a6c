-- What follows where a result is one of both.
use Rattle.std.proofs.Common.{Result, Ok, Err, IfOk}
pub use Rattle.std.proofs.lemmas.Result.{on_err_weaker}

pub made_if : {A E : Type 0} (r : Result A E) {P Q : A → Type 0} → ((a : A) → P a → Q a) → IfOk r P → IfOk r Q
made_if (Ok a) f h = f a h
made_if (Err e) f h = h
