use Rattle.std.proofs.{Common.{◌∷◌, decimal, arith}, lemmas.Slice.first_rest}
use Rattle.exec_text.proofs.Fields.{stripped, unstripped, some_then}
use Rattle.exec_text.proofs.header.value_of.Goals as goal

pub returns-in_err-strip_prefix-clause-none : goal.returns-in_err-strip_prefix-clause-none
returns-in_err-strip_prefix-clause-none c =
    rw c.from_residual.ensures (λ n small. unstripped c.args.line.now c.as_bytes.result.now c.args.name.now (32 ∷ decimal n) c.in_err-strip_prefix.ensures.cases c.as_bytes.ensures.value)

pub returns-in-32-clause-found : goal.returns-in-32-clause-found
returns-in-32-clause-found c = grind (arith, stripped, first_rest, some_then)
