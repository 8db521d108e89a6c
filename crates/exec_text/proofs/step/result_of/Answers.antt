use Rattle.std.proofs.{Common.arith, lemmas.Slice.first_rest}
use Rattle.exec_text.proofs.Steps.{errno_none}
use Rattle.exec_text.proofs.step.result_of.Goals as goal

pub returns-in_err-positive-in-45-clause-none : goal.returns-in_err-positive-in-45-clause-none
returns-in_err-positive-in-45-clause-none c = grind (arith, errno_none, first_rest)
