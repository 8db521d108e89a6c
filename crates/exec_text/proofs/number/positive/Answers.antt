use Rattle.exec_text.proofs.Numbers.{decimal_not_zero}
use Rattle.exec_text.proofs.number.positive.Goals as goal

pub returns-then-number-eq0-clause-none : goal.returns-then-number-eq0-clause-none
returns-then-number-eq0-clause-none c = λ n some small. decimal_not_zero c.args.bytes.now c.in_ok-number.number n c.in_ok-number.ensures.found c.if-number-eq0.true some small
