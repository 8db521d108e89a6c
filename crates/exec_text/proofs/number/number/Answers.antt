use Rattle.std.proofs.Common.{refl}
use Rattle.exec_text.proofs.Numbers.{unplain, untext, parsed, unparsed}
use Rattle.exec_text.proofs.number.number.Goals as goal

pub returns-then-not-is_plain-clause-none : goal.returns-then-not-is_plain-clause-none
returns-then-not-is_plain-clause-none c = λ n. unplain c.args.bytes.now n (λ p. let h = c.if-not-is_plain.ensures.1 p in cc)

pub returns-in_default-clause-none : goal.returns-in_default-clause-none
returns-in_default-clause-none c = λ n. untext c.args.bytes.now n c.in_default.ensures.cases.0

pub returns-clause-found : goal.returns-clause-found
returns-clause-found c = parsed c.args.bytes.now c.in-Ok.text.now c.parse.result c.ok.result c.parse.ensures.value.0 c.in-Ok.ensures.cases.0 c.ok.ensures.value (c.if-not-is_plain.ensures.0 refl)

pub returns-clause-none : goal.returns-clause-none
returns-clause-none c = unparsed c.args.bytes.now c.in-Ok.text.now c.parse.result c.ok.result c.parse.ensures.value.0 c.in-Ok.ensures.cases.0 c.ok.ensures.value (c.if-not-is_plain.ensures.0 refl)
