use Rattle.std.proofs.Common.{refl, ◌∙◌, arith}
use Rattle.exec_text.proofs.Said.{said_found, said_past}
use Rattle.exec_text.proofs.line.Lines.next_said.Goals as goal

pub loop-line-init : goal.loop-line-init
loop-line-init c = record { same_text = refl; more = omega arith; said = refl }

pub returns-then-says_something-clause-text : goal.returns-then-says_something-clause-text
returns-then-says_something-clause-text c = c.in-Some.ensures.text ∙ c.loop-line.invariant.same_text

pub returns-then-says_something-clause-found : goal.returns-then-says_something-clause-found
returns-then-says_something-clause-found c = grind (arith, said_found)

pub loop-line-preserved : goal.loop-line-preserved
loop-line-preserved c = grind (arith, said_past)

pub returns-clause-text : goal.returns-clause-text
returns-clause-text c = c.in_default.ensures.text ∙ c.loop-line.invariant.same_text
