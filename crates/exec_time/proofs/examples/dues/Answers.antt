use Rattle.std.proofs.Common.{refl, arith}
use Rattle.exec_time.specs.SleepExamples.{named, forwarded}
use Rattle.exec_time.proofs.examples.dues.Goals as goal

pub returns-clause-is_due : goal.returns-clause-is_due
returns-clause-is_due c = record { sleeper = forwarded; there = refl; due = omega arith }

pub returns-clause-comes_second : goal.returns-clause-comes_second
returns-clause-comes_second c = λ first. absurd (omega (arith, first.least (named 1) forwarded refl))

pub returns-clause-not_lowest : goal.returns-clause-not_lowest
returns-clause-not_lowest c = λ lowest. let none = lowest.none_below (named 0) (omega arith) in absurd (cc)
