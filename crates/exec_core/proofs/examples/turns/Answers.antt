use Rattle.std.proofs.{Common.{true, ◌==◌, refl, sym, ap}, lemmas.Bool.false≢true}
use Rattle.exec_core.specs.{Words.{Kind, RequestPhase}, Examples.of_open}
use Rattle.exec_core.proofs.examples.turns.Goals as goal

pub returns-clause-both_in_flight : goal.returns-clause-both_in_flight
returns-clause-both_in_flight c turns =
    false≢true (ap (λ n. n == 1) (turns.one 0 1 (of_open Kind.Sync RequestPhase.Flying) (of_open Kind.Dsync RequestPhase.Flying) refl refl refl refl refl))

pub returns-clause-cancelled : goal.returns-clause-cancelled
returns-clause-cancelled c turns = false≢true (sym (turns.uncancelled 0 (record (of_open Kind.Write RequestPhase.Flying) { cancelled = true }) refl refl refl))
