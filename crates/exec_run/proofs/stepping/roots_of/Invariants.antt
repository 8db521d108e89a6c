use Rattle.std.proofs.Common.{◌≡◌, ◌-◌, ◌∷◌, [], replicate}
use Rattle.exec_run.{proofs.Names.{Root, Waits}, specs.Script.{begun, words_of_all}}
use Rattle.exec_run.proofs.stepping.roots_of.Given as goal

abbrev pub invariant-loop : goal.invariant-loop
invariant-loop l =
    l.roots.items ≡ begun Root l.words (words_of_all l.program.scripts.now) l.program.limits ∷ replicate (l.counter - 1) (begun Waits [] (words_of_all l.program.scripts.now) l.program.limits)
