use Rattle.std.proofs.{Common.{refl, sym, ap}, lemmas.Bool.true≢false}
use Rattle.exec_moves_laws.proofs.examples.what_cells_show.Goals as goal

pub returns-clause-latch : goal.returns-clause-latch
returns-clause-latch c = λ it. true≢false (sym (ap (λ w. w.latch) (it.words 0 refl)))
