use Rattle.std.proofs.{Common.arith, lemmas.Grind.elements}
use Rattle.exec_closing.proofs.closing.close_sleeper.Goals as goal

pub returns : goal.returns
returns g c = grind (arith, elements)
