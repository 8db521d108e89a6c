use Rattle.std.proofs.{Common.arith, lemmas.Grind.elements}
use Rattle.exec_messages.proofs.callbacks.send_end.Goals as goal

pub unreachable-requires : goal.unreachable-requires
unreachable-requires g c = grind (arith, elements)

pub index_mut-requires : goal.index_mut-requires
index_mut-requires g c = grind (arith, elements)

pub index-requires : goal.index-requires
index-requires g c = grind (arith, elements)

pub returns : goal.returns
returns g c = grind (arith, elements)
