use Rattle.std.proofs.Common.{arith}
use Rattle.exec_run.proofs.{Names.length-take, RunLemmas.taken_behind}
use Rattle.exec_run.proofs.reading.read_all.Goals as goal

pub returns-in_err-count-clause-few : goal.returns-in_err-count-clause-few
returns-in_err-count-clause-few g c = taken_behind _ _ _ _ _ _ c.pieces.invariant.read (grind (arith, length-take)) c.read_piece.ensures.taken

pub returns-then-count-eq0-clause-few : goal.returns-then-count-eq0-clause-few
returns-then-count-eq0-clause-few g c = taken_behind _ _ _ _ _ _ c.pieces.invariant.read (grind (arith, length-take)) c.read_piece.ensures.taken
