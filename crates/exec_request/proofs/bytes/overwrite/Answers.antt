use Rattle.std.proofs.{Common.{◌-◌, arith, length-drop}, lemmas.List.length-take}
use Rattle.exec_request.proofs.Moving.{overwritten}
use Rattle.exec_request.proofs.bytes.overwrite.Goals as goal

pub returns : goal.returns
returns c = grind (arith, length-take, length-drop, overwritten)
