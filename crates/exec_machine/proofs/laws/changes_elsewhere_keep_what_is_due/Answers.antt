use Rattle.exec_machine.proofs.Elsewhere.{timer, new_timer, due, new_due, sleeper, new_sleeper, earlier_set, earlier_push}
use Rattle.std.proofs.Common.{arith}
use Rattle.exec_machine.proofs.laws.changes_elsewhere_keep_what_is_due.Goals as goal

pub returns : goal.returns
returns c = grind (arith, timer, new_timer, due, new_due, sleeper, new_sleeper, earlier_set, earlier_push)
