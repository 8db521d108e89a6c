use Rattle.exec_machine.proofs.Lasting.{over, released}
use Rattle.exec_machine.proofs.laws.ends_last.Goals as goal

pub returns : goal.returns
returns c = record { over = over; released = released }
