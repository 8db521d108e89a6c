use Rattle.exec_machine.proofs.Apart.{events, lines}
use Rattle.exec_machine.proofs.laws.own_parts_are_apart.Goals as goal

pub returns : goal.returns
returns c = record { events = events; lines = lines }
