use Rattle.std.proofs.{Common.arith, lemmas.Grind.common_steps}
use Rattle.exec_ring.proofs.socket.Socket.receive.Goals as goal

pub fill_window-requires-clause-whole : goal.fill_window-requires-clause-whole
fill_window-requires-clause-whole c = grind (arith, common_steps)

pub append_filled-requires-clause-within : goal.append_filled-requires-clause-within
append_filled-requires-clause-within c = grind (arith, common_steps)

pub invariant_of-self : goal.invariant_of-self
invariant_of-self c = grind (arith, common_steps)

pub returns-clause-socket : goal.returns-clause-socket
returns-clause-socket c = grind (arith, common_steps)

pub returns-clause-filled : goal.returns-clause-filled
returns-clause-filled c = grind (arith, common_steps)
