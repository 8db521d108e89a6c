use Rattle.std.proofs.{Common.arith, lemmas.Grind.elements}
use Rattle.exec_messages.proofs.callbacks.wake_waiter.Goals as goal

pub returns-in-Some : goal.returns-in-Some
returns-in-Some g c = grind (arith, elements)

pub returns-in-None : goal.returns-in-None
returns-in-None g c = grind (arith, elements)
