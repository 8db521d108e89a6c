use Rattle.exec_parts.proofs.MailHeld.{HeldSoFar}
use Rattle.exec_parts.proofs.parts.worker.Worker.let_go_held.Given as goal

abbrev pub invariant-loop-held : goal.invariant-loop-held
invariant-loop-held g l = HeldSoFar l.requests l.fn.self l.fn.shared l.held-index l.self l.shared
