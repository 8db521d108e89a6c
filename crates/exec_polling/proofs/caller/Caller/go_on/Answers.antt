use Rattle.exec_polling.proofs.Outsiders.{call_returned, call_worker_claimed}
use Rattle.exec_polling.proofs.caller.Caller.go_on.Goals as goal

pub returns-in-ClaimWorker : goal.returns-in-ClaimWorker
returns-in-ClaimWorker g c =
    record { steps = call_worker_claimed g.B.Body.left g.B.Scripted.spot c.args.self.now c.claim_worker.new.self c.args.shared.now c.claim_worker.result c.requires.sound c.in-ClaimWorker.set c.claim_worker.new.idle c.in-ClaimWorker.is c.requires.whole c.claim_worker.ensures.event c.claim_worker.ensures.goes c.claim_worker.ensures.idle }

pub returns-in-Return : goal.returns-in-Return
returns-in-Return g c = record { steps = call_returned g.B.Body.left g.B.Scripted.spot c.args.self.now c.finish.new.self c.args.shared.now c.finish.result c.requires.sound c.in-Return.is c.finish.ensures.event c.finish.ensures.goes }
