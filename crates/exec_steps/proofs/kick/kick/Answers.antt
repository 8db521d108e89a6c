use Rattle.exec_moves.specs.declared.handing.InKick.{InKick}
use Rattle.exec_steps.proofs.CallNext.{kick_next}
use Rattle.exec_invariants.proofs.Kicking.{kick_count_exchanged, kick_count_loaded, kick_count_returned, kick_set_loaded, kicks_some}
use Rattle.exec_steps.proofs.kick.kick.Goals as goal

pub returns-in-LoadKickCount : goal.returns-in-LoadKickCount
returns-in-LoadKickCount g c =
    record { steps = kick_count_loaded g.B.Body.left g.B.Scripted.spot c.args.worker.now c.load_kick_count.new.worker c.args.shared.now c.load_kick_count.result c.args.back (rw c.in-LoadKickCount.is at c.requires.sound) (kick_next g.B.Body.left g.B.Scripted.spot c.args.back (InKick.LoadKickCount) c.args.worker.now c.args.shared.now (rw c.in-LoadKickCount.is at c.requires.sound)) c.load_kick_count.ensures.event c.load_kick_count.ensures.goes }

pub returns-in-LoadKickSet : goal.returns-in-LoadKickSet
returns-in-LoadKickSet g c =
    record { steps = kick_set_loaded g.B.Body.left g.B.Scripted.spot c.args.worker.now c.load_kick_set.new.worker c.args.shared.now c.load_kick_set.result c.args.back (rw c.in-LoadKickSet.is at c.requires.sound) (kick_next g.B.Body.left g.B.Scripted.spot c.args.back (InKick.LoadKickSet) c.args.worker.now c.args.shared.now (rw c.in-LoadKickSet.is at c.requires.sound)) c.load_kick_set.ensures.event c.load_kick_set.ensures.goes }

pub returns-in-ExchangeKickCount : goal.returns-in-ExchangeKickCount
returns-in-ExchangeKickCount g c =
    record { steps = kick_count_exchanged g.B.Body.left g.B.Scripted.spot c.args.worker.now c.exchange_kick_count.new.worker c.args.shared.now c.exchange_kick_count.result c.in-ExchangeKickCount.set c.args.back c.exchange_kick_count.new.idle (rw c.in-ExchangeKickCount.is at c.requires.sound) (kick_next g.B.Body.left g.B.Scripted.spot c.args.back (InKick.ExchangeKickCount c.in-ExchangeKickCount.set) c.args.worker.now c.args.shared.now (rw c.in-ExchangeKickCount.is at c.requires.sound)) c.exchange_kick_count.ensures.event c.exchange_kick_count.ensures.goes c.exchange_kick_count.ensures.idle }

pub returns-in-ReturnKickCount : goal.returns-in-ReturnKickCount
returns-in-ReturnKickCount g c =
    record { steps = kick_count_returned g.B.Body.left g.B.Scripted.spot c.args.worker.now c.return_kick_count.new.worker c.args.shared.now c.return_kick_count.result c.args.back c.return_kick_count.new.idle (rw c.in-ReturnKickCount.is at c.requires.sound) (kick_next g.B.Body.left g.B.Scripted.spot c.args.back InKick.ReturnKickCount c.args.worker.now c.args.shared.now (rw c.in-ReturnKickCount.is at c.requires.sound)) (kicks_some c.args.back c.args.worker.now c.args.shared.now (rw c.in-ReturnKickCount.is at c.requires.sound) c.requires.whole) c.return_kick_count.ensures.event c.return_kick_count.ensures.goes c.return_kick_count.ensures.idle }
