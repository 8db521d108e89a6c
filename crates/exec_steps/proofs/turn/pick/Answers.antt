use Rattle.std.proofs.Common.{refl}
use Rattle.exec_invariants.proofs.Dedicated.{own_there}
use Rattle.exec_steps.proofs.{Picks.{counted_down, head_loaded, mirror_loaded}, Sharing.share_came}
use Rattle.exec_steps.proofs.turn.pick.Goals as goal

pub returns-in-CountDown : goal.returns-in-CountDown
returns-in-CountDown g c = record { steps = counted_down _ _ _ _ _ _ (rw c.in-CountDown.is at c.requires.sound) (c.count_down.ensures.makes c.args.shared.now.config refl refl) c.count_down.ensures.same }

pub returns-in-LoadMirror : goal.returns-in-LoadMirror
returns-in-LoadMirror g c = record { steps = mirror_loaded _ _ _ _ _ _ c.in-LoadMirror.first (rw c.in-LoadMirror.is at c.requires.sound) c.load_mirror.ensures.makes c.load_mirror.ensures.goes }

pub returns-in-LoadHead : goal.returns-in-LoadHead
returns-in-LoadHead g c = record { steps = head_loaded _ _ _ _ _ _ c.in-LoadHead.first (rw c.in-LoadHead.is at c.requires.sound) c.load_head.ensures.makes c.load_head.ensures.goes }

pub take_share-requires : goal.take_share-requires
take_share-requires g c =
    let sound = rw c.in-TakeShare.is at c.requires.sound in
    record { there = own_there _ _ _ sound; workers = sound.config.workers; room = λ chair there. (sound.queue chair there).1; whole = λ chair there. (sound.queue chair there).0 }

pub returns-in-TakeShare : goal.returns-in-TakeShare
returns-in-TakeShare g c =
    record { steps = share_came g.B.Body.left g.B.Scripted.spot c.in-TakeShare.first c.in-TakeShare.room c.in-TakeShare.held c.args.worker.now c.take_share.new.worker c.args.shared.now c.take_share.new.shared c.take_share.result (rw c.in-TakeShare.is at c.requires.sound) c.requires.whole c.take_share.ensures.event c.take_share.ensures.worker c.take_share.ensures.global c.take_share.ensures.chair }
