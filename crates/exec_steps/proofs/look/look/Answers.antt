use Rattle.std.proofs.Common.{refl, arith}
use Rattle.exec_moves.specs.declared.{idling.InLook.InLook, place.Place.Place}
use Rattle.exec_invariants.proofs.{Dedicated.few_here, NextDue.told_due}
use Rattle.exec_steps.proofs.Looking.{claimed_returned, claimed_some, count_looked, head_looked, look_count_exchanged, look_count_returned, looks_some, mirror_looked, published, tail_looked}
use Rattle.exec_steps.proofs.look.look.Goals as goal

pub publish-requires : goal.publish-requires
publish-requires g c = record { few = few_here _ _ _ c.requires.sound refl }

pub returns-in-Publish : goal.returns-in-Publish
returns-in-Publish g c = record { steps = published _ _ _ _ _ _ c.publish.new.idle (rw c.in-Publish.is at c.requires.sound) c.publish.ensures.makes c.publish.ensures.goes c.publish.ensures.idle }

pub return_look_count-requires : goal.return_look_count-requires
return_look_count-requires g c = record { holds = looks_some c.args.worker.now c.args.shared.now (rw c.in-ReturnLookCount.is at c.requires.sound) c.requires.whole }

pub returns-in-ReturnLookCount : goal.returns-in-ReturnLookCount
returns-in-ReturnLookCount g c =
    record { steps = look_count_returned g.B.Body.left g.B.Scripted.spot c.args.worker.now c.return_look_count.new.worker c.args.shared.now c.return_look_count.result c.return_look_count.new.idle (rw c.in-ReturnLookCount.is at c.requires.sound) (looks_some c.args.worker.now c.args.shared.now (rw c.in-ReturnLookCount.is at c.requires.sound) c.requires.whole) c.return_look_count.ensures.makes c.return_look_count.ensures.same c.return_look_count.ensures.idle }

pub returns-in-LookAtMirror : goal.returns-in-LookAtMirror
returns-in-LookAtMirror g c = record { steps = mirror_looked _ _ _ _ _ _ c.in-LookAtMirror.last _ (rw c.in-LookAtMirror.is at c.requires.sound) c.mirror.ensures c.look_at_mirror.ensures.event c.look_at_mirror.ensures.goes }

pub look_at_count-requires : goal.look_at_count-requires
look_at_count-requires g c =
    let sound = rw c.in-LookAtCount.is at c.requires.sound in
    record { told = told_due (Place.Look InLook.LookAtCount) c.args.worker.now c.args.shared.now sound refl; few = few_here _ _ _ sound refl }

pub returns-in-LookAtCount : goal.returns-in-LookAtCount
returns-in-LookAtCount g c = record { steps = count_looked _ _ _ _ _ _ (rw c.in-LookAtCount.is at c.requires.sound) c.look_at_count.ensures.event c.look_at_count.ensures.goes c.look_at_count.ensures.looks c.look_at_count.ensures.waits }

pub look_at_head-requires : goal.look_at_head-requires
look_at_head-requires g c = let sound = rw c.in-LookAtHead.is at c.requires.sound in record { there = omega (arith, sound.aims.1, sound.seated.many) }

pub returns-in-LookAtHead : goal.returns-in-LookAtHead
returns-in-LookAtHead g c = record { steps = head_looked _ _ _ _ _ _ c.in-LookAtHead.other (rw c.in-LookAtHead.is at c.requires.sound) c.look_at_head.ensures.makes c.look_at_head.ensures.goes }

pub look_at_tail-requires : goal.look_at_tail-requires
look_at_tail-requires g c =
    let sound = rw c.in-LookAtTail.is at c.requires.sound in
    record { there = omega (arith, sound.aims.1, sound.seated.many); told = told_due (Place.Look (InLook.LookAtTail c.in-LookAtTail.other c.in-LookAtTail.head)) c.args.worker.now c.args.shared.now sound refl; few = few_here _ _ _ sound refl; fits = omega (arith, sound.aims.1, sound.config.few) }

pub returns-in-LookAtTail : goal.returns-in-LookAtTail
returns-in-LookAtTail g c = record { steps = tail_looked _ _ _ _ _ _ _ _ (rw c.in-LookAtTail.is at c.requires.sound) c.look_at_tail.ensures.event c.look_at_tail.ensures.goes c.look_at_tail.ensures.steals c.look_at_tail.ensures.looks }

pub exchange_look_count-requires : goal.exchange_look_count-requires
exchange_look_count-requires g c = record { told = told_due (Place.Look InLook.ExchangeLookCount) c.args.worker.now c.args.shared.now (rw c.in-ExchangeLookCount.is at c.requires.sound) refl }

pub returns-in-ExchangeLookCount : goal.returns-in-ExchangeLookCount
returns-in-ExchangeLookCount g c =
    record { steps = look_count_exchanged g.B.Body.left g.B.Scripted.spot c.args.worker.now c.exchange_look_count.new.worker c.args.shared.now c.exchange_look_count.result c.exchange_look_count.new.shared (rw c.in-ExchangeLookCount.is at c.requires.sound) c.exchange_look_count.ensures.event c.exchange_look_count.ensures.first c.exchange_look_count.ensures.later c.exchange_look_count.ensures.waits c.exchange_look_count.ensures.idle }

pub return_claimed-requires : goal.return_claimed-requires
return_claimed-requires g c = record { holds = claimed_some c.args.worker.now c.args.shared.now (rw c.in-ReturnClaimed.is at c.requires.sound) c.requires.whole }

pub returns-in-ReturnClaimed : goal.returns-in-ReturnClaimed
returns-in-ReturnClaimed g c =
    record { steps = claimed_returned g.B.Body.left g.B.Scripted.spot c.args.worker.now c.return_claimed.new.worker c.args.shared.now c.return_claimed.result c.return_claimed.new.idle (rw c.in-ReturnClaimed.is at c.requires.sound) (claimed_some c.args.worker.now c.args.shared.now (rw c.in-ReturnClaimed.is at c.requires.sound) c.requires.whole) c.return_claimed.ensures.makes c.return_claimed.ensures.goes c.return_claimed.ensures.idle }
