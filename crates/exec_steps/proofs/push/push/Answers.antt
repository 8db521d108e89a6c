use Rattle.std.proofs.Common.{ap, arith, length, refl}
use Rattle.exec_invariants.proofs.{Dedicated.own_there, Pushing.{flowed_over, oldest_stored, push_head_loaded, value_stored}}
use Rattle.exec_moves.specs.declared.{handing.InPush.InPush, place.Place.Place}
use Rattle.exec_steps.proofs.CallNext.{push_next}
use Rattle.exec_steps.proofs.push.push.Goals as goal

pub load_push_head-requires : goal.load_push_head-requires
load_push_head-requires g c = let sound = rw c.in-LoadPushHead.is at c.requires.sound in record { there = own_there _ _ _ sound }

pub returns-in-LoadPushHead : goal.returns-in-LoadPushHead
returns-in-LoadPushHead g c = record { steps = push_head_loaded _ _ c.args.back _ _ _ _ _ (rw c.in-LoadPushHead.is at c.requires.sound) c.load_push_head.ensures.makes c.load_push_head.ensures.goes c.load_push_head.ensures.within refl }

pub store_value-requires : goal.store_value-requires
store_value-requires g c =
    let sound = rw c.in-StoreValue.is at c.requires.sound in
    record { there = own_there _ _ _ sound; hand = sound.hand; room = λ chair there. (sound.queue chair there).1; whole = λ chair there. (sound.queue chair there).0 }

pub returns-in-StoreValue : goal.returns-in-StoreValue
returns-in-StoreValue g c =
    record { steps = value_stored g.B.Body.left g.B.Scripted.spot c.args.back c.args.worker.now c.store_value.new.worker c.args.shared.now c.store_value.new.shared c.store_value.result c.in-StoreValue.count (rw c.in-StoreValue.is at c.requires.sound) (push_next g.B.Body.left g.B.Scripted.spot c.args.back (Place.Push (InPush.StoreValue c.in-StoreValue.count) c.args.back) c.args.worker.now c.args.shared.now (rw c.in-StoreValue.is at c.requires.sound) (record { callbacks = refl; closes = refl; closing = refl; spare = refl; bare = refl; held = λ x h. h.0; batch = λ ms h. h })) c.store_value.ensures.event c.store_value.ensures.goes c.store_value.ensures.chair c.store_value.ensures.kept }

pub flow_over-requires : goal.flow_over-requires
flow_over-requires g c =
    let sound = rw c.in-FlowOver.is at c.requires.sound in
    let none = sound.loot.none refl in
    record { there = own_there _ _ _ sound; full = λ chair there. (sound.queue chair there).1; unspent = λ chair there. (sound.queue chair there).2; whole = λ chair there. (sound.queue chair there).0; empty = none; places = omega (arith, sound.loot.places, ap length none) }

pub returns-in-FlowOver : goal.returns-in-FlowOver
returns-in-FlowOver g c = record { steps = flowed_over _ _ _ _ _ _ _ _ _ (rw c.in-FlowOver.is at c.requires.sound) c.requires.whole c.flow_over.ensures.event c.flow_over.ensures.worker c.flow_over.ensures.chair c.flow_over.ensures.kept }

pub store_oldest-requires : goal.store_oldest-requires
store_oldest-requires g c =
    let sound = rw c.in-StoreOldest.is at c.requires.sound in
    record { there = own_there _ _ _ sound; empty = λ chair there. sound.queue chair there }

pub returns-in-StoreOldest : goal.returns-in-StoreOldest
returns-in-StoreOldest g c = record { steps = oldest_stored _ _ _ _ _ _ _ _ (rw c.in-StoreOldest.is at c.requires.sound) c.store_oldest.ensures.makes c.store_oldest.ensures.goes c.store_oldest.ensures.chair c.store_oldest.ensures.kept }
