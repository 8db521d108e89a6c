use Rattle.std.proofs.Common.{arith, refl}
use Rattle.exec_invariants.proofs.{Dedicated.{few_here, own_there}, PopLeads.set_closed}
use Rattle.exec_steps.proofs.Popping.{alone_popped, pop_exchanged, pop_head_loaded, pop_stored}
use Rattle.exec_steps.proofs.pop.pop.Goals as goal

pub pop_alone-requires : goal.pop_alone-requires
pop_alone-requires g c =
    let sound = rw c.in-PopAlone.is at c.requires.sound in
    record { there = own_there _ _ _ sound; closed = set_closed _ c.args.back c.args.worker.now c.args.shared.now sound; shards = sound.shards; few = omega (arith, few_here _ _ _ sound refl) }

pub returns-in-PopAlone : goal.returns-in-PopAlone
returns-in-PopAlone g c = record { steps = alone_popped _ _ _ _ _ _ _ _ (rw c.in-PopAlone.is at c.requires.sound) c.requires.whole c.pop_alone.ensures.event c.pop_alone.ensures.worker c.pop_alone.ensures.chair c.pop_alone.ensures.kept }

pub load_pop_head-requires : goal.load_pop_head-requires
load_pop_head-requires g c =
    let sound = rw c.in-LoadPopHead.is at c.requires.sound in
    record { there = own_there _ _ _ sound; closed = set_closed _ c.args.back c.args.worker.now c.args.shared.now sound; shards = sound.shards; few = omega (arith, few_here _ _ _ sound refl) }

pub returns-in-LoadPopHead : goal.returns-in-LoadPopHead
returns-in-LoadPopHead g c = record { steps = pop_head_loaded _ _ _ _ _ _ _ c.args.back (rw c.in-LoadPopHead.is at c.requires.sound) c.load_pop_head.ensures.event c.load_pop_head.ensures.worker refl }

pub exchange_pop-requires : goal.exchange_pop-requires
exchange_pop-requires g c =
    let sound = rw c.in-ExchangePop.is at c.requires.sound in
    record { there = own_there _ _ _ sound; closed = set_closed _ c.args.back c.args.worker.now c.args.shared.now sound; shards = sound.shards; few = omega (arith, few_here _ _ _ sound refl); seen = λ chair there. (sound.queue chair there).1 }

pub returns-in-ExchangePop : goal.returns-in-ExchangePop
returns-in-ExchangePop g c =
    record { steps = pop_exchanged g.B.Body.left g.B.Scripted.spot c.args.worker.now c.exchange_pop.new.worker c.args.shared.now c.exchange_pop.new.shared c.exchange_pop.result c.args.back c.in-ExchangePop.head (rw c.in-ExchangePop.is at c.requires.sound) c.requires.whole c.exchange_pop.ensures.event c.exchange_pop.ensures.worker c.exchange_pop.ensures.chair c.exchange_pop.ensures.kept }

pub store_pop-requires : goal.store_pop-requires
store_pop-requires g c =
    let sound = rw c.in-StorePop.is at c.requires.sound in
    record { there = own_there _ _ _ sound; lone = λ chair there. (sound.queue chair there).1; unclaimed = λ chair there. (sound.queue chair there).2 }

pub returns-in-StorePop : goal.returns-in-StorePop
returns-in-StorePop g c = record { steps = pop_stored _ _ _ _ _ _ _ _ (rw c.in-StorePop.is at c.requires.sound) c.requires.whole c.store_pop.ensures.event c.store_pop.ensures.worker c.store_pop.ensures.chair c.store_pop.ensures.kept }
