use Rattle.exec_live_queue.proofs.{Words.{arith, none, step, publishes}, Publishes.publish_rule, Rebuild.stepped}
use Rattle.exec_live_queue.proofs.steps.publish.Goals as goal

pub store-requires : goal.store-requires
store-requires g c = let q = c.requires in let words = c.args.words.now in let seat = c.args.seat.now in
    let new = c.args.tail in stepped words seat 12 (λ _. new) (λ n _. publishes (step n 12 new 0 none) seat.me new) q.0 (omega arith)
    (publish_rule words.key seat.id seat.me q.5 q.6 new q.1 q.2 q.3 q.7 q.8 (omega arith) q.9)
