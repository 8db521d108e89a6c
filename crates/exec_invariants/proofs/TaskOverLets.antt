-- WHAT A WORKER LETS GO OF, one request after another: what holds again after each.
use Rattle.exec_invariants.proofs.{LetShown.let_seen, TaskOverFold.LetsSeen}

pub lets_seen : {B : Type 0} → LetsSeen B
lets_seen k w v s s' idle gates keeps lets mine seen =
    let it = let_seen k w v s s' idle gates keeps lets mine seen in
    record { keeps = it.keeps_on; own = it.own; desk = it.desk; shows = it.shows }
