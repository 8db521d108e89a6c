use Rattle.exec_live_queue.proofs.Words.{subst, IfSome, Owned, HasPopped}
use Rattle.exec_live_queue.proofs.owner.SharedOwner.pop.Goals as goal

pub returns-clause-popped : goal.returns-clause-popped
returns-clause-popped g c = subst (λ (o : Owned g.row.T.Denot). IfSome c.pop.result (λ x. HasPopped o.own x c.pop.new.seat.me.0.own)) c.self.view_is c.pop.ensures.popped
