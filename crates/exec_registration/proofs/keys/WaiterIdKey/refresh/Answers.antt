use Rattle.std.proofs.Common.{refl, ap, ◌∙◌}
use Rattle.exec_base.specs.Slab.{value_at}
use Rattle.exec_registration.proofs.Unheld.{request_wakes}
use Rattle.exec_waiters.specs.{Events.seen_by, States.may_be_seen}
use Rattle.exec_registration.proofs.keys.WaiterIdKey.refresh.Goals as goal

pub returns-clause-wakes : goal.returns-clause-wakes
returns-clause-wakes g c =
    ap (λ d. seen_by c.args.waker (value_at d.requests c.args.self.0)) c.set_waker-displaced.ensures.set
    ∙ (request_wakes c.args.home.now.driver.requests c.args.self.0 c.args.waker _ refl c.requires.seen c.requires.stale).0

pub returns-clause-still : goal.returns-clause-still
returns-clause-still g c =
    ap (λ d. may_be_seen (value_at d.requests c.args.self.0)) c.set_waker-displaced.ensures.set
    ∙ (request_wakes c.args.home.now.driver.requests c.args.self.0 c.args.waker _ refl c.requires.seen c.requires.stale).1
