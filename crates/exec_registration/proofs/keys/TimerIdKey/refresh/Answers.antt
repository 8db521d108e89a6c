use Rattle.std.proofs.Common.{refl}
use Rattle.exec_registration.proofs.Unheld.{sleeper_wakes}
use Rattle.exec_registration.proofs.keys.TimerIdKey.refresh.Goals as goal

pub returns-clause-wakes : goal.returns-clause-wakes
returns-clause-wakes g c = (sleeper_wakes c.args.home.now.timers _ c.args.self.0 c.args.waker _ refl c.requires.stale c.refresh-displaced.ensures.refreshed).0

pub returns-clause-still : goal.returns-clause-still
returns-clause-still g c = (sleeper_wakes c.args.home.now.timers _ c.args.self.0 c.args.waker _ refl c.requires.stale c.refresh-displaced.ensures.refreshed).1
