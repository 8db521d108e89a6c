-- What a call on an open alone leaves as it was.
use Rattle.std.specs.Prelude.{◌≡◌}
use Rattle.exec_driver_laws.specs.Laws.{failure_in}
use Rattle.exec_opens.specs.Opens.{OpenState}

-- The same request holds the gate, the same wait there, and the same failure is kept.
pub record KeepsLine (old new : OpenState) : Type 0 where
  pub holder : new.holder ≡ old.holder
  pub waiting : new.waiting ≡ old.waiting
  pub failure : failure_in new.account ≡ failure_in old.account
