-- What a clause sees of a worker's home.
use Rattle.std.specs.Prelude.{ℕ, Bool}
use Rattle.exec_base.specs.Slab.{Slab}
use Rattle.exec_driver.specs.{Driving.{Driving, seen}, Punctual.IsPunctual, declared.home.Home.Home}
use Rattle.exec_time.specs.declared.timers.Sleeper.{Sleeper}
use Rattle.exec_waiters.specs.declared.deferred.Deferred.{Deferred}

-- the worker's number, whether it closes, its requests with their ring, its sleepers, and what is left to be told
pub record HomeState (S F : Type 0) : Type 0 where
  pub worker : ℕ
  pub closing : Bool
  pub driver : Driving S F
  pub timers : Slab (Sleeper S)
  pub deferred : Deferred S F

abbrev pub home_of : {R S F : Type 0} → Home R S F → HomeState S F
home_of h =
    record { worker = h.worker; closing = h.closing; driver = seen h.driver; timers = h.timers; deferred = h.deferred }

-- the driver is punctual where it was, so that a service may follow
abbrev pub StaysPunctual : {S F : Type 0} → HomeState S F → HomeState S F → Type 0
StaysPunctual old new = IsPunctual old.driver → IsPunctual new.driver
