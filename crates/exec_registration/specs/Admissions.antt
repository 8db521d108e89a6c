-- What a registration of a request, and the beginning of a sync, do.
use Rattle.std.specs.Prelude.{◌≡◌, ℕ, ◌*◌, ◌<◌, Bool, true, false, List, Option, Some, None, Err, Ok}
use Rattle.exec_base.specs.{Slab.{next_id, live_count, IsPast, TakesId}, declared.error.Error.Error}
use Rattle.exec_opens.specs.Opens.{OpenState}
use Rattle.exec_driver.specs.{Admission.{Admits, HasFewSpare, with_rooms}, Steps.{told_at_admission, newcomer}}
use Rattle.exec_outcomes.specs.Accounts.{Account, is_dirty}
use Rattle.exec_registration.specs.{Homes.HomeState, declared.{operation.Started.{Started, TheVariants.UnderWay}, registration.RegistrationState.{RegistrationState, TheVariants.Waiting}}}
use Rattle.exec_request.specs.{States.Ended, declared.request.Request.Request}
use Rattle.exec_ring.specs.{Stores.Same, declared.store.Store.Store}
use Rattle.exec_waiters.specs.{States.is_full, Told.{HasPlaces, Tells, nothing_told}, declared.{observer.Observer.{Observer, TheVariants.Local}, waiter_id.WaiterId.WaiterId}}

-- What ends a sync at once: the failure that its open keeps, or that every change is durable. Of an open that isn't
-- there nothing is known.
abbrev pub ends_with : Option Error → Bool → Option Ended
ends_with (Some error) dirty = Some (Err error)
ends_with None true = None
ends_with None false = Some (Ok tt)

abbrev pub over_at_once : Option Account → Option Ended
over_at_once None = None
over_at_once (Some account) = ends_with account.failure (is_dirty account)

module _ {S F : Type 0} where
  -- nothing changed
  pub record Untouched (old new : HomeState S F) (opens opens' : List OpenState) (store store' : Store) : Type 0 where
    pub home : new ≡ old
    pub opens_same : opens' ≡ opens
    pub stored : Same store store'

  -- nothing changed but for how much there is memory; the ring has as many places as before
  pub record IsKept (old new : HomeState S F) (opens opens' : List OpenState) (store store' : Store) : Type 0 where
    pub home : new ≡ record old { driver = with_rooms new.driver old.driver; deferred = new.deferred }
    pub spots : new.driver.ring.places ≡ old.driver.ring.places
    pub untold : Tells old.deferred new.deferred nothing_told
    pub opens_same : opens' ≡ opens
    pub stored : Same store store'

  -- A worker admitted a request under this name, which nothing had before, with room for all that may be told. There was
  -- an index for it, and the ring has few places more than its requests need.
  pub record TakesIn (old new : HomeState S F) (opens opens' : List OpenState) (request : Request) (observer : Observer S F) (now : ℕ) (id : WaiterId) : Type 0 where
    pub next : next_id old.driver.requests ≡ Some id.0
    pub not_full : is_full old.driver.requests ≡ false
    pub slot : id.0.index < 4294967295
    pub admits : Admits old.driver new.driver opens opens' id request observer now
    pub told : Tells old.deferred new.deferred (told_at_admission id (newcomer request observer) now)
    pub places : HasPlaces new.deferred (2 * live_count new.driver.requests)
    pub spare : HasFewSpare new.driver
    pub rest : new ≡ record old { driver = new.driver; deferred = new.deferred }
    pub never_before : IsPast old.driver.requests id.0 → ⊥
    pub never_again : TakesId old.driver.requests new.driver.requests id.0

  -- it is registered, or a sync goes on alone
  pub record Registers (old new : HomeState S F) (opens opens' : List OpenState) (request : Request) (now : ℕ) (state : RegistrationState WaiterId) : Type 0 where
    pub id : WaiterId
    pub waits : state ≡ Waiting old.worker id
    pub takes : TakesIn old new opens opens' request (Local None) now id

  pub record Begins (old new : HomeState S F) (opens opens' : List OpenState) (request : Request) (observer : Observer S F) (now : ℕ) (started : Started) : Type 0 where
    pub id : WaiterId
    pub under_way : started ≡ UnderWay id
    pub takes : TakesIn old new opens opens' request observer now id
