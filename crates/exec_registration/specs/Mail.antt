-- What a message does to its worker.
use Rattle.std.specs.Prelude.{◌≡◌, false, List, [], Option, Some, None, Ok, Err}
use Rattle.exec_base.specs.{Slab.{Slab, value_at, written, removed}, declared.error.Error.TheVariants.Closed}
use Rattle.exec_driver.specs.Steps.{let_go, told_by_let_go}
use Rattle.exec_registration.specs.{Homes.HomeState, declared.mail.{Cancel.Cancel, Forward.Forward}}
use Rattle.exec_time.specs.{Notes.{HasRoom, Adds}, Sleepers.{is_forwarded, completions_of}, declared.{notes.ForwardedResult.ForwardedResult, timers.{Observer.TheVariants.Forwarded, Sleeper.Sleeper, TimerId.TimerId}}}
use Rattle.exec_waiters.specs.{Events.{forwarded, told_by_forward, told_by_orphan}, States.is_held_at, Told.{HasPlaces, Tells}, declared.waiter_id.WaiterId.WaiterId}

module _ {S : Type 0} where
  -- a sleeper that is there sends its result by this from now on; one that is gone has fired, and it is sent at once
  abbrev pub sending_by : S → Slab (Sleeper S) → TimerId → Option (Sleeper S) → Slab (Sleeper S)
  sending_by sender s id None = s
  sending_by sender s id (Some sleeper) = written s id.0 (record sleeper { observer = Forwarded sender })

  abbrev pub sent_at_once : S → Option (Sleeper S) → List (ForwardedResult S)
  sent_at_once sender None = completions_of (Ok tt) (Forwarded sender)
  sent_at_once sender (Some sleeper) = []

  -- a sleeper is gone, and who observes it elsewhere is told
  abbrev pub without : Slab (Sleeper S) → TimerId → Option (Sleeper S) → Slab (Sleeper S)
  without s id None = s
  without s id (Some sleeper) = removed s id.0

  abbrev pub told_of : Option (Sleeper S) → List (ForwardedResult S)
  told_of None = []
  told_of (Some sleeper) = completions_of (Err Closed) sleeper.observer

module _ {S F : Type 0} where
  -- FORWARD: there is room, and a sleeper wasn't forwarded before
  abbrev pub MayForward : HomeState S F → Forward S F → Type 0
  MayForward h (Forward.Waiter id sender) = HasPlaces h.deferred 1
  MayForward h (Forward.Timer id sender) = HasRoom h.deferred.notes 1 × (is_forwarded (value_at h.timers id.0) ≡ false)

  pub record ForwardsWaiter (old new : HomeState S F) (id : WaiterId) (sender : F) : Type 0 where
    pub home : new ≡ record old { driver = record old.driver { requests = forwarded old.driver.requests id.0 sender }; deferred = new.deferred }
    pub told : Tells old.deferred new.deferred (told_by_forward id.0 sender (value_at old.driver.requests id.0))

  pub record ForwardsTimer (old new : HomeState S F) (id : TimerId) (sender : S) : Type 0 where
    pub home : new ≡ record old { timers = sending_by sender old.timers id (value_at old.timers id.0); deferred = record old.deferred { notes = new.deferred.notes } }
    pub told : Adds old.deferred.notes new.deferred.notes [] (sent_at_once sender (value_at old.timers id.0))

  abbrev pub Forwards : HomeState S F → HomeState S F → Forward S F → Type 0
  Forwards old new (Forward.Waiter id sender) = ForwardsWaiter old new id sender
  Forwards old new (Forward.Timer id sender) = ForwardsTimer old new id sender

  -- CANCEL: nobody waits for a request, and it is cancelled unless it goes on alone; a sleeper is gone
  abbrev pub HasRoomFor : HomeState S F → Cancel → Type 0
  HasRoomFor h (Cancel.Waiter id) = HasPlaces h.deferred 2
  HasRoomFor h (Cancel.Timer id) = HasRoom h.deferred.notes 1

  pub record CancelsWaiter (old new : HomeState S F) (id : WaiterId) : Type 0 where
    pub home : new ≡ record old { driver = let_go old.driver id; deferred = new.deferred }
    pub told : Tells old.deferred new.deferred (told_by_let_go old.driver id (told_by_orphan id.0 (value_at old.driver.requests id.0)))

  pub record CancelsTimer (old new : HomeState S F) (id : TimerId) : Type 0 where
    pub home : new ≡ record old { timers = without old.timers id (value_at old.timers id.0); deferred = record old.deferred { notes = new.deferred.notes } }
    pub told : Adds old.deferred.notes new.deferred.notes [] (told_of (value_at old.timers id.0))

  abbrev pub Cancels : HomeState S F → HomeState S F → Cancel → Type 0
  Cancels old new (Cancel.Waiter id) = CancelsWaiter old new id
  Cancels old new (Cancel.Timer id) = CancelsTimer old new id

  -- nobody holds it any more
  abbrev pub IsUnheld : HomeState S F → Cancel → Type 0
  IsUnheld h (Cancel.Waiter id) = is_held_at (value_at h.driver.requests id.0) ≡ false
  IsUnheld h (Cancel.Timer id) = value_at h.timers id.0 ≡ None
