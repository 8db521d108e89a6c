-- What the stagings of a service do to a worker and to the records of its requests, and where a request that is over leads.
use Rattle.std.specs.Prelude.{◌≡◌, ◌<◌, ◌&&◌, ◌||◌, ◌∷◌, ◌++◌, if◌then◌else◌}
use Rattle.exec_invariants.specs.Words.{ℕ, Bool, true, false, not, List, [], length, Option, Some, None, has_hint, file_of, Waiter, WaiterId, Driving, request_at, is_full, may_stage_one, cancel_staged, poll_staged, StagesOne, has_first, OpenState, account_in, Event, Cancel, Stage, RequestPhase, with_hint, after_permit, AfterPermit, InService, Service, Reply, Record, Shared, Worker, file_named, number_in, changed_at, with_staging_ended, driver_of}

-- a request that gives a permit up, and one that doesn't
abbrev pub after_giving_up : Option ℕ → AfterPermit → InService
after_giving_up None b = after_permit b
after_giving_up (Some file) b = InService.PassPermit file b

abbrev pub takes_hint : List OpenState → ℕ → Bool
takes_hint opens file = has_hint (account_in opens (file_named file))

-- its operation is in the submission queue, with the hint where it asks for that and its open takes it
abbrev pub staged_with : List OpenState → Record → Record
staged_with opens r =
    record r {
      shown = record r.shown {
        operation = with_hint (takes_hint opens r.shown.operation.target) r.shown.operation;
        phase = RequestPhase.Staged;
      };
    }

-- each of these has the number of a record
abbrev pub AreNamed : List ℕ → List WaiterId → List Record → Type 0
AreNamed numbers [] rs = Unit {0}
AreNamed numbers (id ∷ ids) rs = (number_in numbers id.0 < length rs) × AreNamed numbers ids rs

-- the submission queue has no room for what is to go into it
abbrev pub must_flush : {S F : Type 0} → Driving S F → Bool
must_flush d = is_full d && (has_first d.lists.cancels || may_stage_one d || not d.armed)

-- a staging ends where the kernel took nothing
abbrev pub after_flush : Service → Bool → Worker → Worker
after_flush v true w = with_staging_ended v w
after_flush v false w = w

-- the wake poll goes in last, where it must and there is room
abbrev pub with_wake_poll : {S F : Type 0} → Driving S F → Driving S F
with_wake_poll d = if d.armed then d else (if is_full d then d else poll_staged d)

pub record EndsStaging (w w' : Worker) : Type 0 where
  pub driver : driver_of w' ≡ record (with_wake_poll (driver_of w)) { landings = (driver_of w').landings }
  pub worker : w' ≡ record w { home = record w.home { driver = w'.home.driver } }

module _ {B : Type 0} where
  -- the cancel of request id went into the submission queue
  pub record StagesCancel (w : Worker) (s : Shared B) (e : Event) (w' : Worker) (s' : Shared B) (id : WaiterId) : Type 0 where
    pub event : e ≡ Cancel (number_in w.names.requests.items id.0)
    pub driver : driver_of w' ≡ record (cancel_staged (driver_of w) id) { landings = (driver_of w').landings }
    pub untold : w'.names.untold.items ≡ w.names.untold.items ++ number_in w.names.requests.items id.0 ∷ []
    pub records : s'.requests.items ≡ changed_at s.requests.items (number_in w.names.requests.items id.0) (λ r. record r { shown = record r.shown { cancel_staged = true } })
    pub worker : w' ≡ record w { home = record w.home { driver = w'.home.driver }; names = record w.names { untold = w'.names.untold } }
    pub shared : s' ≡ record s { requests = s'.requests }

  -- its operation did
  pub record StagesRequest (w : Worker) (s : Shared B) (e : Event) (w' : Worker) (s' : Shared B) (id : WaiterId) : Type 0 where
    pub event : e ≡ Stage (number_in w.names.requests.items id.0)
    pub driver : (it : Waiter Reply Reply) → request_at (driver_of w) id ≡ Some it → StagesOne (driver_of w) (driver_of w') id it (account_in s.opens (file_of it.request))
    pub staged : w'.names.staged.items ≡ w.names.staged.items ++ number_in w.names.requests.items id.0 ∷ []
    pub records : s'.requests.items ≡ changed_at s.requests.items (number_in w.names.requests.items id.0) (staged_with s.opens)
    pub worker : w' ≡ record w { home = record w.home { driver = w'.home.driver }; names = record w.names { staged = w'.names.staged } }
    pub shared : s' ≡ record s { requests = s'.requests }
