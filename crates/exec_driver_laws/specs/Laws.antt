-- Words of the laws of drivers.
use Rattle.std.specs.Prelude.{◌≡◌, ℕ, Bool, true, ◌||◌, List, Option, Some, None}
use Rattle.exec_base.specs.declared.error.Error.{Error}
use Rattle.exec_outcomes.specs.Accounts.{Account}
use Rattle.exec_request.specs.Requests.{gate_of}
use Rattle.exec_waiters.specs.declared.{waiter.Waiter.Waiter, waiter_id.WaiterId.WaiterId}
use Rattle.exec_driver.specs.Driving.{Driving, request_at}
use Rattle.exec_lists.specs.Lists.{Lists, is_among}
use Rattle.exec_opens.specs.{Opens.{OpenState, holder_at, account_in}, declared.opens.WaiterKey.WaiterKey}

-- some list has the name
abbrev pub is_listed : WaiterId → Lists → Bool
is_listed id l =
    is_among id l.queued || (is_among id l.gated || (is_among id l.enrolments || (is_among id l.due || is_among id l.cancels)))

-- the failure that is kept of an open
abbrev pub failure_in : Option Account → Option Error
failure_in None = None
failure_in (Some account) = account.failure

abbrev pub failure_at : List OpenState → ℕ → Option Error
failure_at opens file = failure_in (account_in opens (Some file))

module _ {S F : Type 0} where
  -- The drivers of all workers, by number, with the opens that they share: who was granted the permit of an open and isn't
  -- over holds its gate, and who has an operation there was granted it.
  pub record ShareGates (drivers : ℕ → Driving S F) (opens : List OpenState) : Type 0 where
    pub holds : (key : WaiterKey) (w : Waiter S F) (file : ℕ) → request_at (drivers key.worker) key.id ≡ Some w → w.permit ≡ true → gate_of w.request ≡ Some file → holder_at opens file ≡ Some key
    pub flies : (key : WaiterKey) (w : Waiter S F) (file : ℕ) → request_at (drivers key.worker) key.id ≡ Some w → w.in_flight ≡ true → gate_of w.request ≡ Some file → w.permit ≡ true

  -- a request whose operation under way is one of an open's durable ones
  pub record IsDurableFlight (d : Driving S F) (id : WaiterId) (file : ℕ) : Type 0 where
    pub w : Waiter S F
    pub at : request_at d id ≡ Some w
    pub flies : w.in_flight ≡ true
    pub gate : gate_of w.request ≡ Some file

  -- a request is still there, with its operation under way
  pub record GoesOnFlying (d : Driving S F) (id : WaiterId) (w : Waiter S F) : Type 0 where
    pub after : Waiter S F
    pub at : request_at d id ≡ Some after
    pub flies : after.in_flight ≡ true
    pub same : after.request ≡ w.request
