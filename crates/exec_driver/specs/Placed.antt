-- What each driver says of its requests and of its ring.
use Rattle.std.specs.Prelude.{◌≡◌, ℕ, true, false, Some, is_some}
use Rattle.exec_request.specs.Requests.{deadline_of, gate_of}
use Rattle.exec_ring.specs.Kernels.{MayAllLand, all_taken}
use Rattle.exec_waiters.specs.{States.tick_in, declared.{waiter.Waiter.Waiter, waiter_id.WaiterId.WaiterId}}
use Rattle.exec_driver.specs.Driving.{Driving, request_at, is_queued, is_gated, is_unenrolled, is_enrolled, is_cancelled}
use Rattle.exec_lists.specs.Lists.{first_of, rest_of, is_among}

module _ {S F : Type 0} where
  -- Each list has requests of its place, which aren't over. Each driver says so of itself (`Driver::lists_requests`).
  pub record ListsRequests (d : Driving S F) : Type 0 where
    pub queued : (id : WaiterId) → is_among id d.lists.queued ≡ true → is_queued (request_at d id) ≡ true
    pub gated : (id : WaiterId) → is_among id d.lists.gated ≡ true → is_gated (request_at d id) ≡ true
    pub enrolments : (id : WaiterId) → is_among id d.lists.enrolments ≡ true → is_unenrolled (request_at d id) ≡ true
    pub due : (id : WaiterId) → is_among id d.lists.due ≡ true → is_enrolled (request_at d id) ≡ true
    pub cancels : (id : WaiterId) → is_among id d.lists.cancels ≡ true → is_cancelled (request_at d id) ≡ true
    pub cancelled_once : (id : WaiterId) → first_of d.lists.cancels ≡ Some id → is_among id (rest_of d.lists.cancels) ≡ false

  -- A request whose deadline stands in the wheel has one. Each driver says so of itself (`Driver::has_deadlines`).
  pub record HasDeadlines (d : Driving S F) : Type 0 where
    pub deadline : (id : WaiterId) (w : Waiter S F) → request_at d id ≡ Some w → is_some (tick_in w.state) ≡ true → is_some (deadline_of w.request) ≡ true

  -- Who has an operation at a gate was granted its permit. Each driver says so of itself (`Driver::flies_permitted`).
  pub record FliesPermitted (d : Driving S F) : Type 0 where
    pub flies : (id : WaiterId) (w : Waiter S F) (file : ℕ) → request_at d id ≡ Some w → w.in_flight ≡ true → gate_of w.request ≡ Some file → w.permit ≡ true

  -- what each driver says of its requests, and of its ring: what lands within the next enter may land
  pub record Says (d : Driving S F) : Type 0 where
    pub permitted : FliesPermitted d
    pub lists : ListsRequests d
    pub dated : HasDeadlines d
    pub lands : MayAllLand d.landings (all_taken d.ring)
