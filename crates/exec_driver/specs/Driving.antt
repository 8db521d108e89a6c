-- What a contract sees of a driver: its requests, its wheel, its ring, and for each place the requests in it.
use Rattle.std.specs.Prelude.{ℕ, Bool, false, not, ◌&&◌, ◌||◌, List, length, nat_lt, Option, Some, None, is_some}
use Rattle.exec_base.specs.Slab.{Slab}
use Rattle.exec_request.specs.{Requests.deadline_of, States.asks_cancel}
use Rattle.exec_ring.specs.{Kernels.Landing, Rings.RingState}
use Rattle.exec_time.specs.{Wheel.Wheel, WheelView.wheel_of, declared.wheel.TimeoutWheel.TimeoutWheel}
use Rattle.exec_waiters.specs.{States.{waiter_at, flying_count, may_stage, needs_permit, takes_tick, tick_in}, declared.{waiter.{Waiter.Waiter, Entry.Entry}, waiter_id.WaiterId.WaiterId}}
use Rattle.exec_lists.specs.Lists.{Lists, has_first}

pub record Driving (S F : Type 0) : Type 0 where
  -- the requests by id, with who waits for each and its flags
  pub requests : Slab (Entry S F)
  -- the deadlines, and the ring; what else ends within its next enter
  pub wheel : Wheel
  pub ring : RingState
  pub landings : List Landing
  -- the requests in each place
  pub lists : Lists
  -- how many cancels were staged and not acknowledged
  pub cancels_under_way : ℕ
  -- the wake poll was staged and not ended
  pub armed : Bool

-- What a driver has, as it lies there: the wheel is the part itself.
pub record Parts (S F : Type 0) : Type 0 where
  pub requests : Slab (Entry S F)
  pub timeouts : TimeoutWheel
  pub ring : RingState
  pub landings : List Landing
  pub lists : Lists
  pub cancels_under_way : ℕ
  pub armed : Bool

module _ {S F : Type 0} where
  -- what is seen of the parts
  abbrev pub seen : Parts S F → Driving S F
  seen p =
      record {
        requests = p.requests;
        wheel = wheel_of p.timeouts;
        ring = p.ring;
        landings = p.landings;
        lists = p.lists;
        cancels_under_way = p.cancels_under_way;
        armed = p.armed;
      }

  -- the request with this name that isn't over
  abbrev pub request_at : Driving S F → WaiterId → Option (Waiter S F)
  request_at d id = waiter_at d.requests id.0

  -- WHERE A REQUEST IS, by its entry

  -- it waits to be staged
  abbrev pub is_queued : Option (Waiter S F) → Bool
  is_queued w = may_stage w

  -- it waits at a gate
  abbrev pub is_gated : Option (Waiter S F) → Bool
  is_gated None = false
  is_gated (Some w) = not w.in_flight && needs_permit w && not (asks_cancel w.state)

  -- its deadline is to be enrolled
  abbrev pub is_unenrolled : Option (Waiter S F) → Bool
  is_unenrolled None = false
  is_unenrolled (Some w) = not w.in_flight && takes_tick w.state && is_some (deadline_of w.request)

  -- its deadline stands in the wheel
  abbrev pub is_enrolled : Option (Waiter S F) → Bool
  is_enrolled None = false
  is_enrolled (Some w) = is_some (tick_in w.state)

  -- its cancel was asked for
  abbrev pub is_cancelled : Option (Waiter S F) → Bool
  is_cancelled None = false
  is_cancelled (Some w) = asks_cancel w.state

  -- a queued request may be staged, for fewer are in flight than the submission queue has entries
  abbrev pub may_stage_one : Driving S F → Bool
  may_stage_one d = has_first d.lists.queued && nat_lt (flying_count d.requests) d.ring.size

  -- something is to be enrolled, cancelled or staged, and could be
  abbrev pub has_pending : Driving S F → Bool
  has_pending d = has_first d.lists.enrolments || has_first d.lists.cancels || may_stage_one d

  -- the submission queue has no room
  abbrev pub is_full : Driving S F → Bool
  is_full d = not (nat_lt (length d.ring.staged) d.ring.size)
