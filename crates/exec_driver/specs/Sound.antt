-- What holds of a driver between its calls. No public clause cites this module.
use Rattle.std.specs.Prelude.{◌≡◌, ℕ, Bool, false, not, ◌+◌, ◌≤◌, ◌==◌, ◌&&◌, [], length, Option, Some, None, is_some, if◌then◌else◌}
use Rattle.exec_base.specs.declared.slab.Id.{Id}
use Rattle.exec_request.specs.{Requests.deadline_of}
use Rattle.exec_ring.specs.Rings.{taken_places}
pub use Rattle.exec_waiters.specs.Events.{may_cancel}
use Rattle.exec_waiters.specs.{States.{waiter_at, flying_count, pending_count, tick_in, needs_permit}, declared.waiter.Waiter.Waiter}
use Rattle.exec_lists.specs.Listed.{IsListed, count_of}
use Rattle.exec_driver.specs.Driving.{Driving, is_queued, is_gated, is_unenrolled, is_enrolled, is_cancelled}

-- a tick of the wheel is that one
abbrev pub is_tick : ℕ → Option ℕ → Bool
is_tick t None = false
is_tick t (Some tick) = t == tick

module _ {S F : Type 0} where
  -- it stands in the wheel at a tick
  abbrev pub is_at_tick : ℕ → Option (Waiter S F) → Bool
  is_at_tick t None = false
  is_at_tick t (Some w) = is_tick t (tick_in w.state)

  -- the kernel has an operation of it, and it lacks the permit that it needs
  abbrev pub is_unpermitted : Option (Waiter S F) → Bool
  is_unpermitted None = false
  is_unpermitted (Some w) = w.in_flight && needs_permit w

  -- its deadline stands in the wheel, and it has none
  abbrev pub is_undated : Option (Waiter S F) → Bool
  is_undated None = false
  is_undated (Some w) = is_some (tick_in w.state) && not (is_some (deadline_of w.request))

  -- Each list has the requests of its place, each once. An entry of the wheel is active for each enrolled request. The
  -- ring has no more entries than those of requests in flight, of cancels under way and of the wake poll; and it has
  -- places for those, and for the cancels that may still come.
  pub record IsSound (d : Driving S F) : Type 0 where
    pub queued : IsListed is_queued d.requests d.lists.queued
    pub gated : IsListed is_gated d.requests d.lists.gated
    pub enrolments : IsListed is_unenrolled d.requests d.lists.enrolments
    pub due : IsListed is_enrolled d.requests d.lists.due
    pub cancels : IsListed is_cancelled d.requests d.lists.cancels
    pub permits : (id : Id) → is_unpermitted (waiter_at d.requests id) ≡ false
    pub dated : (id : Id) → is_undated (waiter_at d.requests id) ≡ false
    pub ticks : (t : ℕ) → d.wheel.active t ≡ count_of (is_at_tick t) d.requests
    pub drained : d.wheel.ready ≡ []
    pub entries : taken_places d.ring ≤ flying_count d.requests + d.cancels_under_way + (if d.armed then 1 else 0)
    pub places : pending_count d.requests + count_of may_cancel d.requests + length d.lists.cancels + d.cancels_under_way + 1 ≤ d.ring.places

  -- The lists have room for all requests that aren't over, and the wheel for each whose deadline is to be enrolled. The
  -- driver knows how many may be in flight, and how many places the ring has.
  pub record IsHeld (d : Driving S F) (room_there most spots : ℕ) : Type 0 where
    pub sound : IsSound d
    pub room : pending_count d.requests ≤ d.lists.room
    pub wheel_room : length d.lists.enrolments ≤ room_there
    pub limit : most ≡ d.ring.size
    pub places : spots ≡ d.ring.places
