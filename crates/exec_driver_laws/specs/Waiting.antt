-- Where a request is that isn't over.
use Rattle.std.specs.Prelude.{◌≡◌, ◌⊎◌, Bool, true, not, ◌&&◌, ◌||◌, Option, Some, None, is_some, if◌then◌else◌}
use Rattle.exec_request.specs.Requests.{deadline_of}
use Rattle.exec_waiters.specs.{Ids.user_data_of, States.{needs_permit, takes_tick}, declared.{waiter.Waiter.Waiter, waiter_id.WaiterId.WaiterId}}
use Rattle.exec_lists.specs.Lists.{Lists, is_among}
use Rattle.exec_driver.specs.Driving.{Driving, request_at, is_queued, is_gated}
use Rattle.exec_driver_laws.specs.Owning.{operations_in}

-- what is to be staged, what waits at gates, and whose deadline is to be enrolled stay
pub record KeepsPlaces (old new : Lists) : Type 0 where
  pub queued : new.queued ≡ old.queued
  pub gated : new.gated ≡ old.gated
  pub enrolments : new.enrolments ≡ old.enrolments

module _ {S F : Type 0} where
  -- It has an operation under way, or stands in its place: at its gate while it lacks the permit, and else in what is to be
  -- staged.
  abbrev pub is_placed : Lists → WaiterId → Option (Waiter S F) → Bool
  is_placed lists id None = true
  is_placed lists id (Some w) = w.in_flight || (if needs_permit w then is_among id lists.gated else is_among id lists.queued)

  abbrev pub ArePlaced : Driving S F → Type 0
  ArePlaced d = (id : WaiterId) → is_placed d.lists id (request_at d id) ≡ true

  -- It has no deadline, or that stands in the wheel or is to be enrolled; or its cancel was asked for.
  abbrev pub is_timed : Lists → WaiterId → Option (Waiter S F) → Bool
  is_timed lists id None = true
  is_timed lists id (Some w) = not (takes_tick w.state && is_some (deadline_of w.request)) || is_among id lists.enrolments

  abbrev pub AreTimed : Driving S F → Type 0
  AreTimed d = (id : WaiterId) → is_timed d.lists id (request_at d id) ≡ true

  -- it is to be staged, or it waits at its gate; and it stands there
  abbrev pub Waits : Driving S F → WaiterId → Waiter S F → Type 0
  Waits d id w =
      ((is_queued (Some w) ≡ true) × (is_among id d.lists.queued ≡ true))
      ⊎ ((is_gated (Some w) ≡ true) × (is_among id d.lists.gated ≡ true))

  -- the ring has the operation of each request that has one under way
  abbrev pub AreUnderWay : Driving S F → Type 0
  AreUnderWay d = (id : WaiterId) (w : Waiter S F) → request_at d id ≡ Some w → w.in_flight ≡ true → operations_in d.ring (user_data_of id.0) ≡ 1
