-- Which results come of the operations of a ring.
use Rattle.std.specs.{Prelude.{◌≡◌, ℕ, Bool, true, not, ◌&&◌, ◌||◌, nat_le, Some, is_some}, List.list_all}
use Rattle.exec_driver.specs.{Driving.{Driving, request_at}, Steps.{completed_in, swept}}
use Rattle.exec_driver_laws.specs.Owning.{is_posted_of, is_staged_of}
use Rattle.exec_outcomes.specs.Lawful.{is_lawful, window_of}
use Rattle.exec_request.specs.{Requests.{asked_of, cursor_of}, Windows.most_of}
use Rattle.exec_ring.specs.{Completions.{is_operation, result_in}, Kernels.{is_of, next_completion}, Rings.RingState, declared.completion.{Completion.Completion, Posted.Posted, Submission.Submission}}
use Rattle.exec_waiters.specs.{Ids.user_data_of, States.named, declared.{waiter.Waiter.Waiter, waiter_id.WaiterId.WaiterId}}

-- its window is no larger
abbrev pub asks_within : ℕ → Submission → Bool
asks_within most e = nat_le (most_of e.window) most

-- a window of this size allows its result
abbrev pub ends_within : ℕ → Posted → Bool
ends_within most p = is_lawful most (result_in p.completion.result)

-- what a ring has of this user data is within a window of this size: entries and operations ask for no more, and
-- completions have results that it allows
abbrev pub is_within : RingState → ℕ → ℕ → Bool
is_within ring user_data most =
    list_all (λ e. not (is_staged_of user_data e) || asks_within most e) ring.staged
    && list_all (λ e. not (is_of user_data e) || asks_within most e) ring.flying
    && list_all (λ p. not (is_posted_of user_data p) || ends_within most p) ring.posted

-- What is within a window stays so: each operation goes on and asks for no more, or ends with a result that its window
-- allows.
abbrev pub EndsLawfully : RingState → RingState → Type 0
EndsLawfully old new = (user_data most : ℕ) → is_operation user_data ≡ true → is_within old user_data most ≡ true → is_within new user_data most ≡ true

module _ {S F : Type 0} where
  -- what a ring has of a request that has an operation under way is within what the request may ask for
  abbrev pub AreWithin : Driving S F → Type 0
  AreWithin d = (id : WaiterId) (w : Waiter S F) → request_at d id ≡ Some w → w.in_flight ≡ true
      → is_within d.ring (user_data_of id.0) (window_of (asked_of w.request) (cursor_of w.request)) ≡ true

  -- the first completion that isn't swept out, where it is of an operation under way, is one that this may have
  abbrev pub CompletesLawfully : Driving S F → Type 0
  CompletesLawfully d = (c : Completion) → next_completion (swept d).ring ≡ Some c → is_some (named d.requests c.user_data) ≡ true → is_some (completed_in d c) ≡ true
