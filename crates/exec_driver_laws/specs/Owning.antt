-- Which operations a ring has, and whose they are.
use Rattle.std.specs.Prelude.{◌≡◌, ℕ, Bool, true, false, not, ◌+◌, ◌<◌, ◌≤◌, ◌==◌, ◌&&◌, count_by, Some, is_some, if◌then◌else◌}
use Rattle.exec_request.specs.declared.window.Opcode.{Opcode, TheVariants.Wake}
use Rattle.exec_ring.specs.{Completions.is_operation, Kernels.is_of, Rings.RingState, declared.completion.{Posted.Posted, Submission.Submission}}
use Rattle.exec_waiters.specs.{Ids.user_data_of, States.named, declared.{waiter.Waiter.Waiter, waiter_id.WaiterId.WaiterId}}
use Rattle.exec_driver.specs.Driving.{Driving, request_at}

-- an entry is of this user data, and no wake poll
abbrev pub is_wake_poll : Opcode → Bool
is_wake_poll Wake = true
is_wake_poll _ = false

abbrev pub is_staged_of : ℕ → Submission → Bool
is_staged_of user_data e = is_of user_data e && not (is_wake_poll e.window.kind)

abbrev pub is_posted_of : ℕ → Posted → Bool
is_posted_of user_data p = p.completion.user_data == user_data

-- how many entries, operations and completions of this user data a ring has
abbrev pub operations_in : RingState → ℕ → ℕ
operations_in ring user_data = count_by (is_staged_of user_data) ring.staged + count_by (is_of user_data) ring.flying + count_by (is_posted_of user_data) ring.posted

abbrev pub HasNoOperation : RingState → Type 0
HasNoOperation ring = (user_data : ℕ) → is_operation user_data ≡ true → operations_in ring user_data ≡ 0

-- it has each operation as it had it, and no other
abbrev pub KeepsOperations : RingState → RingState → Type 0
KeepsOperations old new = (user_data : ℕ) → is_operation user_data ≡ true → operations_in new user_data ≡ operations_in old user_data

module _ {S F : Type 0} where
  -- the request that this user data names has an operation under way
  abbrev pub is_under_way : Driving S F → ℕ → Bool
  is_under_way d user_data = is_some (named d.requests user_data)

  -- An operation of the ring is of a request that has one under way, and the only one of it. No request has the user data
  -- of cancels or of the wake poll.
  pub record IsOwned (d : Driving S F) : Type 0 where
    pub names : (id : WaiterId) (w : Waiter S F) → request_at d id ≡ Some w → id.0.index < 4294967295
    pub owned : (user_data : ℕ) → is_operation user_data ≡ true → operations_in d.ring user_data ≤ (if is_under_way d user_data then 1 else 0)

  -- the request of an operation is there and in flight, and the ring has no other of it
  pub record HasOwner (d : Driving S F) (user_data : ℕ) : Type 0 where
    pub id : WaiterId
    pub w : Waiter S F
    pub at : request_at d id ≡ Some w
    pub flies : w.in_flight ≡ true
    pub user_data_is : user_data_of id.0 ≡ user_data
    pub one : operations_in d.ring user_data ≡ 1
