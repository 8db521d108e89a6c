-- A whole service and a whole wait: which steps they take, and in which order. A service makes each kind of step until
-- none is left to make, and after each step the driver says what each driver says.
use Rattle.std.specs.Prelude.{◌≡◌, ℕ, Bool, false, true, not, ◌+◌, ◌^◌, ◌<◌, ◌==◌, ◌&&◌, ◌||◌, List, Option, Some, None, is_some, if◌then◌else◌}
use Rattle.exec_ring.specs.Kernels.{is_quiet}
use Rattle.exec_waiters.specs.{States.{pending_count, file_of}, Told.Tells, declared.{deferred.Deferred.Deferred, waiter.Waiter.Waiter, waiter_id.WaiterId.WaiterId}}
use Rattle.exec_driver.specs.{Driving.{Driving, request_at, may_stage_one, is_full}, Steps.{ReapsNext, Grants, Enrols, StagesOne, expired, told_by_cancel, advanced_to, lowest_gate, is_turn_of, cancel_staged, poll_staged, entered, with_landings}, Placed.Says, Turns.{PassesTo, IsStaged, must_enter, may_wait, made_way}, declared.driver.{reaping.Reaped.Reaped, staging.Granted.Granted, timing.Enrolled.Enrolled}}
use Rattle.exec_lists.specs.Lists.{has_first, first_of}
use Rattle.exec_opens.specs.Opens.{OpenState, account_in, holder_at, next_at, with_open, passed}

module _ {A : Type 0} (Step : A → A → Type 0) (first : A) where
  -- steps of a kind, one after the other
  pub data Repeats : A → Type 0 where
    NoStep : Repeats first
    OneMore : (a b : A) → Repeats a → Step a b → Repeats b

-- the holder of the gate that is named leaves it, and the worker of the next is signalled
abbrev pub Passes : Option ℕ → List OpenState → List OpenState → Option (List ℕ) → Option (List ℕ) → Type 0
Passes None opens opens' before after = (opens' ≡ opens) × (after ≡ before)
Passes (Some file) opens opens' before after = (opens' ≡ with_open opens file passed) × PassesTo (next_at opens file) before after

-- the open whose permit is given up after a reap
abbrev pub permit_of : Option Reaped → Option ℕ
permit_of None = None
permit_of (Some r) = r.permit

abbrev pub permit_by : ℕ → Granted → Option ℕ
permit_by file g = if is_some g.ended then Some file else None

-- what a service changes: the driver, the opens, what is to be told, and who was signalled
pub record Reached (S F : Type 0) : Type 0 where
  pub driver : Driving S F
  pub opens : List OpenState
  pub told : Deferred S F
  pub signalled : Option (List ℕ)

module _ {S F : Type 0} where
  abbrev pub reached : Driving S F → List OpenState → Deferred S F → Option (List ℕ) → Reached S F
  reached driver opens told signalled = record { driver = driver; opens = opens; told = told; signalled = signalled }

  -- the next completion is taken in
  pub record ReapsOne (a b : Reached S F) : Type 0 where
    pub says : Says b.driver
    pub answer : Option Reaped
    pub opens : List OpenState
    pub reaps : ReapsNext a.driver b.driver a.opens opens a.told b.told answer
    pub passes : Passes (permit_of answer) opens b.opens a.signalled b.signalled

  -- who is due first is told
  pub record ExpiresOne (a b : Driving S F × Deferred S F) : Type 0 where
    pub says : Says b.0
    pub id : WaiterId
    pub first : first_of a.0.lists.due ≡ Some id
    pub driver : b.0 ≡ expired a.0 id
    pub tells : Tells a.1 b.1 (told_by_cancel id (request_at a.0 id))

  -- the deadline of who was admitted first is enrolled
  pub record EnrolsOne (now : ℕ) (a b : Driving S F × Deferred S F) : Type 0 where
    pub says : Says b.0
    pub answer : Enrolled
    pub first : first_of a.0.lists.enrolments ≡ Some answer.id
    pub enrols : Enrols a.0 b.0 a.1 b.1 answer.id answer.ended now

  -- the permit of an open is granted where it is the turn of a request of this worker, which gives it up where it is over
  pub data GrantsAt (worker file : ℕ) (a b : Reached S F) : Type 0 where
    Turn : (opens : List OpenState) (g : Granted) → Says b.driver → Grants a.driver b.driver a.opens opens a.told b.told worker file g → Passes (permit_by file g) opens b.opens a.signalled b.signalled → GrantsAt worker file a b
    NoTurn : is_turn_of worker a.driver.lists (holder_at a.opens file) ≡ false → b ≡ a → GrantsAt worker file a b

  -- a cancel is to be staged, or a request that may be, or the wake poll
  abbrev pub is_unstaged : Driving S F → Bool
  is_unstaged d = has_first d.lists.cancels || (may_stage_one d || not d.armed)

  -- into a queue with room a cancel goes, or else a request that may be staged, or else the wake poll; a full queue is
  -- entered while something is to be staged
  pub data StagesEntry (opens : List OpenState) (old new : Driving S F) : Type 0 where
    Cancel : (id : WaiterId) → is_full old ≡ false → first_of old.lists.cancels ≡ Some id → new ≡ with_landings new (cancel_staged old id) → StagesEntry opens old new
    Request : (id : WaiterId) → is_full old ≡ false → first_of old.lists.cancels ≡ None → may_stage_one old ≡ true → first_of old.lists.queued ≡ Some id → ((w : Waiter S F) → request_at old id ≡ Some w → StagesOne old new id w (account_in opens (file_of w.request))) → StagesEntry opens old new
    WakePoll : is_full old ≡ false → has_first old.lists.cancels ≡ false → may_stage_one old ≡ false → old.armed ≡ false → new ≡ with_landings new (poll_staged old) → StagesEntry opens old new
    Enter : is_full old ≡ true → is_unstaged old ≡ true → old.ring.busy ≡ false → new ≡ with_landings new (entered old) → StagesEntry opens old new

  -- an entry is staged, and the driver says what each says
  abbrev pub StagesOneEntry : List OpenState → Driving S F → Driving S F → Type 0
  StagesOneEntry opens old new = StagesEntry opens old new × Says new

  -- all that may be staged is staged; or the kernel was busy as a full queue was entered, and that was the last step
  pub data StagesAll (opens : List OpenState) (old new : Driving S F) : Type 0 where
    Staged : Repeats (StagesOneEntry opens) old new → IsStaged new → StagesAll opens old new
    Busy : (full : Driving S F) → Says new → Repeats (StagesOneEntry opens) old full → is_full full ≡ true → is_unstaged full ≡ true → full.ring.busy ≡ true → new ≡ with_landings new (entered full) → StagesAll opens old new

  abbrev pub entered_if : Bool → Driving S F → Driving S F
  entered_if enters d = if enters then entered d else d

  -- the wake poll is out
  abbrev pub polled : Driving S F → Driving S F
  polled d = if d.armed then d else poll_staged d

  -- A wait on the ring: a full queue is entered first. That is all where a submission is pending or the wake poll has no
  -- room; else the poll is out, and the kernel works where the word is calm. After each step the driver says what each says.
  pub data Parks (calm : Bool) (old new : Driving S F) : Type 0 where
    Refused : Says old → may_wait old ≡ false → new ≡ with_landings new (made_way old) → Says new → Parks calm old new
    Waited : (way out : Driving S F) → Says old → may_wait old ≡ true → way ≡ with_landings way (made_way old) → Says way → out ≡ with_landings out (polled way) → Says out → new ≡ with_landings new (entered_if calm out) → Says new → Parks calm old new

module _ {S F : Type 0} (worker : ℕ) (first : Reached S F) where
  -- the gates below a number at which requests of a worker wait, each once, from the lowest on
  pub data GrantsBelow : ℕ → Reached S F → Type 0 where
    NoGate : GrantsBelow 0 first
    NextGate : (from file : ℕ) (a b : Reached S F) → GrantsBelow from a → lowest_gate from a.driver.requests a.driver.lists.gated None ≡ Some file → GrantsAt worker file a b → GrantsBelow (file + 1) b

  -- and none is left above it
  pub record GrantsAll (last : Reached S F) : Type 0 where
    pub end : ℕ
    pub below : GrantsBelow end last
    pub none : end < 2 ^ 32 → lowest_gate end last.driver.requests last.driver.lists.gated None ≡ None

module _ {S F : Type 0} where
  -- A service at a moment, with what it answers.
  pub record ServesInOrder (worker now : ℕ) (defer answer : Bool) (old new : Reached S F) : Type 0 where
    pub says : Says old.driver
    -- all that completed is taken in
    pub reaped : Reached S F
    pub reaps : Repeats ReapsOne old reaped
    pub quiet : is_quiet reaped.driver.ring ≡ true
    -- all that is due by now is told
    pub says_turned : Says (advanced_to reaped.driver now)
    pub expired : Driving S F × Deferred S F
    pub expires : Repeats ExpiresOne (advanced_to reaped.driver now, reaped.told) expired
    pub none_due : has_first expired.0.lists.due ≡ false
    -- all deadlines are enrolled
    pub enrolled : Driving S F × Deferred S F
    pub enrols : Repeats (EnrolsOne now) expired enrolled
    pub none_unenrolled : has_first enrolled.0.lists.enrolments ≡ false
    -- the permits whose turn it is are granted
    pub granted : Reached S F
    pub grants : GrantsAll worker (reached enrolled.0 reaped.opens enrolled.1 reaped.signalled) granted
    -- all that may be staged is staged, unless the queue is full and the kernel was busy
    pub staged : Driving S F
    pub stages : StagesAll granted.opens granted.driver staged
    pub none_unstaged : is_full staged ≡ false → IsStaged staged
    pub none_unless_busy : granted.driver.ring.busy ≡ false → IsStaged staged
    -- the kernel works, unless that is put off
    pub worked : Driving S F
    pub says_worked : Says worked
    pub works : worked ≡ with_landings worked (entered_if (must_enter staged defer granted.told) staged)
    -- all that completed by then is taken in
    pub reaps_again : Repeats ReapsOne (reached worked granted.opens granted.told granted.signalled) new
    pub quiet_again : is_quiet new.driver.ring ≡ true
    pub answers : answer ≡ (not (must_enter staged defer granted.told) && not (pending_count new.driver.requests == 0))
