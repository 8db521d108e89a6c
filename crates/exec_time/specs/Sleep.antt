-- How a sleep stands.
use Rattle.std.specs.Prelude.{◌≡◌, ℕ, ◌+◌, ◌-◌, ◌^◌, Bool, true, false, min, if◌then◌else◌, ◌==◌, ◌⊎◌, List, Option, Some, None, Result, Ok, Err}
use Rattle.exec_base.specs.{declared.{error.Error.{Error, TheVariants.{Closed, Full, NoMemory}}, one_shot.OneShotState.OneShotState, task_no.TaskNo.TaskNo}, OneShot.{poll_answer, polled}, Post.Takes, Slab.{Slab, next_id, inserted, IsFull, IsPast, TakesId, Updates}}
use Rattle.exec_time.specs.{Layouts.longest, declared.{sleep.{SleepState.{SleepState, TheVariants.{Waiting, Registered, Forwarded, Done}}, TimerMessage.{TimerMessage, TheVariants.Forward}}, timers.{Observer.TheVariants.Local, Sleeper.Sleeper, TimerId.TimerId}}}

-- a sleep for this long from now: over at once where that is no time, else until then, with what is too long cut
-- to the longest. No sum is above the end of u64
abbrev pub asleep : ℕ → ℕ → SleepState
asleep duration now = if duration == 0 then Done else Waiting (min (now + min duration longest) (2 ^ 64 - 1))

-- what a look at the one-shot of a forwarded sleep answers: nothing yet, the result, or that it is closed
abbrev pub heard : Result (Option (Result (Unit {0}) Error)) Error → Result Bool Error
heard (Ok None) = Ok false
heard (Ok (Some (Ok _))) = Ok true
heard (Ok (Some (Err e))) = Err e
heard (Err _) = Err Closed

-- and what it makes of the sleep
abbrev pub after_hearing : SleepState → Result (Option (Result (Unit {0}) Error)) Error → SleepState
after_hearing state (Ok None) = state
after_hearing state (Ok (Some _)) = Done
after_hearing state (Err _) = Done

-- whether a poll by this worker needs no other one: the sleep has no sleeper, or one of this worker that isn't forwarded
abbrev pub is_local : SleepState → ℕ → Bool
is_local (Waiting _) worker = true
is_local (Registered at _) worker = at == worker
is_local (Forwarded _ _) worker = false
is_local Done worker = true

-- the sleeper that it may have, with its worker
abbrev pub sleeper_of : SleepState → Option (ℕ × TimerId)
sleeper_of (Waiting _) = None
sleeper_of (Registered at id) = Some (at, id)
sleeper_of (Forwarded at id) = Some (at, id)
sleeper_of Done = None

-- the sleep has a new sleeper of this worker, under an id that nothing had before, and no other sleeper came or went
pub record Registers {S : Type 0} (new : SleepState) (before after : Slab (Sleeper S)) (worker deadline : ℕ) (waker : TaskNo) : Type 0 where
  pub id : TimerId
  pub next : next_id before ≡ Some id.0
  pub is : new ≡ Registered worker id
  pub there : Updates before after id.0 (Some (record { deadline = deadline; observer = Local waker }))
  pub alone : after ≡ record (inserted before (record { deadline = deadline; observer = Local waker })) { room = after.room }
  pub never_before : IsPast before id.0 → ⊥
  pub never_again : TakesId before after id.0

-- no sleeper could be made, for this reason: no more can be named, or there was no memory. All is as before
pub record IsRefused {S : Type 0} (old new : SleepState) (before after : Slab (Sleeper S)) (reason : Error) : Type 0 where
  pub cause : ((reason ≡ Full) × IsFull before) ⊎ (reason ≡ NoMemory)
  pub asleep_still : new ≡ old
  pub kept : after ≡ before

module _ {S P : Type 0} (is_closed : P → Bool) (taken : P → Option (List (TimerMessage S))) where
  -- the post took the message, or was closed and took nothing
  abbrev pub Sends : P → P → TimerMessage S → Type 0
  Sends old new message =
      Takes (taken old) message (taken new) ⊎ ((is_closed new ≡ true) × (taken new ≡ taken old))

  -- the post took the message that the sleeper of this id sends its result by this, and the one-shot was looked at
  pub record IsAsked (old new : P) (at : ℕ) (id : TimerId) (sender : S) (state : SleepState) (before after : OneShotState (Result (Unit {0}) Error)) (answer : Result Bool Error) : Type 0 where
    pub took : Takes (taken old) (Forward id sender) (taken new)
    pub looked : answer ≡ heard (poll_answer before)
    pub stands : state ≡ after_hearing (Forwarded at id) (poll_answer before)
    pub heard_of : after ≡ polled before

  -- or the post was closed, at the latest when it refused the message, and nothing was sent
  pub record IsShut (old new : P) (state : SleepState) (before after : OneShotState (Result (Unit {0}) Error)) (answer : Result Bool Error) : Type 0 where
    pub shut : is_closed new ≡ true
    pub kept : taken new ≡ taken old
    pub told : answer ≡ Err Closed
    pub over : state ≡ Done
    pub unheard : after ≡ before

  -- a poll that is to ask the sleeper's worker does one of the two
  abbrev pub Asks : P → P → ℕ → TimerId → S → SleepState → OneShotState (Result (Unit {0}) Error) → OneShotState (Result (Unit {0}) Error) → Result Bool Error → Type 0
  Asks old new at id sender state before after answer = IsAsked old new at id sender state before after answer ⊎ IsShut old new state before after answer
