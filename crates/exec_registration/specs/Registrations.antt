-- How a registration stands, and what a poll and a release do.
use Rattle.std.specs.Prelude.{◌≡◌, ℕ, Bool, true, List, ◌⊎◌, Option, Some, None, Result, Ok, Err}
use Rattle.exec_base.specs.{OneShot.{poll_answer, polled}, Post.Takes, declared.{error.Error.Error, one_shot.OneShotState.OneShotState}}
use Rattle.exec_registration.specs.declared.registration.RegistrationState.{RegistrationState, TheVariants.{Waiting, Forwarded, Done}}
use Rattle.exec_time.specs.declared.timers.Observation.{Observation, TheVariants.Ready}

module _ {K : Type 0} where
  -- what it still waits for: the worker and the key
  abbrev pub pending_of : RegistrationState K → Option (ℕ × K)
  pending_of (Waiting at key) = Some (at, key)
  pending_of (Forwarded at key) = Some (at, key)
  pending_of _ = None

module _ {T : Type 0} where
  -- what a look at the thing answers
  abbrev pub told_by_look : Observation T → Result (Option T) Error
  told_by_look (Ready output) = Ok (Some output)
  told_by_look _ = Ok None

  -- what a look at the one-shot answers: nothing yet, the result, or that it is closed
  abbrev pub heard : Result (Option (Result T Error)) Error → Result (Option T) Error
  heard (Ok None) = Ok None
  heard (Ok (Some (Ok output))) = Ok (Some output)
  heard (Ok (Some (Err e))) = Err e
  heard (Err _) = Err Error.Closed

module _ {K T : Type 0} where
  -- how the registration stands after either look
  abbrev pub state_after : RegistrationState K → Observation T → RegistrationState K
  state_after state (Ready output) = Done
  state_after state _ = state

  abbrev pub after_hearing : RegistrationState K → Result (Option (Result T Error)) Error → RegistrationState K
  after_hearing state (Ok None) = state
  after_hearing state _ = Done

module _ {M P : Type 0} (is_closed : P → Bool) (taken : P → Option (List M)) where
  -- the post was closed, at the latest when it refused the message
  pub record IsShut (old new : P) : Type 0 where
    pub shut : is_closed new ≡ true
    pub kept : taken new ≡ taken old

  -- the post took the message, or was closed
  abbrev pub Sends : P → P → M → Type 0
  Sends old new message = Takes (taken old) message (taken new) ⊎ IsShut old new

module _ {M P K T : Type 0} (is_closed : P → Bool) (taken : P → Option (List M)) where
  -- the post took the forward, and the one-shot was looked at
  pub record IsAsked (old new : P) (message : M) (at : ℕ) (key : K) (state : RegistrationState K) (before after : OneShotState (Result T Error)) (answer : Result (Option T) Error) : Type 0 where
    pub took : Takes (taken old) message (taken new)
    pub looked : answer ≡ heard (poll_answer before)
    pub stands : state ≡ after_hearing (Forwarded at key) (poll_answer before)
    pub heard_of : after ≡ polled before

  -- or it was closed, and the registration is over
  pub record IsTurnedAway (old new : P) (state : RegistrationState K) (before after : OneShotState (Result T Error)) (answer : Result (Option T) Error) : Type 0 where
    pub shut : IsShut is_closed taken old new
    pub told : answer ≡ Err Error.Closed
    pub over : state ≡ Done
    pub unheard : after ≡ before

  -- a poll that is to ask the thing's worker does one of the two
  abbrev pub Asks : P → P → M → ℕ → K → RegistrationState K → OneShotState (Result T Error) → OneShotState (Result T Error) → Result (Option T) Error → Type 0
  Asks old new message at key state before after answer =
      IsAsked old new message at key state before after answer ⊎ IsTurnedAway old new state before after answer
