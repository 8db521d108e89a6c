-- What a whole service needs, and what each of its steps keeps.
use Rattle.std.specs.Prelude.{◌≡◌, ℕ, suc, Bool, true, false, not, ◌+◌, ◌≤◌, ◌==◌, ◌&&◌, ◌||◌, length, nat_lt, List, [], ◌∷◌, ◌++◌, Option, Some, None, if◌then◌else◌}
use Rattle.exec_ring.specs.{Rings.RingState, declared.completion.Posted.Posted}
use Rattle.exec_waiters.specs.{States.pending_count, Told.{HasPlaces, is_untold}, declared.deferred.Deferred.Deferred}
use Rattle.exec_driver.specs.{Driving.{Driving, may_stage_one, has_pending, is_full}, Punctual.IsPunctual, Steps.entered}
use Rattle.exec_lists.specs.Lists.{has_first}
use Rattle.exec_opens.specs.declared.opens.WaiterKey.{WaiterKey}

module _ {S F : Type 0} where
  -- There is room to tell the end of each request that isn't over, and of one more.
  abbrev pub CanTell : Driving S F → Deferred S F → Type 0
  CanTell d told = HasPlaces told (pending_count d.requests + 1)

  -- A step of a service: no request comes in, and each deadline is kept; and there is room to tell as before.
  pub record GoesOn (old new : Driving S F) : Type 0 where
    pub pending : pending_count new.requests ≤ pending_count old.requests
    pub punctual : IsPunctual old → IsPunctual new
    pub size : new.ring.size ≡ old.ring.size
    pub free : old.ring.busy ≡ false → new.ring.busy ≡ false

  pub record Serves (old new : Driving S F) (before after : Deferred S F) : Type 0 where
    pub going : GoesOn old new
    pub room : CanTell old before → CanTell new after

  -- What was done with is done with: nothing is due, to be enrolled or to be cancelled that wasn't.
  pub record StaysDone (old new : Driving S F) : Type 0 where
    pub due : has_first old.lists.due ≡ false → has_first new.lists.due ≡ false
    pub enrolments : has_first old.lists.enrolments ≡ false → has_first new.lists.enrolments ≡ false
    pub cancels : has_first old.lists.cancels ≡ false → has_first new.lists.cancels ≡ false

  -- Nothing more can be staged, and the wake poll is staged or out.
  pub record IsStaged (d : Driving S F) : Type 0 where
    pub cancels : has_first d.lists.cancels ≡ false
    pub queued : may_stage_one d ≡ false
    pub armed : d.armed ≡ true

  -- how much is to be staged at most
  abbrev pub unstaged : Driving S F → ℕ
  unstaged d = length d.lists.cancels + length d.lists.queued + (if d.armed then 0 else 1)

  -- requests stand, and the kernel isn't put off, or something is to be told, or a submission is pending
  abbrev pub must_enter : Driving S F → Bool → Deferred S F → Bool
  must_enter d defer told = not (pending_count d.requests == 0) && (not defer || not (is_untold told) || has_pending d)

  -- PARK

  -- a full queue is entered first
  abbrev pub made_way : Driving S F → Driving S F
  made_way d = if is_full d then entered d else d

  -- nothing is to be submitted, and the wake poll is out, or has room
  abbrev pub may_wait : Driving S F → Bool
  may_wait d = not (has_pending d) && (d.armed || not (is_full (made_way d)))

  -- the kernel is busy when it is let work, and takes nothing in
  abbrev pub finds_busy : Driving S F → Bool
  finds_busy d = (made_way d).ring.busy

  -- the kernel has all that was staged
  abbrev pub is_taken : Driving S F → Bool
  is_taken d = length d.ring.staged == 0

-- a deadline is after now, where there is one
abbrev pub is_after : ℕ → Option ℕ → Bool
is_after now None = true
is_after now (Some deadline) = nat_lt now deadline

-- a wake word stands as its worker left it: no signal, and no batch of messages but those that were taken
abbrev pub is_calm : Bool → Bool → Bool
is_calm signalled caught_up = not signalled && caught_up

-- one more signal was given, where it is known who was signalled; no signal stands for another
abbrev pub signalled_too : Option (List ℕ) → ℕ → Option (List ℕ)
signalled_too None worker = None
signalled_too (Some workers) worker = Some (workers ++ worker ∷ [])

-- the worker of the next holder is signalled, where there is a next
abbrev pub PassesTo : Option WaiterKey → Option (List ℕ) → Option (List ℕ) → Type 0
PassesTo None before after = after ≡ before
PassesTo (Some key) before after = after ≡ signalled_too before key.worker

-- how many completions there are
abbrev pub waiting : List Posted → ℕ → ℕ
waiting [] wakes = wakes
waiting (p ∷ ps) wakes = suc (p.wakes + waiting ps wakes)

abbrev pub unreaped : RingState → ℕ
unreaped s = waiting s.posted s.wakes
