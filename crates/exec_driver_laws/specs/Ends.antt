-- What comes back of a request that ends, and what is told of it.
use Rattle.std.specs.Prelude.{◌≡◌, ◌≢◌, ℕ, ◌+◌, All, List, [], ◌∷◌, length, Option, Some, None, Result, Ok, Err, is_some, if◌then◌else◌}
use Rattle.exec_base.specs.{Slab.value_at, declared.error.Error.Error}
use Rattle.exec_outcomes.specs.Accounts.{Account}
use Rattle.exec_request.specs.{Requests.{output_of, retired_of}, States.Ended, declared.output.RequestOutput.RequestOutput}
use Rattle.exec_time.specs.declared.notes.ForwardedResult.{ForwardedResult}
use Rattle.exec_waiters.specs.{Events.ending_of, States.output_at, Told.{Told, Tells}, declared.{deferred.{Answer.Answer, Deferred.Deferred, Retired.Retired, Untaken.Untaken}, observer.Observer.{Observer, TheVariants.{Local, Forwarded, DetachedSync, Orphaned}}, waiter.{Waiter.Waiter, Entry.Entry}, waiter_id.WaiterId.WaiterId}}
use Rattle.exec_driver.specs.Driving.{Driving}
use Rattle.exec_driver_laws.specs.Sharing.{Call, Gates, Grant, Reap}

-- how a request ended, as is told by what is sent of it
abbrev pub ending_sent : Result RequestOutput Error → Ended
ending_sent (Ok output) = ending_of output
ending_sent (Err error) = Err error

-- Where the outputs of a request are after a call: kept in its entry for who looks, sent to who waits elsewhere, or let
-- go since nobody takes them; and the endings that are sent of detached syncs.
pub record Outputs (S F : Type 0) : Type 0 where
  pub kept : Option RequestOutput
  pub sent : List (Answer F)
  pub let_go : List Untaken
  pub endings : List (ForwardedResult S)

module _ {S F : Type 0} where
  abbrev pub outputs_after : Told S F → Option (Entry S F) → Outputs S F
  outputs_after told entry =
      record { kept = output_at entry; sent = told.results; let_go = told.outputs; endings = told.completions }

  abbrev pub places_of : Outputs S F → ℕ
  places_of o = (if is_some o.kept then 1 else 0) + length o.sent + length o.let_go + length o.endings

  abbrev pub nowhere : Outputs S F
  nowhere = record { kept = None; sent = []; let_go = []; endings = [] }

  -- the one place of the output of a request that is over, by who waits for it
  abbrev pub placed_for : WaiterId → RequestOutput → Observer S F → Outputs S F
  placed_for id output (Local waker) = record nowhere { kept = Some output }
  placed_for id output (Forwarded sender) = record nowhere { sent = record { id = id; sender = sender; result = Ok output } ∷ [] }
  placed_for id output (DetachedSync sender) = record nowhere { endings = record { sender = sender; result = ending_of output } ∷ [] }
  placed_for id output Orphaned = record nowhere { let_go = record { id = id; output = output } ∷ [] }

  -- the output of a request that ends so has its place, where it is over afterwards; there is none, where it goes on
  abbrev pub leaves_output : WaiterId → Waiter S F → Ended → Option Account → Option (Waiter S F) → Outputs S F
  leaves_output id w how account None = placed_for id (output_of w.request how account) w.observer
  leaves_output id w how account (Some after) = nowhere

  -- what a request owned, where it is over afterwards; nothing, where it goes on
  abbrev pub gives_back : WaiterId → Waiter S F → Option (Waiter S F) → List Retired
  gives_back id w None = record { id = id; resources = retired_of w.request } ∷ []
  gives_back id w (Some after) = []

  -- no output that is let go or sent, no outcome that is sent, and no output that is kept says that a request ended well
  pub record TellsNoSuccess (told : Told S F) (entry : Option (Entry S F)) : Type 0 where
    pub let_go : All (λ u. ending_of u.output ≢ Ok tt) told.outputs
    pub outcomes : All (λ c. c.result ≢ Ok tt) told.completions
    pub sent : All (λ a. ending_sent a.result ≢ Ok tt) told.results
    pub kept : (output : RequestOutput) → output_at entry ≡ Some output → ending_of output ≢ Ok tt

  -- a call tells that of none, and keeps no such output under this name
  pub record EndsUnwell (new : Driving S F) (before after : Deferred S F) (id : WaiterId) : Type 0 where
    pub told : Told S F
    pub tells : Tells before after told
    pub unwell : TellsNoSuccess told (value_at new.requests id.0)

  -- what is to be told before a grant or a reap, and after it
  abbrev pub told_in : {worker : ℕ} {old new : Driving S F} {g g' : Gates} → Call worker old new g g' → Option (Deferred S F × Deferred S F)
  told_in (Grant before after file granted w at grants leaving) = Some (before, after)
  told_in (Reap before after told reaps leaving) = Some (before, after)
  told_in call = None
