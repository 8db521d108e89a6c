-- What a worker does to its driver and the opens, one call after the other, and what drivers that share gates go on with.
use Rattle.std.specs.{Prelude.{◌≡◌, ◌≢◌, ◌⊎◌, ℕ, suc, true, ◌^◌, ◌<◌, ◌≤◌, ◌==◌, List, [], replicate, Option, Some, None, if◌then◌else◌}, List.Contains, Option.option_map}
use Rattle.exec_base.specs.{Slab.{Slab, next_id, IsPast}, declared.{error.Error.Error, task_no.TaskNo.TaskNo}}
use Rattle.exec_driver.specs.{Admission.Admits, Driving.{Driving, request_at}, Placed.Says, Service.permit_by, Steps.{let_go, expired, EnrolsAs, Grants, StagesOne, LandsOne, ReapsNext}, declared.driver.{reaping.Reaped.Reaped, staging.Granted.Granted}}
use Rattle.exec_driver_laws.specs.{Laws.{ShareGates, failure_at}, Lawful.EndsLawfully, Lines.KeepsLine, Owning.{HasNoOperation, KeepsOperations}, Waiting.KeepsPlaces}
use Rattle.exec_lists.specs.Lists.{first_of}
use Rattle.exec_opens.specs.{Opens.{OpenState, fresh_open, open_at, open_named, holder_at, with_open, with_named, with_account, joined, passed}, declared.opens.WaiterKey.WaiterKey}
use Rattle.exec_outcomes.specs.{Accounts.Account, declared.outcome.OpResult.OpResult}
use Rattle.exec_request.specs.{Requests.{gate_of, deadline_of}, States.Ended, declared.request.Request.Request}
use Rattle.exec_ring.specs.{Kernels.may_land, declared.store.Store.Store}
use Rattle.exec_waiters.specs.{Events.{changed, with_waker, taken, forwarded}, Ids.user_data_of, States.gate_in, declared.{deferred.Deferred.Deferred, observer.Observer.Observer, waiter.{Entry.Entry, Waiter.Waiter}, waiter_id.WaiterId.WaiterId}}

-- it has the permit of an open, or waits for it
abbrev pub StandsIn : WaiterKey → Option OpenState → Type 0
StandsIn key None = ⊥
StandsIn key (Some o) = (o.holder ≡ Some key) ⊎ Contains o.waiting key

abbrev pub StandsAt : List OpenState → ℕ → WaiterKey → Type 0
StandsAt opens file key = StandsIn key (open_at opens file)

-- a request of a worker
abbrev pub key_of : ℕ → WaiterId → WaiterKey
key_of worker id = record { worker = worker; id = id }

-- The opens that workers share, and for each of them the request that is to give its permit up: a reap or a grant said so.
pub record Gates : Type 0 where
  pub opens : List OpenState
  pub leaving : ℕ → Option WaiterKey

abbrev pub at_gate : ℕ → Option WaiterKey → (ℕ → Option WaiterKey) → ℕ → Option WaiterKey
at_gate gate who leaving file = if file == gate then who else leaving file

-- a request is to give up the permit of the open that is named
abbrev pub with_leaving : Option ℕ → WaiterKey → (ℕ → Option WaiterKey) → ℕ → Option WaiterKey
with_leaving None key leaving file = leaving file
with_leaving (Some gate) key leaving file = at_gate gate (Some key) leaving file

abbrev pub leaving_by : ℕ → Option Reaped → (ℕ → Option WaiterKey) → ℕ → Option WaiterKey
leaving_by worker None leaving file = leaving file
leaving_by worker (Some r) leaving file = with_leaving r.permit (key_of worker r.id) leaving file

-- which request ended with a reap, if one did, and how
abbrev pub end_told : ℕ → Option Reaped → Option (WaiterKey × Ended)
end_told worker None = None
end_told worker (Some r) = option_map (λ how. (key_of worker r.id, how)) r.ended

-- the lines of the opens changed
abbrev pub with_lines : Gates → List OpenState → Gates
with_lines g opens = record g { opens = opens }

-- the holder of a gate that is to leave it does so
abbrev pub passed_on : Gates → ℕ → Gates
passed_on g file = record { opens = with_open g.opens file passed; leaving = at_gate file None g.leaving }

module _ {S F : Type 0} where
  -- its worker has given it to a request
  pub record IsGiven (s : Slab (Entry S F)) (id : WaiterId) : Type 0 where
    pub fits : id.0.generation < 2 ^ 64
    pub past : IsPast s id.0

  -- Drivers that share gates. No request stands in the line of another open than its own, and who stands in a line was
  -- named by its worker. Who is to give a permit up holds the gate, and is over.
  pub record LineUp (drivers : ℕ → Driving S F) (g : Gates) : Type 0 where
    pub share : ShareGates drivers g.opens
    pub lines : (key : WaiterKey) (w : Waiter S F) (file : ℕ) → request_at (drivers key.worker) key.id ≡ Some w → StandsAt g.opens file key → gate_of w.request ≡ Some file
    pub given : (key : WaiterKey) (file : ℕ) → StandsAt g.opens file key → IsGiven (drivers key.worker).requests key.id
    pub holds : (key : WaiterKey) (file : ℕ) → g.leaving file ≡ Some key → holder_at g.opens file ≡ Some key
    pub over : (key : WaiterKey) (file : ℕ) → g.leaving file ≡ Some key → request_at (drivers key.worker) key.id ≡ None

  -- A call that a worker makes on its driver or on the opens, with what the calls of a driver answer. Who leaves a gate
  -- was told so by a reap or a grant. A close of a driver is an `Orphan`. `Other` is every call that leaves the requests,
  -- the operations of the ring, which go on or end lawfully, and what is to be staged, waits at gates or is to be
  -- enrolled: it moves the wheel, the rest of the ring and of the lists, or the rooms.
  pub data Call (worker : ℕ) (old new : Driving S F) (g g' : Gates) : Type 0 where
    Admit : (id : WaiterId) (request : Request) (observer : Observer S F) (now : ℕ) → next_id old.requests ≡ Some id.0 → id.0.index < 4294967295 → (IsPast old.requests id.0 → ⊥) → Admits old new g.opens g'.opens id request observer now → g'.leaving ≡ g.leaving → Call worker old new g g'
    Join : (id : WaiterId) → id.0.generation < 2 ^ 64 → new ≡ old → g' ≡ with_lines g (with_named g.opens (gate_in (request_at old id)) (joined (key_of worker id))) → Call worker old new g g'
    Observe : (id : WaiterId) → new ≡ record old { requests = taken old.requests id.0 } → g' ≡ g → Call worker old new g g'
    SetWaker : (id : WaiterId) (task : TaskNo) → new ≡ record old { requests = changed old.requests id.0 (with_waker task) } → g' ≡ g → Call worker old new g g'
    Forward : (id : WaiterId) (sender : F) → new ≡ record old { requests = forwarded old.requests id.0 sender } → g' ≡ g → Call worker old new g g'
    Orphan : (id : WaiterId) → new ≡ let_go old id → g' ≡ g → Call worker old new g g'
    Expire : (id : WaiterId) → first_of old.lists.due ≡ Some id → new ≡ expired old id → g' ≡ g → Call worker old new g g'
    Enrol : (before after : Deferred S F) (id : WaiterId) (w : Waiter S F) (deadline now : ℕ) (told : Option Error) → first_of old.lists.enrolments ≡ Some id → request_at old id ≡ Some w → deadline_of w.request ≡ Some deadline
        → EnrolsAs old new before after id w deadline now told → g' ≡ g → Call worker old new g g'
    Grant : (before after : Deferred S F) (file : ℕ) (granted : Granted) (w : Waiter S F) → request_at old granted.id ≡ Some w → Grants old new g.opens g'.opens before after worker file granted → g'.leaving ≡ with_leaving (permit_by file granted) (key_of worker granted.id) g.leaving → Call worker old new g g'
    Stage : (id : WaiterId) (w : Waiter S F) (account : Option Account) → first_of old.lists.queued ≡ Some id → request_at old id ≡ Some w → StagesOne old new id w account → g' ≡ g → Call worker old new g g'
    Land : (id : WaiterId) (w : Waiter S F) (given : OpResult) (store store' : Store) → request_at old id ≡ Some w → may_land old.ring (user_data_of id.0) given ≡ true → LandsOne old new id w given store store' → g' ≡ g → Call worker old new g g'
    Reap : (before after : Deferred S F) (told : Option Reaped) → ReapsNext old new g.opens g'.opens before after told → g'.leaving ≡ leaving_by worker told g.leaving → Call worker old new g g'
    SetAccount : (file : Option ℕ) (account : Option Account) → new ≡ old → g' ≡ with_lines g (with_account g.opens file account) → Call worker old new g g'
    -- a call on an open alone: a place in its line is made or given up, or a write is counted
    Recount : (file : Option ℕ) (change : OpenState → OpenState) → ((o : OpenState) → KeepsLine o (change o)) → new ≡ old → g' ≡ with_lines g (with_named g.opens file change) → Call worker old new g g'
    Leave : (id : WaiterId) (file : ℕ) → g.leaving file ≡ Some (key_of worker id) → new ≡ old → g' ≡ passed_on g file → Call worker old new g g'
    Other : new.requests ≡ record old.requests { room = new.requests.room } → KeepsOperations old.ring new.ring → EndsLawfully old.ring new.ring → KeepsPlaces old.lists new.lists → g' ≡ g → Call worker old new g g'

  -- which request has ended, as a reap or a grant says, and how
  abbrev pub end_by : {worker : ℕ} {old new : Driving S F} {g g' : Gates} → Call worker old new g g' → Option (WaiterKey × Ended)
  end_by {worker} (Grant before after file granted w at grants leaving) = option_map (λ how. (key_of worker granted.id, how)) granted.ended
  end_by {worker} (Reap before after told reaps leaving) = end_told worker told
  end_by call = None

  -- which request has ended with a reap, and how
  abbrev pub end_by_reap : {worker : ℕ} {old new : Driving S F} {g g' : Gates} → Call worker old new g g' → Option (WaiterKey × Ended)
  end_by_reap {worker} (Reap before after told reaps leaving) = end_told worker told
  end_by_reap call = None

  -- of which request somebody looks for the output, has it sent, or lets it go
  abbrev pub lets_out : {worker : ℕ} {old new : Driving S F} {g g' : Gates} → Call worker old new g g' → Option WaiterId
  lets_out (Observe id is same) = Some id
  lets_out (Forward id sender is same) = Some id
  lets_out (Orphan id is same) = Some id
  lets_out call = None

  -- which request has joined the line of its open
  abbrev pub joined_by : {worker : ℕ} {old new : Driving S F} {g g' : Gates} → Call worker old new g g' → Option WaiterKey
  joined_by {worker} {old} {g = g} (Join id fits same is) = option_map (λ o. key_of worker id) (open_named g.opens (gate_in (request_at old id)))
  joined_by call = None

  -- the open of which the caller says itself what is kept
  abbrev pub sets_account_of : {worker : ℕ} {old new : Driving S F} {g g' : Gates} → Call worker old new g g' → Option ℕ
  sets_account_of (SetAccount file account same is) = file
  sets_account_of call = None

  -- one worker makes a call, and the drivers of the others stay as they are
  pub record CallsOne (drivers drivers' : ℕ → Driving S F) (g g' : Gates) : Type 0 where
    pub worker : ℕ
    pub call : Call worker (drivers worker) (drivers' worker) g g'
    pub says : Says (drivers' worker)
    pub others : (other : ℕ) → other ≢ worker → drivers' other ≡ drivers other

  -- At first there is no request, nobody stands at a gate, and no ring has an operation. Each driver says what each says.
  pub record AreFresh (drivers : ℕ → Driving S F) (g : Gates) : Type 0 where
    pub count : ℕ
    pub opens : g.opens ≡ replicate count fresh_open
    pub leaving : (file : ℕ) → g.leaving file ≡ None
    pub requests : (worker : ℕ) → (drivers worker).requests.slots ≡ []
    pub rings : (worker : ℕ) → HasNoOperation (drivers worker).ring
    pub says : (worker : ℕ) → Says (drivers worker)

  -- the drivers and the gates after so many calls
  pub record IsRun (drivers : ℕ → ℕ → Driving S F) (gates : ℕ → Gates) : Type 0 where
    pub first : AreFresh (drivers 0) (gates 0)
    pub next : (n : ℕ) → CallsOne (drivers n) (drivers (suc n)) (gates n) (gates (suc n))

  -- a run in which an open keeps a failure after so many calls, and in which no caller says himself what is kept of it
  -- until later
  pub record FailsFrom (drivers : ℕ → ℕ → Driving S F) (gates : ℕ → Gates) (n later file : ℕ) (error : Error) : Type 0 where
    pub run : IsRun drivers gates
    pub since : n ≤ later
    pub kept : failure_at (gates n).opens file ≡ Some error
    pub unset : (k : ℕ) → n ≤ k → k < later → sets_account_of (run.next k).call ≢ Some file
