-- What the steps of a poll do to the slot of the polled task.
use Rattle.std.specs.Prelude.{◌≡◌, ℕ, ◌-◌, Bool, true, false, List, [], ◌++◌, length, map, is_some, Option, Some, None, IsSome, option_to_list, slice_get, take, slice_set, if◌then◌else◌}
use Rattle.exec_parts.specs.{Words.{value_at, Outcome, RequestOutput, taken, Ready, Driving, IsPunctual, OpenState, begun, queued_body, pended, Sight, Act, Said, AfterPoll, Runnable, Event, Got, Resolved, Waiting, begun_waiting, InPoll, Place}, Pooled.woken_slot, Records.numbers_held, declared.parts.{mail.Reply.Reply, record.Record.Record, shared.Shared.Shared, task_slot.TaskSlot.TaskSlot, worker.Worker.Worker}, View.{account_seen, driver_of}}

-- a runnable that comes back goes into the flag
abbrev pub flag_after : AfterPoll → Option Runnable → Option Runnable
flag_after (AfterPoll.Requeue r) flag = Some r
flag_after _ flag = flag

-- nobody observes the request any more
abbrev pub unobserved : Record → Record
unobserved r = record r { shown = record r.shown { observed = false } }

-- it is over, and the driver kept its output
pub record IsReady (r : Record) (d : Driving Reply Reply) : Type 0 where
  pub outcome : Outcome
  pub is : r.shown.phase ≡ Resolved outcome
  pub output : RequestOutput
  pub kept : value_at d.requests r.id.0 ≡ Some (Ready output)

module _ {B : Type 0} where
  -- what holds of the slot of task t
  abbrev pub OfSlot : ℕ → Shared B → (TaskSlot B → Type 0) → Type 0
  OfSlot t s fact = (slot : TaskSlot B) → slice_get s.tasks.items t ≡ Some slot → fact slot

  -- its poll by worker i begins
  abbrev pub begun_slot : ℕ → TaskSlot B → TaskSlot B
  begun_slot i slot =
      record slot {
        cell = record slot.cell { phase = begun slot.cell.phase };
        body = queued_body slot.cell.phase;
        waiting = begun_waiting slot.waiting;
        fresh = true;
        poller = i;
      }

  -- the same, unless it was cleared
  abbrev pub begun_slot_if : ℕ → TaskSlot B → TaskSlot B
  begun_slot_if i slot = if is_some (queued_body slot.cell.phase) then begun_slot i slot else slot

  -- its poll ends, and its body is given back; one that was cleared keeps it, where it is over
  abbrev pub pended_with : Option B → TaskSlot B → TaskSlot B
  pended_with None slot = slot
  pended_with (Some b) slot = record slot { cell = pended slot.cell b; body = (if slot.cell.cancelled then Some b else None) }

  abbrev pub pended_slot : TaskSlot B → TaskSlot B
  pended_slot slot = pended_with slot.body slot

  -- the wake that it waited for has come
  abbrev pub passed_slot : TaskSlot B → TaskSlot B
  passed_slot slot = record slot { waiting = Waiting.Nothing; told = Some Said.Pass }

  -- it has slept
  abbrev pub slept_slot : TaskSlot B → TaskSlot B
  slept_slot slot = record slot { waiting = Waiting.Nothing; told = Some Said.Slept }

  -- it lets others go first
  abbrev pub yielded_slot : TaskSlot B → TaskSlot B
  yielded_slot slot = record (woken_slot slot) { waiting = Waiting.Yielded; told = Some Said.Pass }

  -- task t took the output of request k, which is over
  pub record TookOutput (t k : ℕ) (w w' : Worker) (s s' : Shared B) (e : Event) : Type 0 where
    pub slot : TaskSlot B
    pub slot' : TaskSlot B
    pub there : slice_get s.tasks.items t ≡ Some slot
    pub r : Record
    pub request : slice_get s.requests.items k ≡ Some r
    pub outcome : Outcome
    pub is : r.shown.phase ≡ Resolved outcome
    pub event : e ≡ Got k outcome
    pub worker : w' ≡ record w { place = Place.Poll t InPoll.Act; home = record w.home { driver = w'.home.driver } }
    pub driver : driver_of w' ≡ record (driver_of w) { requests = taken (driver_of w).requests r.id.0 }
    pub punctual : IsPunctual (driver_of w) → IsPunctual (driver_of w')
    pub requests : s'.requests.items ≡ slice_set s.requests.items k (unobserved r)
    pub tasks : s'.tasks.items ≡ slice_set s.tasks.items t slot'
    pub kept : s' ≡ record s { tasks = s'.tasks; requests = s'.requests }
    pub output : RequestOutput
    pub stood : value_at (driver_of w).requests r.id.0 ≡ Some (Ready output)
    pub took : slot' ≡ record slot { held = slot'.held; waiting = Waiting.Nothing; told = Some (Said.Output output) }
    pub all : slot'.held.items ≡ take (length slot.held.items - 1) slot.held.items
    pub newest : Option ℕ
    pub some : IsSome newest
    pub held : numbers_held slot.held.items ≡ (numbers_held slot'.held.items) ++ option_to_list newest

-- the body of a polled task made this act, told what it was told
pub record Acts {B L : Type 0} (left : B → L) (gives : L → Option Sight → Said → Act B → L → Option Sight → Type 0) (old new : TaskSlot B) (sees sees' : Option Sight) (a : Act B) : Type 0 where
  pub body : B
  pub body' : B
  pub said : Said
  pub was : old.body ≡ Some body
  pub told : old.told ≡ Some said
  pub slot : new ≡ record old { body = Some body'; told = None }
  pub given : gives (left body) sees said a (left body') sees'

-- what a body sees of a worker that sampled this moment, of the tasks, the pool and the opens; no listener is there yet
abbrev pub sight_of : ℕ → ℕ → Bool → List OpenState → Sight
sight_of moment tasks stopped opens =
    record { moment = moment; opens = map (λ o. account_seen o.account) opens; listeners = []; tasks = tasks; stopped = stopped }

-- the body of task t, polled at this moment, made this act
pub record MadeAct {B L : Type 0} (left : B → L) (gives : L → Option Sight → Said → Act B → L → Option Sight → Type 0) (t moment : ℕ) (s s' : Shared B) (a : Act B) : Type 0 where
  pub slot : TaskSlot B
  pub slot' : TaskSlot B
  pub there : slice_get s.tasks.items t ≡ Some slot
  pub sight : Sight
  pub acts : Acts left gives slot slot' (Some (sight_of moment (length s.tasks.items) s.stopped s.opens)) (Some sight) a
  pub kept : s' ≡ record s { tasks = s'.tasks }
  pub tasks : s'.tasks.items ≡ slice_set s.tasks.items t slot'
