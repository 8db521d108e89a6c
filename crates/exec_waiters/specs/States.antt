-- The requests of a worker by id: how each stands.
--
-- What a caller sees is a slab of entries. An entry is a request that is not over, with who waits for it and its flags,
-- or the output of one that is over, kept for a task of the worker. Phases of the executor's requests are read here so:
-- Staged, Flying and Landed are `in_flight`, Gated is durable without its permit, Queued is what is neither, and
-- Resolved is an entry with an output or one that is gone.
use Rattle.std.specs.Prelude.{◌≡◌, ℕ, Bool, All, true, false, not, ◌%◌, ◌==◌, ◌&&◌, ◌||◌, length, count_by, nat_le, Option, Some, None, if◌then◌else◌}
use Rattle.exec_base.specs.{Slab.{Slab, slot_at, value_at, next_index, is_vacant}, declared.slab.{Id.Id, Slot.{Slot, TheVariants.Live}}}
use Rattle.exec_outcomes.specs.{Accounts.is_durable, declared.outcome.Kind.Kind}
use Rattle.exec_request.specs.{declared.{output.RequestOutput.RequestOutput, request.Request.{Request, TheVariants.{ReadAt, WriteAt, Sync}}, results.WaiterState.{WaiterState, TheVariants.{Active, CancelRequested}}}, Requests.{asked_of, deadline_of, gate_of}, States.asks_cancel}
use Rattle.exec_waiters.specs.{Ids.{index_in, generation_in}, declared.{observer.Observer.{Observer, TheVariants.{Local, Forwarded, DetachedSync}}, waiter.{Waiter.Waiter, Entry.{Entry, TheVariants.{Pending, Ready}}}, waiter_id.WaiterId.WaiterId}}

-- the tick of the wheel that is to be removed with it
abbrev pub tick_in : WaiterState → Option ℕ
tick_in (Active tick) = tick
tick_in CancelRequested = None

-- no tick was set and nobody asked for its cancel
abbrev pub is_unset : Option ℕ → Bool
is_unset None = true
is_unset (Some tick) = false

abbrev pub takes_tick : WaiterState → Bool
takes_tick (Active tick) = is_unset tick
takes_tick CancelRequested = false

-- a sync, of which alone an outcome can be sent without its output
abbrev pub is_sync : Kind → Bool
is_sync Kind.Sync = true
is_sync _ = false

-- the open whose record its calls are lent
abbrev pub file_of : Request → Option ℕ
file_of (ReadAt r) = Some r.file
file_of (WriteAt w) = Some w.file
file_of (Sync s) = Some s.file
file_of _ = None

abbrev pub name_of : Option Id → Option WaiterId
name_of None = None
name_of (Some id) = Some (record { 0 = id })

module _ {S F : Type 0} where
  -- the request of an entry, where it isn't over
  abbrev pub waiter_in : Entry S F → Option (Waiter S F)
  waiter_in (Pending w) = Some w
  waiter_in (Ready output) = None

  abbrev pub waiter_of : Option (Entry S F) → Option (Waiter S F)
  waiter_of None = None
  waiter_of (Some entry) = waiter_in entry

  -- the request with this id that isn't over
  abbrev pub waiter_at : Slab (Entry S F) → Id → Option (Waiter S F)
  waiter_at s id = waiter_of (value_at s id)

  -- the kernel may have an operation of it
  abbrev pub is_flying : Option (Waiter S F) → Bool
  is_flying None = false
  is_flying (Some w) = w.in_flight

  -- it is not over, and the kernel has no operation of it
  abbrev pub is_idle : Option (Waiter S F) → Bool
  is_idle None = false
  is_idle (Some w) = not w.in_flight

  -- its deadline, in nanoseconds
  abbrev pub deadline_in : Option (Waiter S F) → Option ℕ
  deadline_in None = None
  deadline_in (Some w) = deadline_of w.request

  abbrev pub tick_of : Option (Waiter S F) → Option ℕ
  tick_of None = None
  tick_of (Some w) = tick_in w.state

  abbrev pub awaits_tick : Option (Waiter S F) → Bool
  awaits_tick None = false
  awaits_tick (Some w) = takes_tick w.state

  -- a task of the worker waits for it
  abbrev pub is_local : Observer S F → Bool
  is_local (Local waker) = true
  is_local _ = false

  -- someone waits who can let it go
  abbrev pub is_held_by : Observer S F → Bool
  is_held_by (Local waker) = true
  is_held_by (Forwarded sender) = true
  is_held_by _ = false

  abbrev pub is_detached : Observer S F → Bool
  is_detached (DetachedSync sender) = true
  is_detached _ = false

  abbrev pub is_observed_here : Option (Waiter S F) → Bool
  is_observed_here None = false
  is_observed_here (Some w) = is_local w.observer

  -- a task of the worker may look at it: it waits for it, or its output is kept for it
  abbrev pub may_be_seen : Option (Entry S F) → Bool
  may_be_seen None = false
  may_be_seen (Some (Ready output)) = true
  may_be_seen (Some (Pending w)) = is_local w.observer

  -- someone holds it who can let it go: who waits for it, or who can take its output
  abbrev pub is_held : Entry S F → Bool
  is_held (Pending w) = is_held_by w.observer
  is_held (Ready output) = true

  abbrev pub is_held_at : Option (Entry S F) → Bool
  is_held_at None = false
  is_held_at (Some entry) = is_held entry

  abbrev pub suits : Request → Observer S F → Bool
  suits r observer = not (is_detached observer) || is_sync (asked_of r).kind

  -- it needs a permit
  abbrev pub needs_permit : Waiter S F → Bool
  needs_permit w = is_durable (asked_of w.request).kind && not w.permit

  abbrev pub lacks_permit : Option (Waiter S F) → Bool
  lacks_permit None = false
  lacks_permit (Some w) = needs_permit w

  -- its next operation may be staged: it has none, nobody asked for its cancel, and it has the permit that it needs
  abbrev pub may_stage : Option (Waiter S F) → Bool
  may_stage None = false
  may_stage (Some w) = not w.in_flight && not (asks_cancel w.state) && not (needs_permit w)

  -- a request that isn't over, and one of which the kernel may have an operation
  abbrev pub is_asking : Entry S F → Bool
  is_asking (Pending w) = true
  is_asking (Ready output) = false

  abbrev pub flies : Entry S F → Bool
  flies (Pending w) = w.in_flight
  flies (Ready output) = false

  abbrev pub counts_pending : Slot (Entry S F) → Bool
  counts_pending (Live generation entry) = is_asking entry
  counts_pending _ = false

  abbrev pub counts_flying : Slot (Entry S F) → Bool
  counts_flying (Live generation entry) = flies entry
  counts_flying _ = false

  -- how many requests are not over, and of how many the kernel may have an operation
  abbrev pub pending_count : Slab (Entry S F) → ℕ
  pending_count s = count_by counts_pending s.slots

  abbrev pub flying_count : Slab (Entry S F) → ℕ
  flying_count s = count_by counts_flying s.slots

  -- the request whose operation was staged with this user data and isn't over
  abbrev pub named_in : ℕ → Slot (Entry S F) → Option Id
  named_in user_data (Live generation entry) =
      if flies entry && ((generation % 4294967296) == generation_in user_data)
      then Some (record { index = index_in user_data; generation = generation })
      else None
  named_in user_data _ = None

  abbrev pub named : Slab (Entry S F) → ℕ → Option Id
  named s user_data = named_in user_data (slot_at s (index_in user_data))

  -- no request can be named any more: the next slot would be that of the last index, which other user data has
  abbrev pub is_full : Slab (Entry S F) → Bool
  is_full s = nat_le 4294967295 (next_index s.vacant (length s.slots))

  -- each index that a request may have is that of a request, or of an output that is kept, or retired
  pub record IsUsedUp (s : Slab (Entry S F)) : Type 0 where
    pub all_there : length s.slots ≡ 4294967295
    pub none_vacant : All (λ slot. is_vacant slot ≡ false) s.slots

  -- the open whose permit it needs
  abbrev pub gate_in : Option (Waiter S F) → Option ℕ
  gate_in None = None
  gate_in (Some w) = gate_of w.request

  abbrev pub file_in : Option (Waiter S F) → Option ℕ
  file_in None = None
  file_in (Some w) = file_of w.request

  -- the output that is kept
  abbrev pub output_in : Entry S F → Option RequestOutput
  output_in (Pending w) = None
  output_in (Ready output) = Some output

  abbrev pub output_at : Option (Entry S F) → Option RequestOutput
  output_at None = None
  output_at (Some entry) = output_in entry
