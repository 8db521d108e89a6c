-- How the requests of a worker in its driver, what was told of them, and their numbers go together; and what is left to be told.
use Rattle.std.specs.Prelude.{◌≡◌, ◌+◌, ◌*◌, ◌≤◌}
use Rattle.exec_invariants.specs.{Words.{ℕ, Bool, true, false, count_by, List, length, slice_get, Some, None, is_some, IsSome, option_map, deque_capacity, Slab, value_at, live_count, Id, Slot, Live, Vacant, Retired, TaskNo, is_durable, HasCome, Judged, Sleeping, seen_by, asked_of, cursor_of, hinted_of, deadline_of, asks_cancel, RingState, waker_in, waiter_at, is_held, is_held_by, needs_permit, tick_in, pending_count, Deferred, Entry, Waiter, Driving, Request, asked_in, is_gated, is_kept, is_staged, is_in_flight, is_resolved, Reply, Names, Record, SleeperRecord, number_in, AreKnown, AreTagged, cancels_in, is_one_of}, Gates.may_ask_hint, Rooted.IsNear}

-- WHAT IS LEFT TO BE TOLD (`IsTold` of `exec_parts/specs/Calls`)

abbrev pub counts_held : Slot (Entry Reply Reply) → Bool
counts_held (Live generation e) = is_held e
counts_held (Vacant generation) = false
counts_held Retired = false

-- of how many requests somebody may take or let go the output
abbrev pub held_count : Slab (Entry Reply Reply) → ℕ
held_count s = count_by counts_held s.slots

-- So much may still be told: once of each request that isn't over, as it ends; once of each that somebody holds, as its output
-- is let go or sent; once of each sleeper; and once more.
abbrev pub tellers : Slab (Entry Reply Reply) → Slab (Sleeping Reply) → ℕ
tellers requests sleepers = pending_count requests + held_count requests + live_count sleepers + 1

-- the lists have so many places, with what stands in them
pub record HasWidth (left : Deferred Reply Reply) (n : ℕ) : Type 0 where
  pub wakes : n ≤ deque_capacity left.notes.wakes
  pub completions : n ≤ deque_capacity left.notes.completions
  pub outputs : n ≤ deque_capacity left.outputs
  pub resources : n ≤ deque_capacity left.resources
  pub results : n ≤ deque_capacity left.results

-- RECORDS: that of a request which isn't over says the same as its driver, whose wheel has this start and tick
pub record IsAlike (start tick : ℕ) (w : Waiter Reply Reply) (r : Request) : Type 0 where
  pub asked : asked_in r.operation ≡ asked_of w.request
  pub moved : r.operation.moved ≡ (cursor_of w.request).moved
  pub switched : r.operation.switched ≡ (cursor_of w.request).switched
  pub come : (results : List Judged) × HasCome (asked_of w.request) (cursor_of w.request) results
  pub hinted : w.in_flight ≡ true → r.operation.hinted ≡ hinted_of w.request
  pub asks_hint : (cursor_of w.request).hinted ≡ true → (may_ask_hint r.operation.kind ≡ true) × (r.operation.unrefused ≡ true)
  pub seen : is_durable r.operation.kind ≡ true → r.operation.seen ≡ seen_by w.request
  pub deadline : r.operation.deadline ≡ deadline_of w.request
  pub cancelled : r.cancelled ≡ asks_cancel w.state
  pub timer : r.timer ≡ option_map (λ t. start + t * tick) (tick_in w.state)
  pub observed : r.observed ≡ is_held_by w.observer
  pub waiter : (t : TaskNo) → waker_in w.observer ≡ Some t → r.waiter ≡ Some t.0
  pub flying : is_in_flight r.phase ≡ w.in_flight
  pub permit : is_gated r.phase ≡ needs_permit w
  pub open_still : is_resolved r.phase ≡ false
  pub near : IsNear w.observer r.forwarding
  pub going : asks_cancel w.state ≡ true → w.in_flight ≡ true
  pub told_once : r.cancel_staged ≡ true → r.cancelled ≡ true
  pub dated : is_some (tick_in w.state) ≡ true → is_some (deadline_of w.request) ≡ true
  -- a write or a sync goes on where nobody waits, so it is never cancelled
  pub alone : asks_cancel w.state ≡ true → is_kept (asked_of w.request).kind ≡ false

-- what is submitted: for each request whose cancel the kernel wasn't told a cancel stands in the submission queue; the
-- requests of worker i that are Staged are known by number
pub record IsSubmitted (i : ℕ) (staged untold : List ℕ) (r : RingState) (records : List Record) : Type 0 where
  pub tagged : AreTagged r.staged
  pub cancels : cancels_in r.staged ≡ length untold
  pub known : AreKnown staged records
  pub own : (k : ℕ) (x : Record) → is_one_of k staged ≡ true → slice_get records k ≡ Some x → x.shown.worker ≡ i
  pub all : (k : ℕ) (x : Record) → slice_get records k ≡ Some x → x.shown.worker ≡ i → is_staged x.shown.phase ≡ true → is_one_of k staged ≡ true

-- each slot that has a request or a sleeper of worker i has its number, and there its record has the same name; so has
-- each slot that once had one
pub record IsNamed (i : ℕ) (n : Names) (d : Driving Reply Reply) (zs : Slab (Sleeping Reply)) (records : List Record) (sleepers : List SleeperRecord) : Type 0 where
  pub requests : (id : Id) → IsSome (value_at d.requests id) → (r : Record) × (slice_get records (number_in n.requests.items id) ≡ Some r) × (r.id.0 ≡ id) × (r.shown.worker ≡ i)
  pub timers : (id : Id) → IsSome (value_at zs id) → (sleeper : SleeperRecord) × (slice_get sleepers (number_in n.timers.items id) ≡ Some sleeper) × (sleeper.id.0 ≡ id) × (sleeper.shown.worker ≡ i)
  pub alike : (id : Id) (it : Waiter Reply Reply) (r : Record) → waiter_at d.requests id ≡ Some it → slice_get records (number_in n.requests.items id) ≡ Some r → IsAlike d.wheel.start d.wheel.tick it r.shown
  pub over : (k : ℕ) (r : Record) → slice_get records k ≡ Some r → r.shown.worker ≡ i → waiter_at d.requests r.id.0 ≡ None → is_resolved r.shown.phase ≡ true
  pub submitted : IsSubmitted i n.staged.items n.untold.items d.ring records
  pub slots : length d.requests.slots ≤ length n.requests.items
  pub beds : length zs.slots ≤ length n.timers.items
