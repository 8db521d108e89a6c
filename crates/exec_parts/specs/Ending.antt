-- A task ends: it lets go of all that it holds, the oldest first.
use Rattle.std.specs.{Prelude.{◌≡◌, ◌≢◌, ℕ, ◌<◌, ◌==◌, ◌&&◌, Bool, not, true, false, List, [], ◌∷◌, filter, length, slice_get, slice_set, Option, Some, None, IsSome, IsTrue, Err, if◌then◌else◌}, VecDeque.deque_capacity}
use Rattle.exec_time.specs.{Sleepers.{Ends, IsLowest}, declared.timers.TimerId.TimerId}
use Rattle.exec_parts.specs.{Words.{AfterCallbacks, AfterCancels, Closed, Drain, Driving, Event, HasPlaces, HasRoom, Id, InClosing, IsFirstHeld, IsPunctual, ListsRequests, Orphan, Place, Slab, Sleeping, Tells, Turn, WaiterId, Waiting, callback, cancels_left, cleared, dropped, ends_by_drop, is_held_at, is_polled, joined_if, let_go, live_count, over, pend_answer, told_by_close, told_by_let_go, value_at}, declared.parts.{held.Held.Held, mail.Reply.Reply, record.Record.Record, shared.Shared.Shared, sleeping.SleeperRecord.SleeperRecord, task_slot.TaskSlot.TaskSlot, worker.Worker.Worker}, Awaits.{LetsGo, MayLetGo, drops}, Calls.sleeper_closed, MailTakes.{MayRemove, RemovesSleeper}, Phased.is_complete, Polls.{OfSlot, pended_slot}, Pooled.{cleared_slot, queued_again}, Records.{number_in, outcome_in}, Tests.after_poll_of, View.{desk_of, driver_of, letters_in}, Things.TurnsSlot}

-- where a worker goes on whose task is over: it closes where that is its root, and any other task leaves the task set once
-- others were told of what it held
abbrev pub ended_place : ℕ → Worker → Place
ended_place t w = if t == w.root then Place.Closing InClosing.Close else cancels_left (AfterCancels.Remove t) (desk_of w) (letters_in w.letters)

-- and where a drain goes on
abbrev pub visits_on : Drain → Worker → Worker
visits_on x w = record w { place = cancels_left (AfterCancels.Visit x) (desk_of w) (letters_in w.letters) }

-- what others have of these
abbrev pub others_of : ℕ → List Held → List Held
others_of i hs = filter (λ h. not (h.worker == i)) hs

module _ {B : Type 0} where
  -- WHAT A TASK WAITED FOR THAT IS OVER

  -- the sleeper that it waited for can be let go, where the worker has it
  abbrev pub MayLetSleep : Waiting → Worker → Shared B → Type 0
  MayLetSleep (Waiting.Timer z) w s =
      (z < length s.sleepers.items)
      × ((it : SleeperRecord) → slice_get s.sleepers.items z ≡ Some it → it.shown.worker ≡ w.index → MayRemove z w s)
  MayLetSleep _ w s = Unit {0}

  -- it is, or its worker is to be told
  pub record LetsSleep (z : ℕ) (left : Option Held) (w w' : Worker) (s s' : Shared B) : Type 0 where
    pub it : SleeperRecord
    pub sleeper : slice_get s.sleepers.items z ≡ Some it
    pub here : it.shown.worker ≡ w.index → RemovesSleeper z w w' s s' × (left ≡ None)
    pub elsewhere : it.shown.worker ≢ w.index → (w' ≡ w) × (s' ≡ s) × (left ≡ Some (record { number = z; worker = it.shown.worker }))

  abbrev pub LetsWaiting : Waiting → Option Held → Worker → Worker → Shared B → Shared B → Type 0
  LetsWaiting (Waiting.Timer z) left w w' s s' = LetsSleep z left w w' s s'
  LetsWaiting _ left w w' s s' = (w' ≡ w) × (s' ≡ s) × (left ≡ None)

  -- WHAT IT HELD: what the worker has of it is let go, one after another

  pub data LetsGoOne (h : Held) (w w' : Worker) (s s' : Shared B) : Type 0 where
    here : h.worker ≡ w.index → LetsGo h.number w w' s s' → LetsGoOne h w w' s s'
    elsewhere : h.worker ≢ w.index → w' ≡ w → s' ≡ s → LetsGoOne h w w' s s'

  abbrev pub MayLetGoAll : List Held → Worker → Shared B → Type 0
  MayLetGoAll [] w s = Unit {0}
  MayLetGoAll (h ∷ hs) w s =
      (h.worker ≡ w.index → MayLetGo h.number w s)
      × ((w' : Worker) (s' : Shared B) → LetsGoOne h w w' s s' → MayLetGoAll hs w' s')

  abbrev pub LetsGoAll : List Held → Worker → Worker → Shared B → Shared B → Type 0
  LetsGoAll [] w w' s s' = (w' ≡ w) × (s' ≡ s)
  LetsGoAll (h ∷ hs) w w' s s' = (v : Worker) × (now : Shared B) × LetsGoOne h w v s now × LetsGoAll hs v w' now s'

  -- Task t, which is over or will be by this step, can let go of all.
  pub record MayLetGoOf (t : ℕ) (w : Worker) (s : Shared B) : Type 0 where
    pub there : t < length s.tasks.items
    pub no_letters : w.letters.requests.items ≡ []
    pub no_timer : w.letters.timer ≡ None
    pub lets : OfSlot t s (λ slot. (first : Shared B) → first ≡ record s { tasks = first.tasks } → MayLetGoAll slot.held.items w first)
    pub sleeps : OfSlot t s (λ slot. (first now : Shared B) (v : Worker) → first ≡ record s { tasks = first.tasks } → LetsGoAll slot.held.items w v first now → MayLetSleep slot.waiting v now)

  pub record LetsGoOf (t : ℕ) (w w' : Worker) (s s' : Shared B) : Type 0 where
    pub slot : TaskSlot B
    pub there : slice_get s.tasks.items t ≡ Some slot
    pub slot' : TaskSlot B
    pub emptied : slot' ≡ record slot { held = slot'.held }
    pub none : slot'.held.items ≡ []
    pub first : Shared B
    pub kept : first ≡ record s { tasks = first.tasks }
    pub tasks : first.tasks.items ≡ slice_set s.tasks.items t slot'
    pub v : Worker
    pub now : Shared B
    pub lets : LetsGoAll slot.held.items w v first now
    pub u : Worker
    pub sleeps : LetsWaiting slot.waiting w'.letters.timer v u now s'
    pub requests : w'.letters.requests.items ≡ others_of w.index slot.held.items
    pub worker : w' ≡ record u { letters = w'.letters }

  -- THE END

  -- task t may end here
  pub record MayEndTask (t : ℕ) (w : Worker) (s : Shared B) : Type 0 where
    pub polled : OfSlot t s (λ slot. IsTrue (is_polled slot.cell.phase))
    pub lets : MayLetGoOf t w s

  -- it ended
  pub record EndsTask (t : ℕ) (w w' : Worker) (s s' : Shared B) : Type 0 where
    pub v : Worker
    pub mid : Shared B
    pub lets : LetsGoOf t w v s mid
    pub worker : w' ≡ record v { place = ended_place t v }
    pub task : TurnsSlot t mid s' (λ slot. record slot { cell = over slot.cell })

  -- A drain clears task t. One that nobody polls is over by that, where it wasn't before.
  abbrev pub ends_by_clear : TaskSlot B → Bool
  ends_by_clear slot = is_complete (cleared slot.cell).phase && not (is_complete slot.cell.phase)

  pub record MayClear (t : ℕ) (w : Worker) (s : Shared B) : Type 0 where
    pub there : t < length s.tasks.items
    pub lets : OfSlot t s (λ slot. ends_by_clear slot ≡ true → (mid : Shared B) → TurnsSlot t s mid cleared_slot → MayLetGoOf t w mid)

  pub record ClearsTask (t : ℕ) (x : Drain) (w w' : Worker) (s s' : Shared B) : Type 0 where
    pub slot : TaskSlot B
    pub there : slice_get s.tasks.items t ≡ Some slot
    pub mid : Shared B
    pub cleared_is : TurnsSlot t s mid cleared_slot
    pub v : Worker
    pub over : ends_by_clear slot ≡ true → LetsGoOf t w v mid s'
    pub still : ends_by_clear slot ≡ false → (v ≡ w) × (s' ≡ mid)
    pub worker : w' ≡ visits_on x v

  -- The poll of task t ends. One that was cleared meanwhile is over by that.
  pub record MayPend (t : ℕ) (w : Worker) (s : Shared B) : Type 0 where
    pub there : t < length s.tasks.items
    pub polled : OfSlot t s (λ slot. IsTrue (is_polled slot.cell.phase))
    pub body : OfSlot t s (λ slot. IsSome slot.body)
    pub agrees : OfSlot t s (λ slot. slot.cell.cancelled ≡ slot.cleared)
    pub lets : OfSlot t s (λ slot. is_complete (pended_slot slot).cell.phase ≡ true → (mid : Shared B) → TurnsSlot t s mid pended_slot → MayLetGoOf t w mid)

  pub record PendsTask (t : ℕ) (w w' : Worker) (s s' : Shared B) : Type 0 where
    pub slot : TaskSlot B
    pub there : slice_get s.tasks.items t ≡ Some slot
    pub mid : Shared B
    pub pended_is : TurnsSlot t s mid pended_slot
    pub v : Worker
    pub over : is_complete (pended_slot slot).cell.phase ≡ true → LetsGoOf t w v mid s' × (w' ≡ record v { place = cancels_left AfterCancels.Pick (desk_of v) (letters_in v.letters) })
    pub still : is_complete (pended_slot slot).cell.phase ≡ false → (w' ≡ queued_again t (pend_answer slot.cell) (record w { place = after_poll_of t w })) × (s' ≡ mid)

-- WHAT A CLOSING WORKER LETS GO

-- where it goes on: to a request that somebody holds, to a sleeper, or to the callbacks
pub data ClosesOn (d : Driving Reply Reply) (zs : Slab (Sleeping Reply)) (p : Place) : Type 0 where
  holds : (id : Id) → IsFirstHeld d.requests id → p ≡ Place.Closing InClosing.Orphan → ClosesOn d zs p
  sleeps : ((id : Id) → is_held_at (value_at d.requests id) ≡ false) → 0 < live_count zs → p ≡ Place.Closing InClosing.CloseSleeper → ClosesOn d zs p
  nothing : ((id : Id) → is_held_at (value_at d.requests id) ≡ false) → live_count zs ≡ 0 → p ≡ Place.Callbacks callback.TakeBatch AfterCallbacks.Drain → ClosesOn d zs p

module _ {B : Type 0} where
  pub record MayOrphan (w : Worker) (s : Shared B) : Type 0 where
    pub one : Id
    pub held : is_held_at (value_at (driver_of w).requests one) ≡ true
    pub room : HasPlaces w.home.deferred 2
    pub known : (id : Id) → IsFirstHeld (driver_of w).requests id → number_in w.names.requests.items id < length s.requests.items
    pub ending : (id : Id) (r : Record) → IsFirstHeld (driver_of w).requests id → slice_get s.requests.items (number_in w.names.requests.items id) ≡ Some r → ends_by_drop r.shown ≡ true → length w.names.ended.items < deque_capacity w.names.ended

  -- the request in the first slot that somebody holds is let go
  pub record Orphans (w w' : Worker) (s s' : Shared B) (e : Event) : Type 0 where
    pub id : WaiterId
    pub first : IsFirstHeld (driver_of w).requests id.0
    pub k : ℕ
    pub number : k ≡ number_in w.names.requests.items id.0
    pub r : Record
    pub request : slice_get s.requests.items k ≡ Some r
    pub event : e ≡ Orphan k (if ends_by_drop r.shown then outcome_in (dropped r.shown).phase else None)
    pub lists : ListsRequests (driver_of w)
    pub driver : driver_of w' ≡ let_go (driver_of w) id
    pub tells : Tells w.home.deferred w'.home.deferred (told_by_let_go (driver_of w) id (told_by_close id.0 (value_at (driver_of w).requests id.0)))
    pub punctual : IsPunctual (driver_of w) → IsPunctual (driver_of w')
    pub ended : w'.names.ended.items ≡ joined_if (ends_by_drop r.shown) w.names.ended.items k
    pub capacity : deque_capacity w'.names.ended ≡ deque_capacity w.names.ended
    pub still : ends_by_drop r.shown ≡ false → w'.names.ended ≡ w.names.ended
    pub worker : w' ≡ record w { place = w'.place; names = record w.names { ended = w'.names.ended }; home = record w.home { driver = w'.home.driver; deferred = w'.home.deferred } }
    pub place : ClosesOn (driver_of w') w'.home.timers w'.place
    pub records : s'.requests.items ≡ slice_set s.requests.items k (drops r)
    pub kept : s' ≡ record s { requests = s'.requests }

  pub record MayCloseSleeper (w : Worker) (s : Shared B) : Type 0 where
    pub one : Id
    pub asleep : IsSome (value_at w.home.timers one)
    pub room : HasRoom w.home.deferred.notes 1
    pub known : (id : Id) → IsLowest w.home.timers id → IsSome (value_at w.home.timers id) → number_in w.names.timers.items id < length s.sleepers.items

  -- the sleeper in the first slot is let go, and its task told
  pub record ClosesSleeper (w w' : Worker) (s s' : Shared B) (e : Event) : Type 0 where
    pub event : e ≡ Turn
    pub id : TimerId
    pub lowest : IsLowest w.home.timers id.0
    pub ends : Ends w.home.timers w'.home.timers w'.home.deferred.notes w.home.deferred.notes id.0 (Err Closed)
    pub z : ℕ
    pub number : z ≡ number_in w.names.timers.items id.0
    pub it : SleeperRecord
    pub sleeper : slice_get s.sleepers.items z ≡ Some it
    pub sleepers : s'.sleepers.items ≡ slice_set s.sleepers.items z (sleeper_closed it)
    pub kept : s' ≡ record s { sleepers = s'.sleepers }
    pub worker : w' ≡ record w { place = w'.place; home = record w.home { timers = w'.home.timers; deferred = record w.home.deferred { notes = w'.home.deferred.notes } } }
    pub place : ClosesOn (driver_of w') w'.home.timers w'.place
