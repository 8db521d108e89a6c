-- What a task does with the newest request that it holds: it awaits it, or lets go of it.
use Rattle.std.specs.{Prelude.{◌≡◌, ◌≢◌, ℕ, ◌-◌, ◌++◌, ◌<◌, true, false, length, slice_get, take, slice_set, option_to_list, Option, Some, None, IsSome}, VecDeque.deque_capacity}
use Rattle.exec_parts.specs.{Words.{AfterSend, CancelRequest, Drop, Event, ForwardRequest, HasPlaces, InPoll, IsPunctual, ListsRequests, Place, Said, Tells, Wait, Waiting, changed, dropped, ends_by_drop, is_observed_here, is_resolved, joined_if, let_go, request_at, told_by_let_go, told_by_orphan, value_at, with_waker}, Records.numbers_held, declared.parts.{record.Record.Record, shared.Shared.Shared, task_slot.TaskSlot.TaskSlot, worker.Worker.Worker}, MailPosts.AsksOutput, Pooled.{MaySend, Sends}, Polls.{IsReady, OfSlot, TookOutput}, View.driver_of, Things.TurnsSlot}

-- task t waits for it; nobody holds it any more
abbrev pub awaited_by : ℕ → Record → Record
awaited_by t r = record r { shown = record r.shown { waiter = Some t } }

abbrev pub drops : Record → Record
drops r = record r { shown = dropped r.shown }

module _ {B : Type 0} where
  -- request k of the worker can be let go of
  pub record MayLetGo (k : ℕ) (w : Worker) (s : Shared B) : Type 0 where
    pub known : k < length s.requests.items
    pub room : HasPlaces w.home.deferred 2
    pub ending : (r : Record) → slice_get s.requests.items k ≡ Some r → ends_by_drop r.shown ≡ true → length w.names.ended.items < deque_capacity w.names.ended

  -- nobody holds request k any more
  pub record LetsGo (k : ℕ) (w w' : Worker) (s s' : Shared B) : Type 0 where
    pub r : Record
    pub request : slice_get s.requests.items k ≡ Some r
    pub lists : ListsRequests (driver_of w)
    pub driver : driver_of w' ≡ let_go (driver_of w) r.id
    pub tells : Tells w.home.deferred w'.home.deferred (told_by_let_go (driver_of w) r.id (told_by_orphan r.id.0 (value_at (driver_of w).requests r.id.0)))
    pub punctual : IsPunctual (driver_of w) → IsPunctual (driver_of w')
    pub ended : w'.names.ended.items ≡ joined_if (ends_by_drop r.shown) w.names.ended.items k
    pub capacity : deque_capacity w'.names.ended ≡ deque_capacity w.names.ended
    pub still : ends_by_drop r.shown ≡ false → w'.names.ended ≡ w.names.ended
    pub worker : w' ≡ record w { names = record w.names { ended = w'.names.ended }; home = record w.home { driver = w'.home.driver; deferred = w'.home.deferred } }
    pub records : s'.requests.items ≡ slice_set s.requests.items k (drops r)
    pub kept : s' ≡ record s { requests = s'.requests }

  -- the newest that a task holds, and what holds of that
  abbrev pub newest_of : TaskSlot B → Option ℕ
  newest_of slot = slice_get (numbers_held slot.held.items) (length (numbers_held slot.held.items) - 1)

  abbrev pub OfNewest : ℕ → Shared B → (ℕ → Type 0) → Type 0
  OfNewest t s fact = (slot : TaskSlot B) → slice_get s.tasks.items t ≡ Some slot → (k : ℕ) → newest_of slot ≡ Some k → fact k

  -- request k is the newest that task t holds. One of this worker has its output there, or a task of the worker may wait for
  -- it, and it can be let go; the worker of any other can be asked and told.
  pub record HasNewest (t k : ℕ) (w : Worker) (s : Shared B) : Type 0 where
    pub there : t < length s.tasks.items
    pub holds : OfSlot t s (λ slot. 0 < length (numbers_held slot.held.items))
    pub number : OfSlot t s (λ slot. slot.cell.number ≡ record { 0 = t })
    pub known : k < length s.requests.items
    pub may : (r : Record) → slice_get s.requests.items k ≡ Some r → r.shown.worker ≡ w.index → MayLetGo k w s
    pub ready : (r : Record) → slice_get s.requests.items k ≡ Some r → r.shown.worker ≡ w.index → is_resolved r.shown.phase ≡ true → IsReady r (driver_of w)
    pub waits : (r : Record) → slice_get s.requests.items k ≡ Some r → r.shown.worker ≡ w.index → is_resolved r.shown.phase ≡ false → is_observed_here (request_at (driver_of w) r.id) ≡ true
    pub asks : (r : Record) → slice_get s.requests.items k ≡ Some r → r.shown.worker ≢ w.index → MaySend r.shown.worker (ForwardRequest k) s
    pub tells : (r : Record) → slice_get s.requests.items k ≡ Some r → r.shown.worker ≢ w.index → MaySend r.shown.worker (CancelRequest k) s

  -- task t waits for request k
  pub record BeganWait (t k : ℕ) (w w' : Worker) (s s' : Shared B) (e : Event) : Type 0 where
    pub slot : TaskSlot B
    pub there : slice_get s.tasks.items t ≡ Some slot
    pub r : Record
    pub request : slice_get s.requests.items k ≡ Some r
    pub event : e ≡ Wait (Some k)
    pub worker : w' ≡ record w { place = Place.Poll t InPoll.Pend; home = record w.home { driver = w'.home.driver } }
    pub driver : driver_of w' ≡ record (driver_of w) { requests = changed (driver_of w).requests r.id.0 (with_waker (record { 0 = t })) }
    pub punctual : IsPunctual (driver_of w) → IsPunctual (driver_of w')
    pub records : s'.requests.items ≡ slice_set s.requests.items k (awaited_by t r)
    pub tasks : s'.tasks.items ≡ slice_set s.tasks.items t (record slot { waiting = Waiting.Request k })
    pub kept : s' ≡ record s { tasks = s'.tasks; requests = s'.requests }

  -- it takes the output of a request that is over, and waits for any other; another worker is asked for the output
  pub record AwaitsRequest (t k : ℕ) (w w' : Worker) (s s' : Shared B) (e : Event) : Type 0 where
    pub over : (r : Record) → slice_get s.requests.items k ≡ Some r → r.shown.worker ≡ w.index → is_resolved r.shown.phase ≡ true → TookOutput t k w w' s s' e
    pub waits : (r : Record) → slice_get s.requests.items k ≡ Some r → r.shown.worker ≡ w.index → is_resolved r.shown.phase ≡ false → BeganWait t k w w' s s' e
    pub elsewhere : (r : Record) → slice_get s.requests.items k ≡ Some r → r.shown.worker ≢ w.index → AsksOutput t k w w' s s' e

  -- with nothing held it waits for a wake
  abbrev pub AwaitsNewest : ℕ → Option ℕ → Worker → Worker → Shared B → Shared B → Event → Type 0
  AwaitsNewest t (Some k) w w' s s' e = AwaitsRequest t k w w' s s' e
  AwaitsNewest t None w w' s s' e =
      (e ≡ Wait None) × (w' ≡ record w { place = Place.Poll t InPoll.Pend }) × TurnsSlot t s s' (λ slot. record slot { waiting = Waiting.Wake })

  -- task t lets go of the newest request that it holds, and is told that it goes on
  pub record Forgets (t : ℕ) (s s' : Shared B) : Type 0 where
    pub slot : TaskSlot B
    pub slot' : TaskSlot B
    pub there : slice_get s.tasks.items t ≡ Some slot
    pub took : slot' ≡ record slot { held = slot'.held; told = Some Said.Pass }
    pub all : slot'.held.items ≡ take (length slot.held.items - 1) slot.held.items
    pub newest : Option ℕ
    pub some : IsSome newest
    pub held : numbers_held slot.held.items ≡ numbers_held slot'.held.items ++ option_to_list newest
    pub tasks : s'.tasks.items ≡ slice_set s.tasks.items t slot'
    pub kept : s' ≡ record s { tasks = s'.tasks }

  -- it is request k, which this worker has and lets go of
  pub record DropsHere (t k : ℕ) (w w' : Worker) (s s' : Shared B) (e : Event) : Type 0 where
    pub event : e ≡ Drop k
    pub middle : Shared B
    pub forgets : Forgets t s middle
    pub lets : LetsGo k w (record w' { place = w.place }) middle s'
    pub place : w'.place ≡ Place.Poll t InPoll.Act

  -- or another worker has it, which is told so
  pub record DropsElsewhere (t k j : ℕ) (w w' : Worker) (s s' : Shared B) (e : Event) : Type 0 where
    pub middle : Shared B
    pub forgets : Forgets t s middle
    pub sends : Sends j (CancelRequest k) (AfterSend.Act t) w w' middle s' e

  pub record DropsRequest (t k : ℕ) (w w' : Worker) (s s' : Shared B) (e : Event) : Type 0 where
    pub r : Record
    pub request : slice_get s.requests.items k ≡ Some r
    pub here : r.shown.worker ≡ w.index → DropsHere t k w w' s s' e
    pub elsewhere : r.shown.worker ≢ w.index → DropsElsewhere t k r.shown.worker w w' s s' e
