-- What an act makes that needs memory: a request or a sleeper; and what is left where there is none.
use Rattle.std.specs.Prelude.{◌≡◌, ◌≢◌, ◌+◌, ◌*◌, ◌^◌, ◌<◌, ◌≤◌, ◌∷◌, ◌++◌, if◌then◌else◌}
use Rattle.exec_invariants.specs.Words.{ℕ, true, false, Bool, List, [], length, Option, Some, None, is_some, slice_get, slice_set, IfSome, vec_capacity, deque_capacity, live_count, next_id, inserted, IsPast, TakesId, NoMemory, TaskNo, TimerId, Watching as Observer, is_durable, Kind, asked_of, deadline_of, Asking, Reserves, gate_in, HasPlaces, Tells, nothing_told, Local, WaiterId, Admits, with_rooms, Driving, request_at, ListsRequests, IsPunctual, footprint_of, newcomer, told_at_admission, OpenState, account_in, joined, open_named, with_named, Said, Event, Admit, Timer, Operation, Waiting, new_sleeper, is_of_file, new_request, outcome_if_late, resolved_if, InPoll, Place, Reply, Names, Record, Chair, Shared, SleeperRecord, TaskSlot, Worker, HasMailRoom, HasRequestRoom, HasTimerRoom, MakesMail, SameNames, file_named, numbers_held, operation_in, account_seen, driver_of}

-- What its worker needs: each slot that once had something has a number, and what is over isn't released.
pub record MayMake (w : Worker) : Type 0 where
  pub slots : length (driver_of w).requests.slots ≤ length w.names.requests.items
  pub beds : length w.home.timers.slots ≤ length w.names.timers.items
  pub over : length w.names.ended.items ≤ w.names.unreleased

-- so much may be told once there is one more request or sleeper, and by the messages of a turn
abbrev pub most_told : Worker → ℕ
most_told w = 2 * length w.names.requests.items + live_count w.home.timers + (4 + 2 * 64)

-- the open of a request is there, where that is of a file
abbrev pub has_open : Asking → List OpenState → Bool
has_open (Asking.ReadAt r) opens = is_some (account_in opens (Some r.file))
has_open (Asking.WriteAt w) opens = is_some (account_in opens (Some w.file))
has_open (Asking.Sync q) opens = is_some (account_in opens (Some q.file))
has_open _ opens = true

module _ {B : Type 0} where
  -- The inbox of the worker, and its batch, got places.
  pub record MailsRoom (w w' : Worker) (s s' : Shared B) : Type 0 where
    pub chair : Chair
    pub seated : slice_get s.seats.items w.index ≡ Some chair
    pub chair' : Chair
    pub mail : MakesMail chair chair' w.batch w'.batch
    pub seats : s'.seats.items ≡ slice_set s.seats.items w.index chair'

  -- Nothing that can be seen changed, but what task t is told next.
  pub record MakesRoom (t : ℕ) (told : TaskSlot B → Option Said) (w w' : Worker) (s s' : Shared B) : Type 0 where
    pub worker : w' ≡ record w { names = w'.names; batch = w'.batch; home = record w.home { driver = w'.home.driver; deferred = w'.home.deferred } }
    pub names : SameNames w.names w'.names
    pub driver : driver_of w' ≡ with_rooms (driver_of w') (driver_of w)
    pub untold : Tells w.home.deferred w'.home.deferred nothing_told
    pub shared : s' ≡ record s { seats = s'.seats; tasks = s'.tasks; requests = s'.requests; sleepers = s'.sleepers; store = s'.store }
    pub mails : MailsRoom w w' s s'
    pub requests : s'.requests.items ≡ s.requests.items
    pub sleepers : s'.sleepers.items ≡ s.sleepers.items
    pub slot : TaskSlot B
    pub there : slice_get s.tasks.items t ≡ Some slot
    pub slot' : TaskSlot B
    pub same : slot' ≡ record slot { held = slot'.held; told = told slot }
    pub held : numbers_held slot'.held.items ≡ numbers_held slot.held.items
    pub having : slot'.held.items ≡ slot.held.items
    pub tasks : s'.tasks.items ≡ slice_set s.tasks.items t slot'

  -- its body is told that there was no memory
  abbrev pub Refuses : ℕ → Worker → Worker → Shared B → Shared B → Type 0
  Refuses t w w' s s' = MakesRoom t (λ slot. Some (Said.Refused NoMemory)) w w' s s'

  -- room for one more request, but at its driver
  pub record HasRoomFor (t : ℕ) (w : Worker) (s : Shared B) : Type 0 where
    pub records : length s.requests.items < vec_capacity s.requests
    pub few : length s.requests.items < 2 ^ 32
    pub names : HasRequestRoom w.names
    pub told : HasPlaces w.home.deferred (most_told w)
    pub mail : (chair : Chair) → slice_get s.seats.items w.index ≡ Some chair → HasMailRoom chair w.batch
    pub held : (slot : TaskSlot B) → slice_get s.tasks.items t ≡ Some slot → length slot.held.items < vec_capacity slot.held

  -- The driver admitted a request of task t, once there was room for it. Its open is there, where it is of a file.
  pub record TakesIn (t : ℕ) (request : Asking) (id : WaiterId) (w w' : Worker) (s s' : Shared B) : Type 0 where
    pub mid : Worker
    pub all : Shared B
    pub rooms : MakesRoom t (λ slot. slot.told) w mid s all
    pub has : HasRoomFor t mid all
    pub driver : mid.home.driver ≡ w.home.driver
    pub store : all.store ≡ s.store
    pub opened : has_open request all.opens ≡ true
    pub next : next_id (driver_of mid).requests ≡ Some id.0
    pub small : id.0.index < 4294967295
    pub admits : Admits (driver_of mid) (driver_of w') all.opens s'.opens id request (Local None) mid.moments.sampled
    pub tells : Tells mid.home.deferred w'.home.deferred (told_at_admission id (newcomer request (Local None)) mid.moments.sampled)
    pub stored : Reserves (footprint_of request) all.store s'.store
    pub unnamed : IsPast (driver_of mid).requests id.0 → ⊥
    pub named : TakesId (driver_of mid).requests (driver_of w').requests id.0
    pub punctual : IsPunctual (driver_of mid) → IsPunctual (driver_of w')
    pub lists : ListsRequests (driver_of mid)
    pub worker : w' ≡ record mid { home = record mid.home { driver = w'.home.driver; deferred = w'.home.deferred } }
    pub shared : s' ≡ record all { opens = s'.opens; store = s'.store }

-- what its open had when it was made, as its record tells it: a plain write counts already
abbrev pub seeing : List OpenState → Operation → Operation
seeing opens o =
    if is_of_file o.kind then record o { seen = (account_seen (account_in opens (file_named o.target))).mutations } else o

-- a durable request joins the gate of its open
abbrev pub joins_gate : ℕ → Kind → InPoll
joins_gate r kind = if is_durable kind then InPoll.JoinGate r else InPoll.Act

-- one more request or sleeper is made
abbrev pub one_made : Chair → Chair
one_made chair = record chair { made = chair.made + 1 }

-- A place was made at the gate of the request's open, which it may join.
abbrev pub HasPlaceAt : Driving Reply Reply → WaiterId → List OpenState → Type 0
HasPlaceAt d id opens = IfSome (open_named opens (gate_in (request_at d id))) (λ o. 0 < o.coming)

abbrev pub joined_at : Driving Reply Reply → ℕ → WaiterId → List OpenState → List OpenState
joined_at d worker id opens = with_named opens (gate_in (request_at d id)) (joined (record { worker = worker; id = id }))

-- a request has the next number, under its name
pub record NamesOne (id : WaiterId) (number : ℕ) (late : Bool) (n n' : Names) : Type 0 where
  pub number_is : slice_get n'.requests.items id.0.index ≡ Some number
  pub others : (k : ℕ) → k ≢ id.0.index → slice_get n'.requests.items k ≡ slice_get n.requests.items k
  pub longer : length n.requests.items ≤ length n'.requests.items
  pub ended : n'.ended.items ≡ (if late then n.ended.items ++ number ∷ [] else n.ended.items)
  pub capacity : deque_capacity n'.ended ≡ deque_capacity n.ended
  pub untouched : late ≡ false → n'.ended ≡ n.ended
  pub same : n' ≡ record n { requests = n'.requests; ended = n'.ended; unreleased = n.unreleased + 1 }

module _ {B : Type 0} where
  -- Task t has made a request.
  pub record Registers (t : ℕ) (request : Asking) (w w' : Worker) (s s' : Shared B) (e : Event) : Type 0 where
    pub id : WaiterId
    pub mid : Worker
    pub all : Shared B
    pub takes : TakesIn t request id w mid s all
    pub made : Record
    pub named : made.id ≡ id
    pub shown : made.shown ≡ resolved_if (outcome_if_late w.moments.sampled (deadline_of request)) (new_request w.index (seeing s'.opens (operation_in request)))
    pub unsent : made.sent ≡ false
    pub names : NamesOne id (length s.requests.items) (is_some (outcome_if_late w.moments.sampled (deadline_of request))) mid.names w'.names
    pub worker : w' ≡ record mid { place = Place.Poll t (joins_gate (length s.requests.items) (asked_of request).kind); names = w'.names }
    pub seats : s'.seats.items ≡ slice_set s.seats.items w.index (one_made takes.rooms.mails.chair')
    pub requests : s'.requests.items ≡ s.requests.items ++ made ∷ []
    pub slot' : TaskSlot B
    pub took : slot' ≡ record takes.rooms.slot { held = slot'.held; told = Some (Said.Admitted (length s.requests.items)) }
    pub held : numbers_held slot'.held.items ≡ (numbers_held takes.rooms.slot.held.items) ++ length s.requests.items ∷ []
    pub having : slot'.held.items ≡ takes.rooms.slot.held.items ++ record { number = length s.requests.items; worker = w.index } ∷ []
    pub tasks : s'.tasks.items ≡ slice_set s.tasks.items t slot'
    pub shared : s' ≡ record all { seats = s'.seats; tasks = s'.tasks; requests = s'.requests }
    pub event : e ≡ Admit (length s.requests.items) (asked_of request).kind (outcome_if_late w.moments.sampled (deadline_of request))

  -- room for one more sleeper, but among the sleepers
  pub record HasRoomForSleep (w : Worker) (s : Shared B) : Type 0 where
    pub records : length s.sleepers.items < vec_capacity s.sleepers
    pub names : HasTimerRoom w.names
    pub told : HasPlaces w.home.deferred (most_told w)
    pub mail : (chair : Chair) → slice_get s.seats.items w.index ≡ Some chair → HasMailRoom chair w.batch

  -- One more sleeper is there, for task t, once there was room for it.
  pub record TakesBed (t until : ℕ) (waker : TaskNo) (id : TimerId) (w w' : Worker) (s s' : Shared B) : Type 0 where
    pub mid : Worker
    pub rooms : MakesRoom t (λ slot. slot.told) w mid s s'
    pub has : HasRoomForSleep mid s'
    pub driver : mid.home.driver ≡ w.home.driver
    pub store : s'.store ≡ s.store
    pub next : next_id mid.home.timers ≡ Some id.0
    pub timers : w'.home.timers ≡ record (inserted mid.home.timers (record { deadline = until; observer = Observer.Local waker })) { room = w'.home.timers.room }
    pub unnamed : IsPast mid.home.timers id.0 → ⊥
    pub past : TakesId mid.home.timers w'.home.timers id.0
    pub worker : w' ≡ record mid { home = record mid.home { timers = w'.home.timers } }

  -- Task t sleeps until this moment.
  pub record Sleeps (t until : ℕ) (w w' : Worker) (s s' : Shared B) (e : Event) : Type 0 where
    pub mid : Worker
    pub all : Shared B
    pub rooms : MakesRoom t (λ slot. slot.told) w mid s all
    pub has : HasRoomForSleep mid all
    pub driver : mid.home.driver ≡ w.home.driver
    pub store : all.store ≡ s.store
    pub made : SleeperRecord
    pub shown : made.shown ≡ new_sleeper until w.index t
    pub unclosed : made.closed ≡ false
    pub unsent : made.sent ≡ false
    pub next : next_id mid.home.timers ≡ Some made.id.0
    pub timers : w'.home.timers ≡ record (inserted mid.home.timers (record { deadline = until; observer = Observer.Local rooms.slot.cell.number })) { room = w'.home.timers.room }
    pub unnamed : IsPast mid.home.timers made.id.0 → ⊥
    pub past : TakesId mid.home.timers w'.home.timers made.id.0
    pub number_is : slice_get w'.names.timers.items made.id.0.index ≡ Some (length s.sleepers.items)
    pub others : (k : ℕ) → k ≢ made.id.0.index → slice_get w'.names.timers.items k ≡ slice_get mid.names.timers.items k
    pub longer : length mid.names.timers.items ≤ length w'.names.timers.items
    pub names : w'.names ≡ record mid.names { timers = w'.names.timers }
    pub worker : w' ≡ record mid { place = Place.Poll t InPoll.Pend; names = w'.names; home = record mid.home { timers = w'.home.timers } }
    pub sleepers : s'.sleepers.items ≡ s.sleepers.items ++ made ∷ []
    pub slot' : TaskSlot B
    pub waits : slot' ≡ record rooms.slot { held = slot'.held; waiting = Waiting.Timer (length s.sleepers.items) }
    pub held : numbers_held slot'.held.items ≡ (numbers_held rooms.slot.held.items)
    pub having : slot'.held.items ≡ rooms.slot.held.items
    pub tasks : s'.tasks.items ≡ slice_set s.tasks.items t slot'
    pub seats : s'.seats.items ≡ slice_set s.seats.items w.index (one_made rooms.mails.chair')
    pub shared : s' ≡ record all { seats = s'.seats; tasks = s'.tasks; sleepers = s'.sleepers }
    pub event : e ≡ Timer (length s.sleepers.items) until
