-- What messages of other workers do, and what callbacks send to tasks elsewhere.
use Rattle.std.specs.{Prelude.{◌≡◌, ℕ, ◌+◌, ◌^◌, ◌<◌, ◌==◌, Bool, false, not, [], drop, length, map, slice_get, slice_set, Some, None, if◌then◌else◌, Ok, Err}, VecDeque.deque_capacity}
use Rattle.exec_parts.specs.{Words.{removed, value_at, written, sent, Closed, TaskNo, Adds, HasRoom, completions_of, is_forwarded, ForwardedResult, Forwarded, Sleeping, forwarded, told_by_forward, HasPlaces, Tells, Answer, ListsRequests, IsPunctual, Reserved, Message, is_idle, runnable_of, Runnable, Event, Turn, Wake, Apply, MailMessage, Root, ForwardRequest, ForwardTimer, CancelRequest, CancelTimer, Waiting, AfterCallbacks, AfterPush, Heard, Place, at, callback, after_message}, declared.parts.{mail.{Reply.Reply, Subject.Subject}, record.Record.Record, shared.Shared.Shared, sleeping.SleeperRecord.SleeperRecord, task_slot.TaskSlot.TaskSlot, worker.Worker.Worker}, Awaits.{LetsGo, MayLetGo}, Calls.{IsUnpaid, KeepsRoom, as_sent, forward_applied, records_paid, sleeper_applied, sleeper_removed, sleeper_sent, sleepers_paid}, Phased.is_complete, Polls.OfSlot, Pooled.{WakesOwnRoot, woken_slot}, Tests.{first_push_of, next_callback_of}, View.{driver_of, message_of, number_heard}, Things.TurnsSlot}

-- FORWARDS: the end is sent to task t, which waits elsewhere

abbrev pub reply_for : ℕ → Heard → Reply
reply_for t it = record { task = record { 0 = t }; of = it }

pub record MayForward (r : Record) (w : Worker) : Type 0 where
  pub t : ℕ
  pub waited : r.shown.waiter ≡ Some t
  pub small : t < 2 ^ 32
  pub room : HasPlaces w.home.deferred 1

pub record ForwardsRequest (k : ℕ) (r r' : Record) (w w' : Worker) : Type 0 where
  pub t : ℕ
  pub waited : r.shown.waiter ≡ Some t
  pub is : r' ≡ forward_applied r
  pub lists : ListsRequests (driver_of w)
  pub driver : driver_of w' ≡ record (driver_of w) { requests = forwarded (driver_of w).requests r.id.0 (reply_for t (Heard.Request k)) }
  pub tells : Tells w.home.deferred w'.home.deferred (told_by_forward r.id.0 (reply_for t (Heard.Request k)) (value_at (driver_of w).requests r.id.0))
  pub punctual : IsPunctual (driver_of w) → IsPunctual (driver_of w')
  pub worker : w' ≡ record w { home = record w.home { driver = w'.home.driver; deferred = w'.home.deferred } }

pub record MayForwardTimer (it : SleeperRecord) (w : Worker) : Type 0 where
  pub small : it.shown.task < 2 ^ 32
  pub here : is_forwarded (value_at w.home.timers it.id.0) ≡ false
  pub room : HasRoom w.home.deferred.notes 1

pub record ForwardsTimer (z : ℕ) (it it' : SleeperRecord) (w w' : Worker) : Type 0 where
  pub is : it' ≡ sleeper_applied it
  pub asleep : (b : Sleeping Reply) → value_at w.home.timers it.id.0 ≡ Some b → (w'.home.timers ≡ written w.home.timers it.id.0 (record b { observer = Forwarded (reply_for it.shown.task (Heard.Timer z)) })) × Adds w.home.deferred.notes w'.home.deferred.notes [] []
  pub gone : value_at w.home.timers it.id.0 ≡ None → (w'.home.timers ≡ w.home.timers) × Adds w.home.deferred.notes w'.home.deferred.notes [] (completions_of (Ok tt) (Forwarded (reply_for it.shown.task (Heard.Timer z))))
  pub worker : w' ≡ record w { home = record w.home { timers = w'.home.timers; deferred = record w.home.deferred { notes = w'.home.deferred.notes } } }

-- CALLBACKS: a task is woken, which is flagged where it is the own root, and queued where it was idle

abbrev pub queued_after : ℕ → Runnable → AfterCallbacks → Worker → Worker
queued_after t r next w =
    if t == w.root then record w { root_ready = Some r; place = next_callback_of next w }
    else record w { hand = Some r; place = first_push_of (AfterPush.CallBack next) w }

-- what was waited for
abbrev pub thing_heard : Heard → Waiting
thing_heard (Heard.Request k) = Waiting.Request k
thing_heard (Heard.Timer z) = Waiting.Timer z

-- what follows an end that was sent: the wake of its task, where that isn't over
abbrev pub after_sending_of : Bool → ℕ → Heard → AfterCallbacks → Worker → Place
after_sending_of hears t of next w = if hears then at.Callbacks (callback.WakeWaiter t of) next else next_callback_of next w

module _ {B : Type 0} where
  -- SLEEPERS: nobody waits for it any more

  -- sleeper z of the worker can be let go
  pub record MayRemove (z : ℕ) (w : Worker) (s : Shared B) : Type 0 where
    pub known : z < length s.sleepers.items
    pub room : HasRoom w.home.deferred.notes 1

  pub record RemovesSleeper (z : ℕ) (w w' : Worker) (s s' : Shared B) : Type 0 where
    pub it : SleeperRecord
    pub sleeper : slice_get s.sleepers.items z ≡ Some it
    pub bed : (b : Sleeping Reply) → value_at w.home.timers it.id.0 ≡ Some b → (w'.home.timers ≡ removed w.home.timers it.id.0) × Adds w.home.deferred.notes w'.home.deferred.notes [] (completions_of (Err Closed) b.observer)
    pub gone : value_at w.home.timers it.id.0 ≡ None → (w'.home.timers ≡ w.home.timers) × Adds w.home.deferred.notes w'.home.deferred.notes [] []
    pub worker : w' ≡ record w { home = record w.home { timers = w'.home.timers; deferred = record w.home.deferred { notes = w'.home.deferred.notes } } }
    pub sleepers : s'.sleepers.items ≡ slice_set s.sleepers.items z (sleeper_removed it)
    pub kept : s' ≡ record s { sleepers = s'.sleepers }

  -- A MESSAGE TAKES EFFECT

  pub record TakesForward (k : ℕ) (w w' : Worker) (s s' : Shared B) : Type 0 where
    pub r : Record
    pub request : slice_get s.requests.items k ≡ Some r
    pub r' : Record
    pub forwards : ForwardsRequest k r r' w w'
    pub requests : s'.requests.items ≡ slice_set s.requests.items k r'
    pub kept : s' ≡ record s { requests = s'.requests }

  pub record TakesForwardTimer (z : ℕ) (w w' : Worker) (s s' : Shared B) : Type 0 where
    pub it : SleeperRecord
    pub sleeper : slice_get s.sleepers.items z ≡ Some it
    pub it' : SleeperRecord
    pub forwards : ForwardsTimer z it it' w w'
    pub sleepers : s'.sleepers.items ≡ slice_set s.sleepers.items z it'
    pub kept : s' ≡ record s { sleepers = s'.sleepers }

  -- a message can take effect
  abbrev pub MayTake : MailMessage → Worker → Shared B → Type 0
  MayTake Root w s = w.root < length s.tasks.items
  MayTake (ForwardRequest k) w s = (k < length s.requests.items) × ((r : Record) → slice_get s.requests.items k ≡ Some r → MayForward r w)
  MayTake (ForwardTimer z) w s = (z < length s.sleepers.items) × ((it : SleeperRecord) → slice_get s.sleepers.items z ≡ Some it → MayForwardTimer it w)
  MayTake (CancelRequest k) w s = MayLetGo k w s
  MayTake (CancelTimer z) w s = MayRemove z w s

  abbrev pub Takes : MailMessage → Worker → Worker → Shared B → Shared B → Type 0
  Takes Root w w' s s' = WakesOwnRoot w w' s s'
  Takes (ForwardRequest k) w w' s s' = TakesForward k w w' s s'
  Takes (ForwardTimer z) w w' s s' = TakesForwardTimer z w w' s s'
  Takes (CancelRequest k) w w' s s' = LetsGo k w w' s s'
  Takes (CancelTimer z) w w' s s' = RemovesSleeper z w w' s s'

  -- the first message of the batch does, after so many in this turn
  pub record Applies (applied : ℕ) (w w' : Worker) (s s' : Shared B) (e : Event) : Type 0 where
    pub mail : Message Subject Subject
    pub first : slice_get w.batch.values 0 ≡ Some mail
    pub event : e ≡ Apply (message_of mail)
    pub batch : Reserved (Message Subject Subject)
    pub left : batch ≡ record w.batch { values = drop 1 w.batch.values }
    pub takes : Takes (message_of mail) (record w { batch = batch }) (record w' { place = w.place }) s s'
    pub place : w'.place ≡ after_message (applied + 1) (map message_of batch.values)

  -- CALLBACKS

  pub record WakesWaiter (t : ℕ) (next : AfterCallbacks) (w w' : Worker) (s s' : Shared B) (e : Event) : Type 0 where
    pub event : e ≡ Wake t
    pub worker : OfSlot t s (λ slot. w' ≡ (if is_idle slot.cell.phase then queued_after t (runnable_of slot.cell) next w else record w { place = next_callback_of next w }))
    pub task : TurnsSlot t s s' woken_slot

  -- the first of the wakes that are left, which what its task waits for pays
  pub record MayWakeNext (w : Worker) (s : Shared B) : Type 0 where
    pub some : 0 < length w.home.deferred.notes.wakes.items
    pub there : (n : TaskNo) → slice_get w.home.deferred.notes.wakes.items 0 ≡ Some n → n.0 < length s.tasks.items
    pub unpaid : (n : TaskNo) → slice_get w.home.deferred.notes.wakes.items 0 ≡ Some n → OfSlot n.0 s (λ slot. IsUnpaid slot.waiting s.requests.items s.sleepers.items)

  pub record WakesNext (next : AfterCallbacks) (w w' : Worker) (s s' : Shared B) (e : Event) : Type 0 where
    pub n : TaskNo
    pub first : slice_get w.home.deferred.notes.wakes.items 0 ≡ Some n
    pub slot : TaskSlot B
    pub there : slice_get s.tasks.items n.0 ≡ Some slot
    pub paid : Shared B
    pub requests : paid.requests.items ≡ records_paid slot.waiting s.requests.items
    pub sleepers : paid.sleepers.items ≡ sleepers_paid slot.waiting s.sleepers.items
    pub kept : paid ≡ record s { requests = paid.requests; sleepers = paid.sleepers }
    pub v : Worker
    pub wakes : v.home.deferred.notes.wakes.items ≡ drop 1 w.home.deferred.notes.wakes.items
    pub room : KeepsRoom w.home.deferred v.home.deferred
    pub wide : deque_capacity v.home.deferred.notes.wakes ≡ deque_capacity w.home.deferred.notes.wakes
    pub worker : v ≡ record w { home = record w.home { deferred = record w.home.deferred { notes = record w.home.deferred.notes { wakes = v.home.deferred.notes.wakes } } } }
    pub wakes_it : WakesWaiter n.0 next v w' paid s' e

  -- the task to which an end was sent, which that pays
  pub record WakesHearer (t : ℕ) (of : Heard) (next : AfterCallbacks) (w w' : Worker) (s s' : Shared B) (e : Event) : Type 0 where
    pub paid : Shared B
    pub requests : paid.requests.items ≡ records_paid (thing_heard of) s.requests.items
    pub sleepers : paid.sleepers.items ≡ sleepers_paid (thing_heard of) s.sleepers.items
    pub kept : paid ≡ record s { requests = paid.requests; sleepers = paid.sleepers }
    pub wakes_it : WakesWaiter t next w w' paid s' e

  -- the first of the ends of sleepers is sent
  pub record MaySendEnd (w : Worker) (s : Shared B) : Type 0 where
    pub z : ℕ
    pub sender : Reply
    pub first : (c : ForwardedResult Reply) → slice_get w.home.deferred.notes.completions.items 0 ≡ Some c → c.sender ≡ sender
    pub of : sender.of ≡ Heard.Timer z
    pub some : 0 < length w.home.deferred.notes.completions.items
    pub there : sender.task.0 < length s.tasks.items
    pub known : z < length s.sleepers.items

  pub record SendsEnd (t z : ℕ) (next : AfterCallbacks) (w w' : Worker) (s s' : Shared B) (e : Event) : Type 0 where
    pub event : e ≡ Turn
    pub it : SleeperRecord
    pub sleeper : slice_get s.sleepers.items z ≡ Some it
    pub sleepers : s'.sleepers.items ≡ slice_set s.sleepers.items z (sleeper_sent it)
    pub kept : s' ≡ record s { sleepers = s'.sleepers }
    pub completions : w'.home.deferred.notes.completions.items ≡ drop 1 w.home.deferred.notes.completions.items
    pub room : KeepsRoom w.home.deferred w'.home.deferred
    pub wide : deque_capacity w'.home.deferred.notes.completions ≡ deque_capacity w.home.deferred.notes.completions
    pub place : OfSlot t s (λ slot. w'.place ≡ after_sending_of (not (is_complete slot.cell.phase)) t (Heard.Timer z) next w')
    pub worker : w' ≡ record w { place = w'.place; home = record w.home { deferred = record w.home.deferred { notes = record w.home.deferred.notes { completions = w'.home.deferred.notes.completions } } } }

  -- the first of the outputs is
  pub record MaySendOutput (w : Worker) (s : Shared B) : Type 0 where
    pub k : ℕ
    pub sender : Reply
    pub first : (a : Answer Reply) → slice_get w.home.deferred.results.items 0 ≡ Some a → a.sender ≡ sender
    pub of : sender.of ≡ Heard.Request k
    pub some : 0 < length w.home.deferred.results.items
    pub there : sender.task.0 < length s.tasks.items
    pub known : k < length s.requests.items

  pub record SendsOutput (t k : ℕ) (next : AfterCallbacks) (w w' : Worker) (s s' : Shared B) (e : Event) : Type 0 where
    pub event : e ≡ Turn
    pub r : Record
    pub request : slice_get s.requests.items k ≡ Some r
    pub requests : s'.requests.items ≡ slice_set s.requests.items k (as_sent r)
    pub slot : TaskSlot B
    pub there : slice_get s.tasks.items t ≡ Some slot
    pub answer : Answer Reply
    pub first : slice_get w.home.deferred.results.items 0 ≡ Some answer
    pub tasks : s'.tasks.items ≡ slice_set s.tasks.items t (record slot { output = sent slot.output answer.result })
    pub kept : s' ≡ record s { tasks = s'.tasks; requests = s'.requests }
    pub results : w'.home.deferred.results.items ≡ drop 1 w.home.deferred.results.items
    pub room : KeepsRoom w.home.deferred w'.home.deferred
    pub wide : deque_capacity w'.home.deferred.results ≡ deque_capacity w.home.deferred.results
    pub place : w'.place ≡ after_sending_of (not (is_complete slot.cell.phase)) t (Heard.Request k) next w'
    pub worker : w' ≡ record w { place = w'.place; home = record w.home { deferred = record w.home.deferred { results = w'.home.deferred.results } } }

  -- by the reply that goes with it
  abbrev pub IsSentEnd : AfterCallbacks → Worker → Worker → Shared B → Shared B → Event → Type 0
  IsSentEnd next w w' s s' e =
      (c : ForwardedResult Reply) → slice_get w.home.deferred.notes.completions.items 0 ≡ Some c
      → SendsEnd c.sender.task.0 (number_heard c.sender.of) next w w' s s' e

  abbrev pub IsSentOutput : AfterCallbacks → Worker → Worker → Shared B → Shared B → Event → Type 0
  IsSentOutput next w w' s s' e =
      (a : Answer Reply) → slice_get w.home.deferred.results.items 0 ≡ Some a
      → SendsOutput a.sender.task.0 (number_heard a.sender.of) next w w' s s' e
