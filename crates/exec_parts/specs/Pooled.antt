-- What the steps of several workers make of what they share, and of the worker that takes them.
use Rattle.std.specs.Prelude.{◌≡◌, ◌⊎◌, ℕ, zero, suc, Bool, true, false, not, ◌+◌, ◌-◌, ◌^◌, ◌<◌, ◌≤◌, ◌&&◌, ◌==◌, ◌∷◌, ◌++◌, MatchBool, List, [], length, min, take, slice_get, is_some, Option, Some, None, if◌then◌else◌}
use Rattle.exec_parts.specs.{Words.{Driving, mailed, with_wake, is_dropped, opens_batch, spare_places, word_after, Queue, claimed, head_of, newest, overflowed, popped, released, tail_of, extended, asks_signal, Mailbox, cleared, is_idle, runnable_of, woken, IsFor, inserted, passed, shard_at, Set, TakesNewest, Said, said, Drain, AfterPoll, Runnable, cell, Error, TaskNo, shot, Configuration, Event, Turn, Rouse, Send, Spawn, Wake, MailMessage, Root, Rest, Waiting, is_awake, is_empty, AfterLeave, AfterPop, pop, AfterPush, push, AfterSend, send, First, after, pushes, callback, closing, poll, at, Exchanged, after_empty_look, after_empty_pop, judge_pop, after_visit, first_pop, after_posting}, declared.{claim.Claimed.Claimed, parts.{mail.{Reply.Reply, Subject.Subject}, seat.Seat.Seat as Chair, shared.Shared.Shared, task_slot.TaskSlot.TaskSlot, worker.Worker.Worker}}, Records.numbers_held, Phased.TurnsChair, Tests.{after_spawn_of, first_push_of, leave_of}, View.{body_in, desk_of, mail_of}, Things.TurnsSlot}

-- the chair of the worker of this number has this
abbrev pub OfChair : {B : Type 0} → ℕ → Shared B → (Chair → Type 0) → Type 0
OfChair j s fact = (chair : Chair) → slice_get s.seats.items j ≡ Some chair → fact chair

-- RUN QUEUES

abbrev pub is_discard : AfterPop → Bool
is_discard pop.Discard = true
is_discard _ = false

module _ {X : Type 0} where
  abbrev pub popped_if : Bool → Queue X → Queue X
  popped_if out q = if out then popped q else q

  abbrev pub popped_if_any : Queue X → Queue X
  popped_if_any q = popped_if (not (is_empty q.values)) q

  abbrev pub overflowed_if : Bool → Queue X → Queue X
  overflowed_if over q = if over then overflowed q else q

  abbrev pub claimed_if : Bool → ℕ → Queue X → Queue X
  claimed_if mine count q = if mine then claimed q count else q

  abbrev pub released_if : Bool → Queue X → Queue X
  released_if mine q = if mine then released q else q

  abbrev pub taken_if : Bool → ℕ → List X → List X
  taken_if mine count values = if mine then take count values else []

-- the worker polls the task of this runnable next
abbrev pub polling : Runnable → Worker → Worker
polling r w = record w { place = leave_of (AfterLeave.Poll r.task.0) w; hand = Some r }

-- it goes on with what came out of its queue: that is polled, or let go
abbrev pub with_popped : Configuration → AfterPop → Option Runnable → Worker → Worker
with_popped c b None w = record w { place = after_empty_pop c w.index b }
with_popped c (pop.Pick f) (Some r) w = polling r w
with_popped c pop.Discard (Some r) w = record w { place = first_pop c pop.Discard }

-- and by this head where that is found
abbrev pub with_judged : Configuration → AfterPop → Queue Runnable → Worker → Worker
with_judged c b q w = record w { place = judge_pop c w.index b (head_of q) (tail_of q - q.real) }

abbrev pub with_exchanged : Bool → Configuration → AfterPop → Queue Runnable → Worker → Worker
with_exchanged out c b q w = if out then with_popped c b (slice_get q.values 0) w else with_judged c b q w

-- with what came out of the global queue
abbrev pub with_share : Configuration → First → Option Runnable → Worker → Worker
with_share c f None w = record w { place = after_empty_look c f }
with_share c f (Some r) w = polling r w

-- and with its root flag
abbrev pub with_flag : Option Runnable → Worker → Worker
with_flag None w = record w { place = at.Callbacks callback.TakeBatch after.Look }
with_flag (Some r) w = record (polling r w) { root_ready = None }

-- a full queue flows over where its head was exchanged
abbrev pub with_overflow : Bool → AfterPush → Queue Runnable → Worker → Worker
with_overflow true b q w = record w { place = at.Push pushes.StoreOldest b; loot = extended w.loot (newest q) }
with_overflow false b q w = record w { place = at.Push pushes.LoadPushHead b }

-- CLAIMS

-- what comes of an exchange of the idle set
abbrev pub as_claimed : Exchanged → Claimed
as_claimed (Exchanged.Worker lowest) = Claimed.Worker lowest
as_claimed (Exchanged.Again found) = Claimed.Again found
as_claimed Exchanged.Nobody = Claimed.Nobody

-- WAITS AND MAIL OF ANOTHER

-- the latch is in its wake word
abbrev pub chair_latched : Chair → Chair
chair_latched chair = record chair { mailbox = record chair.mailbox { waker = record chair.mailbox.waker { latch = true } } }

-- its wait is ended: that of its ring by one more wake that is raised for it
abbrev pub chair_raised : Bool → Chair → Chair
chair_raised ring chair =
    record chair { rest = Rest.Awake; raised = (if ring then min (chair.raised + 1) (2 ^ 64 - 1) else chair.raised) }

abbrev pub event_rousing : ℕ → Rest → Event
event_rousing worker rest = if is_awake rest then Turn else Rouse worker

-- VISITS OF A DRAIN

-- a visit takes the newest task of the shard
pub record TakesTask (drain : Drain) (w w' : Worker) (set set' : Set (Unit {0})) : Type 0 where
  pub task : ℕ
  pub worker : w' ≡ record w { place = at.Closing (closing.Clear task drain) }
  pub takes : TakesNewest drain.at (record { 0 = record { 0 = task }; 1 = tt }) set set'
  pub its : IsFor drain set'

-- or finds none there, and passes it
pub record PassesShard (drain : Drain) (w w' : Worker) (set set' : Set (Unit {0})) : Type 0 where
  pub empty : shard_at set drain.at ≡ []
  pub worker : w' ≡ record w { place = at.Closing (after_visit (passed (length set.shards) drain)) }
  pub same : set' ≡ set
  pub its : IsFor (passed (length set.shards) drain) set

abbrev pub Visited : Drain → Worker → Worker → Set (Unit {0}) → Set (Unit {0}) → Type 0
Visited drain w w' set set' = TakesTask drain w w' set set' ⊎ PassesShard drain w w' set set'

-- A TASK THAT WAS MADE

-- what the task that asked for another is told
abbrev pub told_of_made : Option Runnable → Said
told_of_made None = said.Refused Error.Closed
told_of_made (Some r) = said.Spawned r.task

-- the worker of the task t goes on so
abbrev pub with_made : Configuration → ℕ → Option Runnable → Worker → Worker
with_made c t None w = record w { place = at.Poll t poll.Act }
with_made c t (Some r) w = record w { place = after_spawn_of c.workers t w; hand = Some r }

abbrev pub event_of_made : ℕ → Option Runnable → Event
event_of_made name None = Event.Closed
event_of_made name (Some r) = Spawn r.task.0 name

-- who was woken in its poll is to be polled again: the root is flagged, any other task goes into the own queue
abbrev pub queued_again : ℕ → AfterPoll → Worker → Worker
queued_again t (AfterPoll.Requeue r) w =
    if t == w.root then record w { root_ready = Some r } else record w { hand = Some r; place = at.Push pushes.LoadPushHead push.Pick }
queued_again t _ w = w

-- THE RING

-- so many wakes are raised in the ring
abbrev pub with_raises : ℕ → Driving Reply Reply → Driving Reply Reply
with_raises zero d = d
with_raises (suc more) d = with_raises more (record d { ring = with_wake d.ring })

-- ONE MESSAGE TO ANOTHER

-- there is a place for it, where it is to be put in
abbrev pub HasPlaceFor : MailMessage → Mailbox Subject Subject → Type 0
HasPlaceFor m box = box.inbox.closed ≡ false → is_dropped box.inbox (mail_of m) ≡ false → 0 < spare_places box.inbox

abbrev pub asks_if_sent : MailMessage → Mailbox Subject Subject → Bool
asks_if_sent m box = not box.inbox.closed && (opens_batch box.inbox (mail_of m) && asks_signal box.waker)

abbrev pub chair_sent : MailMessage → Chair → Chair
chair_sent m chair =
    let box = chair.mailbox in
    if box.inbox.closed then chair
    else record chair { mailbox = record box { inbox = mailed box.inbox (mail_of m); waker = word_after box.inbox (mail_of m) box.waker } }

abbrev pub event_sent : ℕ → MailMessage → Mailbox Subject Subject → Event
event_sent j m box = if box.inbox.closed then Event.Closed else Send j m

module _ {B : Type 0} where
  -- worker j is sent the message, and is signalled next where that is asked for
  pub record Sends (j : ℕ) (m : MailMessage) (b : AfterSend) (w w' : Worker) (s s' : Shared B) (e : Event) : Type 0 where
    pub chair : TurnsChair j (chair_sent m) s s'
    pub kept : s' ≡ record s { seats = s'.seats }
    pub event : OfChair j s (λ chair. e ≡ event_sent j m chair.mailbox)
    pub worker : OfChair j s (λ chair. w' ≡ record w { place = after_posting s.config j b (asks_if_sent m chair.mailbox) (desk_of w) })

  -- it can be sent
  pub record MaySend (j : ℕ) (m : MailMessage) (s : Shared B) : Type 0 where
    pub there : j < length s.seats.items
    pub place : OfChair j s (λ chair. HasPlaceFor m chair.mailbox)

  -- TASKS

  -- it is cleared: over where nobody polls it, and else once its poll ends. Its body stays where it stands.
  abbrev pub cleared_slot : TaskSlot B → TaskSlot B
  cleared_slot slot = record slot { cell = cleared slot.cell; cleared = true; body = body_in slot.cell.phase slot.body }

  -- a wake of it
  abbrev pub woken_slot : TaskSlot B → TaskSlot B
  woken_slot slot = record slot { fresh = false; cell = record slot.cell { phase = woken slot.cell.phase } }

  -- a new task of this body, of the task set with this number: nobody's root, queued for its first poll
  pub record IsNewTask (number : TaskNo) (owner : ℕ) (body : B) (slot : TaskSlot B) : Type 0 where
    pub cell : slot.cell ≡ record { number = number; owner = owner; phase = cell.Queued body; cancelled = false }
    pub held : numbers_held slot.held.items ≡ []
    pub output : slot.output ≡ shot.Open
    pub rest : slot ≡ record slot { body = None; told = Some said.Start; waiting = Waiting.Nothing; fresh = false; cleared = false; home = None }

  -- A task of this body was made, or the set is closed. A place in the global queue is kept for it.
  pub record MakesTask (body : B) (s s' : Shared B) (made : Option Runnable) : Type 0 where
    pub answer : is_some made ≡ not s.set.closed
    pub closed : s.set.closed ≡ true → s' ≡ s
    pub number : (r : Runnable) → made ≡ Some r → r.task.0 ≡ length s.tasks.items
    pub slot : (r : Runnable) → made ≡ Some r → (slot : TaskSlot B) × (s'.tasks.items ≡ s.tasks.items ++ slot ∷ []) × (r ≡ runnable_of slot.cell) × IsNewTask r.task s.set.id body slot
    pub set : (r : Runnable) → made ≡ Some r → s'.set ≡ inserted s.set r.task tt
    pub places : (r : Runnable) → made ≡ Some r → length s'.tasks.items ≤ s'.global.places
    pub few : (r : Runnable) → made ≡ Some r → length s'.tasks.items ≤ 2 ^ 32
    pub kept : s' ≡ record s { tasks = s'.tasks; set = s'.set; global = record s.global { places = s'.global.places } }

  -- lists may have other memory
  pub record SameButRoom (s s' : Shared B) : Type 0 where
    pub tasks : s'.tasks.items ≡ s.tasks.items
    pub kept : s' ≡ record s { tasks = s'.tasks; global = record s.global { places = s'.global.places } }

  -- the own root is woken, and flagged where it was idle
  pub record WakesOwnRoot (w w' : Worker) (s s' : Shared B) : Type 0 where
    pub flag : (slot : TaskSlot B) → slice_get s.tasks.items w.root ≡ Some slot → w'.root_ready ≡ (if is_idle slot.cell.phase then Some (runnable_of slot.cell) else w.root_ready)
    pub worker : w' ≡ record w { root_ready = w'.root_ready }
    pub task : TurnsSlot w.root s s' woken_slot

  -- ACTS THAT CONCERN OTHER TASKS

  -- task t makes another of this body, which has this name
  pub record Spawns (t name : ℕ) (body : B) (w w' : Worker) (s s' : Shared B) (e : Event) : Type 0 where
    pub made : Option Runnable
    pub middle : Shared B
    pub makes : MakesTask body s middle made
    pub told : TurnsSlot t middle s' (λ slot. record slot { told = Some (told_of_made made) })
    pub worker : w' ≡ with_made s.config t made w
    pub event : e ≡ event_of_made name made

  -- there was no memory for it: task t is told so
  pub record SpawnsNone (t : ℕ) (w w' : Worker) (s s' : Shared B) : Type 0 where
    pub middle : Shared B
    pub room : SameButRoom s middle
    pub told : TurnsSlot t middle s' (λ slot. record slot { told = Some (said.Refused Error.NoMemory) })
    pub worker : w' ≡ w

  -- task t wakes the ordinary task u: an idle one is to be queued
  pub record WakesOrdinary (t u : ℕ) (w w' : Worker) (s s' : Shared B) : Type 0 where
    pub worker : (slot : TaskSlot B) → slice_get s.tasks.items u ≡ Some slot
        → w' ≡ (if is_idle slot.cell.phase then record w { place = first_push_of (push.Act t) w; hand = Some (runnable_of slot.cell) }
        else record w { place = at.Poll t poll.Act })
    pub task : TurnsSlot u s s' woken_slot

  -- its own root
  pub record WakesHere (t u : ℕ) (w w' : Worker) (s s' : Shared B) (e : Event) : Type 0 where
    pub event : e ≡ Wake u
    pub wakes : WakesOwnRoot w (record w' { place = w.place }) s s'
    pub place : w'.place ≡ at.Poll t poll.Act

  -- the root of another worker is woken by a message
  abbrev pub WakesBy : Option ℕ → ℕ → ℕ → Worker → Worker → Shared B → Shared B → Event → Type 0
  WakesBy None t u w w' s s' e = WakesOrdinary t u w w' s s' × (e ≡ Wake u)
  WakesBy (Some home) t u w w' s s' e = MatchBool (home == w.index) (WakesHere t u w w' s s' e) (Sends home Root (send.Act t) w w' s s' e)

  -- task t wakes task u, and is told that it goes on
  pub record WakesTask (t u : ℕ) (w w' : Worker) (s s' : Shared B) (e : Event) : Type 0 where
    pub middle : Shared B
    pub told : TurnsSlot t s middle (λ slot. record slot { told = Some said.Pass })
    pub wakes : (slot : TaskSlot B) → slice_get middle.tasks.items u ≡ Some slot → WakesBy slot.home t u w w' middle s' e
