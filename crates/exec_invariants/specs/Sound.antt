-- What holds of a worker and of what it shares, between two steps.
--
-- Each fact is over the parts that it speaks of, so what changes another part keeps it.
use Rattle.std.specs.Prelude.{◌≡◌, ◌≢◌, ◌+◌, ◌*◌, ◌^◌, ◌<◌, ◌≤◌, ◌==◌, ◌⊎◌, if◌then◌else◌}
use Rattle.exec_invariants.specs.{Words.{ℕ, Bool, true, false, not, nat_lt, Contains, List, [], length, slice_get, Option, Some, None, is_some, IsSome, IfSome, option_to_list, Slab, value_at, live_count, Id, is_spent, lowest_of, Queue, room_of, tail_of, Reserved, Head, Message, WaitTarget, Sleeping, is_held_at, pending_count, is_untold, Deferred, Entry, runnable_of, is_polled, Runnable, Phase, Configuration, Waiting, ring_size, is_empty, is_resolved, is_unsent, shard_count, from_of, polls_at, AfterCallbacks, AfterSend, AfterSignal, InGlobal, InKick, InPop, InPush, AfterWait, InLook, InRingWait, InScan, Scan, InClosing, InMail, InPick, InPoll, InService, Place, IsTold, Held, Letters, Reply, Subject, Record, Chair, Shared, SleeperRecord, TaskSlot, Worker, Moments, Role, IsMailbox, driver_of, letters_in, IsPhased, closes_at, closing_in, is_complete, stage_of, MayBegin, is_pool, owns_runner}, Carried.Carried, Places.{begins_at, calls_back_at, hands_on_at, has_loot_at, is_armed_at, polled_in, searches_at, step_of_poll, is_pooled_at, task_at}, Gates.{AreLinedUp, IsKnown}, Due.IsDue, Flown.HasFlown, Holding.Mail, HoldPlaces.{cancels_at, heard_at, is_bare_at, sends_cancel_at, spare_at}, Rooted.{HearsNext, IsRooted}, Whole.IsGenuine, Names.{tellers, HasWidth, IsNamed}}
pub use Rattle.exec_invariants.specs.HoldPlaces.{has_wakes_at}

-- the ranges of a configuration that sums rest on
pub record IsConfig (c : Configuration) : Type 0 where
  pub interval : 0 < c.interval
  pub some_tick : 0 < c.tick
  pub tick : c.tick < 2 ^ 60
  pub rw : c.rw < 2 ^ 60
  pub connect : c.connect < 2 ^ 60
  pub workers : 0 < c.workers
  pub few : c.workers ≤ 64
  -- those that a worker needs to begin
  pub begins : MayBegin c

-- the moments in their order: the start, the two that were sampled last, the clock; and the sleep, which has begun
pub record IsInTime (m : Moments) (slept : Option ℕ) (clock : ℕ) : Type 0 where
  pub begun : m.start ≤ m.before
  pub ordered : m.before ≤ m.sampled
  pub not_after : m.sampled ≤ clock
  pub read : m.read ≤ clock
  pub asleep : IfSome slept (λ moment. moment ≤ clock)
  pub bounded : clock ≤ 2 ^ 62

-- RUNNABLES: that of root t of worker i is in its flag or in its hand exactly where it is queued

abbrev pub one_of : Option Runnable → Option Runnable → Option Runnable
one_of None other = other
one_of (Some r) other = Some r

-- what is in the hand, where the root is polled next
abbrev pub root_in_hand : Option ℕ → ℕ → Option Runnable → Option Runnable
root_in_hand None root hand = None
root_in_hand (Some t) root hand = if t == root then hand else None

module _ {B : Type 0} where
  abbrev pub IsRunnable : Option Runnable → TaskSlot B → Type 0
  IsRunnable None t = (b : B) → t.cell.phase ≢ Phase.Queued b
  IsRunnable (Some r) t = (r ≡ runnable_of t.cell) × ((b : B) × (t.cell.phase ≡ Phase.Queued b))

  pub record HasRunnable (i t : ℕ) (flag hand : Option Runnable) (tasks : List (TaskSlot B)) : Type 0 where
    pub root : TaskSlot B
    pub there : slice_get tasks t ≡ Some root
    pub home : root.home ≡ Some i
    pub number : root.cell.number ≡ record { 0 = t }
    pub once : IsRunnable (one_of flag hand) root
    pub one : IsSome flag → hand ≡ None

  -- The roots of so many workers of the pool come first. Any other task is an ordinary one, or the root of a dedicated worker
  -- among so many of all, each of which has one. The numbers are of 32 bits.
  pub record AreHome (workers count : ℕ) (tasks : List (TaskSlot B)) : Type 0 where
    pub many : workers ≤ count
    pub roots : workers ≤ length tasks
    pub few : length tasks ≤ 2 ^ 32
    pub home : (t : ℕ) (slot : TaskSlot B) → slice_get tasks t ≡ Some slot → t < workers → slot.home ≡ Some t
    pub dedicated : (t j : ℕ) (slot : TaskSlot B) → slice_get tasks t ≡ Some slot → workers ≤ t → slot.home ≡ Some j → (workers ≤ j) × (j < count)
    pub once : (t u j : ℕ) (slot other : TaskSlot B) → slice_get tasks t ≡ Some slot → slice_get tasks u ≡ Some other → slot.home ≡ Some j → other.home ≡ Some j → t ≡ u
    pub number : (t : ℕ) (slot : TaskSlot B) → slice_get tasks t ≡ Some slot → slot.cell.number ≡ record { 0 = t }

-- THE SEAT, among those of so many workers of the pool and of the dedicated ones. Its wake word has a wait bit only within a
-- wait.
pub record IsSeated (i : ℕ) (armed : Bool) (workers : ℕ) (seats : List Chair) : Type 0 where
  pub many : workers ≤ length seats
  pub seat : Chair
  pub there : slice_get seats i ≡ Some seat
  pub pool : seat.pool ≡ nat_lt i workers
  pub unarmed : armed ≡ false → seat.mailbox.waker.target ≡ WaitTarget.None
  pub mail : IsMailbox seat.mailbox

-- THE OWN RUN QUEUE, of which a place knows what it has loaded, and what it keeps aside in an overflow

abbrev pub HasQueue : Place → Queue Runnable → Type 0
HasQueue (Place.Pick (InPick.TakeShare first room held)) q = (q.held ≡ []) × (room ≤ room_of q)
HasQueue (Place.Pop (InPop.ExchangePop h) b) q = (q.held ≡ []) × (h.real < tail_of q)
HasQueue (Place.Pop InPop.StorePop b) q = (q.held ≡ []) × (length q.values ≡ 1) × (q.gap ≡ 0)
HasQueue (Place.Push (InPush.StoreValue n) b) q = (q.held ≡ []) × (0 < room_of q)
HasQueue (Place.Push (InPush.FlowOver h) b) q = (q.held ≡ []) × (h.real + 256 ≡ tail_of q) × (is_spent (tail_of q) ≡ false) × (h.gap ≡ 0)
HasQueue (Place.Push InPush.StoreOldest b) q = q.values ≡ []
HasQueue (Place.Scan InScan.LoadScanHead) q = q.held ≡ []
HasQueue (Place.Scan x) q = (q.held ≡ []) × (128 ≤ room_of q)
HasQueue _ q = q.held ≡ []

-- THE HANDS

abbrev pub IsInHand : Option ℕ → Bool → Option Runnable → Type 0
IsInHand (Some t) b hand = (r : Runnable) × (hand ≡ Some r) × (r.task.0 ≡ t)
IsInHand None true hand = IsSome hand
IsInHand None false hand = hand ≡ None

-- what is on its way from one queue to another, at most half of a run queue, with a place for one more
pub record IsLoot (some : Bool) (loot : Reserved Runnable) : Type 0 where
  pub places : 129 ≤ loot.places
  pub few : length loot.values ≤ 128
  pub none : some ≡ false → loot.values ≡ []

-- where a message is applied there is one; and where mail is taken none is left of the last batch
abbrev pub HasBatch : Place → List Mail → Type 0
HasBatch (Place.Mail (InMail.Apply applied taken)) batch = 0 < length batch
HasBatch (Place.Mail InMail.LoadMailWord) batch = batch ≡ []
HasBatch (Place.Mail InMail.TakeMail) batch = batch ≡ []
HasBatch (Place.Closing InClosing.Orphan) batch = batch ≡ []
HasBatch (Place.Closing InClosing.CloseSleeper) batch = batch ≡ []
HasBatch p batch = is_bare_at p ≡ true → batch ≡ []

-- the messages of a batch are about what worker j has
abbrev pub IsMineIn : ℕ → ℕ → Subject → List Record → List SleeperRecord → Type 0
IsMineIn workers j (Subject.Request k) records sleepers = (r : Record) × (slice_get records k ≡ Some r) × (r.shown.worker ≡ j) × (j < workers)
IsMineIn workers j (Subject.Timer n) records sleepers = (z : SleeperRecord) × (slice_get sleepers n ≡ Some z) × (z.shown.worker ≡ j) × (j < workers)

abbrev pub IsMyMail : ℕ → ℕ → Mail → List Record → List SleeperRecord → Type 0
IsMyMail workers j Message.WakeRoot records sleepers = Unit {0}
IsMyMail workers j (Message.Forward s) records sleepers = IsMineIn workers j s records sleepers
IsMyMail workers j (Message.Cancel s) records sleepers = IsMineIn workers j s records sleepers

-- LETTERS are about what other workers of the pool have; there are some where one is sent, and none but there and in its signal.
abbrev pub IsLetter : ℕ → ℕ → Subject → ℕ → List Record → List SleeperRecord → Type 0
IsLetter workers i s j records sleepers = IsMineIn workers j s records sleepers × (j ≢ i)

pub record HasLetters (sends cancels : Bool) (i workers : ℕ) (l : Letters) (records : List Record) (sleepers : List SleeperRecord) : Type 0 where
  pub some : sends ≡ true → is_empty (letters_in l) ≡ false
  pub none : cancels ≡ false → letters_in l ≡ []
  pub requests : (h : Held) → Contains l.requests.items h → IsLetter workers i (Subject.Request h.number) h.worker records sleepers
  pub timer : (h : Held) → l.timer ≡ Some h → IsLetter workers i (Subject.Timer h.number) h.worker records sleepers

-- WHAT A CLOSING LETS GO: a request that somebody holds; then a sleeper; and then nobody sleeps there.
abbrev pub LetsGo : Option InClosing → Bool → Slab (Entry Reply Reply) → Slab (Sleeping Reply) → Type 0
LetsGo (Some InClosing.Orphan) bare requests zs = (id : Id) × (is_held_at (value_at requests id) ≡ true)
LetsGo (Some InClosing.CloseSleeper) bare requests zs = ((id : Id) → is_held_at (value_at requests id) ≡ false) × (0 < live_count zs)
LetsGo x bare requests zs = bare ≡ true → live_count zs ≡ 0

abbrev pub LetsGoAt : Place → Slab (Entry Reply Reply) → Slab (Sleeping Reply) → Type 0
LetsGoAt p requests zs = LetsGo (closing_in p) (is_bare_at p) requests zs

-- whether it holds a search count, where a place says so
abbrev pub IsSearching : Option Bool → Bool → Type 0
IsSearching None searching = Unit {0}
IsSearching (Some b) searching = searching ≡ b

-- THE ROLE: the first workers are those of the pool, and worker zero runs the runner's own root. A dedicated worker polls its
-- root alone.

pub record IsRole (role : Role) (i workers : ℕ) : Type 0 where
  pub owns : owns_runner role ≡ (i == 0)
  pub pool : is_pool role ≡ nat_lt i workers
  -- its number is one of a key at a gate
  pub few : i < 2 ^ 32

abbrev pub Serves : Option ℕ → ℕ → Role → Type 0
Serves None root role = Unit {0}
Serves (Some t) root role = t ≢ root → is_pool role ≡ true

-- OTHER WORKERS that a place names, and other numbers: one that is scanned or looked at isn't the own, and what was loaded of its queue fits;
-- in a set that was loaded for a claim somebody is

pub record MayClaim (i : ℕ) (from : ℕ) (h : Head) (tail : ℕ) (seats : List Chair) : Type 0 where
  pub other : from ≢ i
  pub unclaimed : h.gap ≡ 0
  pub some : h.real + 2 ≤ tail
  pub most : tail ≤ h.real + 256
  pub behind : (chair : Chair) → slice_get seats from ≡ Some chair → tail ≤ tail_of chair.queue

-- a scan of so many workers isn't over
abbrev pub IsScanning : Configuration → Scan → Type 0
IsScanning c x = (x.start < c.workers) × (x.passed < c.workers)

-- the stop is told to those behind the own number
abbrev pub TellsPast : ℕ → AfterSignal → Type 0
TellsPast i (AfterSignal.Send (AfterSend.Tell j)) = i < j
TellsPast i _ = Unit {0}

-- a wait ends with the next turn, or with the service
abbrev pub GoesBack : AfterWait → Type 0
GoesBack AfterWait.Begin = Unit {0}
GoesBack AfterWait.Serve = Unit {0}
GoesBack _ = ⊥

abbrev pub Aims : Place → Configuration → ℕ → List Chair → Type 0
Aims (Place.Scan (InScan.LoadTheirHead x)) c i seats = (from_of c x ≢ i) × IsScanning c x
Aims (Place.Scan (InScan.LoadTheirTail x h)) c i seats = (from_of c x ≢ i) × IsScanning c x × (h.gap ≡ 0)
Aims (Place.Scan (InScan.ClaimHalf x h tail)) c i seats = MayClaim i (from_of c x) h tail seats × IsScanning c x
Aims (Place.Scan (InScan.MoveHalf from h)) c i seats = (from ≢ i) × (from < c.workers)
Aims (Place.Scan (InScan.ReleaseHalf from h)) c i seats = (from ≢ i) × (from < c.workers)
Aims (Place.Look (InLook.LookAtHead j)) c i seats = (j ≢ i) × (j < c.workers)
Aims (Place.Look (InLook.LookAtTail j h)) c i seats = (j ≢ i) × (j < c.workers)
Aims (Place.Signal x j b) c i seats = (j < length seats) × TellsPast i b
Aims (Place.Kick (InKick.ExchangeKickCount set) b) c i seats = IsSome (lowest_of set.has)
Aims (Place.Global (InGlobal.AddGlobalCount set) b) c i seats = IsSome (lowest_of set.has)
Aims (Place.RingWait (InRingWait.DisarmRing n) x) c i seats = GoesBack n
Aims (Place.ClaimWorker set b) c i seats = IsSome (lowest_of set.has)
Aims (Place.Mail (InMail.Apply applied taken)) c i seats = applied < 64
Aims (Place.Service (InService.Signal j b) v) c i seats = j < length seats
Aims (Place.Service (InService.Raise ring j b) v) c i seats = j < length seats
Aims (Place.Closing InClosing.CloseQueue) c i seats = i ≡ 0
Aims (Place.Closing InClosing.OpenBarrier) c i seats = i ≡ 0
Aims (Place.Closing InClosing.Stop) c i seats = i ≡ 0
Aims (Place.Closing (InClosing.TellRoot j)) c i seats = (i < j) × (j < c.workers)
Aims _ c i seats = Unit {0}

-- where a callback is about to be made, something is left for it
abbrev pub IsLeft : Option AfterCallbacks → Deferred Reply Reply → Type 0
IsLeft None left = Unit {0}
IsLeft (Some n) left = is_untold left ≡ false

-- REQUESTS OF WORKER i THAT ARE OVER and not released, each once; so many others aren't over
pub record AreOver (i : ℕ) (ended : List ℕ) (unreleased others : ℕ) (records : List Record) : Type 0 where
  pub over : (k n : ℕ) → slice_get ended k ≡ Some n → (r : Record) × (slice_get records n ≡ Some r) × (r.shown.worker ≡ i) × ((is_resolved r.shown.phase ≡ true) × (r.shown.released ≡ false))
  pub once : (k l n : ℕ) → slice_get ended k ≡ Some n → slice_get ended l ≡ Some n → k ≡ l
  pub counted : length ended + others ≡ unreleased

-- THE ROOT'S SLOT: outside a poll nobody has its body; in a poll its worker has it

-- where the service is, once it has sampled
abbrev pub served_in : Place → Option InService
served_in (Place.Service InService.Sample v) = None
served_in (Place.Service x v) = Some x
served_in _ = None

-- it acts next, without a look
abbrev pub acts_next : Waiting → Bool
acts_next Waiting.Nothing = true
acts_next Waiting.Yielded = true
acts_next _ = false

-- and so is told something, unless it is over
abbrev pub is_told : Waiting → Bool → Bool
is_told Waiting.Nothing over = not over
is_told Waiting.Yielded over = not over
is_told _ over = false

abbrev pub may_resume : Waiting → Bool
may_resume Waiting.Nothing = false
may_resume Waiting.Wake = false
may_resume Waiting.Yielded = false
may_resume _ = true

abbrev pub may_end : Waiting → Bool
may_end Waiting.Nothing = false
may_end Waiting.Woken = false
may_end _ = true

-- what the task waits for there
abbrev pub WaitsAt : Option InPoll → Waiting → Type 0
WaitsAt None w = Unit {0}
WaitsAt (Some InPoll.Resume) w = may_resume w ≡ true
WaitsAt (Some InPoll.Pend) w = may_end w ≡ true
WaitsAt (Some x) w = w ≡ Waiting.Nothing

module _ {B : Type 0} where
  pub record Stands (x : Option InPoll) (i : ℕ) (slot : TaskSlot B) : Type 0 where
    pub polled : is_polled slot.cell.phase ≡ is_some x
    pub body : IsSome x → IsSome slot.body
    pub poller : IsSome x → slot.poller ≡ i
    pub kept : slot.cell.cancelled ≡ false
    pub uncleared : slot.cleared ≡ false
    pub told : is_told slot.waiting (is_complete slot.cell.phase) ≡ true → IsSome slot.told
    pub untold : acts_next slot.waiting ≡ false → slot.told ≡ None
    pub waits : WaitsAt x slot.waiting

  pub record IsTied (x : Option InPoll) (i t : ℕ) (tasks : List (TaskSlot B)) : Type 0 where
    pub stands : (slot : TaskSlot B) → slice_get tasks t ≡ Some slot → Stands x i slot

-- WHERE A POLL ENDS what the task waits for was forwarded, or is the worker's own and hasn't come

abbrev pub MayStop : ℕ → Waiting → List Record → List SleeperRecord → Type 0
MayStop i (Waiting.Request k) records sleepers =
    (r : Record) × (slice_get records k ≡ Some r) × ((is_unsent r.shown.forwarding ≡ false) ⊎ ((r.shown.worker ≡ i) × (is_resolved r.shown.phase ≡ false)))
MayStop i (Waiting.Timer n) records sleepers =
    (z : SleeperRecord) × (slice_get sleepers n ≡ Some z) × ((is_unsent z.shown.forwarding ≡ false) ⊎ ((z.shown.worker ≡ i) × (z.shown.fired ≡ false) × (z.shown.removed ≡ false)))
MayStop i _ records sleepers = Unit {0}

abbrev pub StopsIn : InPoll → ℕ → Waiting → List Record → List SleeperRecord → Type 0
StopsIn InPoll.Pend i w records sleepers = MayStop i w records sleepers
StopsIn _ i w records sleepers = Unit {0}

abbrev pub Stops : {B : Type 0} → Option ℕ → InPoll → ℕ → List (TaskSlot B) → List Record → List SleeperRecord → Type 0
Stops None x i tasks records sleepers = Unit {0}
Stops {B} (Some t) x i tasks records sleepers = (slot : TaskSlot B) → slice_get tasks t ≡ Some slot → StopsIn x i slot.waiting records sleepers

-- THE ORDINARY TASK THAT A WORKER POLLS: it has the body.

module _ {B : Type 0} where
  pub record IsGuest (x : InPoll) (i : ℕ) (slot : TaskSlot B) : Type 0 where
    pub ordinary : slot.home ≡ None
    pub polled : is_polled slot.cell.phase ≡ true
    pub body : IsSome slot.body
    pub poller : slot.poller ≡ i
    pub cancelled : slot.cell.cancelled ≡ slot.cleared
    pub told : is_told slot.waiting false ≡ true → IsSome slot.told
    pub untold : acts_next slot.waiting ≡ false → slot.told ≡ None
    pub there : WaitsAt (Some x) slot.waiting

  -- what holds of the task that is polled, where it isn't the root
  abbrev pub HasGuest : Option ℕ → InPoll → ℕ → ℕ → List (TaskSlot B) → Type 0
  HasGuest None x i root tasks = Unit {0}
  HasGuest (Some t) x i root tasks = t ≢ root → (slot : TaskSlot B) × (slice_get tasks t ≡ Some slot) × IsGuest x i slot

  -- an ordinary task that isn't polled: it can be told what comes of what it waits for; one that was cleared is over
  pub record IsResting (slot : TaskSlot B) : Type 0 where
    pub uncleared : is_complete slot.cell.phase ≡ false → (slot.cell.cancelled ≡ false) × (slot.cleared ≡ false)
    pub told : is_told slot.waiting (is_complete slot.cell.phase) ≡ true → IsSome slot.told
    pub untold : acts_next slot.waiting ≡ false → slot.told ≡ None

  abbrev pub AreResting : List (TaskSlot B) → Type 0
  AreResting tasks = (t : ℕ) (slot : TaskSlot B) → slice_get tasks t ≡ Some slot → slot.home ≡ None → is_polled slot.cell.phase ≡ false → IsResting slot

  -- a runnable in the hand is the root's where that is polled next, and else one of an ordinary task
  abbrev pub IsHeld : Option ℕ → ℕ → List (TaskSlot B) → Runnable → Type 0
  IsHeld begins root tasks r = (begins ≡ Some root) ⊎ IsGenuine tasks r

  pub record SoundAt (p : Place) (w : Worker) (s : Shared B) : Type 0 where
    pub here : w.place ≡ p
    pub config : IsConfig s.config
    pub gates : AreLinedUp s.opens s.requests.items
    pub known : IsKnown w.index w.names.requests.items (driver_of w).requests s.opens s.requests.items
    pub workers : w.workers ≡ s.config.workers
    pub role : IsRole w.role w.index s.config.workers
    pub pooled : is_pooled_at p ≡ true → is_pool w.role ≡ true
    pub serves : Serves (task_at p) w.root w.role
    pub calm : is_pool w.role ≡ false → w.searching ≡ false
    pub homes : AreHome s.config.workers (length s.seats.items) s.tasks.items
    pub shards : length s.set.shards ≡ shard_count s.config
    pub time : IsInTime w.moments w.slept s.clock
    pub told : IsTold w.names.ended.items w.home.deferred (tellers (driver_of w).requests w.home.timers + spare_at p)
    pub wide : HasWidth w.home.deferred (tellers (driver_of w).requests w.home.timers + 64)
    pub named : IsNamed w.index w.names (driver_of w) w.home.timers s.requests.items s.sleepers.items
    pub runnable : HasRunnable w.index w.root w.root_ready (root_in_hand (begins_at p) w.root w.hand) s.tasks.items
    pub seated : IsSeated w.index (is_armed_at p) s.config.workers s.seats.items
    pub queue : (chair : Chair) → slice_get s.seats.items w.index ≡ Some chair → HasQueue p chair.queue
    pub sized : (driver_of w).ring.size ≡ ring_size s.config
    pub processed : w.processed < 2 ^ 29
    pub hand : IsInHand (begins_at p) (hands_on_at p) w.hand
    pub loot : IsLoot (has_loot_at p) w.loot
    pub genuine : (r : Runnable) → Contains (option_to_list w.hand) r → IsHeld (begins_at p) w.root s.tasks.items r
    pub stolen : (r : Runnable) → Contains w.loot.values r → IsGenuine s.tasks.items r
    pub searching : IsSearching (searches_at p) w.searching
    pub aims : Aims p s.config w.index s.seats.items
    pub guest : HasGuest (polls_at p) (step_of_poll p) w.index w.root s.tasks.items
    pub resting : AreResting s.tasks.items
    pub left : IsLeft (calls_back_at p) w.home.deferred
    pub over : AreOver w.index w.names.ended.items w.names.unreleased (pending_count (driver_of w).requests) s.requests.items
    pub batch : HasBatch p w.batch.values
    pub mine : (m : Mail) → Contains w.batch.values m → IsMyMail s.config.workers w.index m s.requests.items s.sleepers.items
    pub batch_place : (chair : Chair) → slice_get s.seats.items w.index ≡ Some chair → chair.mailbox.inbox.closed ≡ false → 2 * chair.made + 1 ≤ w.batch.places
    pub letters : HasLetters (sends_cancel_at p) (cancels_at p) w.index s.config.workers w.letters s.requests.items s.sleepers.items
    pub quiet : has_wakes_at p ≡ false → w.home.deferred.notes.wakes.items ≡ []
    pub due : IsDue (served_in p) w.home.closing w.index w.moments s.config w.names (driver_of w) w.home.timers s.requests.items s.sleepers.items
    pub flown : HasFlown (served_in p) w.index w.names (driver_of w) s.requests.items
    pub carried : Carried w s
    pub rooted : IsRooted w.index w.names (driver_of w) w.home.timers w.home.deferred s.requests.items s.sleepers.items
    pub stops : Stops (polls_at p) (step_of_poll p) w.index s.tasks.items s.requests.items s.sleepers.items
    pub hears : HearsNext (heard_at p) w.index s.requests.items s.sleepers.items
    pub lets_go : LetsGoAt p (driver_of w).requests w.home.timers
    pub phased : (chair : Chair) → slice_get s.seats.items w.index ≡ Some chair → IsPhased w.index (closes_at p) (closing_in p) w.home.closing w.root w.names.unreleased (stage_of chair s) s.tasks.items
    pub tied : IsTied (polled_in w.root p) w.index w.root s.tasks.items

  abbrev pub Sound : Worker → Shared B → Type 0
  Sound w s = SoundAt w.place w s
