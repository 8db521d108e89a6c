-- WHAT A STEP LEAVES OF ANOTHER WORKER: what it alone touches, and of what is shared all that it relies on.
use Rattle.std.specs.Prelude.{◌≡◌, ◌<◌, ◌≤◌, ◌⊎◌}
use Rattle.exec_invariants.specs.{Words.{ℕ, Bool, true, false, List, [], length, slice_get, Some, HasStretch, Queue, claimed, released, tail_of, is_polled, shard_at, Runnable, Unsent, SentOn as Sent, Applied, is_resolved, is_unsent, IsMailbox, Record, Chair, Shared, SleeperRecord, TaskSlot}, Carried.HasRoom, Gates.{AreLinedUp, has_hint_at}, Whole.IsGenuine}

-- a thief has claimed values of a run queue that had two at least, or released its claim; or nobody touched it
abbrev pub Thins : Queue Runnable → Queue Runnable → Type 0
Thins q q' =
    (q' ≡ q)
    ⊎ (((n : ℕ) × (2 ≤ length q.values) × (n < length q.values) × (q.gap ≡ 0) × (q' ≡ claimed q n))
    ⊎ ((0 < q.gap) × (q' ≡ released q)))

-- of its seat others change the latch and the batch of its wake word, the messages of its inbox, how it rests, how many
-- wakes wait for its ring, and what thieves take
pub record SparesChair (chair chair' : Chair) : Type 0 where
  pub phase : chair'.phase ≡ chair.phase
  pub pool : chair'.pool ≡ chair.pool
  pub left : chair'.left ≡ chair.left
  pub closed : chair'.mailbox.inbox.closed ≡ chair.mailbox.inbox.closed
  pub target : chair'.mailbox.waker.target ≡ chair.mailbox.waker.target
  pub mail : IsMailbox chair.mailbox → IsMailbox chair'.mailbox
  pub made : chair'.made ≡ chair.made
  pub queue : Thins chair.queue chair'.queue

-- Of a request that it has others change who waits for it, where nobody does; that this was told to it; and, once its end was
-- sent, that nobody holds it any more.
pub record SparesRecord (r r' : Record) : Type 0 where
  pub kept : r' ≡ record r { shown = record r.shown { waiter = r'.shown.waiter; forwarding = r'.shown.forwarding; observed = r'.shown.observed } }
  pub waiter : (t : ℕ) → r.shown.waiter ≡ Some t → r'.shown.waiter ≡ Some t
  pub forwarding : (r'.shown.forwarding ≡ r.shown.forwarding) ⊎ ((r.shown.forwarding ≡ Unsent) × (r'.shown.forwarding ≡ Sent))
  pub observed : (r'.shown.observed ≡ r.shown.observed) ⊎ ((r.shown.forwarding ≡ Applied) × (is_resolved r.shown.phase ≡ true) × (r'.shown.observed ≡ false))

-- of a sleeper that it was told that its task waits elsewhere
pub record SparesSleeper (z z' : SleeperRecord) : Type 0 where
  pub kept : z' ≡ record z { shown = record z.shown { forwarding = z'.shown.forwarding } }
  pub forwarding : (z'.shown.forwarding ≡ z.shown.forwarding) ⊎ ((z.shown.forwarding ≡ Unsent) × (z'.shown.forwarding ≡ Sent))

-- Of any request or sleeper its worker stays, and that a task waits for it elsewhere.
pub record Endures (r r' : Record) : Type 0 where
  pub worker : r'.shown.worker ≡ r.shown.worker
  pub forwarded : is_unsent r.shown.forwarding ≡ false → is_unsent r'.shown.forwarding ≡ false

pub record SleeperEndures (z z' : SleeperRecord) : Type 0 where
  pub worker : z'.shown.worker ≡ z.shown.worker
  pub forwarded : is_unsent z.shown.forwarding ≡ false → is_unsent z'.shown.forwarding ≡ false

abbrev pub RecordsEndure : List Record → List Record → Type 0
RecordsEndure rs rs' = (k : ℕ) (r : Record) → slice_get rs k ≡ Some r → (r' : Record) × (slice_get rs' k ≡ Some r') × Endures r r'

abbrev pub SleepersEndure : List SleeperRecord → List SleeperRecord → Type 0
SleepersEndure zs zs' = (k : ℕ) (z : SleeperRecord) → slice_get zs k ≡ Some z → (z' : SleeperRecord) × (slice_get zs' k ≡ Some z') × SleeperEndures z z'

-- of what stands there, and of what stood there
abbrev pub SparesRecords : ℕ → List Record → List Record → Type 0
SparesRecords j rs rs' = (k : ℕ) (r : Record) → slice_get rs k ≡ Some r → r.shown.worker ≡ j → (r' : Record) × (slice_get rs' k ≡ Some r') × SparesRecord r r'

abbrev pub SparedRecords : ℕ → List Record → List Record → Type 0
SparedRecords j rs rs' = (k : ℕ) (r' : Record) → slice_get rs' k ≡ Some r' → r'.shown.worker ≡ j → (r : Record) × (slice_get rs k ≡ Some r) × SparesRecord r r'

abbrev pub SparesSleepers : ℕ → List SleeperRecord → List SleeperRecord → Type 0
SparesSleepers j zs zs' = (k : ℕ) (z : SleeperRecord) → slice_get zs k ≡ Some z → z.shown.worker ≡ j → (z' : SleeperRecord) × (slice_get zs' k ≡ Some z') × SparesSleeper z z'

abbrev pub SparedSleepers : ℕ → List SleeperRecord → List SleeperRecord → Type 0
SparedSleepers j zs zs' = (k : ℕ) (z' : SleeperRecord) → slice_get zs' k ≡ Some z' → z'.shown.worker ≡ j → (z : SleeperRecord) × (slice_get zs k ≡ Some z) × SparesSleeper z z'

-- there are as many workers then, or maybe more
abbrev pub AsMany : Bool → ℕ → ℕ → Type 0
AsMany false n m = m ≡ n
AsMany true n m = n ≤ m

module _ {B : Type 0} where
  -- a task that it polls may be sent an output, be woken, and cleared: both its cell and its slot say so
  pub record SparesPolled (slot slot' : TaskSlot B) : Type 0 where
    pub polled : is_polled slot'.cell.phase ≡ true
    pub number : slot'.cell.number ≡ slot.cell.number
    pub cancelled : slot.cell.cancelled ≡ slot.cleared → slot'.cell.cancelled ≡ slot'.cleared
    pub kept : slot' ≡ record slot { cell = slot'.cell; cleared = slot'.cleared; fresh = slot'.fresh; output = slot'.output }

  pub record SparesBy (more : Bool) (j : ℕ) (s s' : Shared B) : Type 0 where
    pub config : s'.config ≡ s.config
    pub clock : s'.clock ≡ s.clock
    pub gates : AreLinedUp s.opens s.requests.items → AreLinedUp s'.opens s'.requests.items
    pub hints : (file : ℕ) → has_hint_at s.opens file ≡ false → has_hint_at s'.opens file ≡ false
    pub many : AsMany more (length s.seats.items) (length s'.seats.items)
    pub chair : (chair : Chair) → slice_get s.seats.items j ≡ Some chair → (chair' : Chair) × (slice_get s'.seats.items j ≡ Some chair') × SparesChair chair chair'
    pub tails : (k : ℕ) (chair chair' : Chair) → slice_get s.seats.items k ≡ Some chair → slice_get s'.seats.items k ≡ Some chair' → tail_of chair.queue ≤ tail_of chair'.queue
    pub records : SparesRecords j s.requests.items s'.requests.items
    pub records_only : SparedRecords j s.requests.items s'.requests.items
    pub sleepers : SparesSleepers j s.sleepers.items s'.sleepers.items
    pub sleepers_only : SparedSleepers j s.sleepers.items s'.sleepers.items
    pub endure : RecordsEndure s.requests.items s'.requests.items
    pub endure_too : SleepersEndure s.sleepers.items s'.sleepers.items
    pub root : (t : ℕ) (slot : TaskSlot B) → slice_get s.tasks.items t ≡ Some slot → slot.home ≡ Some j → slice_get s'.tasks.items t ≡ Some slot
    pub polled : (t : ℕ) (slot : TaskSlot B) → slice_get s.tasks.items t ≡ Some slot → is_polled slot.cell.phase ≡ true → slot.poller ≡ j → (slot' : TaskSlot B) × (slice_get s'.tasks.items t ≡ Some slot') × SparesPolled slot slot'
    pub room : HasRoom s.requests.items s.store → HasRoom s'.requests.items s'.store
    pub stretch : (file offset n : ℕ) → HasStretch s.store file offset n → HasStretch s'.store file offset n
    pub stopped : s.stopped ≡ true → s'.stopped ≡ true
    pub closed : s.set.closed ≡ true → s'.set.closed ≡ true
    pub by_zero : j ≡ 0 → (s'.stopped ≡ s.stopped) × (s'.set.closed ≡ s.set.closed)
    pub shards : length s'.set.shards ≡ length s.set.shards
    pub emptied : s.set.closed ≡ true → (k : ℕ) → shard_at s.set k ≡ [] → shard_at s'.set k ≡ []
    pub genuine : (r : Runnable) → IsGenuine s.tasks.items r → IsGenuine s'.tasks.items r

  -- a step that makes no worker, and any
  abbrev pub Spares : ℕ → Shared B → Shared B → Type 0
  Spares j s s' = SparesBy false j s s'

  abbrev pub SparesMore : ℕ → Shared B → Shared B → Type 0
  SparesMore j s s' = SparesBy true j s s'
