-- WHAT THE LAW TAKES FOR GRANTED of each state, beside what holds by the moves: of whoever's parts say the same.
use Rattle.std.specs.Prelude.{◌≡◌, ℕ, suc, ◌<◌, Bool, true, false, ◌&&◌, List, [], ◌∷◌, length, slice_get, Option, Some, None, if◌then◌else◌}
use Rattle.exec_outcomes.specs.Accounts.{is_durable}
use Rattle.exec_machine.specs.{declared.{config.Configuration.Configuration, state.{Request.Request, Waiting.{Waiting, Waiting as waiting}}}, Tests.{is_closing, is_done, is_gated, is_open, is_resolved}, World.{Common, own_of, open_of, request_of, seat_of, sleeper_of, task_of}}
use Rattle.exec_moves.specs.{declared.{idling.{AfterWait.AfterWait, InRingWait.InRingWait}, place.{InPoll.InPoll, InService.InService, Place.Place}}, Plays.{Playing, desk_of}, Seen.{next_at, polls_at}, Slots.{is_in_slots, numbers_in}, State.gate_of, Told.has_number}
use Rattle.exec_books.specs.Booked.{FirstIsOwn}
use Rattle.exec_rest.specs.{AtRest.stays_closing, Places.is_abed, Rested.place_at}

-- GATES: those who stand at a gate, without a holder of the permit that is over and hasn't left

abbrev pub gives_up : Request → Bool
gives_up r = is_resolved r.phase && is_durable r.operation.kind

abbrev pub in_line : Common → List ℕ → List ℕ
in_line s [] = []
in_line s (k ∷ later) = if gives_up (request_of s k) then later else k ∷ later

-- the worker passes the permit of this open on next
abbrev pub passes_at : Place → Option ℕ
passes_at (Place.Service (InService.PassPermit file b) v) = Some file
passes_at _ = None

-- a wait on the ring that ends with a scan: none does
abbrev pub ends_in_search : Place → Bool
ends_in_search (Place.RingWait (InRingWait.DisarmRing AfterWait.Search) y) = true
ends_in_search _ = false

-- task t, which isn't over, waits for this
pub record WaitsFor (s : Common) (t : ℕ) (what : Waiting) : Type 0 where
  pub going : is_done (task_of s t).phase ≡ false
  pub waits : (task_of s t).waiting ≡ what

-- a request that is waited for: it says who waits, somebody holds it, and its worker takes mail
pub record IsWaitedFor (s : Common) (t k : ℕ) : Type 0 where
  pub there : k < length s.requests
  pub waiter : (request_of s k).waiter ≡ Some t
  pub observed : (request_of s k).observed ≡ true
  pub takes_mail : (seat_of s (request_of s k).worker).mailbox_closed ≡ false

-- a sleeper that is waited for
pub record IsSleptBy (s : Common) (t z : ℕ) : Type 0 where
  pub there : z < length s.sleepers
  pub task : (sleeper_of s z).task ≡ t
  pub kept : (sleeper_of s z).removed ≡ false
  pub takes_mail : (seat_of s (sleeper_of s z).worker).mailbox_closed ≡ false

-- Nobody waits in vain: what a task waits for is there, says so, and is held, and its worker takes the messages about it.
pub record NobodyWaitsInVain (s : Common) : Type 0 where
  pub requests : (t k : ℕ) → WaitsFor s t (waiting.Request k) → IsWaitedFor s t k
  pub sleepers : (t z : ℕ) → WaitsFor s t (waiting.Timer z) → IsSleptBy s t z

module _ (c : Configuration) (x : Playing) where
  abbrev s : Common
  s = x.world.common

  pub record IsGiven : Type 0 where
    pub owns : length x.world.workers ≡ length s.seats
    pub gates : length x.things.gates ≡ length s.opens
    -- the machine has of each worker what its place says
    pub polls : (i : ℕ) → (own_of x.world i).polls ≡ polls_at (place_at c x i)
    pub nexts : (i : ℕ) → (own_of x.world i).next ≡ next_at (place_at c x i)
    -- what the message is about that a worker applies next is its own
    pub first : (i : ℕ) → FirstIsOwn s i
    -- at a gate stand durable requests of its open; all but the first wait for the permit
    pub at_gate : (file n k : ℕ) → slice_get (gate_of x.things file) n ≡ Some k → (k < length s.requests) × (is_durable (request_of s k).operation.kind ≡ true) × ((request_of s k).operation.target ≡ file)
    pub behind : (file n k : ℕ) → slice_get (gate_of x.things file) (suc n) ≡ Some k → is_gated (request_of s k).phase ≡ true
    -- who joins a gate does so with a request of its own that waits for the permit
    pub joins : (i t k : ℕ) → place_at c x i ≡ Place.Poll t (InPoll.JoinGate k) → ((request_of s k).worker ≡ i) × (is_gated (request_of s k).phase ≡ true)
    -- the holder of a permit is the first of those who stand in line
    pub holder : (file : ℕ) → (open_of s file).holder ≡ slice_get (in_line s (gate_of x.things file)) 0
    -- who passes a permit on has it, by a request of its own that is over
    pub passes : (i file : ℕ) → passes_at (place_at c x i) ≡ Some file → (k : ℕ) × (slice_get (gate_of x.things file) 0 ≡ Some k) × ((request_of s k).worker ≡ i) × (gives_up (request_of s k) ≡ true)
    -- what waits for a permit is a durable request of an open that is there
    pub gated : (k : ℕ) → is_gated (request_of s k).phase ≡ true → (is_durable (request_of s k).operation.kind ≡ true) × ((request_of s k).operation.target < length s.opens)
    pub waits : NobodyWaitsInVain s
    -- a request that isn't over stands in a slot of its worker, and a sleeper that stands in one hasn't fired
    pub slots : (k : ℕ) → is_resolved (request_of s k).phase ≡ false → has_number k (numbers_in (desk_of c x (request_of s k).worker).requests.held) ≡ true
    pub beds : (i z : ℕ) → is_in_slots z (desk_of c x i).timers ≡ true → (sleeper_of s z).fired ≡ false
    -- a wait on the ring ends with a turn or a service
    pub back : (i : ℕ) → ends_in_search (place_at c x i) ≡ false
    -- a worker of the pool waits as one that closes only past the shutdown barrier
    pub past : (i : ℕ) → stays_closing (place_at c x i) ≡ true → (seat_of s i).pool ≡ true → (seat_of s i).left ≡ true
    -- who is closing waits as one that closes, and who is open has a root that isn't over
    pub closing : (i : ℕ) → is_closing (seat_of s i).phase ≡ true → is_abed (place_at c x i) ≡ true → stays_closing (place_at c x i) ≡ true
    pub roots : (i : ℕ) → is_open (seat_of s i).phase ≡ true → is_abed (place_at c x i) ≡ true → is_done (task_of s (own_of x.world i).root).phase ≡ false
