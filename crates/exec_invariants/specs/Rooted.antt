-- WHAT A WORKER KEEPS of what was made on it: outputs for who takes them, who waits for what, and ends to be sent elsewhere.
use Rattle.std.specs.Prelude.{◌≡◌, ◌+◌, ◌==◌, ◌&&◌, ◌||◌, ◌≤◌}
use Rattle.exec_invariants.specs.{Words.{ℕ, Bool, true, false, not, Contains, List, count_by, Option, Some, None, IsSome, slice_get, Slab, value_at, Id, RequestOutput, ForwardedResult, Watching, Sleeping, Watching as sleep, waiter_at, Answer, Deferred, Observer, Local, Forwarded, DetachedSync, Orphaned, Ready, Waiter, Driving, Forwarding, Resolved, is_applied, is_resolved, Heard, Reply, Names, Record, SleeperRecord, number_in}, Holding.{IsAnswerOf, outcome_told, thing_of}, HoldPlaces.Hearing, Places.one_if}
pub use Rattle.exec_invariants.specs.Holding.{outcome_told}

-- Who waits for a request is a task of its worker, or nobody; or one elsewhere, just where that was told to its worker.
abbrev pub IsNear : Observer Reply Reply → Forwarding → Type 0
IsNear (Local waker) f = is_applied f ≡ false
IsNear (Forwarded reply) f = is_applied f ≡ true
IsNear (DetachedSync reply) f = ⊥
IsNear Orphaned f = Unit {0}

-- the request of an output that is kept is over so, and held, and no end of it goes elsewhere
pub record IsKept (told : RequestOutput) (r : Record) : Type 0 where
  pub over : r.shown.phase ≡ Resolved (outcome_told told)
  pub observed : r.shown.observed ≡ true
  pub unapplied : is_applied r.shown.forwarding ≡ false

-- it stands at its driver under this number
pub record StandsAt (k : ℕ) (n : Names) (d : Driving Reply Reply) (r : Record) : Type 0 where
  pub named : number_in n.requests.items r.id.0 ≡ k
  pub live : IsSome (value_at d.requests r.id.0)

-- what a result is sent by names the request, and the task that waits for it
pub record IsReplyFor (k : ℕ) (reply : Reply) (r : Record) : Type 0 where
  pub of : reply.of ≡ Heard.Request k
  pub task : r.shown.waiter ≡ Some reply.task.0

-- a sleeper wakes its task, or has its end sent to that
abbrev pub Watches : ℕ → Watching Reply → SleeperRecord → Type 0
Watches n (sleep.Local t) z = (t ≡ record { 0 = z.shown.task }) × (is_applied z.shown.forwarding ≡ false)
Watches n (sleep.Forwarded reply) z =
    (reply ≡ record { task = record { 0 = z.shown.task }; of = Heard.Timer n }) × (is_applied z.shown.forwarding ≡ true)

-- WAKES: one that is held, or asleep, pays none before its end; and as long as its end doesn't go elsewhere it pays one at most

pub record Pays (r : Record) : Type 0 where
  pub unpaid : is_resolved r.shown.phase ≡ false → r.shown.observed ≡ true → r.shown.wakes_paid ≡ 0
  pub once : is_applied r.shown.forwarding ≡ false → r.shown.wakes_paid ≤ 1

pub record SleeperPays (z : SleeperRecord) : Type 0 where
  pub unpaid : z.shown.fired ≡ false → (z.shown.removed || z.closed) ≡ false → z.shown.wakes_paid ≡ 0
  pub once : is_applied z.shown.forwarding ≡ false → z.shown.wakes_paid ≤ 1

-- ENDS that go elsewhere: each is to be sent, or was, once, just where it has come or nobody holds the thing any more

abbrev pub is_of_request : ℕ → Heard → Bool
is_of_request k (Heard.Request j) = j == k
is_of_request k (Heard.Timer n) = false

abbrev pub is_of_timer : ℕ → Heard → Bool
is_of_timer n (Heard.Timer m) = m == n
is_of_timer n (Heard.Request k) = false

abbrev pub results_of : ℕ → Deferred Reply Reply → ℕ
results_of k left = count_by (λ a. is_of_request k a.sender.of) left.results.items

abbrev pub completions_of : ℕ → Deferred Reply Reply → ℕ
completions_of n left = count_by (λ c. is_of_timer n c.sender.of) left.notes.completions.items

abbrev pub goes_elsewhere : Record → Bool
goes_elsewhere r = is_applied r.shown.forwarding && (is_resolved r.shown.phase || not r.shown.observed)

abbrev pub ends_elsewhere : SleeperRecord → Bool
ends_elsewhere z = is_applied z.shown.forwarding && (z.shown.fired || (z.shown.removed || z.closed))

-- one that is to be sent is of a request of worker i that was forwarded and has paid one wake at most
pub record IsResult (i : ℕ) (a : Answer Reply) (records : List Record) : Type 0 where
  pub k : ℕ
  pub r : Record
  pub there : slice_get records k ≡ Some r
  pub worker : r.shown.worker ≡ i
  pub reply : IsReplyFor k a.sender r
  pub answer : IsAnswerOf a.result (thing_of r)
  pub paid : r.shown.wakes_paid ≤ 1

pub record IsCompletion (i : ℕ) (c : ForwardedResult Reply) (sleepers : List SleeperRecord) : Type 0 where
  pub n : ℕ
  pub z : SleeperRecord
  pub there : slice_get sleepers n ≡ Some z
  pub worker : z.shown.worker ≡ i
  pub reply : c.sender ≡ record { task = record { 0 = z.shown.task }; of = Heard.Timer n }
  pub paid : z.shown.wakes_paid ≤ 1

-- the task that is woken next was sent the end of this
abbrev pub HasHeard : ℕ → ℕ → Heard → List Record → List SleeperRecord → Type 0
HasHeard i t (Heard.Request k) records sleepers =
    (r : Record) × (slice_get records k ≡ Some r) × (r.shown.worker ≡ i) × (r.shown.waiter ≡ Some t) × (goes_elsewhere r ≡ true) × (r.shown.wakes_paid ≤ 1) × (r.sent ≡ true)
HasHeard i t (Heard.Timer n) records sleepers =
    (z : SleeperRecord) × (slice_get sleepers n ≡ Some z) × (z.shown.worker ≡ i) × (z.shown.task ≡ t) × (ends_elsewhere z ≡ true) × (z.shown.wakes_paid ≤ 1) × (z.sent ≡ true)

abbrev pub HearsNext : Option Hearing → ℕ → List Record → List SleeperRecord → Type 0
HearsNext None i records sleepers = Unit {0}
HearsNext (Some h) i records sleepers = HasHeard i h.task h.of records sleepers

pub record IsRooted (i : ℕ) (n : Names) (d : Driving Reply Reply) (zs : Slab (Sleeping Reply)) (left : Deferred Reply Reply) (records : List Record) (sleepers : List SleeperRecord) : Type 0 where
  pub kept : (id : Id) (told : RequestOutput) (r : Record) → value_at d.requests id ≡ Some (Ready told) → slice_get records (number_in n.requests.items id) ≡ Some r → IsKept told r
  pub ready : (k : ℕ) (r : Record) → slice_get records k ≡ Some r → r.shown.worker ≡ i → is_resolved r.shown.phase ≡ true → r.shown.observed ≡ true → is_applied r.shown.forwarding ≡ false → StandsAt k n d r
  pub replies : (id : Id) (it : Waiter Reply Reply) (reply : Reply) (r : Record) → waiter_at d.requests id ≡ Some it → it.observer ≡ Forwarded reply → slice_get records (number_in n.requests.items id) ≡ Some r → IsReplyFor (number_in n.requests.items id) reply r
  pub watches : (id : Id) (it : Sleeping Reply) (z : SleeperRecord) → value_at zs id ≡ Some it → slice_get sleepers (number_in n.timers.items id) ≡ Some z → Watches (number_in n.timers.items id) it.observer z
  pub pays : (k : ℕ) (r : Record) → slice_get records k ≡ Some r → r.shown.worker ≡ i → Pays r
  pub sleeper_pays : (k : ℕ) (z : SleeperRecord) → slice_get sleepers k ≡ Some z → z.shown.worker ≡ i → SleeperPays z
  pub results : (a : Answer Reply) → Contains left.results.items a → IsResult i a records
  pub completions : (c : ForwardedResult Reply) → Contains left.notes.completions.items c → IsCompletion i c sleepers
  pub sent : (k : ℕ) (r : Record) → slice_get records k ≡ Some r → r.shown.worker ≡ i → results_of k left + one_if r.sent ≡ one_if (goes_elsewhere r)
  pub sleeper_sent : (k : ℕ) (z : SleeperRecord) → slice_get sleepers k ≡ Some z → z.shown.worker ≡ i → completions_of k left + one_if z.sent ≡ one_if (ends_elsewhere z)
